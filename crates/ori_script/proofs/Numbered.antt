-- The sessions and their numbers.
use Rattle.std.proofs.Common.{◌≡◌, ℕ, zero, suc, ◌+◌, ◌-◌, ◌<◌, ◌≤◌, List, [], ◌∷◌, ◌++◌, length, map, get_or}
use Rattle.std.proofs.Common.{replicate, Option, refl, sym, ap, ◌∙◌, subst, arith, below_more}
use Rattle.std.specs.Prelude.{set}
use Rattle.std.proofs.lemmas.List.{length-set, length-map, length-append, map-append, map-set, get_or_append_left}
use Rattle.std.proofs.lemmas.List.{get_or_at, replicate-append-replicate}
use Rattle.ori_bytes.specs.declared.causes.Causes.{Causes}
use Rattle.ori_bytes.specs.declared.limits.TheConstants.{MAX_SESSIONS}
use Rattle.ori_spec_data.specs.Keeping.{StateData}
use Rattle.ori_spec_data.specs.Views.{ViewData}
use Rattle.ori_spec_runs.specs.Answer.{SessionData, closed}
use Rattle.ori_model.specs.declared.reply.Reply.{Reply}
use Rattle.ori_session.specs.declared.session.Session.{Session}
use Rattle.ori_session.specs.Runs.{Executes}
use Rattle.ori_session.specs.Sessions.{data_of}
use Rattle.ori_script.specs.Numbers.{numbers_of, AreNumbered}
use Rattle.ori_script.specs.Keeping.{IsDone}

-- ---- at the beginning

-- sessions up to this number, with nothing open
pub record AreBegun (ss : List Session) (n : ℕ) : Type 0 where
  pub count : length ss ≡ n
  pub numbers : (i : ℕ) → i < n → get_or (numbers_of ss) i 0 ≡ i + 1
  pub nothing : map data_of ss ≡ replicate n closed

pub none_begun : AreBegun [] 0
none_begun = record { count = refl; numbers = λ i lt. absurd (omega (arith, lt)); nothing = refl }

pub begun_more : (ss : List Session) (n : ℕ) (s : Session) → AreBegun ss n → s.number ≡ n + 1 → data_of s ≡ closed
    → AreBegun (ss ++ s ∷ []) (n + 1)
begun_more ss n s h number none =
    let numbers : numbers_of (ss ++ s ∷ []) ≡ numbers_of ss ++ s.number ∷ [] =
    map-append (λ (x : Session). x.number) ss (s ∷ []) in
    let count : length (numbers_of ss) ≡ n = length-map ss (λ (x : Session). x.number) ∙ h.count in
    record {
      count = length-append ss (s ∷ []) ∙ ap (λ (m : ℕ). m + 1) h.count;
      numbers = below_more _ _
          (λ i lt. ap (λ (l : List ℕ). get_or l i 0) numbers
          ∙ get_or_append_left (numbers_of ss) (s.number ∷ []) 0 i (omega (arith, lt, count)) ∙ h.numbers i lt)
          (ap (λ (l : List ℕ). get_or l n 0) numbers ∙ get_or_at (numbers_of ss) s.number [] 0 n count ∙ number);
      nothing = map-append data_of ss (s ∷ []) ∙ ap (λ (s : SessionData). map data_of ss ++ s ∷ []) none
          ∙ ap (λ (l : List SessionData). l ++ closed ∷ []) h.nothing
          ∙ replicate-append-replicate n 1 closed;
    }

-- ---- one session of them

same_numbers : (ss : List Session) (i : ℕ) (x y : Session) → x ≡ get_or ss i x → y.number ≡ x.number
    → numbers_of (set ss i y) ≡ numbers_of ss
same_numbers [] i x y is h = refl
same_numbers (z ∷ ss) zero x y is h = ap (λ (n : ℕ). n ∷ numbers_of ss) (h ∙ ap (λ (s : Session). s.number) is)
same_numbers (z ∷ ss) (suc i) x y is h = ap (λ (ns : List ℕ). z.number ∷ ns) (same_numbers ss i x y is h)

pub still_numbered : (ss : List Session) (i : ℕ) (x y : Session) → AreNumbered ss → x ≡ get_or ss i x
    → y.number ≡ x.number → AreNumbered (set ss i y)
still_numbered ss i x y h is same =
    (length-set ss i y ∙ h.0, λ j lt. ap (λ (ns : List ℕ). get_or ns j 0) (same_numbers ss i x y is same) ∙ h.1 j lt)

number_at : (ss : List Session) (i : ℕ) (x : Session) → i < length ss → x ≡ get_or ss i x
    → x.number ≡ get_or (numbers_of ss) i 0
number_at [] i x lt is = absurd (omega (arith, lt))
number_at (z ∷ ss) zero x lt is = ap (λ (s : Session). s.number) is
number_at (z ∷ ss) (suc i) x lt is = number_at ss i x (omega (arith, lt)) is

kept_at : (ss : List Session) (i : ℕ) (x : Session) → i < length ss → x ≡ get_or ss i x
    → data_of x ≡ get_or (map data_of ss) i closed
kept_at [] i x lt is = absurd (omega (arith, lt))
kept_at (z ∷ ss) zero x lt is = ap data_of is
kept_at (z ∷ ss) (suc i) x lt is = kept_at ss i x (omega (arith, lt)) is

done_so : (ss : List Session) (session : ℕ) (x y : Session) (state_old state_new : StateData)
    (causes_old causes_new : Causes) (view : Option ViewData) (text : List ℕ) (reply : Reply)
    → AreNumbered ss → 1 ≤ session → session ≤ MAX_SESSIONS → x ≡ get_or ss (session - 1) x
    → Executes x.number state_old state_new causes_old causes_new view text (data_of x) reply (data_of y)
    → IsDone session state_old state_new causes_old causes_new view text (map data_of ss) reply
    (map data_of (set ss (session - 1) y))
done_so ss session x y state_old state_new causes_old causes_new view text reply h low high is executes =
    let place : session - 1 < MAX_SESSIONS = omega (arith, low, high) in
    let within : session - 1 < length ss = omega (arith, place, h.0) in
    let counted : get_or (numbers_of ss) (session - 1) 0 ≡ session - 1 + 1 = h.1 (session - 1) place in
    let back : session - 1 + 1 ≡ session = omega (arith, low) in
    let number : x.number ≡ session = number_at ss (session - 1) x within is ∙ counted ∙ back in
    let named = subst (λ (n : ℕ). Executes n state_old state_new causes_old causes_new view text (data_of x) reply
    (data_of y)) number executes in
    record {
      left = data_of y;
      executes = subst (λ (s : SessionData).
          Executes session state_old state_new causes_old causes_new view text s reply (data_of y))
          (kept_at ss (session - 1) x within is) named;
      sessions = map-set data_of ss (session - 1) y;
    }

-- the session at the place before its number did a statement
pub done_at : (ss : List Session) (session place : ℕ) (x y : Session) (state_old state_new : StateData)
    (causes_old causes_new : Causes) (view : Option ViewData) (text : List ℕ) (reply : Reply)
    → AreNumbered ss → 1 ≤ session → session ≤ MAX_SESSIONS → place ≡ session - 1 → x ≡ get_or ss place x
    → Executes x.number state_old state_new causes_old causes_new view text (data_of x) reply (data_of y)
    → IsDone session state_old state_new causes_old causes_new view text (map data_of ss) reply
    (map data_of (set ss place y))
done_at ss session place x y state_old state_new causes_old causes_new view text reply h low high here is executes =
    subst (λ (i : ℕ). IsDone session state_old state_new causes_old causes_new view text (map data_of ss) reply
    (map data_of (set ss i y))) (sym here)
    (done_so ss session x y state_old state_new causes_old causes_new view text reply h low high
    (subst (λ (i : ℕ). x ≡ get_or ss i x) here is) executes)

-- Outcomes in the order of their positions leave the same rows.
use Rattle.std.proofs.Common.{◌≡◌, ◌≢◌, inl, inr, ℕ, zero, suc, ◌+◌, ◌<◌, ◌≤◌, Bool, true, false, cond, ltb, List, []}
use Rattle.std.proofs.Common.{◌∷◌, ◌++◌, length, set, Option, refl, sym, ap, subst, ◌∙◌, arith, length-append}
use Rattle.std.proofs.Common.{length-set}
use Rattle.std.specs.List.{AllByRecursion}
use Rattle.std.proofs.lemmas.Bool.{le-ltb, lt-ltb, cases_lt}
use Rattle.ori_bytes.specs.declared.rid.Rid.{Rid}
use Rattle.ori_spec_data.specs.Base.{RecordData, ChangeData, create, update, delete, touch}
use Rattle.ori_spec_data.specs.Apply.{rid_at, HasOneEach, IsUntouched}
use Rattle.ori_rows.specs.Outcomes.{place_in, outcome, next_by, next_by_all, outcomes, put_row, put_rows, put_in}
use Rattle.ori_rows.specs.Outcomes.{put_all_in, RiseFrom}
use Rattle.ori_rows.proofs.Places.{some_within}
use Rattle.ori_rows.proofs.Made.{AreReady, places_apart, put_set, put_push}

abbrev pub Outcome : Type 0
Outcome = ℕ × Option RecordData

abbrev pub Rows : Type 0
Rows = List (Option RecordData)

-- ---- two positions, one after the other

set_set : (rows : Rows) (j k : ℕ) (o p : Option RecordData) → j ≢ k → set (set rows j o) k p ≡ set (set rows k p) j o
set_set [] j k o p other = refl
set_set (x ∷ rows) zero zero o p other = absurd (other refl)
set_set (x ∷ rows) zero (suc k) o p other = refl
set_set (x ∷ rows) (suc j) zero o p other = refl
set_set (x ∷ rows) (suc j) (suc k) o p other = ap (λ (l : Rows). x ∷ l) (set_set rows j k o p (λ e. other (ap suc e)))

set_front : (rows more : Rows) (k : ℕ) (o : Option RecordData) → k < length rows → set (rows ++ more) k o ≡ set rows k o
    ++ more
set_front [] more k o lt = absurd (omega arith)
set_front (x ∷ rows) more zero o lt = refl
set_front (x ∷ rows) more (suc k) o lt = ap (λ (l : Rows). x ∷ l) (set_front rows more k o (omega (arith, lt)))

swapped : (rows : Rows) (x y : Outcome) → x.0 < length rows → x.0 ≢ y.0
    → put_row (put_row rows x) y ≡ put_row (put_row rows y) x
swapped rows x y lt other =
    let first : put_row rows x ≡ set rows x.0 x.1 = put_set rows x.0 x.1 lt in
    let long : length (set rows x.0 x.1) ≡ length rows = length-set rows x.0 x.1 in
    elim (cases_lt y.0 (length rows)) [
      | inl below ↦
          let there : y.0 < length (set rows x.0 x.1) = omega (arith, below, long) in
          let here : x.0 < length (set rows y.0 y.1) = omega (arith, lt, length-set rows y.0 y.1) in
          ap (λ (l : Rows). put_row l y) first ∙ put_set (set rows x.0 x.1) y.0 y.1 there
          ∙ set_set rows x.0 y.0 x.1 y.1 other
          ∙ sym (ap (λ (l : Rows). put_row l x) (put_set rows y.0 y.1 below) ∙ put_set (set rows y.0 y.1) x.0 x.1 here)
      | inr above ↦
          let there : length (set rows x.0 x.1) ≤ y.0 = omega (arith, above, long) in
          let here : x.0 < length (rows ++ y.1 ∷ []) = omega (arith, lt, length-append rows (y.1 ∷ [])) in
          ap (λ (l : Rows). put_row l y) first ∙ put_push (set rows x.0 x.1) y.0 y.1 there
          ∙ sym (set_front rows (y.1 ∷ []) x.0 x.1 lt)
          ∙ sym (ap (λ (l : Rows). put_row l x) (put_push rows y.0 y.1 above) ∙ put_set (rows ++ y.1 ∷ []) x.0 x.1 here)
    ]

pub length_put : (rows : Rows) (x : Outcome) → length rows ≤ length (put_row rows x)
length_put rows x =
    elim (cases_lt x.0 (length rows)) [
      | inl below ↦ omega (arith, ap length (put_set rows x.0 x.1 below), length-set rows x.0 x.1)
      | inr above ↦ omega (arith, ap length (put_push rows x.0 x.1 above), length-append rows (x.1 ∷ []))
    ]

abbrev pub IsApart : Outcome → List Outcome → Type 0
IsApart x ys = AllByRecursion (λ (y : Outcome). x.0 ≢ y.0) ys

late : (rows : Rows) (x : Outcome) (ys : List Outcome) → x.0 < length rows → IsApart x ys
    → put_rows (put_row rows x) ys ≡ put_row (put_rows rows ys) x
late rows x [] lt other = refl
late rows x (y ∷ ys) lt other =
    ap (λ (l : Rows). put_rows l ys) (swapped rows x y lt other.0)
    ∙ late (put_row rows y) x ys (omega (arith, lt, length_put rows y)) other.1

-- of a position that is there
pub put_in_there : (rows : Rows) (x : Outcome) (ys : List Outcome) → x.0 < length rows → IsApart x ys
    → put_rows rows (put_in x ys) ≡ put_row (put_rows rows ys) x
put_in_there rows x [] lt other = refl
put_in_there rows x (y ∷ ys) lt other =
    by (ltb x.0 y.0) (put_in_there (put_row rows y) x ys (omega (arith, lt, length_put rows y)) other.1) where
      by : (b : Bool) → put_rows (put_row rows y) (put_in x ys) ≡ put_row (put_rows (put_row rows y) ys) x
          → put_rows rows (cond b (x ∷ y ∷ ys) (y ∷ put_in x ys)) ≡ put_row (put_rows rows (y ∷ ys)) x
      by true rest = late rows x (y ∷ ys) lt other
      by false rest = rest

abbrev pub AreBelow : ℕ → List Outcome → Type 0
AreBelow n ys = AllByRecursion (λ (y : Outcome). y.0 < n) ys

-- of a position behind all others
pub put_in_end : (x : Outcome) (ys : List Outcome) → AreBelow x.0 ys → put_in x ys ≡ ys ++ x ∷ []
put_in_end x [] below = refl
put_in_end x (y ∷ ys) below = rw (le-ltb x.0 y.0 (omega (arith, below.0)))
    (ap (λ (l : List Outcome). y ∷ l) (put_in_end x ys below.1))

pub put_rows_append : (rows : Rows) (xs ys : List Outcome) → put_rows rows (xs ++ ys) ≡ put_rows (put_rows rows xs) ys
put_rows_append rows [] ys = refl
put_rows_append rows (x ∷ xs) ys = put_rows_append (put_row rows x) xs ys

-- ---- what holds of each

pub all_put_in : (P : Outcome → Type 0) (x : Outcome) (ys : List Outcome) → P x → AllByRecursion P ys
    → AllByRecursion P (put_in x ys)
all_put_in P x [] h all = (h, tt)
all_put_in P x (y ∷ ys) h all = by (ltb x.0 y.0) (all_put_in P x ys h all.1) where
  by : (b : Bool) → AllByRecursion P (put_in x ys) → AllByRecursion P (cond b (x ∷ y ∷ ys) (y ∷ put_in x ys))
  by true rest = (h, all)
  by false rest = (all.0, rest)

pub all_with : (P Q : Outcome → Type 0) (ys : List Outcome) → ((y : Outcome) → P y → Q y) → AllByRecursion P ys
    → AllByRecursion Q ys
all_with P Q [] step all = tt
all_with P Q (y ∷ ys) step all = (step y all.0, all_with P Q ys step all.1)

pub length_put_in : (x : Outcome) (ys : List Outcome) → length (put_in x ys) ≡ suc (length ys)
length_put_in x [] = refl
length_put_in x (y ∷ ys) = by (ltb x.0 y.0) (length_put_in x ys) where
  by : (b : Bool) → length (put_in x ys) ≡ suc (length ys) → length (cond b (x ∷ y ∷ ys) (y ∷ put_in x ys)) ≡ suc
      (suc (length ys))
  by true rest = refl
  by false rest = ap suc rest

rise_more : (low high : ℕ) (ys : List Outcome) → high ≤ low → RiseFrom low ys → RiseFrom high ys
rise_more low high [] le h = tt
rise_more low high (y ∷ ys) le h = (omega (arith, le, h.0), h.1)

pub rise_put_in : (low : ℕ) (x : Outcome) (ys : List Outcome) → RiseFrom low ys → IsApart x ys → low ≤ x.0
    → RiseFrom low (put_in x ys)
rise_put_in low x [] rise other le = (le, tt)
rise_put_in low x (y ∷ ys) rise other le =
    elim (cases_lt x.0 y.0) [
      | inl below ↦ subst (λ (b : Bool). RiseFrom low (cond b (x ∷ y ∷ ys) (y ∷ put_in x ys)))
          (sym (lt-ltb x.0 y.0 below)) (le, (omega (arith, below), rise.1))
      | inr above ↦
          let apart : x.0 ≢ y.0 = other.0 in
          subst (λ (b : Bool). RiseFrom low (cond b (x ∷ y ∷ ys) (y ∷ put_in x ys))) (sym (le-ltb x.0 y.0 above))
          (rise.0, rise_put_in (y.0 + 1) x ys rise.1 other.1 (omega (arith, above, apart)))
    ]

-- each position is one that is there when it is put, or the next
abbrev pub DoFit : Rows → List Outcome → Type 0
DoFit rows [] = Unit {0}
DoFit rows (y ∷ ys) = (y.0 ≤ length rows) × DoFit (put_row rows y) ys

length_one : (rows others : Rows) (y : Outcome) → length rows ≡ length others
    → length (put_row rows y) ≡ length (put_row others y)
length_one rows others y same =
    elim (cases_lt y.0 (length rows)) [
      | inl below ↦
          let there : y.0 < length others = omega (arith, below, same) in
          ap length (put_set rows y.0 y.1 below) ∙ length-set rows y.0 y.1 ∙ same
          ∙ sym (ap length (put_set others y.0 y.1 there) ∙ length-set others y.0 y.1)
      | inr above ↦
          let there : length others ≤ y.0 = omega (arith, above, same) in
          ap length (put_push rows y.0 y.1 above) ∙ length-append rows (y.1 ∷ []) ∙ ap (λ (n : ℕ). n + 1) same
          ∙ sym (ap length (put_push others y.0 y.1 there) ∙ length-append others (y.1 ∷ []))
    ]

fit_long : (rows others : Rows) (ys : List Outcome) → length rows ≡ length others → DoFit rows ys → DoFit others ys
fit_long rows others [] same h = tt
fit_long rows others (y ∷ ys) same h =
    (omega (arith, same, h.0), fit_long (put_row rows y) (put_row others y) ys (length_one rows others y same) h.1)

fit_there : (rows : Rows) (x : Outcome) (ys : List Outcome) → x.0 < length rows → DoFit rows ys
    → DoFit rows (put_in x ys)
fit_there rows x [] lt h = (omega (arith, lt), tt)
fit_there rows x (y ∷ ys) lt h =
    by (ltb x.0 y.0) (fit_there (put_row rows y) x ys (omega (arith, lt, length_put rows y)) h.1) where
      same : length rows ≡ length (put_row rows x)
      same = sym (ap length (put_set rows x.0 x.1 lt) ∙ length-set rows x.0 x.1)

      by : (b : Bool) → DoFit (put_row rows y) (put_in x ys) → DoFit rows (cond b (x ∷ y ∷ ys) (y ∷ put_in x ys))
      by true rest = (omega (arith, lt), fit_long rows (put_row rows x) (y ∷ ys) same h)
      by false rest = (h.0, rest)

fit_end : (rows : Rows) (x : Outcome) (ys : List Outcome) → x.0 ≡ length (put_rows rows ys) → DoFit rows ys
    → DoFit rows (ys ++ x ∷ [])
fit_end rows x [] here h = (omega (arith, here), tt)
fit_end rows x (y ∷ ys) here h = (h.0, fit_end (put_row rows y) x ys here h.1)

-- ---- the outcomes of changes

-- no change but a creation is of this position
abbrev pub IsAway : List ChangeData → ℕ → Type 0
IsAway [] p = Unit {0}
IsAway (create temp class fields ∷ cs) p = IsAway cs p
IsAway (update rid version fields ∷ cs) p = (place_in rid ≢ p) × IsAway cs p
IsAway (delete rid version ∷ cs) p = (place_in rid ≢ p) × IsAway cs p
IsAway (touch rid version ∷ cs) p = (place_in rid ≢ p) × IsAway cs p

-- those so far, in the order of their positions
pub record AreLaid (rows : Rows) (n : ℕ) (cs : List ChangeData) (ys : List Outcome) : Type 0 where
  pub rise : RiseFrom 0 ys
  pub fit : DoFit rows ys
  pub long : length (put_rows rows ys) ≡ n
  pub away : AllByRecursion (λ (y : Outcome). (y.0 < n) × IsAway cs y.0) ys

-- a change of a record that is there
laid_there : (rows : Rows) (n : ℕ) (c : ChangeData) (cs : List ChangeData) (x : Outcome) (ys : List Outcome)
    → length rows ≤ n → x.0 < length rows
    → ((y : ℕ) → IsAway (c ∷ cs) y → (x.0 ≢ y) × IsAway cs y) → IsAway cs x.0 → AreLaid rows n (c ∷ cs) ys
    → AreLaid rows n cs (put_in x ys)
laid_there rows n c cs x ys past lt parts away h =
    let P = λ (y : Outcome). (y.0 < n) × IsAway (c ∷ cs) y.0 in
    let other : IsApart x ys = all_with P (λ (y : Outcome). x.0 ≢ y.0) ys (λ y g. (parts y.0 g.1).0) h.away in
    let there : x.0 < length (put_rows rows ys) = omega (arith, lt, past, h.long) in
    record {
      rise = rise_put_in 0 x ys h.rise other (omega arith);
      fit = fit_there rows x ys lt h.fit;
      long = ap length (put_in_there rows x ys lt other ∙ put_set (put_rows rows ys) x.0 x.1 there)
          ∙ length-set (put_rows rows ys) x.0 x.1 ∙ h.long;
      away = all_put_in (λ (y : Outcome). (y.0 < n) × IsAway cs y.0) x ys (omega (arith, lt, past), away)
          (all_with P (λ (y : Outcome). (y.0 < n) × IsAway cs y.0) ys (λ y g. (g.0, (parts y.0 g.1).1)) h.away);
    }

-- a new record
laid_new : (rows : Rows) (n : ℕ) (c : ChangeData) (cs : List ChangeData) (x : Outcome) (ys : List Outcome) → x.0 ≡ n
    → ((y : ℕ) → IsAway (c ∷ cs) y → IsAway cs y) → IsAway cs n
    → AreLaid rows n (c ∷ cs) ys → AreLaid rows (n + 1) cs (put_in x ys)
laid_new rows n c cs x ys here parts away h =
    let P = λ (y : Outcome). (y.0 < n) × IsAway (c ∷ cs) y.0 in
    let below : AreBelow x.0 ys = all_with P (λ (y : Outcome). y.0 < x.0) ys (λ y g. omega (arith, g.0, here)) h.away in
    let other : IsApart x ys = all_with P (λ (y : Outcome). x.0 ≢ y.0) ys (λ y g e. omega (arith, g.0, here, e)) h.away
    in
    let end : put_in x ys ≡ ys ++ x ∷ [] = put_in_end x ys below in
    let past : length (put_rows rows ys) ≤ x.0 = omega (arith, h.long, here) in
    record {
      rise = rise_put_in 0 x ys h.rise other (omega arith);
      fit = subst (λ (zs : List Outcome). DoFit rows zs) (sym end) (fit_end rows x ys (here ∙ sym h.long) h.fit);
      long = ap (λ (zs : List Outcome). length (put_rows rows zs)) end
          ∙ ap length (put_rows_append rows ys (x ∷ []) ∙ put_push (put_rows rows ys) x.0 x.1 past)
          ∙ length-append (put_rows rows ys) (x.1 ∷ []) ∙ ap (λ (m : ℕ). m + 1) h.long;
      away = all_put_in (λ (y : Outcome). (y.0 < n + 1) × IsAway cs y.0) x ys
          (omega (arith, here), subst (IsAway cs) (sym here) away)
          (all_with P (λ (y : Outcome). (y.0 < n + 1) × IsAway cs y.0) ys (λ y g. (omega (arith, g.0), parts y.0 g.1))
          h.away);
    }

away_untouched : (rows : Rows) (rid : Rid) (cs : List ChangeData) → rid ≡ rid_at 1 (place_in rid)
    → AreReady rows rows cs → IsUntouched rid cs → IsAway cs (place_in rid)
away_untouched rows rid [] e ready un = tt
away_untouched rows rid (create temp class fields ∷ cs) e ready un = away_untouched rows rid cs e ready un.1
away_untouched rows rid (update a b d ∷ cs) e ready un =
    (λ same. places_apart rid a e (ready.0).place un.0 (sym same), away_untouched rows rid cs e ready.1 un.1)
away_untouched rows rid (delete a b ∷ cs) e ready un =
    (λ same. places_apart rid a e (ready.0).place un.0 (sym same), away_untouched rows rid cs e ready.1 un.1)
away_untouched rows rid (touch a b ∷ cs) e ready un =
    (λ same. places_apart rid a e (ready.0).place un.0 (sym same), away_untouched rows rid cs e ready.1 un.1)

away_new : (rows : Rows) (n : ℕ) (cs : List ChangeData) → length rows ≤ n → AreReady rows rows cs → IsAway cs n
away_new rows n [] past ready = tt
away_new rows n (create temp class fields ∷ cs) past ready = away_new rows n cs past ready
away_new rows n (update a b d ∷ cs) past ready = (
  λ same. let lt = some_within (place_in a) rows (ready.0).r (ready.0).new in omega (arith, same, lt, past),
  away_new
      rows n cs past ready.1,
)
away_new rows n (delete a b ∷ cs) past ready = (
  λ same. let lt = some_within (place_in a) rows (ready.0).r (ready.0).new in omega (arith, same, lt, past),
  away_new
      rows n cs past ready.1,
)
away_new rows n (touch a b ∷ cs) past ready = (
  λ same. let lt = some_within (place_in a) rows (ready.0).r (ready.0).new in omega (arith, same, lt, past),
  away_new
      rows n cs past ready.1,
)

-- the same rows, in the order of the positions
pub record AreSorted (rows : Rows) (n : ℕ) (cs : List ChangeData) (ys outs : List Outcome) : Type 0 where
  pub laid : AreLaid rows (next_by_all n cs) [] (put_all_in ys outs)
  pub same : put_rows rows (put_all_in ys outs) ≡ put_rows (put_rows rows ys) outs

sorted_there : (ps : List (Rid × Rid)) (rows : Rows) (n : ℕ) (c : ChangeData) (cs : List ChangeData) (ys : List Outcome)
    → next_by n c ≡ n → length rows ≤ n → (outcome ps rows n c).0 < length rows
    → ((y : ℕ) → IsAway (c ∷ cs) y → ((outcome ps rows n c).0 ≢ y) × IsAway cs y) → AreLaid rows n (c ∷ cs) ys
    → AreSorted rows n cs (put_in (outcome ps rows n c) ys) (outcomes ps rows n cs)
    → AreSorted rows n (c ∷ cs) ys (outcomes ps rows n (c ∷ cs))
sorted_there ps rows n c cs ys still past lt parts h rest =
    let x = outcome ps rows n c in
    let other : IsApart x ys = all_with (λ (y : Outcome). (y.0 < n) × IsAway (c ∷ cs) y.0) (λ (y : Outcome). x.0 ≢ y.0)
    ys (λ y g. (parts y.0 g.1).0) h.away in
    let whole : AreSorted rows n cs ys (x ∷ outcomes ps rows n cs) = record {
      laid = rest.laid;
      same = rest.same ∙ ap (λ (l : Rows). put_rows l (outcomes ps rows n cs)) (put_in_there rows x ys lt other);
    } in
    let next : AreSorted rows n (c ∷ cs) ys (x ∷ outcomes ps rows n cs) =
    record {
      laid = subst (λ (m : ℕ). AreLaid rows (next_by_all m cs) []
          (put_all_in ys (x ∷ outcomes ps rows n cs))) (sym still) whole.laid;
      same = whole.same;
    } in
    subst (λ (m : ℕ). AreSorted rows n (c ∷ cs) ys (x ∷ outcomes ps rows m cs)) (sym still) next

pub sorted : (ps : List (Rid × Rid)) (rows : Rows) (cs : List ChangeData) (n : ℕ) (ys : List Outcome) → length rows ≤ n
    → HasOneEach cs → AreReady rows rows cs → AreLaid rows n cs ys
    → AreSorted rows n cs ys (outcomes ps rows n cs)
sorted ps rows [] n ys past one ready h = record { laid = h; same = refl }
sorted ps rows (create temp class fields ∷ cs) n ys past one ready h =
    let x = outcome ps rows n (create temp class fields) in
    let below : AreBelow x.0 ys =
    all_with (λ (y : Outcome). (y.0 < n) × IsAway (create temp class fields ∷ cs) y.0) (λ (y : Outcome). y.0 < x.0)
    ys (λ y g. g.0) h.away in
    let next = laid_new rows n (create temp class fields) cs x ys refl (λ y g. g) (away_new rows n cs past ready) h in
    let rest = sorted ps rows cs (n + 1) (put_in x ys) (omega (arith, past)) one.1 ready next in
    record {
      laid = rest.laid;
      same = rest.same ∙ ap (λ (l : Rows). put_rows l (outcomes ps rows (n + 1) cs))
          (ap (put_rows rows) (put_in_end x ys below) ∙ put_rows_append rows ys (x ∷ []));
    }
sorted ps rows (update rid version fields ∷ cs) n ys past one ready h =
    let c = update rid version fields in
    let lt = some_within (place_in rid) rows (ready.0).r (ready.0).new in
    let next = laid_there rows n c cs (outcome ps rows n c) ys past lt (λ y g. g)
    (away_untouched rows rid cs (ready.0).place ready.1 one.0) h in
    sorted_there ps rows n c cs ys refl past lt (λ y g. g) h (sorted ps rows cs n (put_in (outcome ps rows n c) ys) past
    one.1 ready.1 next)
sorted ps rows (delete rid version ∷ cs) n ys past one ready h =
    let c = delete rid version in
    let lt = some_within (place_in rid) rows (ready.0).r (ready.0).new in
    let next = laid_there rows n c cs (outcome ps rows n c) ys past lt (λ y g. g)
    (away_untouched rows rid cs (ready.0).place ready.1 one.0) h in
    sorted_there ps rows n c cs ys refl past lt (λ y g. g) h (sorted ps rows cs n (put_in (outcome ps rows n c) ys) past
    one.1 ready.1 next)
sorted ps rows (touch rid version ∷ cs) n ys past one ready h =
    let c = touch rid version in
    let lt = some_within (place_in rid) rows (ready.0).r (ready.0).new in
    let next = laid_there rows n c cs (outcome ps rows n c) ys past lt (λ y g. g)
    (away_untouched rows rid cs (ready.0).place ready.1 one.0) h in
    sorted_there ps rows n c cs ys refl past lt (λ y g. g) h (sorted ps rows cs n (put_in (outcome ps rows n c) ys) past
    one.1 ready.1 next)

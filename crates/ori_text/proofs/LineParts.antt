-- The parts of a line's body that says something are those that reading it finds.
use Rattle.std.proofs.Common.{◌≡◌, ◌≢◌, ℕ, zero, suc, ◌^◌, ◌<◌, true, false, List, [], ◌∷◌, ◌++◌, get_or, refl, sym}
use Rattle.std.proofs.Common.{◌∙◌, ap, subst, arith, IsTrue, codes, decimal, None}
use Rattle.std.proofs.lemmas.Bool.{both_ways}
use Rattle.std.proofs.lemmas.Fmt.{decimal_digit, first_decimal}
use Rattle.std.proofs.lemmas.List.{append_assoc}
use Rattle.ori_bytes.specs.declared.rid.Rid.{Rid}
use Rattle.ori_bytes.specs.declared.limits.TheConstants.{PARTITIONS}
use Rattle.ori_spec_data.specs.Base.{DirData, out, into}
use Rattle.ori_spec_texts.specs.Statement.{IsLink, is_word}
use Rattle.ori_spec_texts.specs.Line.{StepData, flush, settle, checkpoint, reopen, history, bag, check, LineData}
use Rattle.ori_spec_texts.specs.Line.{statement, tries, step, dir_text, is_try, IsSession, IsStepText, Says}
use Rattle.ori_text.specs.Pieces.{IsSplitAt}
use Rattle.ori_text.specs.LineForms.{AsksTries, IsBareStep}
use Rattle.ori_text.proofs.Cuts.{Lacks, one_cut}
use Rattle.ori_text.proofs.Forms.{link_lacks_space}
use Rattle.ori_text.proofs.Decimals.{decimal_lacks_space}

-- ---- tries

pub tries_rest : (text rest asked : List ℕ) (count : ℕ) → text ≡ codes "TRY " ++ rest → AsksTries text count asked
    → rest ≡ decimal count ++ 32 ∷ asked
tries_rest text rest asked count e asks =
    let both : codes "TRY " ++ rest ≡ codes "TRY " ++ (decimal count ++ 32 ∷ asked) = sym e ∙ asks.3 in
    cc

pub tries_parts : (text rest front back asked : List ℕ) (count : ℕ) → text ≡ codes "TRY " ++ rest
    → IsSplitAt 32 rest front back → AsksTries text count asked
    → (front ≡ decimal count) × (back ≡ asked)
tries_parts text rest front back asked count e cut asks =
    one_cut 32 front back (decimal count) asked cut.1 (decimal_lacks_space count (omega (arith, asks.1)))
    (sym cut.0 ∙ tries_rest text rest asked count e asks)

-- ---- bags

dir_lacks_space : (dir : DirData) → Lacks 32 (dir_text dir)
dir_lacks_space out = ((λ e. absurd (omega arith)), ((λ e. absurd (omega arith)), ((λ e. absurd (omega arith)), tt)))
dir_lacks_space into = ((λ e. absurd (omega arith)), ((λ e. absurd (omega arith)), tt))

pub bag_text : (link dir class : List ℕ) → ((codes "bag " ++ link) ++ 32 ∷ dir) ++ 32 ∷ class ≡ codes "bag "
    ++ (link ++ 32 ∷ (dir ++ 32 ∷ class))
bag_text link dir class = append_assoc (codes "bag " ++ link) (32 ∷ dir) (32 ∷ class)
    ∙ append_assoc (codes "bag ") link ((32 ∷ dir) ++ 32 ∷ class)

pub bag_rest : (text rest class : List ℕ) (vertex : Rid) (dir : DirData) → text ≡ codes "bag " ++ rest
    → (b : IsStepText text (bag vertex dir class)) → rest ≡ b.0 ++ 32 ∷ (dir_text dir ++ 32 ∷ class)
bag_rest text rest class vertex dir e b =
    let both : codes "bag " ++ rest ≡ codes "bag " ++ (b.0 ++ 32 ∷ (dir_text dir ++ 32 ∷ class)) =
    sym e ∙ (b.3 ∙ bag_text b.0 (dir_text dir) class) in
    cc

-- what stands between the spaces of a bag's name
pub record HasBagParts (link others : List ℕ) (vertex : Rid) (dir : DirData) (class : List ℕ) : Type 0 where
  pub link_is : IsLink link vertex
  pub others_are : others ≡ dir_text dir ++ 32 ∷ class
  pub is_class : IsTrue (is_word class)

pub bag_parts : (text rest link others class : List ℕ) (vertex : Rid) (dir : DirData) → text ≡ codes "bag " ++ rest
    → IsSplitAt 32 rest link others → IsStepText text (bag vertex dir class)
    → HasBagParts link others vertex dir class
bag_parts text rest link others class vertex dir e cut b =
    let same = one_cut 32 link others b.0 (dir_text dir ++ 32 ∷ class) cut.1 (link_lacks_space b.0 vertex b.1)
    (sym cut.0 ∙ bag_rest text rest class vertex dir e b) in
    record { link_is = subst (λ t. IsLink t vertex) (sym same.0) b.1; others_are = same.1; is_class = b.2 }

pub bag_ends : (link others front back class : List ℕ) (vertex : Rid) (dir : DirData) → IsSplitAt 32 others front back
    → HasBagParts link others vertex dir class
    → (front ≡ dir_text dir) × (back ≡ class)
bag_ends link others front back class vertex dir cut b =
    one_cut 32 front back (dir_text dir) class cut.1 (dir_lacks_space dir) (sym cut.0 ∙ b.others_are)

pub is_bag : (text rest link others front back : List ℕ) (vertex : Rid) (dir : DirData) → text ≡ codes "bag " ++ rest
    → IsSplitAt 32 rest link others → IsLink link vertex
    → IsSplitAt 32 others front back → front ≡ dir_text dir → IsTrue (is_word back)
    → IsStepText text (bag vertex dir back)
is_bag text rest link others front back vertex dir e cut is_link ends is_dir word = (
  link,
  is_link,
  word,
  e ∙ (ap (λ t. codes "bag " ++ t) (cut.0 ∙ (ap (λ t. link ++ 32 ∷ t) (ends.0 ∙ ap (λ t. t ++ 32 ∷ back) is_dir)))
      ∙ sym (bag_text link (dir_text dir) back)),
)

-- ---- flushes

-- a part whose digits are not 0 is above 0
pub flush_positive : (digits : List ℕ) (part : ℕ) → digits ≢ codes "0" → digits ≡ decimal part → 0 < part
flush_positive digits zero ne e = absurd (ne (e ∙ decimal_digit 0 (omega arith)))
flush_positive digits (suc k) ne e = omega arith

pub flush_digits : (text digits : List ℕ) (part : ℕ) → text ≡ codes "flush " ++ digits → text ≡ codes "flush "
    ++ decimal part → digits ≡ decimal part
flush_digits text digits part e d =
    let both : codes "flush " ++ digits ≡ codes "flush " ++ decimal part = sym e ∙ d in
    cc

-- ---- steps

pub no_step : (text : List ℕ) → IsBareStep text None → ((part : ℕ) → part < PARTITIONS → text ≢ codes "flush "
    ++ decimal part)
    → ((vertex : Rid) (dir : DirData) (class : List ℕ) → IsStepText text (bag vertex dir class) → ⊥) → (s : StepData)
    → IsStepText text s → ⊥
no_step text bare no_flush no_bag (flush part) h = no_flush part h.0 h.1
no_step text bare no_flush no_bag settle h = bare.0 h
no_step text bare no_flush no_bag checkpoint h = bare.1 h
no_step text bare no_flush no_bag reopen h = bare.2 h
no_step text bare no_flush no_bag history h = bare.3 h
no_step text bare no_flush no_bag (bag vertex dir class) h = no_bag vertex dir class h
no_step text bare no_flush no_bag check h = bare.4 h

-- ---- bodies

abbrev pub HasNoMark : List ℕ → Type 0
HasNoMark body = (rest : List ℕ) → body ≢ codes "! " ++ rest

session_small : (session : ℕ) → IsSession session → (0 < session) × (session < 2 ^ 32)
session_small session is = (is.0, omega (arith, is.1))

-- no session's number begins with the mark of a step
no_session : (body text : List ℕ) (session : ℕ) → IsSession session → (rest : List ℕ) → body ≡ codes "! " ++ rest
    → body ≡ decimal session ++ text → ⊥
no_session body text session is rest e d =
    begins (decimal session) (first_decimal session is.0 (omega (arith, is.1))) (sym e ∙ d) where
      begins : (ds : List ℕ) → 48 < get_or ds 0 0 → codes "! " ++ rest ≡ ds ++ text → ⊥
      begins [] high q = absurd (omega arith)
      begins (d ∷ ds) high q = let first : 33 ≡ d = cc in absurd (omega arith)

pub tries_text : (session count : ℕ) (t : List ℕ) → ((decimal session ++ codes " TRY ") ++ decimal count) ++ 32
    ∷ t ≡ decimal session ++ 32 ∷ (codes "TRY " ++ (decimal count ++ 32 ∷ t))
tries_text session count t =
    append_assoc (decimal session ++ codes " TRY ") (decimal count) (32 ∷ t)
    ∙ append_assoc (decimal session) (codes " TRY ") (decimal count ++ 32 ∷ t)

pub not_said_by_mark : (body rest : List ℕ) → body ≡ codes "! " ++ rest → ((s : StepData) → IsStepText rest s → ⊥)
    → (said : LineData) → Says body said → ⊥
not_said_by_mark body rest e none (statement session text) h = no_session body (32 ∷ text) session h.0 rest e h.2
not_said_by_mark body rest e none (tries session count text) h =
    no_session body (32 ∷ (codes "TRY " ++ (decimal count ++ 32 ∷ text))) session h.0 rest e
    (h.4 ∙ tries_text session count text)
not_said_by_mark body rest e none (step s) h =
    let both : codes "! " ++ rest ≡ codes "! " ++ h.0 = sym e ∙ h.2 in
    let same : h.0 ≡ rest = cc in
    none s (subst (λ t. IsStepText t s) same h.1)

-- what the text behind a session's number says
abbrev pub SaysText : List ℕ → LineData → Type 0
SaysText text (statement session t) = is_try text ≡ false
SaysText text (tries session count t) = AsksTries text count t
SaysText text (step s) = ⊥

-- a body without the mark of a step that says something: a session's number, a space and a text
pub record HasSession (body : List ℕ) (said : LineData) : Type 0 where
  pub session : ℕ
  pub text : List ℕ
  pub is_session : IsSession session
  pub parts : body ≡ decimal session ++ 32 ∷ text
  pub says : SaysText text said

pub said_parts : (body : List ℕ) → HasNoMark body → (said : LineData) → Says body said → HasSession body said
said_parts body bare (statement session text) h =
    record { session = session; text = text; is_session = h.0; parts = h.2; says = h.1 }
said_parts body bare (tries session count text) h = record {
  session = session;
  text = codes "TRY " ++ (decimal count ++ 32 ∷ text);
  is_session = h.0;
  parts = h.4 ∙ tries_text session count text;
  says = (h.1, h.2, h.3, refl);
}
said_parts body bare (step s) h = absurd (bare h.0 h.2)

pub said_cut : (body front back : List ℕ) (said : LineData) → IsSplitAt 32 body front back → (p : HasSession body said)
    → (front ≡ decimal p.session) × (back ≡ p.text)
said_cut body front back said cut p =
    one_cut 32 front back (decimal p.session) p.text cut.1 (decimal_lacks_space p.session
    (omega (arith, p.is_session.1))) (sym cut.0 ∙ p.parts)

pub not_said_by_tries : (text : List ℕ) → is_try text ≡ true → ((count : ℕ) (s : List ℕ) → AsksTries text count s → ⊥)
    → (said : LineData) → SaysText text said → ⊥
not_said_by_tries text asks none (statement session t) h = both_ways _ h asks
not_said_by_tries text asks none (tries session count t) h = none count t h
not_said_by_tries text asks none (step s) h = h

pub says_tries : (body front text asked : List ℕ) (session count : ℕ) → IsSession session → front ≡ decimal session
    → IsSplitAt 32 body front text → AsksTries text count asked
    → Says body (tries session count asked)
says_tries body front text asked session count is named cut asks = (
  is,
  asks.0,
  asks.1,
  asks.2,
  cut.0 ∙ (ap (λ t. t ++ 32 ∷ text) named
      ∙ (ap (λ t. decimal session ++ 32 ∷ t) asks.3 ∙ sym (tries_text session count asked))),
)

pub not_said_by_session : (body front text : List ℕ) → HasNoMark body → IsSplitAt 32 body front text
    → ((session : ℕ) → IsSession session → front ≢ decimal session) → (said : LineData) → Says body said → ⊥
not_said_by_session body front text bare cut none said says =
    let p = said_parts body bare said says in
    none p.session p.is_session (said_cut body front text said cut p).0

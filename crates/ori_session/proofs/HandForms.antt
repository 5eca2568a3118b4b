-- The parts of a text that is a statement are those that reading it finds.
use Rattle.std.proofs.Common.{◌≡◌, ◌≢◌, ℕ, ◌<◌, ◌^◌, true, false, List, [], ◌∷◌, ◌++◌, refl, sym, ◌∙◌, ap, inl, inr}
use Rattle.std.proofs.Common.{codes, IsTrue}
use Rattle.std.specs.Prelude.{◌||◌}
use Rattle.std.proofs.lemmas.Bool.{false≢true}
use Rattle.std.proofs.lemmas.List.{append_assoc}
use Rattle.ori_bytes.specs.declared.rid.Rid.{Rid}
use Rattle.ori_spec_data.specs.Value.{Tree}
use Rattle.ori_spec_texts.specs.Statement.{is_letter, is_digit, is_word, is_field_name, is_plain, IsDigits, IsLink}
use Rattle.ori_spec_texts.specs.Statement.{IsLiteral, IsSetting, StatementData, inserts, selects, updates}
use Rattle.ori_spec_texts.specs.Statement.{deletes_vertex, begins, commits, rolls_back, IsStatement}
use Rattle.ori_text.specs.Pieces.{IsSplitAt}
use Rattle.ori_text.proofs.Cuts.{Lacks, one_cut}
use Rattle.ori_text.proofs.Forms.{lacks_where_all, link_lacks_space}
use Rattle.ori_session.proofs.Letters.{left_true, right_true}

word_lacks : (c : ℕ) (word : List ℕ) → (is_letter c || is_digit c) ≡ false → is_letter c ≡ false → is_word word ≡ true
    → Lacks c word
word_lacks c [] both letter h = absurd (false≢true h)
word_lacks c (x ∷ xs) both letter h = (
  λ e. false≢true (sym letter ∙ ap is_letter (sym e) ∙ left_true _ _ h),
  lacks_where_all (λ b. is_letter b || is_digit b) c both xs (right_true _ _ h),
)

-- ---- settings

pub setting_is : (text name : List ℕ) (value : Tree) → (h : IsSetting text name value)
    → text ≡ name ++ 32 ∷ (codes "= " ++ h.0)
setting_is text name value h = h.3 ∙ append_assoc name (codes " = ") h.0

pub setting_parts : (text front back name : List ℕ) (value : Tree) → IsSplitAt 32 text front back
    → (h : IsSetting text name value) → (front ≡ name) × (back ≡ codes "= " ++ h.0)
setting_parts text front back name value cut h =
    one_cut 32 front back name (codes "= " ++ h.0) cut.1 (word_lacks 32 name refl refl (left_true _ _ h.1))
    (sym cut.0 ∙ setting_is text name value h)

pub setting_tail : (text front back rest name : List ℕ) (value : Tree) → IsSplitAt 32 text front back
    → back ≡ codes "= " ++ rest → (h : IsSetting text name value) → h.0 ≡ rest
setting_tail text front back rest name value cut e h =
    let both : codes "= " ++ h.0 ≡ codes "= " ++ rest = sym (setting_parts text front back name value cut h).1 ∙ e in
    cc

pub is_setting : (text name back literal : List ℕ) (value : Tree) → IsSplitAt 32 text name back
    → back ≡ codes "= " ++ literal → is_field_name name ≡ true → IsLiteral literal value → IsSetting text name value
is_setting text name back literal value cut e named is_literal =
    (literal, named, is_literal, cut.0 ∙ ap (λ t. name ++ 32 ∷ t) e ∙ sym (append_assoc name (codes " = ") literal))

-- ---- values

pub no_literal : (text : List ℕ) → ((s : List ℕ) → IsTrue (is_plain s) → text ≢ 39 ∷ s ++ 39 ∷ [])
    → ((rid : Rid) → IsLink text rid → ⊥) → ((n : ℕ) → IsDigits text n → n < 2 ^ 63 → ⊥) → (value : Tree)
    → IsLiteral text value → ⊥
no_literal text quoted linked digits value h = elim h [
  | inl q ↦ quoted q.0 q.1 q.2
  | inr more ↦ elim more [
    | inl d ↦ digits d.0 d.1 d.2
    | inr l ↦ linked l.0 l.1
  ]
]

-- ---- updates

pub update_is : (text link setting : List ℕ) → text ≡ codes "UPDATE " ++ link ++ codes " SET " ++ setting
    → text ≡ codes "UPDATE " ++ (link ++ 32 ∷ (codes "SET " ++ setting))
update_is text link setting e = e ∙ ap (λ t. codes "UPDATE " ++ t) (append_assoc link (codes " SET ") setting)

pub update_parts : (text rest front back link setting : List ℕ) (rid : Rid) → text ≡ codes "UPDATE " ++ rest
    → IsSplitAt 32 rest front back → IsLink link rid → text ≡ codes "UPDATE " ++ link ++ codes " SET " ++ setting
    → (front ≡ link) × (back ≡ codes "SET " ++ setting)
update_parts text rest front back link setting rid e cut is_link is =
    let both : codes "UPDATE " ++ rest ≡ codes "UPDATE " ++ (link ++ 32 ∷ (codes "SET " ++ setting)) = sym e
    ∙ update_is text link setting is in
    let tails : rest ≡ link ++ 32 ∷ (codes "SET " ++ setting) = cc in
    one_cut 32 front back link (codes "SET " ++ setting) cut.1 (link_lacks_space link rid is_link) (sym cut.0 ∙ tails)

pub update_tail : (text rest front back tail link setting : List ℕ) (rid : Rid) → text ≡ codes "UPDATE " ++ rest
    → IsSplitAt 32 rest front back → back ≡ codes "SET " ++ tail → IsLink link rid
    → text ≡ codes "UPDATE " ++ link ++ codes " SET " ++ setting → setting ≡ tail
update_tail text rest front back tail link setting rid e cut f is_link is =
    let both : codes "SET " ++ setting ≡ codes "SET " ++ tail =
    sym (update_parts text rest front back link setting rid e cut is_link is).1 ∙ f in
    cc

pub is_update : (text rest link back setting : List ℕ) → text ≡ codes "UPDATE " ++ rest → IsSplitAt 32 rest link back
    → back ≡ codes "SET " ++ setting → text ≡ codes "UPDATE " ++ link ++ codes " SET " ++ setting
is_update text rest link back setting e cut f =
    e ∙ ap (λ t. codes "UPDATE " ++ t) (cut.0 ∙ ap (λ t. link ++ 32 ∷ t) f
    ∙ sym (append_assoc link (codes " SET ") setting))

-- ---- statements

pub no_statement : (text : List ℕ) → ((name : List ℕ) (value : Tree) (setting : List ℕ) → IsSetting setting name value
    → text ≢ codes "INSERT INTO V SET " ++ setting)
    → ((rid : Rid) (name : List ℕ) (value : Tree) (link setting : List ℕ) → IsLink link rid
    → IsSetting setting name value → text ≢ codes "UPDATE " ++ link ++ codes " SET " ++ setting)
    → ((rid : Rid) (link : List ℕ) → IsLink link rid → text ≢ codes "SELECT FROM " ++ link)
    → ((rid : Rid) (link : List ℕ) → IsLink link rid → text ≢ codes "DELETE VERTEX " ++ link)
    → (text ≢ codes "BEGIN") × (text ≢ codes "COMMIT") × (text ≢ codes "ROLLBACK")
    → (s : StatementData) → IsStatement text s → ⊥
no_statement text insert update select delete word (inserts name value) h = insert name value h.0 h.1 h.2
no_statement text insert update select delete word (selects rid) h = select rid h.0 h.1 h.2
no_statement text insert update select delete word (updates rid name value) h =
    update rid name value h.0 h.1 h.2 h.3 h.4
no_statement text insert update select delete word (deletes_vertex rid) h = delete rid h.0 h.1 h.2
no_statement text insert update select delete word begins h = word.0 h
no_statement text insert update select delete word commits h = word.1 h
no_statement text insert update select delete word rolls_back h = word.2 h

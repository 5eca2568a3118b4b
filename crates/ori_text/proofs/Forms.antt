-- The parts of a link are those that reading it finds.
use Rattle.std.proofs.Common.{◌≡◌, ◌≢◌, ℕ, Bool, true, false, List, [], ◌∷◌, ◌++◌, refl, sym, ◌∙◌, ap, subst, inl, inr}
use Rattle.std.proofs.Common.{arith, ℤ}
use Rattle.std.specs.List.{list_all}
use Rattle.std.proofs.lemmas.Bool.{false≢true, and_parts}
use Rattle.ori_bytes.specs.declared.rid.Rid.{Rid}
use Rattle.ori_spec_texts.specs.Statement.{is_digit, IsNumeral, IsLink}
use Rattle.ori_spec_data.specs.Numbers.{IsSigned}
use Rattle.ori_text.specs.Pieces.{IsSplitAt}
use Rattle.ori_text.proofs.Cuts.{Lacks, one_cut}

-- where each byte passes a test that c fails, none is c
pub lacks_where_all : (p : ℕ → Bool) (c : ℕ) → p c ≡ false → (xs : List ℕ) → list_all p xs ≡ true → Lacks c xs
lacks_where_all p c fails [] h = tt
lacks_where_all p c fails (x ∷ xs) h = (
  λ e. false≢true (sym fails ∙ ap p (sym e) ∙ (and_parts _ _ h).0),
  lacks_where_all p c fails xs
      ((and_parts _ _ h).1),
)

pub numeral_lacks : (c : ℕ) → is_digit c ≡ false → 45 ≢ c → (text : List ℕ) (z : ℤ) → IsNumeral text z → Lacks c text
numeral_lacks c fails ne text z numeral = elim numeral [
  | inl digits ↦ lacks_where_all is_digit c fails text digits.1.1
  | inr signed ↦
      let tail : Lacks c signed.0 = lacks_where_all is_digit c fails signed.0 signed.3.1 in
      let whole : Lacks c (45 ∷ signed.0) = (ne, tail) in
      subst (Lacks c) (sym signed.2) whole
]

pub numeral_lacks_colon : (text : List ℕ) (z : ℤ) → IsNumeral text z → Lacks 58 text
numeral_lacks_colon text z numeral = numeral_lacks 58 refl (λ e. absurd (omega arith)) text z numeral

pub lacks_append : (c : ℕ) (xs ys : List ℕ) → Lacks c xs → Lacks c ys → Lacks c (xs ++ ys)
lacks_append c [] ys p q = q
lacks_append c (x ∷ xs) ys p q = (p.0, lacks_append c xs ys p.1 q)

pub link_lacks_space : (text : List ℕ) (rid : Rid) → IsLink text rid → Lacks 32 text
link_lacks_space text rid link =
    let cluster = numeral_lacks 32 refl (λ e. absurd (omega arith)) link.0 rid.cluster link.3 in
    let position = numeral_lacks 32 refl (λ e. absurd (omega arith)) link.1 rid.position link.5 in
    let whole : Lacks 32 (35 ∷ (link.0 ++ 58 ∷ link.1)) = (
      (λ e. absurd (omega arith)),
      lacks_append 32 link.0 (58 ∷ link.1) cluster
          ((λ e. absurd (omega arith)), position),
    ) in
    subst (Lacks 32) (sym link.2) whole

pub record HasParts (cluster position : List ℕ) (rid : Rid) : Type 0 where
  pub cluster_is : IsNumeral cluster rid.cluster
  pub cluster_fits : IsSigned 16 rid.cluster
  pub position_is : IsNumeral position rid.position
  pub position_fits : IsSigned 64 rid.position

pub link_parts : (text rest cluster position : List ℕ) (rid : Rid) → text ≡ 35 ∷ rest
    → IsSplitAt 58 rest cluster position → IsLink text rid → HasParts cluster position rid
link_parts text rest cluster position rid e cut link =
    let tails : rest ≡ link.0 ++ 58 ∷ link.1 = cc in
    let same = one_cut 58 cluster position link.0 link.1 cut.1 (numeral_lacks_colon _ _ link.3) (sym cut.0 ∙ tails) in
    record {
      cluster_is = subst (λ t. IsNumeral t rid.cluster) (sym same.0) link.3;
      cluster_fits = link.4;
      position_is = subst (λ t. IsNumeral t rid.position) (sym same.1) link.5;
      position_fits = link.6;
    }

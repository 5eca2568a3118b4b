-- The pages of an operation after a page is changed, is as it was, or is put behind the last.
use Rattle.std.proofs.Common.{◌≡◌, ◌≢◌, ⊎_elim, ℕ, ◌+◌, ◌<◌, cond, Bool, List, [], ◌∷◌, ◌++◌, length, set}
use Rattle.std.proofs.Common.{Option, Some, None, sym, ◌∙◌, ap, subst, arith, length-append}
use Rattle.std.specs.Ordering.{nat_cmp}
use Rattle.std.specs.BTreeMap.{is_at}
use Rattle.std.proofs.lemmas.Bool.{cases_eq, eq-eqb, ne_eqb}
use Rattle.std.proofs.lemmas.List.{length-set, get_or-set_same, get_or-set_other, get_or_append_left, get_or_at}
use Rattle.std.proofs.lemmas.Option.{none-some}
use Rattle.ori_page.specs.Spaces.{page_at}
use Rattle.ori_log.proofs.Reading.{page_tied}
use Rattle.ori_overlay.specs.Over.{changed_at, AreOver}

-- this is at k, and at each other place what was
abbrev pub Puts : ℕ → Option (List ℕ) → List (ℕ × List ℕ) → List (ℕ × List ℕ) → Type 0
Puts k w old new = (q : ℕ) → changed_at new q ≡ cond (is_at (nat_cmp k) q) w (changed_at old q)

pub puts_here : (k : ℕ) (w : Option (List ℕ)) (old new : List (ℕ × List ℕ)) → Puts k w old new → (q : ℕ) → q ≡ k
    → changed_at new q ≡ w
puts_here k w old new puts q is =
    puts q ∙ ap (λ (b : Bool). cond b w (changed_at old q)) (page_tied k q ∙ eq-eqb k q (sym is))

pub puts_there : (k : ℕ) (w : Option (List ℕ)) (old new : List (ℕ × List ℕ)) → Puts k w old new → (q : ℕ) → q ≢ k
    → changed_at new q ≡ changed_at old q
puts_there k w old new puts q apart =
    puts q ∙ ap (λ (b : Bool). cond b w (changed_at old q)) (page_tied k q ∙ ne_eqb k q (λ e. apart (sym e)))

pub same_content : (x y : List ℕ) → Some x ≡ Some y → x ≡ y
same_content x y e = cc

module _ (old new : List (ℕ × List ℕ)) (total : ℕ) (base pages : List (List ℕ)) (over : AreOver old total base pages)
    (k : ℕ) (content : List ℕ) where
  -- a page is as it was
  pub put_back : Puts k None old new → k < total → (k < length base) × (content ≡ page_at base k)
      → AreOver new total base (set pages k content)
  put_back puts within was = record {
    count = length-set pages k content ∙ over.count;
    grown = over.grown;
    own = λ q c is.
        ⊎_elim (λ (e : q ≡ k). absurd (none-some c (sym (puts_here k None old new puts q e) ∙ is)))
        (λ (apart : q ≢ k). let o = over.own q c (sym (puts_there k None old new puts q apart) ∙ is) in (
          o.0,
          get_or-set_other pages k q content [] apart ∙ o.1,
        )) (cases_eq q k);
    differs = λ q c is low.
        ⊎_elim (λ (e : q ≡ k). absurd (none-some c (sym (puts_here k None old new puts q e) ∙ is)))
        (λ (apart : q ≢ k). over.differs q c (sym (puts_there k None old new puts q apart) ∙ is) low) (cases_eq q k);
    other = λ q low is.
        ⊎_elim (λ (e : q ≡ k). subst (λ (n : ℕ). (n < length base) × (page_at (set pages k content) n ≡ page_at base n))
        (sym e) (was.0, get_or-set_same pages k content [] (omega (arith, over.count, within)) ∙ was.1))
        (λ (apart : q ≢ k). let o = over.other q low (sym (puts_there k None old new puts q apart) ∙ is) in (
          o.0,
          get_or-set_other pages k q content [] apart ∙ o.1,
        )) (cases_eq q k);
  }

  -- a page isn't as it was
  pub put_over : Puts k (Some content) old new → k < total → (k < length base → content ≢ page_at base k)
      → AreOver new total base (set pages k content)
  put_over puts within other = record {
    count = length-set pages k content ∙ over.count;
    grown = over.grown;
    own = λ q c is.
        ⊎_elim (λ (e : q ≡ k). subst (λ (n : ℕ). (n < total) × (page_at (set pages k content) n ≡ c)) (sym e) (
          within,
          get_or-set_same pages k content [] (omega (arith, over.count, within))
              ∙ same_content content c (sym (puts_here k (Some content) old new puts q e) ∙ is),
        ))
        (λ (apart : q ≢ k). let o = over.own q c (sym (puts_there k (Some content) old new puts q apart) ∙ is) in (
          o.0,
          get_or-set_other pages k q content [] apart ∙ o.1,
        )) (cases_eq q k);
    differs = λ q c is low.
        ⊎_elim (λ (e : q ≡ k). λ (as_it_was : c ≡ page_at base q).
        other (subst (λ (n : ℕ). n < length base) e low)
        (same_content content c (sym (puts_here k (Some content) old new puts q e) ∙ is)
        ∙ subst (λ (n : ℕ). c ≡ page_at base n) e as_it_was))
        (λ (apart : q ≢ k). over.differs q c (sym (puts_there k (Some content) old new puts q apart) ∙ is) low)
        (cases_eq q k);
    other = λ q low is.
        ⊎_elim (λ (e : q ≡ k). absurd (none-some content (sym is ∙ puts_here k (Some content) old new puts q e)))
        (λ (apart : q ≢ k). let o = over.other q low (sym (puts_there k (Some content) old new puts q apart) ∙ is) in (
          o.0,
          get_or-set_other pages k q content [] apart ∙ o.1,
        )) (cases_eq q k);
  }

-- a page is put behind the last
pub put_behind : (old new : List (ℕ × List ℕ)) (total : ℕ) (base pages : List (List ℕ)) (content : List ℕ)
    → AreOver old total base pages → Puts total (Some content) old new
    → AreOver new (total + 1) base (pages ++ content ∷ [])
put_behind old new total base pages content over puts =
    let before : (q : ℕ) → q < total → page_at (pages ++ content ∷ []) q ≡ page_at pages q
    = λ q low. get_or_append_left pages (content ∷ []) [] q (omega (arith, over.count, low)) in
    record {
      count = omega (arith, length-append pages (content ∷ []), over.count);
      grown = omega (arith, over.grown);
      own = λ q c is.
          ⊎_elim (λ (e : q ≡ total). (
            let low : q < total + 1 = omega (arith, e) in low,
            get_or_at pages content [] [] q (over.count ∙ sym e)
                ∙ same_content content c (sym (puts_here total (Some content) old new puts q e) ∙ is),
          ))
          (λ (apart : q ≢ total).
          let o = over.own q c (sym (puts_there total (Some content) old new puts q apart) ∙ is) in (
            let low : q < total + 1 = omega (arith, o.0) in low,
            before q o.0 ∙ o.1,
          )) (cases_eq q total);
      differs = λ q c is low.
          over.differs q c
          (sym (puts_there total (Some content) old new puts q (λ e. absurd (omega (arith, e, low, over.grown)))) ∙ is)
          low;
      other = λ q low is.
          ⊎_elim (λ (e : q ≡ total). absurd (none-some content
          (sym is ∙ puts_here total (Some content) old new puts q e)))
          (λ (apart : q ≢ total).
          let small : q < total = omega (arith, low, apart) in
          let o = over.other q small (sym (puts_there total (Some content) old new puts q apart) ∙ is) in (
            o.0,
            before q small ∙ o.1,
          )) (cases_eq q total);
    }

-- Names in byte order, and the names of bags.
use Rattle.std.proofs.Common.{◌≡◌, ℕ, Bool, true, false, ◌||◌, cond, eqb, Option, Some, None, List, []}
use Rattle.std.proofs.Common.{◌∷◌, ◌++◌, is_some, Ordering, Less, Equal, Greater, is_lt, nat_cmp, refl, sym, ap, ap₂}
use Rattle.std.proofs.Common.{subst, ◌∙◌}
use Rattle.std.specs.Prelude.{codes, nat_eq}
use Rattle.std.specs.Cmp.{nat_cmp_is}
use Rattle.std.specs.Cmp.Lexicographic.{slice_cmp, nat_list_cmp_total, same_text, texts_ties}
use Rattle.std.specs.List.{starts_with}
use Rattle.std.specs.Borrow.{Bor}
use Rattle.std.specs.Prelude.{MatchOption, option_map}
use Rattle.std.specs.Str.Pattern.{FindsTextPrefix, StripsPrefix}
use Rattle.std.specs.Ordering.{is_eq, ordering_reverse}
use Rattle.std.proofs.lemmas.Bool.{eqb-true, eqb-false}
use Rattle.std.proofs.lemmas.Map.Lookups.{exact_unsigned}
use Rattle.ori_model.specs.declared.bags.Dir.{Dir}
use Rattle.ori_model.specs.declared.bags.Dir.TheVariants.{Out, Into}
use Rattle.ori_spec_data.specs.Fields.{IsBefore}
use Rattle.ori_spec_data.specs.Apply.{is_bag_name}
use Rattle.ori_record.specs.Names.{is_less}
use Rattle.ori_record.specs.Reading.{◌>>=◌, after, bag_named, named_out}
use Rattle.ori_record.specs.Spelling.{bag_name}
use Rattle.ori_record.proofs.Options.{bind_some, passed, some_is}

-- ---- the order

pub before_trans : (a b c : List ℕ) → IsBefore a b → IsBefore b c → IsBefore a c
before_trans a b c h k = nat_list_cmp_total.trans a b c h k

pub less_of : (a b : List ℕ) → is_less a b ≡ true → IsBefore a b
less_of a b h = by (slice_cmp nat_cmp a b) refl
  where
    by : (o : Ordering) → slice_cmp nat_cmp a b ≡ o → IsBefore a b
    by Less e = e
    by Equal e = absurd (let k : false ≡ true = sym (ap is_lt e) ∙ h in cc)
    by Greater e = absurd (let k : false ≡ true = sym (ap is_lt e) ∙ h in cc)

pub less_is : (a b : List ℕ) → IsBefore a b → is_less a b ≡ true
less_is a b h = ap is_lt h

-- the other way round
pub not_after : (a b : List ℕ) → IsBefore a b → is_less b a ≡ false
not_after a b h = ap is_lt (nat_list_cmp_total.antisymm b a ∙ ap ordering_reverse h)

pub before_other : (a b : List ℕ) → is_less b a ≡ false → (b ≡ a → ⊥) → IsBefore a b
before_other a b h apart = by (slice_cmp nat_cmp b a) refl
  where
    by : (o : Ordering) → slice_cmp nat_cmp b a ≡ o → IsBefore a b
    by Less e = absurd (let k : true ≡ false = sym (ap is_lt e) ∙ h in cc)
    by Equal e = absurd (apart (same_text b a (sym (texts_ties b a ∙ ap is_eq e))))
    by Greater e = nat_list_cmp_total.antisymm a b ∙ ap ordering_reverse e

-- ---- what comes after a front

pub same_number : (n : ℕ) → eqb n n ≡ true
same_number n = by (eqb n n) refl
  where
    by : (b : Bool) → eqb n n ≡ b → b ≡ true
    by true e = refl
    by false e = absurd (eqb-false n n e refl)

pub after_is : (front name rest : List ℕ) → after front name ≡ Some rest → name ≡ front ++ rest
after_is [] name rest e = some_is name rest e
after_is (f ∷ front) [] rest e = absurd cc
after_is (f ∷ front) (b ∷ name) rest e =
    let p = passed (eqb f b) (after front name) rest e in
    ap₂ (λ (x : ℕ) (xs : List ℕ). x ∷ xs) (sym (eqb-true f b p.0)) (after_is front name rest p.1)

pub after_again : (front rest : List ℕ) → after front (front ++ rest) ≡ Some rest
after_again [] rest = refl
after_again (f ∷ front) rest = rw (same_number f) (after_again front rest)

-- a name with this front or without it, as a call has told
pub after_told : (front name : List ℕ) → ((rest : List ℕ) → name ≡ front ++ rest → ⊥) → after front name ≡ None
after_told front name none = by (after front name) refl
  where
    by : (o : Option (List ℕ)) → after front name ≡ o → o ≡ None
    by None e = refl
    by (Some rest) e = absurd (none rest (after_is front name rest e))

pub after_stripped : (front name : List ℕ) (r : Option (Bor (List ℕ)))
    → MatchOption r (FindsTextPrefix front name None) (λ x. StripsPrefix (FindsTextPrefix front) name x.now)
    → option_map (λ (s : Bor (List ℕ)). s.now) r ≡ after front name
after_stripped front name None h = sym (after_told front name (λ rest e. h rest e))
after_stripped front name (Some x) h =
    let whole : name ≡ front ++ x.now = h.1.1 ∙ ap (λ (s : List ℕ). front ++ s) (sym h.2) in
    sym (ap (after front) whole ∙ after_again front x.now)

pub compared_same : (front a b : List ℕ) → slice_cmp nat_cmp (front ++ a) (front ++ b) ≡ slice_cmp nat_cmp a b
compared_same [] a b = refl
compared_same (f ∷ front) a b =
    let same : nat_cmp f f ≡ Equal = sym (nat_cmp_is f f Equal refl) in rw same (compared_same front a b)

-- where the front isn't there, nothing after it counts
pub compared_front : (front class name : List ℕ) → after front name ≡ None
    → slice_cmp nat_cmp (front ++ class) name ≡ slice_cmp nat_cmp front name
compared_front [] class name e = absurd cc
compared_front (f ∷ front) class [] e = refl
compared_front (f ∷ front) class (b ∷ name) e = by (nat_cmp f b) refl (compared_front front class name)
  where
    by : (o : Ordering) → nat_cmp f b ≡ o
        → (after front name ≡ None → slice_cmp nat_cmp (front ++ class) name ≡ slice_cmp nat_cmp front name)
        → slice_cmp nat_cmp (f ∷ (front ++ class)) (b ∷ name) ≡ slice_cmp nat_cmp (f ∷ front) (b ∷ name)
    by Less k later = rw k refl
    by Greater k later = rw k refl
    by Equal k later =
        let same : f ≡ b = exact_unsigned f b k in
        let test : eqb f b ≡ true = subst (λ (x : ℕ). eqb f x ≡ true) same (same_number f) in
        let rest : after front name ≡ None = sym (ap (λ (t : Bool). cond t (after front name) None) test) ∙ e in
        rw k (later rest)

-- ---- the names of bags

starts_after : (front name : List ℕ) → starts_with nat_eq name front ≡ is_some (after front name)
starts_after [] name = refl
starts_after (f ∷ front) [] = refl
starts_after (f ∷ front) (b ∷ name) = by (eqb f b) refl (starts_after front name)
  where
    by : (t : Bool) → eqb f b ≡ t → starts_with nat_eq name front ≡ is_some (after front name)
        → starts_with nat_eq (b ∷ name) (f ∷ front) ≡ is_some (after (f ∷ front) (b ∷ name))
    by true e later = rw e later
    by false e later = rw e refl

names_a_bag : (name : List ℕ) → is_bag_name name ≡ (is_some (after (codes "out_") name)
    || is_some (after (codes "in_") name))
names_a_bag name =
    ap₂ (λ (a b : Bool). a || b) (starts_after (codes "out_") name) (starts_after (codes "in_") name)

pub named_tests : (name : List ℕ) → is_bag_name name ≡ is_some (bag_named name)
unfolding bag_named
named_tests name = names_a_bag name ∙ by (after (codes "out_") name) (after (codes "in_") name) refl
  where
    by : (o p : Option (List ℕ)) → after (codes "in_") name ≡ p
        → (is_some o || is_some (after (codes "in_") name)) ≡ is_some (named_out name o)
    by (Some class) p e = refl
    by None (Some class) e = rw e refl
    by None None e = rw e refl

pub named_is : (name : List ℕ) (dir : Dir) (class : List ℕ) → bag_named name ≡ Some (dir, class)
    → name ≡ bag_name dir class
unfolding bag_named
named_is name dir class e = by (after (codes "out_") name) refl e
  where
    by : (o : Option (List ℕ)) → after (codes "out_") name ≡ o → named_out name o ≡ Some (dir, class)
        → name ≡ bag_name dir class
    by (Some rest) k is =
        let same = some_is (Out, rest) (dir, class) is in
        after_is (codes "out_") name rest k
        ∙ ap (λ (x : Dir × List ℕ). bag_name x.0 x.1) same
    by None k is =
        let a = bind_some (after (codes "in_") name) (λ c. Some (Into, c)) (dir, class) is in
        let same = some_is (Into, a.0) (dir, class) a.2 in
        after_is (codes "in_") name a.0 a.1 ∙ ap (λ (x : Dir × List ℕ). bag_name x.0 x.1) same

pub named_again : (dir : Dir) (class : List ℕ) → bag_named (bag_name dir class) ≡ Some (dir, class)
unfolding bag_named
named_again Out class = ap (named_out (bag_name Out class)) (after_again (codes "out_") class)
named_again Into class =
    ap (λ (o : Option (List ℕ)). o >>= λ c. Some (Into, c)) (after_again (codes "in_") class)

-- a bag has the name of one
pub bag_named_so : (dir : Dir) (class : List ℕ) → is_bag_name (bag_name dir class) ≡ true
bag_named_so dir class =
    named_tests (bag_name dir class)
    ∙ ap (λ (o : Option (Dir × List ℕ)). is_some o) (named_again dir class)

pub not_named : (name : List ℕ) → is_bag_name name ≡ false → bag_named name ≡ None
not_named name h = by (bag_named name) refl
  where
    by : (o : Option (Dir × List ℕ)) → bag_named name ≡ o → o ≡ None
    by None e = refl
    by (Some x) e =
        absurd (let k : true ≡ false = sym (ap (λ (o : Option (Dir × List ℕ)). is_some o) e)
        ∙ sym (named_tests name) ∙ h in cc)

-- a plain field's name is none of a bag's
pub names_apart : (name : List ℕ) (dir : Dir) (class : List ℕ) → is_bag_name name ≡ false
    → bag_name dir class ≡ name → ⊥
names_apart name dir class h e =
    let k : true ≡ false = sym (bag_named_so dir class) ∙ ap is_bag_name e ∙ h in cc

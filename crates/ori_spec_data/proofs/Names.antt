-- Names in byte order, and fields whose names rise.
use Rattle.std.proofs.Common.{◌≡◌, ℕ, List, None, Ordering, Less, Equal, Greater, nat_cmp, is_eq, cond, Bool, true}
use Rattle.std.proofs.Common.{false, bytes_eq, refl, sym, ap, ◌∙◌, subst}
use Rattle.std.proofs.lemmas.Cmp.{nat_list_cmp_total}
use Rattle.std.proofs.lemmas.Map.Lookups.{exact_bytes}
use Rattle.std.proofs.lemmas.Map.Text.{is_eq-slice_cmp}
use Rattle.std.proofs.lemmas.Slice.Eq.{bytes_eq-Decides}
use Rattle.std.specs.Cmp.Lexicographic.{slice_cmp}
use Rattle.std.specs.Ordering.{match_ordering, ordering_reverse}
use Rattle.ori_spec_data.specs.Value.{Tree, Fields, no_pairs, pair, Links, unlinked, linked}
use Rattle.ori_spec_data.specs.Fields.{IsBefore, IsBeforeAll, IsRising, IsBeforeLinks, field, put, without}

pub before_trans : (a b c : List ℕ) → IsBefore a b → IsBefore b c → IsBefore a c
before_trans a b c h k = nat_list_cmp_total.trans a b c h k

pub after : (a b : List ℕ) → IsBefore a b → slice_cmp nat_cmp b a ≡ Greater
after a b h = nat_list_cmp_total.antisymm b a ∙ ap ordering_reverse h

pub before_of_after : (a b : List ℕ) → slice_cmp nat_cmp b a ≡ Greater → IsBefore a b
before_of_after a b h = nat_list_cmp_total.antisymm a b ∙ ap ordering_reverse h

pub differs_before : (a b : List ℕ) → IsBefore a b → bytes_eq a b ≡ false
differs_before a b h = sym (is_eq-slice_cmp a b) ∙ ap is_eq h

pub differs_after : (a b : List ℕ) → IsBefore a b → bytes_eq b a ≡ false
differs_after a b h = sym (is_eq-slice_cmp b a) ∙ ap is_eq (after a b h)

pub same_name : (a b : List ℕ) → a ≡ b → bytes_eq a b ≡ true
same_name a b e = (bytes_eq-Decides a b).1 e

pub same_order : (a b : List ℕ) → a ≡ b → slice_cmp nat_cmp a b ≡ Equal
same_order a b e = order_of_eq (slice_cmp nat_cmp a b) (is_eq-slice_cmp a b ∙ same_name a b e)
  where
    order_of_eq : (o : Ordering) → is_eq o ≡ true → o ≡ Equal
    order_of_eq Less h = cc
    order_of_eq Equal h = refl
    order_of_eq Greater h = cc

pub before_all_trans : (a b : List ℕ) (fs : Fields) → IsBefore a b → IsBeforeAll b fs → IsBeforeAll a fs
before_all_trans a b no_pairs h k = tt
before_all_trans a b (pair other t fs) h k = (before_trans a b other h k.0, before_all_trans a b fs h k.1)

pub before_links_trans : (a b : List ℕ) (links : Links) → IsBefore a b → IsBeforeLinks b links → IsBeforeLinks a links
before_links_trans a b unlinked h k = tt
before_links_trans a b (linked other rid links) h k = (before_trans a b other h k.0, before_links_trans a b links h k.1)

before_all_put_at : (o : Ordering) (first name other : List ℕ) (t u : Tree) (fs gs : Fields) → IsBefore first name
    → IsBefore first other → IsBeforeAll first fs → IsBeforeAll first gs
    → IsBeforeAll first (match_ordering o (pair name t (pair other u fs)) (pair name t fs) (pair other u gs))
before_all_put_at Less first name other t u fs gs h k l m = (h, (k, l))
before_all_put_at Equal first name other t u fs gs h k l m = (h, l)
before_all_put_at Greater first name other t u fs gs h k l m = (k, m)

pub before_all_put : (first name : List ℕ) (t : Tree) (fs : Fields) → IsBefore first name → IsBeforeAll first fs
    → IsBeforeAll first (put name t fs)
before_all_put first name t no_pairs h k = (h, tt)
before_all_put first name t (pair other u fs) h k =
    before_all_put_at (slice_cmp nat_cmp name other) first name other t u fs (put name t fs) h k.0 k.1
    (before_all_put first name t fs h k.1)

rising_put_at : (o : Ordering) (name other : List ℕ) (t u : Tree) (fs : Fields) → slice_cmp nat_cmp name other ≡ o
    → IsRising (pair other u fs) → IsRising (put name t fs)
    → IsRising (match_ordering o (pair name t (pair other u fs)) (pair name t fs) (pair other u (put name t fs)))
rising_put_at Less name other t u fs is h k = ((is, before_all_trans name other fs is h.0), h)
rising_put_at Equal name other t u fs is h k =
    (subst (λ n. IsBeforeAll n fs) (sym (exact_bytes name other is)) h.0, h.1)
rising_put_at Greater name other t u fs is h k = (before_all_put other name t fs (before_of_after other name is) h.0, k)

-- a value that is put keeps the order
pub rising_put : (name : List ℕ) (t : Tree) (fs : Fields) → IsRising fs → IsRising (put name t fs)
rising_put name t no_pairs h = (tt, tt)
rising_put name t (pair other u fs) h =
    rising_put_at (slice_cmp nat_cmp name other) name other t u fs refl h (rising_put name t fs h.1)

before_all_without_at : (b : Bool) (first other : List ℕ) (u : Tree) (fs gs : Fields) → IsBefore first other
    → IsBeforeAll first fs → IsBeforeAll first gs → IsBeforeAll first (cond b fs (pair other u gs))
before_all_without_at true first other u fs gs h k l = k
before_all_without_at false first other u fs gs h k l = (h, l)

pub before_all_without : (first name : List ℕ) (fs : Fields) → IsBeforeAll first fs
    → IsBeforeAll first (without name fs)
before_all_without first name no_pairs h = tt
before_all_without first name (pair other u fs) h =
    before_all_without_at (bytes_eq name other) first other u fs (without name fs) h.0 h.1
    (before_all_without first name fs h.1)

rising_without_at : (b : Bool) (other : List ℕ) (u : Tree) (fs gs : Fields) → IsBeforeAll other gs → IsRising fs
    → IsRising gs → IsRising (cond b fs (pair other u gs))
rising_without_at true other u fs gs h k l = k
rising_without_at false other u fs gs h k l = (h, l)

-- a field that is taken away keeps the order
pub rising_without : (name : List ℕ) (fs : Fields) → IsRising fs → IsRising (without name fs)
rising_without name no_pairs h = tt
rising_without name (pair other u fs) h =
    rising_without_at (bytes_eq name other) other u fs (without name fs) (before_all_without other name fs h.0) h.1
    (rising_without name fs h.1)

pub field_before_all : (name : List ℕ) (fs : Fields) → IsBeforeAll name fs → field name fs ≡ None
field_before_all name no_pairs h = refl
field_before_all name (pair other t fs) h = rw (differs_before name other h.0) (field_before_all name fs h.1)

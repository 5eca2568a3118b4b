-- What is found by name after a change of one field.
use Rattle.std.proofs.Common.{◌≡◌, ◌≢◌, ℕ, List, Some, None, Ordering, Less, Equal, Greater, nat_cmp, cond, Bool, true}
use Rattle.std.proofs.Common.{false, bytes_eq, refl, sym, ap, ◌∙◌, subst}
use Rattle.std.proofs.lemmas.Map.Lookups.{exact_bytes}
use Rattle.std.proofs.lemmas.Slice.Eq.{bytes_eq-Decides}
use Rattle.std.specs.Cmp.Lexicographic.{slice_cmp}
use Rattle.std.specs.Ordering.{match_ordering}
use Rattle.ori_spec_data.specs.Value.{Tree, Fields, no_pairs, pair}
use Rattle.ori_spec_data.specs.Fields.{IsBeforeAll, IsRising, field, put, without}
use Rattle.ori_spec_data.proofs.Names.{before_of_after, differs_after, same_name, field_before_all}

differs_at : (b : Bool) (xs ys : List ℕ) → bytes_eq xs ys ≡ b → xs ≢ ys → b ≡ false
differs_at true xs ys is other = absurd (other ((bytes_eq-Decides xs ys).0 is))
differs_at false xs ys is other = refl

differs : (xs ys : List ℕ) → xs ≢ ys → bytes_eq xs ys ≡ false
differs xs ys other = differs_at (bytes_eq xs ys) xs ys refl other

found_put_at : (o : Ordering) (name other : List ℕ) (t u : Tree) (fs gs : Fields) → slice_cmp nat_cmp name other ≡ o
    → field name gs ≡ Some t
    → field name (match_ordering o (pair name t (pair other u fs)) (pair name t fs) (pair other u gs)) ≡ Some t
found_put_at Less name other t u fs gs is later = rw (same_name name name refl) refl
found_put_at Equal name other t u fs gs is later = rw (same_name name name refl) refl
found_put_at Greater name other t u fs gs is later = rw (differs_after other name (before_of_after other name is)) later

pub found_put : (name : List ℕ) (t : Tree) (fs : Fields) → field name (put name t fs) ≡ Some t
found_put name t no_pairs = rw (same_name name name refl) refl
found_put name t (pair other u fs) =
    found_put_at (slice_cmp nat_cmp name other) name other t u fs (put name t fs) refl (found_put name t fs)

other_put_at : (o : Ordering) (q name other : List ℕ) (t u : Tree) (fs gs : Fields) → slice_cmp nat_cmp name other ≡ o
    → q ≢ name → field q gs ≡ field q fs
    → field q (match_ordering o (pair name t (pair other u fs)) (pair name t fs) (pair other u gs)) ≡ field q
    (pair other u fs)
other_put_at Less q name other t u fs gs is apart later = rw (differs q name apart) refl
other_put_at Equal q name other t u fs gs is apart later =
    rw (differs q name apart, differs q other (λ e. apart (e ∙ sym (exact_bytes name other is)))) refl
other_put_at Greater q name other t u fs gs is apart later = ap (cond (bytes_eq q other) (Some u)) later

pub other_put : (q name : List ℕ) (t : Tree) (fs : Fields) → q ≢ name → field q (put name t fs) ≡ field q fs
other_put q name t no_pairs apart = rw (differs q name apart) refl
other_put q name t (pair other u fs) apart =
    other_put_at (slice_cmp nat_cmp name other) q name other t u fs (put name t fs) refl apart
    (other_put q name t fs apart)

gone_at : (b : Bool) (name other : List ℕ) (u : Tree) (fs gs : Fields) → bytes_eq name other ≡ b → IsBeforeAll other fs
    → field name gs ≡ None → field name (cond b fs (pair other u gs)) ≡ None
gone_at true name other u fs gs is above later =
    field_before_all name fs (subst (λ n. IsBeforeAll n fs) (sym ((bytes_eq-Decides name other).0 is)) above)
gone_at false name other u fs gs is above later = rw is later

pub gone_without : (name : List ℕ) (fs : Fields) → IsRising fs → field name (without name fs) ≡ None
gone_without name no_pairs h = refl
gone_without name (pair other u fs) h =
    gone_at (bytes_eq name other) name other u fs (without name fs) refl h.0 (gone_without name fs h.1)

other_without_at : (b : Bool) (q name other : List ℕ) (u : Tree) (fs gs : Fields) → bytes_eq name other ≡ b → q ≢ name
    → field q gs ≡ field q fs → field q (cond b fs (pair other u gs)) ≡ field q (pair other u fs)
other_without_at true q name other u fs gs is apart later =
    rw (differs q other (λ e. apart (e ∙ sym ((bytes_eq-Decides name other).0 is)))) refl
other_without_at false q name other u fs gs is apart later = ap (cond (bytes_eq q other) (Some u)) later

pub other_without : (q name : List ℕ) (fs : Fields) → q ≢ name → field q (without name fs) ≡ field q fs
other_without q name no_pairs apart = refl
other_without q name (pair other u fs) apart =
    other_without_at (bytes_eq name other) q name other u fs (without name fs) refl apart
    (other_without q name fs apart)

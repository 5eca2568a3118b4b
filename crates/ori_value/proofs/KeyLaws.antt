-- Key bytes are ordered as the values are, and no key begins another.
use Rattle.std.proofs.Common.{◌≡◌, ℕ, zero, suc, ◌+◌, ◌-◌, ◌*◌, ◌%◌, ◌^◌, ◌<◌, ◌≤◌, ℤ, Bool, true, false, ◌==◌}
use Rattle.std.proofs.Common.{if◌then◌else◌, List, [], ◌∷◌, ◌++◌, refl, sym, ap, ◌∙◌, Ordering, Less, Equal}
use Rattle.std.proofs.Common.{Greater, nat_cmp, arith, append_assoc, append-nil, pow-suc, mul_comm}
use Rattle.std.proofs.Math.Nat.{pow-le-pow_right}
use Rattle.std.proofs.Math.Arith.{mod-mul}
use Rattle.std.proofs.lemmas.Bool.Decides.{nat_tests}
use Rattle.std.proofs.lemmas.Cmp.{nat_list_cmp_total, tied_itself, ranked as by_size}
use Rattle.std.proofs.lemmas.Int.{ints}
use Rattle.std.proofs.lemmas.Nat.{mod_below, row_fits}
use Rattle.std.specs.Cmp.Lexicographic.{slice_cmp}
use Rattle.std.specs.Int.{byte_at, bytes_high_first}
use Rattle.std.specs.Ordering.{int_cmp, bool_cmp, ordering_then, MatchOrdering}
use Rattle.std.specs.Prelude.{neg_ℤ, ◌≤ℤ◌}
use lib.IntN.{pos, negsuc}
use Rattle.ori_bytes.specs.declared.rid.Rid.{Rid}
use Rattle.ori_spec_data.specs.Numbers.{IsSigned}
use Rattle.ori_spec_data.specs.Value.{Tree, Trees, null, boolean, integer, short, long, datetime, str}
use Rattle.ori_spec_data.specs.Value.{binary, embedded, embedded_list, embedded_map, link, link_list, link_set}
use Rattle.ori_spec_data.specs.Value.{link_map, byte, no_trees, more_trees}
use Rattle.ori_spec_data.specs.Order.{Ranked, nothing, truth, whole, text, octets, place, items, pairs, ranked}
use Rattle.ori_spec_data.specs.Order.{ranked_all, items_order, content_order, by_rank, rid_cmp}
use Rattle.ori_spec_data.specs.Order.{class_number, kind_number}
use Rattle.ori_spec_data.specs.Keys.{raised, short_key, long_key, escaped, rid_key, key_of, key_bytes}
use Rattle.ori_spec_data.specs.OrderLaws.{IsKeyValue, AreAlikeKeys, KeysKeepOrder, NoKeyBeginsAnother}
use Rattle.ori_value.proofs.OrderCode.{then_assoc, then_none, then_equal}

abbrev bytes_cmp : List ℕ → List ℕ → Ordering
bytes_cmp xs ys = slice_cmp nat_cmp xs ys

-- ---- numbers

pub less_is : (x y : ℕ) → x < y → nat_cmp x y ≡ Less
less_is x y h = grind (arith, nat_tests)

pub greater_is : (x y : ℕ) → y < x → nat_cmp x y ≡ Greater
greater_is x y h = grind (arith, nat_tests)

pub same_is : (x y : ℕ) → x ≡ y → nat_cmp x y ≡ Equal
same_is x y h = grind (arith, nat_tests)

shift_cmp : (c x y : ℕ) → nat_cmp (c + x) (c + y) ≡ nat_cmp x y
shift_cmp c x y = grind (arith, nat_tests)

-- of two numbers in parts the high part decides first
parts_cmp : (unit a b r s : ℕ) → r < unit → s < unit → nat_cmp (a * unit + r) (b * unit + s)
    ≡ ordering_then (nat_cmp a b) (nat_cmp r s)
parts_cmp unit a b r s p q = by (nat_cmp a b) (by_size a b (nat_cmp a b) refl)
  where
    by : (o : Ordering) → MatchOrdering o (a < b) (a ≡ b) (b < a) → nat_cmp (a * unit + r) (b * unit + s)
        ≡ ordering_then o (nat_cmp r s)
    by Less h =
        let le : a * unit + unit ≤ b * unit = row_fits a unit b unit h (omega arith) in
        less_is (a * unit + r) (b * unit + s) (omega arith)
    by Equal h = rw h (shift_cmp (b * unit) r s)
    by Greater h =
        let le : b * unit + unit ≤ a * unit = row_fits b unit a unit h (omega arith) in
        greater_is (a * unit + r) (b * unit + s) (omega arith)

-- a byte more in front of the low k bytes
byte_on : (k n : ℕ) → n % 256 ^ suc k ≡ byte_at k n * 256 ^ k + n % 256 ^ k
byte_on zero n = omega arith
byte_on (suc k) n =
    let unit = 256 ^ suc k in
    let wider : 256 ^ suc (suc k) ≡ 256 * unit = pow-suc 256 (suc k) ∙ mul_comm unit 256 in
    let some : 0 < unit = pow-le-pow_right {n = 256} (omega arith) {i = 0} {j = suc k} (omega arith) in
    rw (wider, mod-mul n {m = 256} {c = unit} (omega arith) some) (omega arith)

unit_pos : (k : ℕ) → 0 < 256 ^ k
unit_pos k = pow-le-pow_right {n = 256} (omega arith) {i = 0} {j = k} (omega arith)

number_cmp : (k m n : ℕ) (xs ys : List ℕ) → bytes_cmp (bytes_high_first k m ++ xs) (bytes_high_first k n ++ ys)
    ≡ ordering_then (nat_cmp (m % 256 ^ k) (n % 256 ^ k)) (bytes_cmp xs ys)
number_cmp zero m n xs ys =
    let one : m % 1 ≡ 0 = omega arith in
    let other : n % 1 ≡ 0 = omega arith in
    rw (one, other) refl
number_cmp (suc k) m n xs ys =
    let digits = parts_cmp (256 ^ k) (byte_at k m) (byte_at k n) (m % 256 ^ k) (n % 256 ^ k)
    (mod_below m (256 ^ k) (unit_pos k)) (mod_below n (256 ^ k) (unit_pos k)) in
    rw (number_cmp k m n xs ys, byte_on k m, byte_on k n, digits)
    (sym (then_assoc (nat_cmp (byte_at k m) (byte_at k n)) (nat_cmp (m % 256 ^ k) (n % 256 ^ k)) (bytes_cmp xs ys)))

-- raised numbers are ordered as the numbers with a sign
raised_cmp : (half : ℕ) (x y : ℤ) → neg_ℤ (pos half) ≤ℤ x → neg_ℤ (pos half) ≤ℤ y
    → nat_cmp (raised half x) (raised half y) ≡ int_cmp x y
raised_cmp half (pos m) (pos n) p q = shift_cmp half m n ∙ grind (arith, nat_tests)
raised_cmp half (pos m) (negsuc n) p q =
    let le : suc n ≤ half = omega (arith, ints) in
    greater_is (half + m) (half - suc n) (omega arith)
raised_cmp half (negsuc m) (pos n) p q =
    let le : suc m ≤ half = omega (arith, ints) in
    less_is (half - suc m) (half + n) (omega arith)
raised_cmp half (negsuc m) (negsuc n) p q =
    let one : suc m ≤ half = omega (arith, ints) in
    let other : suc n ≤ half = omega (arith, ints) in
    grind (arith, nat_tests)

raised_below : (half : ℕ) (x : ℤ) → 0 < half → x ≤ℤ pos (half - 1) → raised half x < half + half
raised_below half (pos n) h p = omega (arith, ints)
raised_below half (negsuc n) h p = omega arith

pub long_cmp : (x y : ℤ) (xs ys : List ℕ) → IsSigned 64 x → IsSigned 64 y
    → bytes_cmp (long_key x ++ xs) (long_key y ++ ys) ≡ ordering_then (int_cmp x y) (bytes_cmp xs ys)
long_cmp x y xs ys p q =
    let m = raised (2 ^ 63) x in
    let n = raised (2 ^ 63) y in
    let one : m % 256 ^ 8 ≡ m = omega (arith, raised_below (2 ^ 63) x (omega arith) p.1) in
    let other : n % 256 ^ 8 ≡ n = omega (arith, raised_below (2 ^ 63) y (omega arith) q.1) in
    number_cmp 8 m n xs ys ∙ rw (one, other, raised_cmp (2 ^ 63) x y p.0 q.0) refl

pub short_cmp : (x y : ℤ) (xs ys : List ℕ) → IsSigned 16 x → IsSigned 16 y
    → bytes_cmp (short_key x ++ xs) (short_key y ++ ys) ≡ ordering_then (int_cmp x y) (bytes_cmp xs ys)
short_cmp x y xs ys p q =
    let m = raised (2 ^ 15) x in
    let n = raised (2 ^ 15) y in
    let one : m % 256 ^ 2 ≡ m = omega (arith, raised_below (2 ^ 15) x (omega arith) p.1) in
    let other : n % 256 ^ 2 ≡ n = omega (arith, raised_below (2 ^ 15) y (omega arith) q.1) in
    number_cmp 2 m n xs ys ∙ rw (one, other, raised_cmp (2 ^ 15) x y p.0 q.0) refl

rid_key_cmp : (a b : Rid) (xs ys : List ℕ) → IsSigned 16 a.cluster × IsSigned 64 a.position
    → IsSigned 16 b.cluster × IsSigned 64 b.position
    → bytes_cmp (rid_key a ++ xs) (rid_key b ++ ys) ≡ ordering_then (rid_cmp a b) (bytes_cmp xs ys)
rid_key_cmp a b xs ys p q =
    ap (λ (l : List ℕ). bytes_cmp l (rid_key b ++ ys)) (append_assoc (short_key a.cluster) (long_key a.position) xs)
    ∙ ap (bytes_cmp (short_key a.cluster ++ (long_key a.position ++ xs)))
    (append_assoc (short_key b.cluster) (long_key b.position) ys)
    ∙ short_cmp a.cluster b.cluster (long_key a.position ++ xs) (long_key b.position ++ ys) p.0 q.0
    ∙ ap (ordering_then (int_cmp a.cluster b.cluster)) (long_cmp a.position b.position xs ys p.1 q.1)
    ∙ sym (then_assoc (int_cmp a.cluster b.cluster) (int_cmp a.position b.position) (bytes_cmp xs ys))

-- ---- texts

more_than_none : (b : ℕ) → (suc b == 0) ≡ false
more_than_none b = grind (arith, nat_tests)

escaped_cmp : (a b xs ys : List ℕ) → bytes_cmp (escaped a ++ xs) (escaped b ++ ys)
    ≡ ordering_then (bytes_cmp a b) (bytes_cmp xs ys)
escaped_cmp [] [] xs ys = refl
escaped_cmp [] (zero ∷ bs) xs ys = refl
escaped_cmp [] (suc b ∷ bs) xs ys = rw (more_than_none b, less_is 0 (suc b) (omega arith)) refl
escaped_cmp (zero ∷ cs) [] xs ys = refl
escaped_cmp (suc c ∷ cs) [] xs ys = rw (more_than_none c, greater_is (suc c) 0 (omega arith)) refl
escaped_cmp (zero ∷ cs) (zero ∷ bs) xs ys = escaped_cmp cs bs xs ys
escaped_cmp (zero ∷ cs) (suc b ∷ bs) xs ys = rw (more_than_none b, less_is 0 (suc b) (omega arith)) refl
escaped_cmp (suc c ∷ cs) (zero ∷ bs) xs ys =
    let e = greater_is (suc c) 0 (omega arith) in
    rw (e, more_than_none c, e) refl
escaped_cmp (suc c ∷ cs) (suc b ∷ bs) xs ys = rw (more_than_none b, more_than_none c, escaped_cmp cs bs xs ys)
    (sym (then_assoc (nat_cmp (suc c) (suc b)) (bytes_cmp cs bs) (bytes_cmp xs ys)))

-- ---- values

abbrev ranked_key : Ranked → List ℕ
ranked_key (truth b) = (if b then 1 else 0) ∷ []
ranked_key (whole kind z) = long_key z
ranked_key (text s) = escaped s
ranked_key (octets s) = escaped s
ranked_key (place rid) = rid_key rid
ranked_key r = []

abbrev IsRankedKey : Ranked → Type 0
IsRankedKey nothing = ⊥
IsRankedKey (truth b) = Unit {0}
IsRankedKey (whole kind z) = IsSigned 64 z
IsRankedKey (text s) = Unit {0}
IsRankedKey (octets s) = Unit {0}
IsRankedKey (place rid) = IsSigned 16 rid.cluster × IsSigned 64 rid.position
IsRankedKey (items kind xs) = ⊥
IsRankedKey (pairs kind class ps) = ⊥

key_ranked : (t : Tree) → IsKeyValue t → (key_of t ≡ ranked_key (ranked t)) × IsRankedKey (ranked t)
key_ranked null h = absurd h
key_ranked (boolean b) h = (refl, tt)
key_ranked (integer z) h = (refl, h)
key_ranked (short z) h = (refl, h)
key_ranked (long z) h = (refl, h)
key_ranked (datetime z) h = (refl, h)
key_ranked (byte z) h = (refl, h)
key_ranked (str s) h = (refl, tt)
key_ranked (binary s) h = (refl, tt)
key_ranked (link rid) h = (refl, h)
key_ranked (embedded class fields) h = absurd h
key_ranked (embedded_list ts) h = absurd h
key_ranked (embedded_map fields) h = absurd h
key_ranked (link_list rids) h = absurd h
key_ranked (link_set rids) h = absurd h
key_ranked (link_map links) h = absurd h

truth_key_cmp : (a b : Bool) → nat_cmp (if a then 1 else 0) (if b then 1 else 0) ≡ bool_cmp a b
truth_key_cmp true true = refl
truth_key_cmp true false = refl
truth_key_cmp false true = refl
truth_key_cmp false false = refl

ranked_key_cmp : (r s : Ranked) (xs ys : List ℕ) → IsRankedKey r → IsRankedKey s → class_number r ≡ class_number s
    → bytes_cmp (ranked_key r ++ xs) (ranked_key s ++ ys) ≡ ordering_then (content_order r s) (bytes_cmp xs ys)
ranked_key_cmp nothing s xs ys p q e = absurd p
ranked_key_cmp (items kind vs) s xs ys p q e = absurd p
ranked_key_cmp (pairs kind class ps) s xs ys p q e = absurd p
ranked_key_cmp (truth a) (truth b) xs ys p q e = rw (truth_key_cmp a b) refl
ranked_key_cmp (whole i x) (whole j y) xs ys p q e = long_cmp x y xs ys p q
ranked_key_cmp (text a) (text b) xs ys p q e = escaped_cmp a b xs ys
ranked_key_cmp (octets a) (octets b) xs ys p q e = escaped_cmp a b xs ys
ranked_key_cmp (place a) (place b) xs ys p q e = rid_key_cmp a b xs ys p q
ranked_key_cmp r s xs ys p q e = absurd (omega arith)

by_rank_same : (r s : Ranked) (o : Ordering) → class_number r ≡ class_number s → kind_number r ≡ kind_number s
    → by_rank r s o ≡ o
by_rank_same r s o p q = rw (same_is (class_number r) (class_number s) p, same_is (kind_number r) (kind_number s) q)
    (then_none o)

-- ---- lists of values

keys_cmp : (ts us : Trees) (xs ys : List ℕ) → AreAlikeKeys ts us
    → bytes_cmp (key_bytes ts ++ xs) (key_bytes us ++ ys)
    ≡ ordering_then (items_order (ranked_all ts) (ranked_all us)) (bytes_cmp xs ys)
keys_cmp no_trees no_trees xs ys h = refl
keys_cmp no_trees (more_trees u us) xs ys h = absurd h
keys_cmp (more_trees t ts) no_trees xs ys h = absurd h
keys_cmp (more_trees t ts) (more_trees u us) xs ys h =
    let r = ranked t in
    let s = ranked u in
    let one = key_ranked t h.0 in
    let other = key_ranked u h.1 in
    let first = ranked_key_cmp r s (key_bytes ts ++ xs) (key_bytes us ++ ys) one.1 other.1 h.2 in
    rw (append_assoc (key_of t) (key_bytes ts) xs, append_assoc (key_of u) (key_bytes us) ys, one.0, other.0)
    (first ∙ rw (by_rank_same r s (content_order r s) h.2 h.3, keys_cmp ts us xs ys h.4)
    (sym (then_assoc (content_order r s) (items_order (ranked_all ts) (ranked_all us)) (bytes_cmp xs ys))))

pub keys_keep_order : KeysKeepOrder
keys_keep_order ts us h =
    let all = keys_cmp ts us [] [] h in
    rw (← append-nil (key_bytes ts), ← append-nil (key_bytes us)) all

none_of : (more : List ℕ) → bytes_cmp more [] ≡ Equal → more ≡ []
none_of [] h = refl
none_of (x ∷ xs) h = cc

pub no_key_begins_another : NoKeyBeginsAnother
no_key_begins_another ts us more h e =
    let all = keys_cmp ts us more [] h in
    let tied = tied_itself nat_list_cmp_total (key_bytes ts ++ more) in
    let same : key_bytes us ++ [] ≡ key_bytes ts ++ more = append-nil (key_bytes us) ∙ e in
    none_of more (then_equal (items_order (ranked_all ts) (ranked_all us)) (bytes_cmp more [])
    (sym all ∙ ap (bytes_cmp (key_bytes ts ++ more)) same ∙ tied)).1

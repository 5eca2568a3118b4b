-- Staging keeps a transaction formed.
use Rattle.std.proofs.Common.{◌≡◌, ℕ, suc, ◌+◌, ◌≤◌, Bool, true, false, ◌||◌, cond, IsTrue, List, [], ◌∷◌, ◌++◌, refl}
use Rattle.std.proofs.Common.{sym, arith}
use mathlib.Core.Bool.{false≢true}
use Rattle.ori_bytes.specs.declared.rid.Rid.{Rid}
use Rattle.ori_spec_data.specs.Base.{ChangeData, create, update, delete, touch, TxData}
use Rattle.ori_spec_data.specs.Apply.{same_rid, is_temporary, temporary, target, IsUntouched, HasOneEach}
use Rattle.ori_spec_data.specs.Apply.{CreatesInOrder, HasOwnFields, HasOwn, IsFormed}
use Rattle.ori_spec_data.specs.Refusing.{creates}
use Rattle.ori_spec_data.specs.Staging.{merged, with_change, with_one, staged, given_by, CanAdd, CanStage}
use Rattle.ori_spec_data.proofs.Rids.{not_true, apart_back}

-- ---- one change an identifier

untouched_merged : (rid : Rid) (c later : ChangeData) (cs : List ChangeData) → IsUntouched rid (c ∷ cs)
    → IsUntouched rid (merged c later ++ cs)
untouched_merged rid (create a b d) (create x y z) cs h = h
untouched_merged rid (create a b d) (update x y z) cs h = h
untouched_merged rid (create a b d) (delete x y) cs h = h.1
untouched_merged rid (create a b d) (touch x y) cs h = h
untouched_merged rid (update a b d) (create x y z) cs h = h
untouched_merged rid (update a b d) (update x y z) cs h = h
untouched_merged rid (update a b d) (delete x y) cs h = h
untouched_merged rid (update a b d) (touch x y) cs h = h
untouched_merged rid (delete a b) later cs h = h
untouched_merged rid (touch a b) (create x y z) cs h = h
untouched_merged rid (touch a b) (update x y z) cs h = h
untouched_merged rid (touch a b) (delete x y) cs h = h
untouched_merged rid (touch a b) (touch x y) cs h = h

untouched_at : (b : Bool) (rid : Rid) (c later : ChangeData) (cs ds : List ChangeData) → IsUntouched rid (c ∷ cs)
    → IsUntouched rid ds → IsUntouched rid (cond b (merged c later ++ cs) (c ∷ ds))
untouched_at true rid c later cs ds h k = untouched_merged rid c later cs h
untouched_at false rid c later cs ds h k = (h.0, k)

untouched_with : (rid : Rid) (cs : List ChangeData) (later : ChangeData) → IsUntouched rid cs
    → same_rid rid (target later) ≡ false → IsUntouched rid (with_change cs later)
untouched_with rid [] later h e = (e, tt)
untouched_with rid (c ∷ cs) later h e =
    untouched_at (same_rid (target later) (target c)) rid c later cs (with_change cs later) h
    (untouched_with rid cs later h.1 e)

one_merged : (c later : ChangeData) (cs : List ChangeData) → HasOneEach (c ∷ cs) → HasOneEach (merged c later ++ cs)
one_merged (create a b d) (create x y z) cs h = h
one_merged (create a b d) (update x y z) cs h = h
one_merged (create a b d) (delete x y) cs h = h.1
one_merged (create a b d) (touch x y) cs h = h
one_merged (update a b d) (create x y z) cs h = h
one_merged (update a b d) (update x y z) cs h = h
one_merged (update a b d) (delete x y) cs h = h
one_merged (update a b d) (touch x y) cs h = h
one_merged (delete a b) later cs h = h
one_merged (touch a b) (create x y z) cs h = h
one_merged (touch a b) (update x y z) cs h = h
one_merged (touch a b) (delete x y) cs h = h
one_merged (touch a b) (touch x y) cs h = h

one_at : (b : Bool) (c later : ChangeData) (cs : List ChangeData) → same_rid (target later) (target c) ≡ b
    → HasOneEach (c ∷ cs) → HasOneEach (with_change cs later)
    → HasOneEach (cond b (merged c later ++ cs) (c ∷ with_change cs later))
one_at true c later cs e h k = one_merged c later cs h
one_at false c later cs e h k = (untouched_with (target c) cs later h.0 (apart_back (target later) (target c) e), k)

pub one_with : (cs : List ChangeData) (later : ChangeData) → HasOneEach cs → HasOneEach (with_change cs later)
one_with [] later h = (tt, tt)
one_with (c ∷ cs) later h = one_at (same_rid (target later) (target c)) c later cs refl h (one_with cs later h.1)

-- ---- new records in order

-- more identifiers may have been given out, and the first may be a lower one
wider : (low less made more : ℕ) (cs : List ChangeData) → less ≤ low → made ≤ more → CreatesInOrder low made cs
    → CreatesInOrder less more cs
wider low less made more [] l m h = tt
wider low less made more (create temp class fields ∷ cs) l m h =
    (h.0, omega arith, omega arith, h.3, wider (suc h.0) (suc h.0) made more cs (omega arith) m h.4)
wider low less made more (update rid version fields ∷ cs) l m h = (h.0, wider low less made more cs l m h.1)
wider low less made more (delete rid version ∷ cs) l m h = (h.0, wider low less made more cs l m h.1)
wider low less made more (touch rid version ∷ cs) l m h = (h.0, wider low less made more cs l m h.1)

order_merged : (low made : ℕ) (c later : ChangeData) (cs : List ChangeData) → CreatesInOrder low made (c ∷ cs)
    → CreatesInOrder low (made + given_by later) (merged c later ++ cs)
order_merged low made (create a b d) (create x y z) cs h =
    (h.0, h.1, omega (arith, h.2), h.3, wider (suc h.0) (suc h.0) made (made + 1) cs (omega arith) (omega arith) h.4)
order_merged low made (create a b d) (update x y z) cs h =
    (h.0, h.1, omega (arith, h.2), h.3, wider (suc h.0) (suc h.0) made (made + 0) cs (omega arith) (omega arith) h.4)
order_merged low made (create a b d) (delete x y) cs h =
    wider (suc h.0) low made (made + 0) cs (omega (arith, h.1)) (omega arith) h.4
order_merged low made (create a b d) (touch x y) cs h =
    (h.0, h.1, omega (arith, h.2), h.3, wider (suc h.0) (suc h.0) made (made + 0) cs (omega arith) (omega arith) h.4)
order_merged low made (update a b d) (create x y z) cs h =
    (h.0, wider low low made (made + 1) cs (omega arith) (omega arith) h.1)
order_merged low made (update a b d) (update x y z) cs h =
    (h.0, wider low low made (made + 0) cs (omega arith) (omega arith) h.1)
order_merged low made (update a b d) (delete x y) cs h =
    (h.0, wider low low made (made + 0) cs (omega arith) (omega arith) h.1)
order_merged low made (update a b d) (touch x y) cs h =
    (h.0, wider low low made (made + 0) cs (omega arith) (omega arith) h.1)
order_merged low made (delete a b) later cs h =
    (h.0, wider low low made (made + given_by later) cs (omega arith) (omega arith) h.1)
order_merged low made (touch a b) (create x y z) cs h =
    (h.0, wider low low made (made + 1) cs (omega arith) (omega arith) h.1)
order_merged low made (touch a b) (update x y z) cs h =
    (h.0, wider low low made (made + 0) cs (omega arith) (omega arith) h.1)
order_merged low made (touch a b) (delete x y) cs h =
    (h.0, wider low low made (made + 0) cs (omega arith) (omega arith) h.1)
order_merged low made (touch a b) (touch x y) cs h =
    (h.0, wider low low made (made + 0) cs (omega arith) (omega arith) h.1)

-- a change that isn't merged stands in order behind the others
abbrev CanFollow : ℕ → List ChangeData → ChangeData → Type 0
CanFollow made cs (create temp class fields) = temp ≡ temporary made
CanFollow made cs (update rid version fields) = IsTrue (is_temporary rid) → IsTrue (creates cs rid)
CanFollow made cs (delete rid version) = IsTrue (is_temporary rid) → IsTrue (creates cs rid)
CanFollow made cs (touch rid version) = IsTrue (is_temporary rid) → IsTrue (creates cs rid)

real : (rid : Rid) → (IsTrue (is_temporary rid) → IsTrue false) → is_temporary rid ≡ false
real rid h = not_true (is_temporary rid) (λ e. false≢true (h e))

order_end : (low made : ℕ) (later : ChangeData) → low ≤ made → CanFollow made [] later
    → CreatesInOrder low (made + given_by later) (later ∷ [])
order_end low made (create temp class fields) l e = (made, l, omega arith, e, tt)
order_end low made (update rid version fields) l e = (real rid e, tt)
order_end low made (delete rid version) l e = (real rid e, tt)
order_end low made (touch rid version) l e = (real rid e, tt)

creates_later : (b : Bool) (cs : List ChangeData) (rid : Rid) → b ≡ false → IsTrue (b || creates cs rid)
    → IsTrue (creates cs rid)
creates_later true cs rid e h = absurd (false≢true (sym e))
creates_later false cs rid e h = h

-- a creation of another record doesn't help
without_first : (c later : ChangeData) (cs : List ChangeData) (rid : Rid) → same_rid rid (target c) ≡ false
    → IsTrue (creates (c ∷ cs) rid) → IsTrue (creates cs rid)
without_first (create temp class fields) later cs rid e h =
    creates_later (same_rid temp rid) cs rid (apart_back rid temp e) h
without_first (update a b d) later cs rid e h = h
without_first (delete a b) later cs rid e h = h
without_first (touch a b) later cs rid e h = h

follow_rest : (made : ℕ) (c later : ChangeData) (cs : List ChangeData) → same_rid (target later) (target c) ≡ false
    → CanFollow made (c ∷ cs) later → CanFollow made cs later
follow_rest made c (create temp class fields) cs e h = h
follow_rest made c (update rid version fields) cs e h = λ t. without_first c (update rid version fields) cs rid e (h t)
follow_rest made c (delete rid version) cs e h = λ t. without_first c (delete rid version) cs rid e (h t)
follow_rest made c (touch rid version) cs e h = λ t. without_first c (touch rid version) cs rid e (h t)

order_next : (low made : ℕ) (c later : ChangeData) (cs : List ChangeData) → CreatesInOrder low made (c ∷ cs)
    → low ≤ made
    → ((lower : ℕ) → lower ≤ made → CreatesInOrder lower made cs
    → CreatesInOrder lower (made + given_by later) (with_change cs later))
    → CreatesInOrder low (made + given_by later) (c ∷ with_change cs later)
order_next low made (create a b d) later cs h l rest =
    (h.0, h.1, omega (arith, h.2), h.3, rest (suc h.0) (omega (arith, h.2)) h.4)
order_next low made (update a b d) later cs h l rest = (h.0, rest low l h.1)
order_next low made (delete a b) later cs h l rest = (h.0, rest low l h.1)
order_next low made (touch a b) later cs h l rest = (h.0, rest low l h.1)

order_at : (b : Bool) (low made : ℕ) (c later : ChangeData) (cs : List ChangeData)
    → same_rid (target later) (target c) ≡ b → CreatesInOrder low made (c ∷ cs)
    → (same_rid (target later) (target c) ≡ false → CreatesInOrder low (made + given_by later)
    (c ∷ with_change cs later))
    → CreatesInOrder low (made + given_by later) (cond b (merged c later ++ cs) (c ∷ with_change cs later))
order_at true low made c later cs e h rest = order_merged low made c later cs h
order_at false low made c later cs e h rest = rest e

order_with : (low made : ℕ) (cs : List ChangeData) (later : ChangeData) → low ≤ made → CreatesInOrder low made cs
    → CanFollow made cs later → CreatesInOrder low (made + given_by later) (with_change cs later)
order_with low made [] later l h f = order_end low made later l f
order_with low made (c ∷ cs) later l h f =
    order_at (same_rid (target later) (target c)) low made c later cs refl h
    (λ e. order_next low made c later cs h l (λ lower k g. order_with lower made cs later k g
    (follow_rest made c later cs e f)))

-- ---- fields

abbrev HasOwnOne : ChangeData → Type 0
HasOwnOne (create temp class fields) = HasOwnFields fields
HasOwnOne (update rid version fields) = HasOwnFields fields
HasOwnOne (delete rid version) = Unit {0}
HasOwnOne (touch rid version) = Unit {0}

own_merged : (c later : ChangeData) (cs : List ChangeData) → HasOwn (c ∷ cs) → HasOwnOne later
    → HasOwn (merged c later ++ cs)
own_merged (create a b d) (create x y z) cs h k = h
own_merged (create a b d) (update x y z) cs h k = (k, h.1)
own_merged (create a b d) (delete x y) cs h k = h.1
own_merged (create a b d) (touch x y) cs h k = h
own_merged (update a b d) (create x y z) cs h k = h
own_merged (update a b d) (update x y z) cs h k = (k, h.1)
own_merged (update a b d) (delete x y) cs h k = h.1
own_merged (update a b d) (touch x y) cs h k = h
own_merged (delete a b) later cs h k = h
own_merged (touch a b) (create x y z) cs h k = h
own_merged (touch a b) (update x y z) cs h k = (k, h)
own_merged (touch a b) (delete x y) cs h k = h
own_merged (touch a b) (touch x y) cs h k = h

own_end : (later : ChangeData) → HasOwnOne later → HasOwn (later ∷ [])
own_end (create x y z) k = (k, tt)
own_end (update x y z) k = (k, tt)
own_end (delete x y) k = tt
own_end (touch x y) k = tt

own_next : (c : ChangeData) (cs ds : List ChangeData) → HasOwn (c ∷ cs) → (HasOwn cs → HasOwn ds) → HasOwn (c ∷ ds)
own_next (create x y z) cs ds h k = (h.0, k h.1)
own_next (update x y z) cs ds h k = (h.0, k h.1)
own_next (delete x y) cs ds h k = k h
own_next (touch x y) cs ds h k = k h

own_at : (b : Bool) (c later : ChangeData) (cs : List ChangeData) → HasOwn (merged c later ++ cs)
    → HasOwn (c ∷ with_change cs later) → HasOwn (cond b (merged c later ++ cs) (c ∷ with_change cs later))
own_at true c later cs h k = h
own_at false c later cs h k = k

own_with : (cs : List ChangeData) (later : ChangeData) → HasOwn cs → HasOwnOne later → HasOwn (with_change cs later)
own_with [] later h k = own_end later k
own_with (c ∷ cs) later h k = own_at (same_rid (target later) (target c)) c later cs (own_merged c later cs h k)
    (own_next c cs (with_change cs later) h (λ g. own_with cs later g k))

-- ---- formed

can_follow : (tx : TxData) (c : ChangeData) → CanAdd tx c → CanFollow tx.made tx.changes c
can_follow tx (create temp class fields) h = h.0
can_follow tx (update rid version fields) h = h.0.1
can_follow tx (delete rid version) h = h.1
can_follow tx (touch rid version) h = h.1

own_one : (tx : TxData) (c : ChangeData) → CanAdd tx c → HasOwnOne c
own_one tx (create temp class fields) h = h.1
own_one tx (update rid version fields) h = h.1
own_one tx (delete rid version) h = tt
own_one tx (touch rid version) h = tt

formed_one : (tx : TxData) (c : ChangeData) → IsFormed tx → CanAdd tx c → IsFormed (with_one tx c)
formed_one tx c h can = record {
  one_each = one_with tx.changes c h.one_each;
  in_order = order_with 0 tx.made tx.changes c (omega arith) h.in_order (can_follow tx c can);
  own = own_with tx.changes c h.own (own_one tx c can);
}

pub formed_staged : (tx : TxData) (cs : List ChangeData) → IsFormed tx → CanStage tx cs → IsFormed (staged tx cs)
formed_staged tx [] h can = h
formed_staged tx (c ∷ cs) h can = formed_staged (with_one tx c) cs (formed_one tx c h can.0) can.1

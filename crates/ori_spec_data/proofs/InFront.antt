-- What changes create and delete, with one more in front.
use Rattle.std.proofs.Common.{◌≡◌, Bool, true, false, ◌||◌, List, [], ◌∷◌, refl, sym}
use Rattle.std.proofs.lemmas.Bool.{false≢true}
use Rattle.ori_bytes.specs.declared.rid.Rid.{Rid}
use Rattle.ori_spec_data.specs.Base.{ChangeData, create, update, delete, touch}
use Rattle.ori_spec_data.specs.Apply.{same_rid, target, IsUntouched}
use Rattle.ori_spec_data.specs.Refusing.{creates}
use Rattle.ori_spec_data.specs.Staging.{deletes}
use Rattle.ori_spec_data.proofs.Rids.{apart_back}

pub neither : (a b : Bool) → a ≡ false → b ≡ false → (a || b) ≡ false
neither true b h k = absurd (false≢true (sym h))
neither false b h k = k

pub or_right : (a b : Bool) → b ≡ true → (a || b) ≡ true
or_right true b h = refl
or_right false b h = h

pub untouched_undeleted : (cs : List ChangeData) (rid : Rid) → IsUntouched rid cs → deletes cs rid ≡ false
untouched_undeleted [] rid h = refl
untouched_undeleted (create temp class fields ∷ cs) rid h = untouched_undeleted cs rid h.1
untouched_undeleted (update other version fields ∷ cs) rid h = untouched_undeleted cs rid h.1
untouched_undeleted (delete other version ∷ cs) rid h =
    neither (same_rid other rid) (deletes cs rid) (apart_back rid other h.0) (untouched_undeleted cs rid h.1)
untouched_undeleted (touch other version ∷ cs) rid h = untouched_undeleted cs rid h.1

pub undeleted_next : (c : ChangeData) (cs : List ChangeData) (rid : Rid) → same_rid rid (target c) ≡ false
    → deletes cs rid ≡ false → deletes (c ∷ cs) rid ≡ false
undeleted_next (create temp class fields) cs rid e h = h
undeleted_next (update other version fields) cs rid e h = h
undeleted_next (delete other version) cs rid e h =
    neither (same_rid other rid) (deletes cs rid) (apart_back rid other e) h
undeleted_next (touch other version) cs rid e h = h

pub made_next : (c : ChangeData) (cs : List ChangeData) (rid : Rid) → creates cs rid ≡ true
    → creates (c ∷ cs) rid ≡ true
made_next (create temp class fields) cs rid h = or_right (same_rid temp rid) (creates cs rid) h
made_next (update other version fields) cs rid h = h
made_next (delete other version) cs rid h = h
made_next (touch other version) cs rid h = h

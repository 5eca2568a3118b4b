use Rattle.std.proofs.Common.{◌≡◌, ℕ, true, ◌&&◌, IsTrue, List, [], codes, refl, sym, ap, subst, ◌∙◌, arith}
use Rattle.ori_bytes.specs.declared.rid.Rid.{Rid}
use Rattle.ori_bytes.specs.Varint.{groups_of}
use Rattle.ori_spec_data.specs.Apply.{are_proper}
use Rattle.ori_spec_data.specs.Base.{RecordData}
use Rattle.ori_spec_data.specs.Fields.{put}
use Rattle.ori_spec_data.specs.Value.{Trees, Fields, embedded_list, no_pairs, pair}
use Rattle.ori_record.specs.declared.bag_field.BagField.{BagField}
use Rattle.ori_record.specs.Writable.{IsWritable, ItemsHavePlaces}
use Rattle.ori_tests.proofs.tests.depths.written.Goals as goal

abbrev of : Rid → List ℕ → Fields → RecordData
of rid class fields = record { rid = rid; version = 1; class = class; fields = fields }

-- one field, which is a list
holds : (rid : Rid) (items : Trees) → IsTrue (are_proper items) → ItemsHavePlaces items
    → IsWritable (of rid (codes "Doc") (pair (codes "a") (embedded_list items) no_pairs)) []
unfolding groups_of
holds rid items proper placed = record {
  named = refl;
  no_bags = (refl, tt);
  proper = ap (λ b. b && true) proper;
  fit = tt;
  placed = (omega arith, placed, tt);
}

-- however its parts were made
writable : (rid : Rid) (items : Trees) (class name : List ℕ) (fields old : Fields) (bags : List BagField)
    → old ≡ no_pairs → name ≡ codes "a" → fields ≡ put name (embedded_list items) old → class ≡ codes "Doc"
    → bags ≡ [] → IsTrue (are_proper items) → ItemsHavePlaces items → IsWritable (of rid class fields) bags
writable rid items class name fields old bags none named set classed no_bags proper placed =
    let is : fields ≡ put (codes "a") (embedded_list items) no_pairs
    = set ∙ ap (λ o. put name (embedded_list items) o) none
    ∙ ap (λ n. put n (embedded_list items) no_pairs) named in
    subst (λ (bs : List BagField). IsWritable (of rid class fields) bs) (sym no_bags)
    (subst (λ (fs : Fields). IsWritable (of rid class fs) []) (sym is)
    (subst (λ (cl : List ℕ). IsWritable (of rid cl (put (codes "a") (embedded_list items) no_pairs)) [])
    (sym classed) (holds rid items proper placed)))

pub write-requires : goal.write-requires
write-requires c =
    writable _ c.in_ok-nested.field-0 _ _ _ _ _ c.new-fields.ensures c.in_ok-from_str.ensures
    c.in_ok-set.ensures.ok c.in_ok-from_str-2.ensures c.new.ensures c.in_ok-nested.ensures.0
    c.in_ok-nested.ensures.1

use Rattle.std.proofs.Common.{◌+◌, ◌-◌, ◌<◌, ℕ, ltb, List, [], length, map, Option, sym, ap, ◌∙◌, subst, arith}
use Rattle.std.specs.List.{AllByRecursion}
use Rattle.ori_bytes.specs.declared.limits.TheConstants.{MAX_PAGES}
use Rattle.ori_spec_data.specs.Base.{RecordData}
use Rattle.ori_model.specs.Data.{tx_of}
use Rattle.ori_rows.specs.Outcomes.{put_all_in, IsWritable}
use Rattle.ori_rows.specs.Images.{AreAllImages}
use Rattle.ori_table.specs.declared.outcome.Outcome.{Outcome}
use Rattle.ori_table.specs.Kept.{rows_of}
use Rattle.ori_table.specs.Data.{outcomes_data, placed}
use Rattle.ori_table.proofs.Laying.{rows_length}
use Rattle.ori_table.proofs.LaidOut as laid
use Rattle.ori_table.proofs.table.Table.laid_out.Goals as goal

pub overflow_cast-next : goal.overflow_cast-next
overflow_cast-next c =
    let rows = rows_of c.args.self.now.0 in
    let tx = tx_of c.args.tx.now in
    let next = laid.next_of rows tx c.keeps.ensures c.requires.formed c.requires.allowed c.len-len.result
    (length c.as_slice.result.now) c.args.decided.fresh (c.len-len.ensures.count ∙ sym (rows_length c.args.self.now.0))
    c.requires.decided.fresh_is (ap (λ l. length l) c.as_slice.ensures) in
    omega (arith, next, laid.within rows tx c.keeps.ensures c.requires.formed c.requires.allowed)

pub overflow_add-next-2 : goal.overflow_add-next-2
overflow_add-next-2 c =
    let rows = rows_of c.args.self.now.0 in
    let tx = tx_of c.args.tx.now in
    let next = laid.next_of rows tx c.keeps.ensures c.requires.formed c.requires.allowed c.len-len.result
    (length c.as_slice.result.now) c.args.decided.fresh (c.len-len.ensures.count ∙ sym (rows_length c.args.self.now.0))
    c.requires.decided.fresh_is (ap (λ l. length l) c.as_slice.ensures) in
    omega (arith, next, laid.within rows tx c.keeps.ensures c.requires.formed c.requires.allowed)

pub images_of-requires-clause-writable : goal.images_of-requires-clause-writable
images_of-requires-clause-writable c =
    let rows = rows_of c.args.self.now.0 in
    let tx = tx_of c.args.tx.now in
    let next = laid.next_of rows tx c.keeps.ensures c.requires.formed c.requires.allowed c.len-len.result
    (length c.as_slice.result.now) c.args.decided.fresh (c.len-len.ensures.count ∙ sym (rows_length c.args.self.now.0))
    c.requires.decided.fresh_is (ap (λ l. length l) c.as_slice.ensures) in
    let outs = c.in_ok-sort_by_place.ensures ∙ ap (put_all_in []) (c.in_ok-outcomes.ensures
    ∙ ap (map placed) c.requires.decided.written ∙ laid.outs_of rows tx c.keeps.ensures c.requires.formed
    c.requires.allowed) in
    subst (λ (l : List Outcome). AllByRecursion IsWritable (outcomes_data l)) (sym c.deref.ensures.value)
    (laid.can_write rows tx c.keeps.ensures c.requires.formed c.requires.allowed _ (outcomes_data
    c.sort_by_place.new.outcomes.items) next outs)

pub images_of-requires-clause-few : goal.images_of-requires-clause-few
images_of-requires-clause-few c =
    let rows = rows_of c.args.self.now.0 in
    let tx = tx_of c.args.tx.now in
    let next = laid.next_of rows tx c.keeps.ensures c.requires.formed c.requires.allowed c.len-len.result
    (length c.as_slice.result.now) c.args.decided.fresh (c.len-len.ensures.count ∙ sym (rows_length c.args.self.now.0))
    c.requires.decided.fresh_is (ap (λ l. length l) c.as_slice.ensures) in
    let outs = c.in_ok-sort_by_place.ensures ∙ ap (put_all_in []) (c.in_ok-outcomes.ensures
    ∙ ap (map placed) c.requires.decided.written ∙ laid.outs_of rows tx c.keeps.ensures c.requires.formed
    c.requires.allowed) in
    subst (λ (l : List Outcome). AllByRecursion (λ (x : ℕ × Option RecordData). x.0 < MAX_PAGES - 1) (outcomes_data l))
    (sym c.deref.ensures.value)
    (laid.few rows tx c.keeps.ensures c.requires.formed c.requires.allowed _ (outcomes_data
    c.sort_by_place.new.outcomes.items) next outs)

pub returns : goal.returns
returns c =
    let rows = rows_of c.args.self.now.0 in
    let tx = tx_of c.args.tx.now in
    let long = c.len-len.ensures.count ∙ sym (rows_length c.args.self.now.0) in
    let next = laid.next_of rows tx c.keeps.ensures c.requires.formed c.requires.allowed c.len-len.result
    (length c.as_slice.result.now) c.args.decided.fresh long c.requires.decided.fresh_is (ap (λ l. length l)
    c.as_slice.ensures) in
    let outs = c.in_ok-sort_by_place.ensures ∙ ap (put_all_in []) (c.in_ok-outcomes.ensures
    ∙ ap (map placed) c.requires.decided.written ∙ laid.outs_of rows tx c.keeps.ensures c.requires.formed
    c.requires.allowed) in
    let count = c.len-len.result + length c.as_slice.result.now in
    let here = subst (λ (l : List Outcome). AreAllImages (ltb c.len-len.result count) (count + 1) (outcomes_data l)
    c.in_ok-images.images)
    c.deref.ensures.value c.in_ok-images.ensures in
    let are = subst (λ (m : ℕ). AreAllImages (ltb m count) (count + 1) (outcomes_data
    c.sort_by_place.new.outcomes.items)
    c.in_ok-images.images) long here in
    let s = laid.whole rows tx c.keeps.ensures c.requires.formed c.requires.allowed count
    (outcomes_data c.sort_by_place.new.outcomes.items) next outs c.in_ok-images.images are in
    record {
      allowed = c.requires.allowed;
      fresh_is = c.requires.decided.fresh_is;
      made = s.made;
      changes = s.changes;
      count = s.count;
      some = s.some;
      few = s.few;
      rising = s.rising;
      in_use = s.in_use;
      light = s.light;
      room = s.room;
      can_lay = s.can_lay;
    }

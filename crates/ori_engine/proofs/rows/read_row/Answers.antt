use Rattle.std.proofs.Common.{◌≡◌, ◌<◌, List, [], length, subst, ap, ◌∙◌, rules, Err}
use Rattle.ori_spec_data.specs.Apply.{rid_at}
use Rattle.ori_rows.specs.Stage.{record_page}
use Rattle.ori_model.specs.Data.{record_of}
use Rattle.ori_record.specs.declared.bag_field.BagField.{BagField}
use Rattle.ori_record.specs.declared.fault.RecordFault.{RecordFault}
use Rattle.ori_record.specs.Spelling.{Spells}
use Rattle.ori_paged.proofs.RecordForms.{no_items}
use Rattle.ori_engine.proofs.ReadRows.{none_unspelled, none_unpaged, none_bagged, no_bags}
use Rattle.ori_engine.proofs.rows.read_row.Goals as goal

pub returns-in_err-spelling-clause-none : goal.returns-in_err-spelling-clause-none
returns-in_err-spelling-clause-none c = λ e. none_unpaged c.args.page.now (c.in_err-spelling.ensures.none (search
    (rules, e)))

pub returns-then-is_empty-clause-row : goal.returns-then-is_empty-clause-row
returns-then-is_empty-clause-row c =
    let none : length c.in_ok-spelling.spelling.now ≡ 0 = search rules in
    let empty = no_items c.in_ok-spelling.spelling.now none in
    record { has = c.in_ok-spelling.ensures.page ∙ ap record_page empty; at = tt; own = tt }

pub returns-then-not-is_empty-clause-none : goal.returns-then-not-is_empty-clause-none
returns-then-not-is_empty-clause-none c = λ e.
    let some : 0 < length c.in_ok-spelling.spelling.now = search rules in
    let bagged : 0 < length c.in-Ok.bags = search rules in
    none_bagged c.args.page.now c.in_ok-spelling.spelling.now (record_of c.in-Ok.stored) c.in-Ok.bags
    c.in_ok-spelling.ensures.one some c.in-Ok.ensures.ok.1 bagged

pub returns-else-not-is_empty-clause-row : goal.returns-else-not-is_empty-clause-row
returns-else-not-is_empty-clause-row c =
    let here : c.in-Ok.stored.rid ≡ rid_at 1 c.args.place = search rules in
    let empty : length c.in-Ok.bags ≡ 0 = search rules in
    let plain = subst (λ (bags : List BagField). Spells c.in_ok-spelling.spelling.now (record_of c.in-Ok.stored) bags)
    (no_bags c.in-Ok.bags empty) c.in-Ok.ensures.ok.1 in
    record {
      has = (c.in_ok-spelling.spelling.now, plain, c.in_ok-spelling.ensures.page);
      at = (here, tt);
      own = (
        c.spelled_record.ensures.own c.in_ok-spelling.spelling.now (record_of c.in-Ok.stored) [] plain,
        tt,
      );
    }

pub returns-in-Err-NotRecord-clause-none : goal.returns-in-Err-NotRecord-clause-none
returns-in-Err-NotRecord-clause-none c = λ e.
    let some : 0 < length c.in_ok-spelling.spelling.now = search rules in
    none_unspelled c.args.page.now c.in_ok-spelling.spelling.now c.in_ok-spelling.ensures.one some
    (λ r h. c.in-Err-NotRecord.ensures.none (ap (λ (x : RecordFault). Err x) c.in-Err-NotRecord.field-0-is) r [] h)

use Rattle.std.proofs.Common.{List, map, ap, ◌∙◌, arith}
use Rattle.std.specs.List.{position_or_len}
use Rattle.std.proofs.lemmas.List.{length-map}
use Rattle.ori_spec_data.specs.Base.{RecordData}
use Rattle.ori_spec_data.specs.Apply.{comes_before}
use Rattle.ori_model.specs.declared.record.Stored.{Stored}
use Rattle.ori_model.specs.Data.{record_of}
use Rattle.ori_decide.proofs.Applied.{at_most_len, put_at}
use Rattle.ori_decide.proofs.applying.put.Goals as goal

pub insert-requires : goal.insert-requires
insert-requires c =
    let at = c.place_among-at.ensures ∙ ap (λ (xs : List Stored). position_or_len (λ (s : RecordData). comes_before
    c.args.stored.rid s.rid) (map record_of xs)) c.as_slice.ensures.value in
    omega (
      arith,
      at,
      at_most_len (λ (s : RecordData). comes_before c.args.stored.rid s.rid) (map record_of
          c.args.records.now.items),
      length-map c.args.records.now.items record_of,
      c.args.records.now.ok.0,
    )

pub returns : goal.returns
returns c =
    let at = c.place_among-at.ensures ∙ ap (λ (xs : List Stored). position_or_len (λ (s : RecordData). comes_before
    c.args.stored.rid s.rid) (map record_of xs)) c.as_slice.ensures.value in
    ap (map record_of) c.in_ok-insert.ensures.items ∙ put_at c.args.records.now.items c.place_among-at.result
    c.args.stored at

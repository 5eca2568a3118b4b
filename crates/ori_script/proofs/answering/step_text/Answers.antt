use Rattle.std.proofs.Common.{◌≡◌, ◌++◌, IfOk, refl, sym, ap, ◌∙◌, subst, List, Option, Some, []}
use Rattle.std.specs.Prelude.{unwrap_or}
use Rattle.ori_spec_data.specs.Base.{EntryData}
use Rattle.ori_spec_texts.specs.Line.{step, flush, settle, checkpoint, bag, check}
use Rattle.ori_spec_texts.specs.Reply.{history_text}
use Rattle.ori_model.specs.Data.{entries_of}
use Rattle.ori_text.specs.declared.line.StepLine.{StepLine}
use Rattle.ori_text.specs.LineReading.{step_of}
use Rattle.ori_script.specs.Pasts.{earlier_of}
use Rattle.ori_script.specs.Keeping.{store_behind, KeptData, Answers}
use Rattle.ori_script.proofs.Lines.{printed_so, unbuilt_step, history_step}
use Rattle.ori_script.proofs.answering.step_text.Goals as goal

pub returns-in-Flush-clause-answered : goal.returns-in-Flush-clause-answered
returns-in-Flush-clause-answered g c = λ sessions.
    let e = earlier_of c.args.past.now in
    let old : KeptData = record {
      store = store_behind e (g.D.Reader.state c.args.database.now) (g.D.Reader.causes c.args.database.now);
      sessions = sessions;
    } in
    let new : KeptData = record {
      store = store_behind e (g.D.Reader.state c.flush_text.new.database) (g.D.Reader.causes c.flush_text.new.database);
      sessions = sessions;
    } in
    subst (λ (l : StepLine). Answers old (step (step_of l)) c.to_print-in-Flush.result new) (sym c.in-Flush.is)
    (rw c.to_print-in-Flush.ensures (printed_so old (step (flush c.in-Flush.part)) c.flush_text.result new
    (c.flush_text.ensures.answered e sessions)))

pub returns-in-Flush-clause-ready : goal.returns-in-Flush-clause-ready
returns-in-Flush-clause-ready g c = c.flush_text.ensures.ready c.args.past.now

pub returns-in-Settle-clause-answered : goal.returns-in-Settle-clause-answered
returns-in-Settle-clause-answered g c = λ sessions.
    let e = earlier_of c.args.past.now in
    let old : KeptData = record {
      store = store_behind e (g.D.Reader.state c.args.database.now) (g.D.Reader.causes c.args.database.now);
      sessions = sessions;
    } in
    let new : KeptData = record {
      store = store_behind e (g.D.Reader.state c.settle_text.new.database)
          (g.D.Reader.causes c.settle_text.new.database);
      sessions = sessions;
    } in
    subst (λ (l : StepLine). Answers old (step (step_of l)) c.to_print-in-Settle.result new) (sym c.in-Settle.is)
    (rw c.to_print-in-Settle.ensures (printed_so old (step settle) c.settle_text.result new
    (c.settle_text.ensures.answered e sessions)))

pub returns-in-Settle-clause-ready : goal.returns-in-Settle-clause-ready
returns-in-Settle-clause-ready g c = c.settle_text.ensures.ready c.args.past.now

pub returns-in-Checkpoint-clause-answered : goal.returns-in-Checkpoint-clause-answered
returns-in-Checkpoint-clause-answered g c = λ sessions.
    let e = earlier_of c.args.past.now in
    let old : KeptData = record {
      store = store_behind e (g.D.Reader.state c.args.database.now) (g.D.Reader.causes c.args.database.now);
      sessions = sessions;
    } in
    let new : KeptData = record {
      store = store_behind e (g.D.Reader.state c.checkpoint_text.new.database)
          (g.D.Reader.causes c.checkpoint_text.new.database);
      sessions = sessions;
    } in
    subst (λ (l : StepLine). Answers old (step (step_of l)) c.to_print-in-Checkpoint.result new)
    (sym c.in-Checkpoint.is)
    (rw c.to_print-in-Checkpoint.ensures (printed_so old (step checkpoint) c.checkpoint_text.result new
    (c.checkpoint_text.ensures.answered e sessions)))

pub returns-in-Checkpoint-clause-ready : goal.returns-in-Checkpoint-clause-ready
returns-in-Checkpoint-clause-ready g c = c.checkpoint_text.ensures.ready c.args.past.now

pub returns-in-Bag-clause-answered : goal.returns-in-Bag-clause-answered
returns-in-Bag-clause-answered g c = λ sessions.
    let kept : KeptData = record {
      store = store_behind (earlier_of c.args.past.now) (g.D.Reader.state c.args.database.now)
          (g.D.Reader.causes c.args.database.now);
      sessions = sessions;
    } in
    subst (λ (l : StepLine). Answers kept (step (step_of l)) c.to_print-in-Bag.result kept) (sym c.in-Bag.is)
    (rw c.to_print-in-Bag.ensures (unbuilt_step _ kept c.step_refusal_text.result (λ run. (refl, refl)) refl
    c.step_refusal_text.ensures))

pub returns-in-Check-clause-answered : goal.returns-in-Check-clause-answered
returns-in-Check-clause-answered g c = λ sessions.
    let kept : KeptData = record {
      store = store_behind (earlier_of c.args.past.now) (g.D.Reader.state c.args.database.now)
          (g.D.Reader.causes c.args.database.now);
      sessions = sessions;
    } in
    subst (λ (l : StepLine). Answers kept (step (step_of l)) c.to_print-in-Check.result kept) (sym c.in-Check.is)
    (rw c.to_print-in-Check.ensures (unbuilt_step _ kept c.step_refusal_text-in-Check.result (λ run. (refl, refl)) refl
    c.step_refusal_text-in-Check.ensures))

pub returns-in-History-clause-answered : goal.returns-in-History-clause-answered
returns-in-History-clause-answered g c = λ sessions.
    let kept : KeptData = record {
      store = store_behind (earlier_of c.args.past.now) (g.D.Reader.state c.args.database.now)
          (g.D.Reader.causes c.args.database.now);
      sessions = sessions;
    } in
    let feed : unwrap_or (g.D.Reader.state c.args.database.now).feed [] ≡ entries_of c.entries-in-History.result.now =
    ap (λ (o : Option (List EntryData)). unwrap_or o []) c.entries-in-History.ensures in
    let is = subst (λ (es : List EntryData). IfOk c.history_text.result (λ t. t ≡ history_text (es ++ entries_of
    c.entries-in-History.result.now))) c.entries.ensures c.history_text.ensures in
    let is_all = subst (λ (es : List EntryData). IfOk c.history_text.result (λ t. t ≡ history_text
    ((earlier_of c.args.past.now).entries ++ es))) (sym feed) is in
    subst (λ (l : StepLine). Answers kept (step (step_of l)) c.to_print.result kept) (sym c.in-History.is)
    (rw c.to_print.ensures (history_step kept c.history_text.result is_all))

pub returns-in-Reopen-clause-answered : goal.returns-in-Reopen-clause-answered
returns-in-Reopen-clause-answered g c = λ sessions.
    (ap (λ (l : StepLine). step (step_of l)) c.in-Reopen.is, refl)

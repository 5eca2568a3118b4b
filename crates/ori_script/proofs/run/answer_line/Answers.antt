use Rattle.std.proofs.Common.{◌≡◌, [], refl, sym, ◌∙◌, inl, inr}
use Rattle.std.proofs.lemmas.List.{append-nil}
use Rattle.ori_volume.proofs.Pieces.{gave_nothing}
use Rattle.ori_spec_texts.specs.Reply.{answer_text}
use Rattle.ori_script.proofs.run.answer_line.Goals as goal

pub returns-in-Err-clause-answered : goal.returns-in-Err-clause-answered
returns-in-Err-clause-answered g c =
    let a = c.in-Err.ensures.answered in
    record {
      answer = a.answer;
      stepped = a.stepped;
      output = [];
      unprinted = answer_text a.answer;
      text = refl;
      gave = gave_nothing _;
      printed = inl refl;
    }

pub returns-in-Ok-None-clause-answered : goal.returns-in-Ok-None-clause-answered
returns-in-Ok-None-clause-answered g c =
    let a = rw c.in-Ok-None.field-0-is at c.in-Ok-None.ensures.answered in (a.0, refl, a.1)

pub returns-in-Ok-clause-answered : goal.returns-in-Ok-clause-answered
returns-in-Ok-clause-answered g c =
    let a = rw c.in-Ok-Some.field-0-is at c.in-Ok-Some.ensures.answered in
    let text : answer_text a.answer ≡ c.as_str.result.now = sym (c.as_str.ensures ∙ a.text_is) in
    record {
      answer = a.answer;
      stepped = a.stepped;
      output = c.as_str.result.now;
      unprinted = [];
      text = text ∙ sym (append-nil c.as_str.result.now);
      gave = c.in-Ok.ensures.ok;
      printed = refl;
    }

pub returns-clause-answered : goal.returns-clause-answered
returns-clause-answered g c =
    let a = rw c.in-Ok-Some.field-0-is at c.in-Ok-Some.ensures.answered in
    let text : answer_text a.answer ≡ c.as_str.result.now = sym (c.as_str.ensures ∙ a.text_is) in
    let p = c.in-Err-print.ensures.err in
    record {
      answer = a.answer;
      stepped = a.stepped;
      output = p.part;
      unprinted = p.left;
      text = text ∙ p.parts;
      gave = p.gave;
      printed = inr refl;
    }

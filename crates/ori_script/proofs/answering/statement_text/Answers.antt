use Rattle.std.proofs.Common.{[], ◌∷◌, refl}
use Rattle.ori_spec_texts.specs.Reply.{to_session}
use Rattle.ori_model.specs.Replies.{reply_of}
use Rattle.ori_script.proofs.Lines.{alone_text}
use Rattle.ori_script.proofs.answering.statement_text.Goals as goal

pub returns-clause-answered : goal.returns-clause-answered
returns-clause-answered g c = record {
  answer = to_session c.args.session (reply_of c.tell-reply.result ∷ []);
  stepped = c.tell-reply.ensures.stepped;
  text_is = alone_text c.args.session (reply_of c.tell-reply.result) c.reply_text.result
      (c.reply_text.ensures.plain refl);
}

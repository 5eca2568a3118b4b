use Rattle.std.proofs.Common.{◌≡◌, IfOk, refl, subst}
use Rattle.ori_spec_data.specs.Replies.{ReplyData, refused, unbuilt}
use Rattle.ori_spec_texts.specs.Reply.{reply_text}
use Rattle.ori_script.proofs.Lines.{alone_text}
use Rattle.ori_script.proofs.answering.tries_text.Goals as goal

pub returns : goal.returns
returns c =
    alone_text c.args.session (refused unbuilt) c.reply_text.result
    (subst (λ (r : ReplyData). IfOk c.reply_text.result (λ t. t ≡ reply_text c.args.session r))
    c.refusal_reply-reply.ensures (c.reply_text.ensures.plain refl))

use Rattle.std.proofs.Common.{◌∷◌, [], refl, sym, ap, subst}
use Rattle.ori_spec_data.specs.Replies.{ReplyData}
use Rattle.ori_spec_texts.specs.Line.{statement}
use Rattle.ori_spec_texts.specs.Reply.{to_session}
use Rattle.ori_script.specs.Keeping.{IsStepped, kept}
use Rattle.ori_script.proofs.Telling.{told_behind, wanting_behind, opening_so, ready_so}
use Rattle.ori_script.proofs.answering.tell.Goals as goal

pub returns-clause-stepped : goal.returns-clause-stepped
returns-clause-stepped g c =
    let done = c.exec-reply.ensures.done in
    told_behind _ _ c.make_room.ensures.same _ _ _ _ _ c.args.text.now _ _ c.args.session c.exec-reply.result done.left
    c.is_told.ensures.told c.is_told-2.ensures.told c.is_told-2.ensures.alone
    (g.met.D.Keeper.shows_base c.args.database.now) done.sessions done.executes

pub returns-clause-stays : goal.returns-clause-stays
returns-clause-stays g c =
    let done = c.exec-reply.ensures.done in
    record {
      sound = c.exec-reply.ensures.endures.sound;
      opening = opening_so c.args.session _ _ _ _ _ _ _ _ _ done.executes;
    }

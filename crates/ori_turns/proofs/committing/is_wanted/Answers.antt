use Rattle.std.proofs.Common.{◌∙◌, sym, ap, map}
use Rattle.ori_log.specs.Images.{image_data}
use Rattle.ori_turns.specs.Committed.{is_wanted}
use Rattle.ori_turns.proofs.Wanted.{any_named}
use Rattle.ori_turns.proofs.committing.is_wanted.Goals as goal

pub returns : goal.returns
returns c = c.is_named.ensures ∙ any_named c.args.part c.args.images.now
    ∙ sym (ap (λ b. is_wanted b (map image_data c.args.images.now) c.args.part) c.if-due.false)

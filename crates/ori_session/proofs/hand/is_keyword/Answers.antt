use Rattle.std.proofs.Common.{◌∙◌, refl}
use Rattle.ori_spec_texts.specs.Statement.{keywords}
use Rattle.ori_session.proofs.Letters.{capitals_match_any}
use Rattle.ori_session.proofs.hand.is_keyword.Goals as goal

pub returns : goal.returns
returns c = c.is_one_of.ensures ∙ capitals_match_any keywords c.args.name.now refl

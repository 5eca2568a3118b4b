use Rattle.std.proofs.Common.{[], ◌∷◌, codes, decimal}
use Rattle.ori_text.proofs.Printed.{as_told, four_joined}
use Rattle.ori_text.proofs.reply.json_line.Goals as goal

pub returns : goal.returns
returns c =
    as_told c.format.result _ _ _ c.format.ensures.ok
    (four_joined (decimal c.args.session) (codes " ROW ") c.args.json.now (10 ∷ []))

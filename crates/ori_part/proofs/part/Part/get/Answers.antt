use Rattle.std.proofs.Common.{ℕ, ◌≡◌, refl, ap, ◌∙◌}
use Rattle.ori_part.specs.Parts.{content_at}
use Rattle.ori_part.proofs.Looking.{looked_content}
use Rattle.ori_part.proofs.part.Part.get.Goals as goal

pub returns : goal.returns
returns c =
    let contents : (q : ℕ) → content_at c.look.new.self q ≡ content_at c.args.self.now q
    = λ q. ap (λ part. content_at part q) c.look.ensures ∙ looked_content c.args.self.now c.args.page q in (
      (refl, λ _. tt, record { order = c.look.ensures; contents = contents }),
      record { looked = tt; value = c.held.ensures ∙ contents c.args.page },
    )

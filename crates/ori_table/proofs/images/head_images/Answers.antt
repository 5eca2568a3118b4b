use Rattle.std.proofs.Common.{◌≡◌, Bool, List, [], ◌∷◌, sym, subst, IfOk}
use Rattle.std.specs.Prelude.{if◌then◌else◌}
use Rattle.ori_log.specs.Log.{ImageData}
use Rattle.ori_rows.specs.Images.{head_image}
use Rattle.ori_table.proofs.images.head_images.Goals as goal

pub returns-then-makes : goal.returns-then-makes
returns-then-makes c =
    let heads : Bool → List ImageData = λ b. if b then head_image c.args.count ∷ [] else [] in
    subst (λ (b : Bool). IfOk c.head_list.result (λ images. images ≡ heads b)) (sym c.if-makes.true) c.head_list.ensures

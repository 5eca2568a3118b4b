use Rattle.ori_table.specs.Data.{outcomes_data}
use Rattle.ori_table.proofs.Imaging.{all_images}
use Rattle.ori_table.proofs.images.images_of.Goals as goal

pub returns : goal.returns
returns c = all_images c.args.makes c.args.count (outcomes_data c.args.outcomes.now) c.in_ok-images.images
    c.add_images.new.images c.in_ok-images.ensures c.in_ok-add_images.ensures

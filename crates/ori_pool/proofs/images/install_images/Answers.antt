use Rattle.std.proofs.Common.{◌∙◌, ap}
use Rattle.ori_log.specs.Log.{last_image}
use Rattle.ori_cover.specs.Dirty.{installed_page}
use Rattle.ori_pool.proofs.Contents.{no_more_from}
use Rattle.ori_pool.proofs.images.install_images.Goals as goal

pub returns-clause-installed : goal.returns-clause-installed
returns-clause-installed c = λ others page.
    c.install_all.ensures.installed others page
    ∙ ap (installed_page (last_image page c.args.images)) (c.in-Ok.ensures.dirty others page)

pub returns-clause-contents : goal.returns-clause-contents
returns-clause-contents c =
    no_more_from c.args.images c.args.hand.now.parts.items c.reserve_all.new.hand.parts.items
    c.install_all.new.hand.parts.items c.in-Ok.ensures.contents c.install_all.ensures.contents

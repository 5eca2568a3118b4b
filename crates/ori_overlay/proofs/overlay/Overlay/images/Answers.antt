use Rattle.ori_overlay.specs.Changed.{Shows}
use Rattle.ori_overlay.proofs.Imaging.{all_put, all_rise}
use Rattle.ori_overlay.proofs.overlay.Overlay.images.Goals as goal

pub returns-clause-put : goal.returns-clause-put
returns-clause-put g c =
    all_put c.listed.result c.in_ok-pages.pages c.args.self.now.changes.count
    (λ base. g.S.PageSource.gives c.args.self.now.source base) (λ base pages. Shows c.args.self.now.changes base pages)
    c.args.self.now.changes.few c.listed.ensures.images c.listed.ensures.ordered c.in_ok-pages.ensures.over

pub returns-clause-rising : goal.returns-clause-rising
returns-clause-rising g c =
    all_rise c.listed.result c.in_ok-pages.pages c.args.self.now.changes.count c.args.self.now.changes.few
    c.in_ok-pages.ensures.within c.listed.ensures.images c.listed.ensures.ordered

use Rattle.std.proofs.Common.{List, ℕ, Ok, IfSome, subst}
use Rattle.ori_volume.specs.declared.failed.Failed.{Failed}
use Rattle.ori_volume.specs.Story.{Tells}
use Rattle.ori_part.specs.Parts.{place_at}
use Rattle.ori_cover.specs.Homes.{IsHome}
use Rattle.ori_cover.specs.Reading.{WritesHomeRead}
use Rattle.ori_cover.specs.Steps.{WritesHome}
use Rattle.ori_pool.proofs.Held.{same_content, marked_held}
use Rattle.ori_pool.proofs.flushing.flush.Goals as goal

pub returns-clause-crash : goal.returns-clause-crash
returns-clause-crash g c = λ content is.
    subst (λ (l : List ℕ). Tells (WritesHome {T = Unit {0}} {E = Failed} c.args.page l (Ok tt))
    (g.V.Volume.story c.args.device.now.volume) (g.V.Volume.story c.write_home.new.self.volume))
    (same_content (place_at c.args.part.now c.args.page) content c.in-Some.content.now is c.in-Some.ensures)
    c.in_ok-write_home.ensures.crash

pub returns-clause-marked : goal.returns-clause-marked
returns-clause-marked g c = λ content is.
    marked_held c.args.part.now c.mark_written.new.self c.args.page content c.in-Some.content.now is c.in-Some.ensures
    c.mark_written.ensures

pub returns-clause-read : goal.returns-clause-read
returns-clause-read g c = λ content is.
    subst (λ (l : List ℕ). Tells (WritesHomeRead {T = Unit {0}} {E = Failed} c.args.page l (Ok tt))
    (g.V.Volume.files c.args.device.now.volume) (g.V.Volume.files c.write_home.new.self.volume))
    (same_content (place_at c.args.part.now c.args.page) content c.in-Some.content.now is c.in-Some.ensures)
    c.in_ok-write_home.ensures.read

pub returns-clause-home : goal.returns-clause-home
returns-clause-home g c = λ content is.
    subst (λ (l : List ℕ). IfSome (g.V.Volume.files c.write_home.new.self.volume)
    (λ files. IsHome c.args.page l files.pages))
    (same_content (place_at c.args.part.now c.args.page) content c.in-Some.content.now is c.in-Some.ensures)
    c.in_ok-write_home.ensures.home

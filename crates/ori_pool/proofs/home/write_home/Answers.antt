use Rattle.std.proofs.Common.{List, ℕ, Option, None, Some, Result, Ok, Err}
use Rattle.std.proofs.Common.{IfSome, OnOk, ◌≡◌, ap, ◌∙◌, sym, subst, length, ◌*◌}
use Rattle.ori_bytes.specs.declared.limits.TheConstants.{PAGE_BYTES}
use Rattle.ori_volume.specs.declared.file.FileNo.TheVariants.{Pages}
use Rattle.ori_volume.specs.Disk.{Files}
use Rattle.ori_volume.specs.Story.{Writes, Tells, FilesWrite}
use Rattle.ori_volume.proofs.Known.{tells_map}
use Rattle.ori_cover.specs.Homes.{IsHome}
use Rattle.ori_cover.proofs.HomeSteps.{writes_home}
use Rattle.ori_cover.proofs.ReadSteps.{writes_home_read, bytes_home}
use Rattle.ori_pool.proofs.home.write_home.Goals as goal

pub returns-clause-crash : goal.returns-clause-crash
returns-clause-crash g c =
    tells_map _ _ _ _
    (λ old new told writes. writes_home c.args.page c.args.content.now c.write_at.result old new
    (ap length (sym c.bytes.ensures.value) ∙ c.bytes.ensures.whole)
    (g.met.V.Volume.reads_as_image c.args.volume.now old told)
    (subst (λ (l : List ℕ). Writes Pages (PAGE_BYTES * c.args.page) l c.write_at.result old new)
    c.bytes.ensures.value writes))
    c.write_at.ensures.story

pub returns-clause-read : goal.returns-clause-read
returns-clause-read g c =
    tells_map _ _ _ _
    (λ old new told writes. writes_home_read c.args.page c.args.content.now old new
    (ap length (sym c.bytes.ensures.value) ∙ c.bytes.ensures.whole) c.write_at.result
    (subst (λ (l : List ℕ). FilesWrite Pages (PAGE_BYTES * c.args.page) l c.write_at.result old new)
    c.bytes.ensures.value writes))
    c.write_at.ensures.files

home_told : {T E : Type 0} (page : ℕ) (content : List ℕ) (result : Result T E) (old new : Option Files)
    → length content ≡ PAGE_BYTES → Tells (FilesWrite Pages (PAGE_BYTES * page) content result) old new
    → OnOk result (IfSome new (λ files. IsHome page content files.pages))
home_told page content (Ok value) None new size told =
    subst (λ (o : Option Files). IfSome o (λ files. IsHome page content files.pages)) (sym told) tt
home_told {T} {E} page content (Ok value) (Some old) new size told =
    subst (λ (o : Option Files). IfSome o (λ files. IsHome page content files.pages)) (sym told.1)
    (bytes_home {E = E} page content old told.0 size (Ok value) told.2)
home_told page content (Err fault) old new size told = tt

pub returns-clause-home : goal.returns-clause-home
returns-clause-home g c =
    home_told c.args.page c.args.content.now c.write_at.result _ _
    (ap length (sym c.bytes.ensures.value) ∙ c.bytes.ensures.whole)
    (subst (λ (l : List ℕ). Tells (FilesWrite Pages (PAGE_BYTES * c.args.page) l c.write_at.result)
    (g.V.Volume.files c.args.volume.now) (g.V.Volume.files c.write_at.new.self)) c.bytes.ensures.value
    c.write_at.ensures.files)

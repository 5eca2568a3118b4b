use Rattle.std.proofs.Common.{arith}
use Rattle.std.proofs.lemmas.List.{nil_from_length}
use Rattle.ori_volume.specs.Disk.{files_of}
use Rattle.ori_log.specs.Measures.{Measures}
use Rattle.ori_log.specs.Opening.{IsNew}
use Rattle.ori_volume.proofs.Known.{some_told, some_then, tells_map}
use Rattle.ori_log.proofs.AttachStands.{new_stands}
use Rattle.ori_log.proofs.Attaching.{new_fails, new_done}
use Rattle.ori_log.proofs.attach.attach_new.Goals as goal

pub returns-in_err-make-clause-crash : goal.returns-in_err-make-clause-crash
returns-in_err-make-clause-crash g c =
    tells_map _ _ _ _
    (λ a b told makes.
    let measures : Measures c.args.sizes.now (files_of a.now.disk) =
    some_told (λ fs. Measures c.args.sizes.now fs) _ _ (g.met.V.Volume.tells_one c.args.volume.now a told).files_now
    c.requires.measured in
    let new : IsNew (files_of a.now.disk) =
    c.long_for_new.ensures.fits c.in_default.is (files_of a.now.disk) measures
    (nil_from_length _ (omega (arith, measures.master, c.requires.none))) in
    new_fails c.in_err-make.field-0.0 c.from_residual.result a b c.from_residual.ensures.0 new makes)
    c.in_err-make.ensures.crash

pub returns-clause-crash : goal.returns-clause-crash
returns-clause-crash g c =
    tells_map _ _ _ _
    (λ a b told makes.
    let measures : Measures c.args.sizes.now (files_of a.now.disk) =
    some_told (λ fs. Measures c.args.sizes.now fs) _ _ (g.met.V.Volume.tells_one c.args.volume.now a told).files_now
    c.requires.measured in
    let new : IsNew (files_of a.now.disk) =
    c.long_for_new.ensures.fits c.in_default.is (files_of a.now.disk) measures
    (nil_from_length _ (omega (arith, measures.master, c.requires.none))) in
    new_done c.at.result c.new.result a b new c.at.ensures.master c.at.ensures.file c.at.ensures.place
    c.at.ensures.tail c.at.ensures.length c.new.ensures makes)
    c.in_ok-make.ensures.crash

pub returns-clause-stands : goal.returns-clause-stands
returns-clause-stands g c =
    new_stands c.at.result _ _ c.at.ensures.master c.at.ensures.file c.at.ensures.place c.at.ensures.length
    (some_then _ (λ fs. Measures c.args.sizes.now fs) (λ fs. IsNew fs)
    (λ fs measures. c.long_for_new.ensures.fits c.in_default.is fs measures
    (nil_from_length _ (omega (arith, measures.master, c.requires.none)))) c.requires.measured)
    c.in_ok-make.ensures.files

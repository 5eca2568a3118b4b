use Rattle.std.proofs.Common.{ℕ, refl}
use Rattle.std.proofs.lemmas.Result.{on_ok_weaker, on_err_weaker}
use Rattle.ori_cover.specs.Views.{on_disk, as_read}
use Rattle.ori_cover.proofs.Views.{disk_laws, read_laws}
use Rattle.ori_pool.proofs.Contents.{no_more_then, no_more_from}
use Rattle.ori_pool.proofs.Operations.{commits_reserved, commits_none}
use Rattle.ori_pool.proofs.committing.commit_all.Goals as goal

pub returns-in_default-clause-operation : goal.returns-in_default-clause-operation
returns-in_default-clause-operation g c =
    commits_none on_disk disk_laws ℕ c.args.images _ _ _ _ _ _ _ c.requires.needs.attached refl refl
    c.in_default.ensures.dirty

pub returns-in_default-clause-read : goal.returns-in_default-clause-read
returns-in_default-clause-read g c =
    commits_none as_read read_laws ℕ c.args.images _ _ _ _ _ _ _ c.requires.needs.attached refl refl
    c.in_default.ensures.dirty

pub returns-clause-operation : goal.returns-clause-operation
returns-clause-operation g c =
    commits_reserved on_disk disk_laws c.args.images _ _ _ c.reserve_all.new.hand.parts.items _ _
    c.commit_placed.result _ _ c.in-Ok.ensures.dirty c.commit_placed.ensures.operation

pub returns-clause-read : goal.returns-clause-read
returns-clause-read g c =
    commits_reserved as_read read_laws c.args.images _ _ _ c.reserve_all.new.hand.parts.items _ _
    c.commit_placed.result _ _ c.in-Ok.ensures.dirty c.commit_placed.ensures.read

pub returns-clause-contents : goal.returns-clause-contents
returns-clause-contents g c =
    on_ok_weaker c.commit_placed.result
    (λ from. no_more_from c.args.images c.args.hand.now.parts.items c.reserve_all.new.hand.parts.items
    c.commit_placed.new.hand.parts.items c.in-Ok.ensures.contents from)
    c.commit_placed.ensures.contents

pub returns-clause-no_more : goal.returns-clause-no_more
returns-clause-no_more g c = on_err_weaker c.commit_placed.result
    (λ more. no_more_then c.args.hand.now.parts.items c.reserve_all.new.hand.parts.items
    c.commit_placed.new.hand.parts.items c.in-Ok.ensures.contents more) c.commit_placed.ensures.no_more

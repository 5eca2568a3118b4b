use Rattle.std.proofs.Common.{ℕ}
use Rattle.ori_cover.specs.Views.{on_disk, as_read}
use Rattle.ori_cover.proofs.Views.{disk_laws, read_laws}
use Rattle.ori_pool.proofs.Contents.{no_more_then, no_more_refl, no_more_held, from_held, trimmed_contents}
use Rattle.ori_pool.proofs.Operations.{commits_trimmed, dirty_then}
use Rattle.ori_pool.proofs.Settled.{trimmed_dirty, trimmed_own, trimmed_bare}
use Rattle.ori_pool.proofs.committing.commit.Goals as goal

pub returns-in-Err-clause-operation : goal.returns-in-Err-clause-operation
returns-in-Err-clause-operation g c = λ none.
    commits_trimmed on_disk disk_laws ℕ c.args.images _ _ _ _ _ _ c.in-Err.fault _ _
    (trimmed_dirty _ _ c.trim.ensures) c.in-Err.ensures.operation

pub returns-in-Err-clause-read : goal.returns-in-Err-clause-read
returns-in-Err-clause-read g c = λ none.
    commits_trimmed as_read read_laws ℕ c.args.images _ _ _ _ _ _ c.in-Err.fault _ _
    (trimmed_dirty _ _ c.trim.ensures) c.in-Err.ensures.read

pub returns-in-Err-clause-own : goal.returns-in-Err-clause-own
returns-in-Err-clause-own g c = trimmed_own _ _ c.trim.ensures c.in-Err.ensures.own

pub returns-in-Err-clause-dirty : goal.returns-in-Err-clause-dirty
returns-in-Err-clause-dirty g c =
    dirty_then _ _ _ _ (trimmed_dirty _ _ c.trim.ensures) c.in-Err.ensures.dirty

pub returns-in-Err-clause-trimmed : goal.returns-in-Err-clause-trimmed
returns-in-Err-clause-trimmed g c = λ none. trimmed_bare _ _ c.trim.ensures

pub returns-in-Some-clause-no_more : goal.returns-in-Some-clause-no_more
returns-in-Some-clause-no_more g c = no_more_refl _

pub returns-in-Err-clause-no_more : goal.returns-in-Err-clause-no_more
returns-in-Err-clause-no_more g c =
    no_more_then _ _ _ c.in-Err.ensures.no_more (trimmed_contents _ _ c.trim.ensures)

pub returns-in-Ok-clause-held : goal.returns-in-Ok-clause-held
returns-in-Ok-clause-held g c = from_held c.args.images _ _ c.in-Ok.ensures.contents

pub returns-in-Err-clause-held : goal.returns-in-Err-clause-held
returns-in-Err-clause-held g c =
    no_more_held _ _ (no_more_then _ _ _ c.in-Err.ensures.no_more (trimmed_contents _ _ c.trim.ensures))

use Rattle.std.proofs.Common.{ℕ, ap}
use Rattle.ori_cover.specs.Views.{on_disk, as_read}
use Rattle.ori_cover.proofs.Views.{disk_laws, read_laws}
use Rattle.ori_pool.specs.declared.fault.DeviceFault.{DeviceFault}
use Rattle.ori_pool.specs.declared.fault.TendFault.{TendFault}
use Rattle.ori_pool.proofs.Contents.{no_more_then, no_more_same, no_more_from, tended_contents}
use Rattle.ori_pool.proofs.Ended.{halted_then, fault_is}
use Rattle.ori_pool.proofs.Operations.{commits_done, commits_unput, commits_unmade}
use Rattle.ori_pool.proofs.Seen.{puts_disk, puts_read}
use Rattle.ori_pool.proofs.committing.commit_placed.Goals as goal

pub returns-in-Err-clause-operation : goal.returns-in-Err-clause-operation
returns-in-Err-clause-operation g c =
    commits_unmade on_disk disk_laws ℕ c.args.images _ _ _ _ _ c.in-Err.fault _ _ _ c.unmade.ensures
    c.in-Err.ensures.crash

pub returns-in-Err-clause-read : goal.returns-in-Err-clause-read
returns-in-Err-clause-read g c =
    commits_unmade as_read read_laws ℕ c.args.images _ _ _ _ _ c.in-Err.fault _ _ _ c.unmade.ensures
    c.in-Err.ensures.read

pub returns-in-Ok-clause-operation : goal.returns-in-Ok-clause-operation
returns-in-Ok-clause-operation g c =
    commits_done on_disk disk_laws c.args.images c.args.device.now.log c.make_room.new.device.log
    c.put.new.device.log c.args.hand.now.parts.items c.make_room.new.hand.parts.items c.put.new.hand.parts.items
    c.make_room.new.device.halted c.put.new.device.halted _ _ _ ℕ DeviceFault TendFault
    c.in-Ok.moment c.in-Ok.moment c.in-Ok.ensures.installed c.in_default.ensures.crash
    (puts_disk _ _ _ _ _ _ (c.in-Ok.ensures.crash c.in_default.ensures.halts))

pub returns-in-Ok-clause-read : goal.returns-in-Ok-clause-read
returns-in-Ok-clause-read g c =
    commits_done as_read read_laws c.args.images c.args.device.now.log c.make_room.new.device.log
    c.put.new.device.log c.args.hand.now.parts.items c.make_room.new.hand.parts.items c.put.new.hand.parts.items
    c.make_room.new.device.halted c.put.new.device.halted _ _ _ ℕ DeviceFault TendFault
    c.in-Ok.moment c.in-Ok.moment c.in-Ok.ensures.installed c.in_default.ensures.read
    (puts_read _ _ _ _ _ _ (c.in-Ok.ensures.read c.in_default.ensures.halts))

pub returns-in-Err-put-clause-operation : goal.returns-in-Err-put-clause-operation
returns-in-Err-put-clause-operation g c =
    commits_unput on_disk disk_laws c.args.images c.args.device.now.log c.make_room.new.device.log
    c.put.new.device.log c.args.hand.now.parts.items c.make_room.new.hand.parts.items c.put.new.hand.parts.items
    c.make_room.new.device.halted c.put.new.device.halted _ _ _ ℕ DeviceFault TendFault
    c.in-Err-put.fault _ _
    (c.refused.ensures.fault (fault_is ℕ _ _ _ c.in-Err-put.fault c.in_default.ensures.halts
    c.in-Err-put.ensures.answers.halts))
    (halted_then ℕ _ _ _ c.in-Err-put.fault c.in_default.ensures.halts c.in-Err-put.ensures.answers.halts)
    (ap (λ h. h.parts.items) c.in-Err-put.ensures.err) c.in_default.ensures.crash
    (puts_disk _ _ _ _ _ _ (c.in-Err-put.ensures.crash c.in_default.ensures.halts))

pub returns-in-Err-put-clause-read : goal.returns-in-Err-put-clause-read
returns-in-Err-put-clause-read g c =
    commits_unput as_read read_laws c.args.images c.args.device.now.log c.make_room.new.device.log
    c.put.new.device.log c.args.hand.now.parts.items c.make_room.new.hand.parts.items c.put.new.hand.parts.items
    c.make_room.new.device.halted c.put.new.device.halted _ _ _ ℕ DeviceFault TendFault
    c.in-Err-put.fault _ _
    (c.refused.ensures.fault (fault_is ℕ _ _ _ c.in-Err-put.fault c.in_default.ensures.halts
    c.in-Err-put.ensures.answers.halts))
    (halted_then ℕ _ _ _ c.in-Err-put.fault c.in_default.ensures.halts c.in-Err-put.ensures.answers.halts)
    (ap (λ h. h.parts.items) c.in-Err-put.ensures.err) c.in_default.ensures.read
    (puts_read _ _ _ _ _ _ (c.in-Err-put.ensures.read c.in_default.ensures.halts))

pub returns-in-Ok-clause-contents : goal.returns-in-Ok-clause-contents
returns-in-Ok-clause-contents g c =
    no_more_from c.args.images c.args.hand.now.parts.items c.make_room.new.hand.parts.items c.put.new.hand.parts.items
    (tended_contents _ _ c.in_default.ensures.tended) c.in-Ok.ensures.contents

pub returns-in-Err-clause-no_more : goal.returns-in-Err-clause-no_more
returns-in-Err-clause-no_more g c = tended_contents _ _ c.in-Err.ensures.tended

pub returns-in-Err-put-clause-no_more : goal.returns-in-Err-put-clause-no_more
returns-in-Err-put-clause-no_more g c =
    no_more_then _ _ _ (tended_contents _ _ c.in_default.ensures.tended)
    (no_more_same _ _ (ap (λ h. h.parts.items) c.in-Err-put.ensures.err))

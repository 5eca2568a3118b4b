use Rattle.ori_cover.specs.Views.{on_disk, as_read}
use Rattle.ori_cover.proofs.Views.{disk_laws, read_laws}
use Rattle.ori_pool.specs.declared.fault.TendFault.{TendFault}
use Rattle.ori_pool.proofs.Operations.{room_made, room_unmade, told_due}
use Rattle.ori_pool.proofs.committing.make_room.Goals as goal

pub returns-in-Ok-clause-crash : goal.returns-in-Ok-clause-crash
returns-in-Ok-clause-crash g c =
    room_made on_disk disk_laws TendFault _ _ _ _ _ c.in-Ok.field-0 _ _
    (told_due _ c.is_due.result c.is_due.ensures.value c.if-not-is_due.false) (c.in-Ok.ensures.crash c.requires.fine)

pub returns-in-Ok-clause-read : goal.returns-in-Ok-clause-read
returns-in-Ok-clause-read g c =
    room_made as_read read_laws TendFault _ _ _ _ _ c.in-Ok.field-0 _ _
    (told_due _ c.is_due.result c.is_due.ensures.value c.if-not-is_due.false) (c.in-Ok.ensures.read c.requires.fine)

pub returns-in-Err-clause-crash : goal.returns-in-Err-clause-crash
returns-in-Err-clause-crash g c =
    room_unmade on_disk disk_laws TendFault _ _ _ _ _ c.in-Err.fault _ _ (c.in-Err.ensures.crash c.requires.fine)

pub returns-in-Err-clause-read : goal.returns-in-Err-clause-read
returns-in-Err-clause-read g c =
    room_unmade as_read read_laws TendFault _ _ _ _ _ c.in-Err.fault _ _ (c.in-Err.ensures.read c.requires.fine)

use Rattle.ori_script.proofs.Rooms.{room_of}
use Rattle.ori_script.proofs.reopening.close.Goals as goal

pub returns-clause-room : goal.returns-clause-room
returns-clause-room g c =
    c.take.ensures.room _
    (room_of _ _ _ c.keeps.ensures c.end_volume-volume.result.feed c.end_volume-volume.ensures.feed c.requires.room)

use Rattle.ori_script.proofs.answering.make_room.Goals as goal

pub returns-clause-ready : goal.returns-clause-ready
returns-clause-ready g c = λ ready. record {
  room = c.make_room.ensures.stays _ ready.room;
  place = λ some. c.make_room.ensures.place_stays (ready.place some);
}

use Rattle.ori_engine.proofs.Seated.{tried_of}
use Rattle.ori_engine.proofs.starting.start_fault.Goals as goal

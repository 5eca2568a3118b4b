use Rattle.ori_script.proofs.Numbered.{AreBegun}
use Rattle.ori_script.proofs.sessions.Sessions.new.Given as goal

abbrev pub invariant-loop-place : goal.invariant-loop-place
invariant-loop-place l = AreBegun l.list.items l.place

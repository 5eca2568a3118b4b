use Rattle.ori_device_tests.specs.Ready.{IsReady}
use Rattle.ori_device_tests.proofs.tests.pool.script.Given as goal

abbrev pub invariant-loop-step : goal.invariant-loop-step
invariant-loop-step l = IsReady l.device.log l.hand.parts.items

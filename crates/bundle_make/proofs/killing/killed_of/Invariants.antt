use Rattle.bundle_make.proofs.KilledBelow.{AreKilledBelow}
use Rattle.bundle_make.proofs.killing.killed_of.Given as goal

abbrev pub invariant-loop-step : goal.invariant-loop-step
invariant-loop-step l = AreKilledBelow l.state l.killed.items l.step-index

use Rattle.bundle_check.proofs.FirstWrong.{AreRightBelow}
use Rattle.bundle_check.proofs.check.first_wrong.Given as goal

abbrev pub invariant-loop-number : goal.invariant-loop-number
invariant-loop-number l = AreRightBelow l.graphs.graphs l.claims l.number

use Rattle.proof_bundle.specs.Text.{IsDerived}
use Rattle.bundle_make.proofs.Each.{HoldBelow}
use Rattle.bundle_make.proofs.ranges.steps_fit.Given as goal

abbrev pub invariant-loop-row : goal.invariant-loop-row
invariant-loop-row l = HoldBelow IsDerived l.rows l.row-index

use Rattle.proof_bundle.specs.Text.{IsRow}
use Rattle.bundle_make.proofs.Each.{HoldBelow}
use Rattle.bundle_make.proofs.ranges.atoms_fit.Given as goal

abbrev pub invariant-loop-row : goal.invariant-loop-row
invariant-loop-row l = HoldBelow IsRow l.atoms l.row-index

use Rattle.proof_bundle.specs.Text.{IsMultiple}
use Rattle.bundle_make.proofs.Each.{HoldBelow}
use Rattle.bundle_make.proofs.ranges.multiples_fit.Given as goal

abbrev pub invariant-loop-part : goal.invariant-loop-part
invariant-loop-part l = HoldBelow IsMultiple l.parts l.part-index

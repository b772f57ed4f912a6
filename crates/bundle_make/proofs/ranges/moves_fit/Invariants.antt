use Rattle.proof_bundle.specs.Claims.{move_of}
use Rattle.proof_bundle.specs.declared.bundle.Move.{Move}
use Rattle.bundle_make.specs.steps.Ranges.{IsSizedMove}
use Rattle.bundle_make.proofs.Each.{HoldBelow}
use Rattle.bundle_make.proofs.ranges.moves_fit.Given as goal

abbrev pub invariant-loop-step : goal.invariant-loop-step
invariant-loop-step l = HoldBelow (λ (m : Move). IsSizedMove (move_of m)) l.moves l.step-index

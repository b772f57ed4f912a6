use Rattle.std.proofs.Common.{subst}
use Rattle.proof_bundle.specs.Claims.{move_of}
use Rattle.proof_bundle.specs.declared.bundle.Move.{Move}
use Rattle.bundle_make.specs.steps.Ranges.{IsSizedMove}
use Rattle.bundle_make.proofs.Each.{all_below, below_next}
use Rattle.bundle_make.proofs.ranges.moves_fit.Goals as goal

pub loop-step-preserved : goal.loop-step-preserved
loop-step-preserved c =
    below_next (λ (m : Move). IsSizedMove (move_of m)) c.args.moves.now c.loop-step.step-index c.step-item.result c.loop-step-test.true
    c.loop-step.invariant
    (subst (λ (m : Move). IsSizedMove (move_of m)) c.step-item.is c.move_fits.ensures)

pub returns : goal.returns
returns c = (
  c.well_formed.0.0,
  all_below (λ (m : Move). IsSizedMove (move_of m)) c.args.moves.now c.loop-step.step-index
      c.loop-step-test.false c.loop-step.invariant,
)

use Rattle.std.proofs.Common.{subst}
use Rattle.proof_bundle.specs.Text.{IsDerived}
use Rattle.bundle_make.proofs.Each.{all_below, below_next}
use Rattle.bundle_make.proofs.ranges.steps_fit.Goals as goal

pub loop-row-preserved : goal.loop-row-preserved
loop-row-preserved c =
    below_next IsDerived c.args.rows.now c.loop-row.row-index c.row-item.result c.loop-row-test.true c.loop-row.invariant
    (subst IsDerived c.row-item.is c.derived_fits.ensures)

pub returns : goal.returns
returns c = (c.well_formed.0.0, all_below IsDerived c.args.rows.now c.loop-row.row-index c.loop-row-test.false c.loop-row.invariant)

use Rattle.std.proofs.Common.{subst}
use Rattle.proof_bundle.specs.Text.{IsRow}
use Rattle.bundle_make.proofs.Each.{all_below, below_next}
use Rattle.bundle_make.proofs.ranges.atoms_fit.Goals as goal

pub loop-row-preserved : goal.loop-row-preserved
loop-row-preserved c =
    below_next IsRow c.args.atoms.now c.loop-row.row-index c.row-item.result c.loop-row-test.true c.loop-row.invariant
    (subst IsRow c.row-item.is c.row_fits.ensures)

pub returns : goal.returns
returns c = (c.well_formed.0.0, all_below IsRow c.args.atoms.now c.loop-row.row-index c.loop-row-test.false c.loop-row.invariant)

use Rattle.std.proofs.Common.{pos}
use Rattle.proof_bundle.specs.Text.{IsMultiple}
use Rattle.bundle_make.proofs.Each.{all_below, below_next}
use Rattle.bundle_make.proofs.ranges.multiples_fit.Goals as goal

pub loop-part-preserved : goal.loop-part-preserved
loop-part-preserved c =
    below_next IsMultiple c.args.parts.now c.loop-part.part-index (0, pos 0) c.loop-part-test.true c.loop-part.invariant
    c.multiple_fits.ensures

pub returns : goal.returns
returns c = (c.well_formed.0.0, all_below IsMultiple c.args.parts.now c.loop-part.part-index c.loop-part-test.false c.loop-part.invariant)

use Rattle.flow_build.proofs.PickRows.{multiple_less_passed}
use Rattle.flow_build.proofs.division.less_multiple.Goals as goal

pub weighted_row-requires : goal.weighted_row-requires
weighted_row-requires c = λ ha hb.
    multiple_less_passed c.args.k c.args.a c.args.t c.args.rest c.requires.magnitude c.ranges.rest c.requires.rest

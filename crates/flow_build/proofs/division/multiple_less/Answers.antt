use Rattle.flow_build.proofs.PickRows.{less_passed}
use Rattle.flow_build.proofs.division.multiple_less.Goals as goal

pub weighted_row-requires : goal.weighted_row-requires
weighted_row-requires c = λ ha hb. less_passed c.args.k c.args.t c.args.a c.args.rest c.requires.magnitude c.ranges.rest c.requires.rest

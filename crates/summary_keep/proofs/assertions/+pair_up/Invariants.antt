use Rattle.std.proofs.Common.{length}
use Rattle.summary_keep.proofs.assertions.+pair_up.Given as goal

abbrev pub decreases-pair_up : goal.decreases-pair_up
decreases-pair_up l = length l.olds.now

use Rattle.std.proofs.Common.{length}
use Rattle.punch_step.proofs.entry_points.+symbols_from.Given as goal

abbrev pub decreases-symbols_from : goal.decreases-symbols_from
decreases-symbols_from l = length l.values.now

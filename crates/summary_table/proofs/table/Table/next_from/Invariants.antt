use Rattle.std.proofs.Common.{length}
use Rattle.summary_table.proofs.Walks.{IsWalking, places_left}
use Rattle.summary_table.proofs.table.Table.next_from.Given as goal

abbrev pub invariant-loop-at : goal.invariant-loop-at
invariant-loop-at l = IsWalking l.self.summaries l.proc l.exit l.from l.at

abbrev pub decreases-loop-at : goal.decreases-loop-at
decreases-loop-at l = places_left (length l.self.summaries) l.at

use Rattle.std.proofs.Common.{length}
use Rattle.summary_table.proofs.Walks.{IsAsking, places_left}
use Rattle.summary_table.proofs.table.Table.answer.Given as goal

abbrev pub invariant-loop-at : goal.invariant-loop-at
invariant-loop-at l = IsAsking l.query l.self.summaries l.at l.limit

abbrev pub decreases-loop-at : goal.decreases-loop-at
decreases-loop-at l = places_left (length l.self.summaries) l.at

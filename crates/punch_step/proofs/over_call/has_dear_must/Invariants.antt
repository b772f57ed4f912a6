use Rattle.std.proofs.Common.{length}
use Rattle.summary_table.proofs.Walks.{IsWithin, places_left}
use Rattle.punch_step.proofs.over_call.has_dear_must.Given as goal

abbrev pub invariant-loop-at : goal.invariant-loop-at
invariant-loop-at l = IsWithin l.frontier.table.now.summaries l.at

abbrev pub decreases-loop-at : goal.decreases-loop-at
decreases-loop-at l = places_left (length l.frontier.table.now.summaries) l.at

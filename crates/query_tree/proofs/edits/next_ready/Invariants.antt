use Rattle.std.proofs.Common.{◌≡◌, length}
use Rattle.query_tree.specs.Ready.{Covers}
use Rattle.query_tree.proofs.edits.next_ready.Given as goal

abbrev pub invariant-loop-id : goal.invariant-loop-id
invariant-loop-id g l = record { covers : Covers l.entries l.ready; room : l.ready.room ≡ l.fn.ready.room }

abbrev pub decreases-loop-id : goal.decreases-loop-id
decreases-loop-id g l = length l.ready.ids

use Rattle.std.proofs.Common.{◌≡◌, ◌+◌, length, drop}
use Rattle.shadow_elim.specs.steps.Lists.{rank}
use Rattle.shadow_elim.proofs.lists.rank.Given as goal

abbrev pub invariant-loop-column : goal.invariant-loop-column
invariant-loop-column l = record {
  left : l.left + l.column-index ≡ length l.columns;
  rank : rank (drop l.column-index l.columns) l.term ≡ rank l.columns l.term;
}

use Rattle.shadow_elim.proofs.Splitting.{IsSplit}
use Rattle.shadow_elim.proofs.column.split_rows.Given as goal

abbrev pub invariant-loop-row : goal.invariant-loop-row
invariant-loop-row l = IsSplit l.column l.yielded l.uppers.items l.lowers.items l.free.items

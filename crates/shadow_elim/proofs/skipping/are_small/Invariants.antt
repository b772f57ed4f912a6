use Rattle.std.proofs.Common.{take}
use Rattle.std.specs.Prelude.{All}
use Rattle.shadow_elim.specs.steps.Marks.{IsSmall}
use Rattle.shadow_elim.proofs.skipping.are_small.Given as goal

abbrev pub invariant-loop-row : goal.invariant-loop-row
invariant-loop-row l = All (λ r. IsSmall l.column r.term) (take l.row-index l.rows)

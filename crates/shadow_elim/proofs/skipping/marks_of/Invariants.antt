use Rattle.std.proofs.Common.{◌≡◌, true}
use Rattle.shadow_elim.proofs.Needless.{IsMarking}
use Rattle.shadow_elim.proofs.skipping.marks_of.Given as goal

abbrev pub invariant-loop-place : goal.invariant-loop-place
invariant-loop-place l = IsMarking (l.are_small ≡ true) l.rows l.place l.marks.items

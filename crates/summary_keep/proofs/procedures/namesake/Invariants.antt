use Rattle.std.proofs.Common.{ℕ, ◌<◌}
use Rattle.c_tree.specs.Whole.{program_of}
use Rattle.summary_keep.specs.steps.Refinement.{AreNamesakes}
use Rattle.summary_keep.proofs.procedures.namesake.Given as goal

abbrev pub invariant-loop-number : goal.invariant-loop-number
invariant-loop-number l = (j : ℕ) → j < l.number → AreNamesakes (program_of l.old) (program_of l.new) l.place j → ⊥

use Rattle.std.proofs.Common.{◌≡◌, ◌↔◌, ℕ, ◌<◌, Some, length}
use Rattle.c_tree.specs.Whole.{program_of}
use Rattle.summary_keep.specs.Keeping.{number_in}
use Rattle.summary_keep.specs.steps.Refinement.{AreCounterparts}
use Rattle.summary_keep.proofs.procedures.counterparts.Given as goal

abbrev pub invariant-loop-place : goal.invariant-loop-place
invariant-loop-place l = (length l.numbers.items ≡ l.place)
    × ((i j : ℕ) → i < l.place → (number_in l.numbers.items i ≡ Some j) ↔ AreCounterparts (program_of l.old) (program_of l.new) i j)

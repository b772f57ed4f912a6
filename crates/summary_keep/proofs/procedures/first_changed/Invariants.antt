use Rattle.std.proofs.Common.{◌≡◌, ℕ, ◌<◌, Some}
use Rattle.c_tree.specs.Whole.{program_of}
use Rattle.summary_keep.specs.Keeping.{number_in, related_by}
use Rattle.summary_keep.specs.Matching.{AreRelated}
use Rattle.summary_keep.proofs.procedures.first_changed.Given as goal

abbrev pub invariant-loop-place : goal.invariant-loop-place
invariant-loop-place l = (k : ℕ) → k < l.place → (j : ℕ) → number_in l.numbers k ≡ Some j →
    AreRelated (program_of l.old) (program_of l.new) (related_by l.numbers) k j

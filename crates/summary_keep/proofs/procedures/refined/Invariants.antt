use Rattle.c_tree.specs.Whole.{program_of}
use Rattle.summary_keep.specs.Keeping.{related_by}
use Rattle.summary_keep.specs.steps.Refinement.{AreCandidates, IncludesEach}
use Rattle.summary_keep.proofs.Matched.{somes}
use Rattle.summary_keep.proofs.procedures.refined.Given as goal

abbrev pub invariant-loop-place : goal.invariant-loop-place
invariant-loop-place l = AreCandidates (program_of l.old) (program_of l.new) l.numbers.items
    × IncludesEach (program_of l.old) (program_of l.new) (related_by l.numbers.items)

abbrev pub decreases-loop-place : goal.decreases-loop-place
decreases-loop-place l = somes l.numbers.items

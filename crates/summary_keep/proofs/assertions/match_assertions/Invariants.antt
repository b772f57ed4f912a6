use Rattle.c_tree.specs.Whole.{program_of}
use Rattle.summary_keep.specs.Keeping.{related_by}
use Rattle.summary_keep.specs.steps.Pairing.{ArePairedBelow}
use Rattle.summary_keep.proofs.assertions.match_assertions.Given as goal

abbrev pub invariant-loop-place : goal.invariant-loop-place
invariant-loop-place l = ArePairedBelow (program_of l.old) (program_of l.new) (related_by l.procs) l.place l.numbers.items

use Rattle.c_tree.specs.Whole.{program_of}
use Rattle.flow_build.specs.steps.Procedures.{Made}
use Rattle.flow_build.proofs.build.push_graphs.Given as goal

abbrev pub invariant-loop-number : goal.invariant-loop-number
invariant-loop-number l = Made (program_of l.program) l.number l.graphs.items

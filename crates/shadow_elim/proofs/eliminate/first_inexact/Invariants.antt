use Rattle.std.proofs.Common.{drop}
use Rattle.shadow_elim.proofs.FirstInexact.{Continues}
use Rattle.shadow_elim.proofs.eliminate.first_inexact.Given as goal

abbrev pub invariant-loop-stage : goal.invariant-loop-stage
invariant-loop-stage l = Continues l.stages (drop l.stage-index l.stages)

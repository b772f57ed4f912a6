use Rattle.smash_run.specs.steps.Judging.{AreVerdicts}
use Rattle.smash_run.proofs.analysis.verdicts_of.Given as goal

abbrev pub invariant-loop-root : goal.invariant-loop-root
invariant-loop-root l = AreVerdicts l.board l.root l.verdicts.items

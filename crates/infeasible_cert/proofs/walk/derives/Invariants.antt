use Rattle.infeasible_cert.specs.steps.Known.{rows_in}
use Rattle.infeasible_cert.proofs.Deriving.{DerivedSoFar}
use Rattle.infeasible_cert.proofs.walk.derives.Given as goal

abbrev pub invariant-loop-i : goal.invariant-loop-i
invariant-loop-i l = DerivedSoFar (rows_in l.rows) l.derived l.i

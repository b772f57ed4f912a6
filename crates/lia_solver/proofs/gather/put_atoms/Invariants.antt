use Rattle.std.proofs.Common.{take}
use Rattle.infeasible_cert.specs.Right.{rows_of}
use Rattle.lia_solver.specs.steps.Gathered.{ArePut}
use Rattle.lia_solver.specs.steps.Numbers.{numbered_from}
use Rattle.lia_solver.proofs.gather.put_atoms.Given as goal

abbrev pub invariant-loop-place : goal.invariant-loop-place
invariant-loop-place l = ArePut (numbered_from l.first (rows_of (take l.place l.atoms))) l.initial.table l.table

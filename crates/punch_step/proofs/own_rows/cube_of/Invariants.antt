use Rattle.std.proofs.Common.{◌≡◌}
use Rattle.infeasible_cert.specs.Right.{rows_of}
use Rattle.shadow_elim.specs.Stages.{terms_of}
use Rattle.punch_step.proofs.own_rows.cube_of.Given as goal

abbrev pub invariant-loop-row : goal.invariant-loop-row
invariant-loop-row l = rows_of l.atoms ≡ terms_of l.yielded

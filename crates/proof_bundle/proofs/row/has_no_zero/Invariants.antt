use Rattle.std.proofs.Common.{◌≡◌, drop}
use Rattle.linear_formula.specs.LinearSum.{has_no_zero}
use Rattle.proof_bundle.proofs.row.has_no_zero.Given as goal

abbrev pub invariant-loop-coefficient : goal.invariant-loop-coefficient
invariant-loop-coefficient l = has_no_zero (drop l.coefficient-index l.parts) ≡ has_no_zero l.parts

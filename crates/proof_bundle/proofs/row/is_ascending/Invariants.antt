use Rattle.std.proofs.Common.{◌≡◌, drop}
use Rattle.linear_formula.specs.LinearSum.{is_ascending, is_ascending_from}
use Rattle.proof_bundle.proofs.row.is_ascending.Given as goal

abbrev pub invariant-loop-column : goal.invariant-loop-column
invariant-loop-column l = is_ascending_from l.low (drop l.column-index l.parts) ≡ is_ascending l.parts

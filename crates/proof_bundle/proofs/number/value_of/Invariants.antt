use Rattle.std.proofs.Common.{◌≡◌, ◌≤◌, drop}
use Rattle.proof_bundle.specs.steps.Reading.{value_from}
use Rattle.proof_bundle.proofs.number.value_of.Given as goal

abbrev pub invariant-loop-digit : goal.invariant-loop-digit
invariant-loop-digit l = record {
  small : l.value ≤ l.most;
  told : value_from l.value (drop l.digit-index l.digits) ≡ value_from 0 l.digits;
}

use Rattle.std.specs.Prelude.{◌≤◌, length, take}
use Rattle.query_rules.specs.Rows.{IsSome}
use Rattle.punch_step.proofs.confirm.are_some.Given as goal

abbrev pub invariant-loop-atom : goal.invariant-loop-atom
invariant-loop-atom l = record {
  within : l.next ≤ length l.atoms;
  some : IsSome (take l.next l.atoms) (take l.atom-index l.of);
}

use Rattle.std.proofs.Common.{◌≡◌, ◌≤◌, ℕ, List, drop}
use Rattle.c_typing.specs.Scope.{defined_from}
use Rattle.c_typing.specs.steps.Meanings.{found_in}
use Rattle.c_typing.specs.steps.Tables.{procedures_in}
use Rattle.c_typing.proofs.Defined.{found_or}
use Rattle.c_typing.proofs.table.definitions_of.Given as goal

abbrev pub invariant-loop-item : goal.invariant-loop-item
invariant-loop-item l = record {
  few : l.number ≤ l.item-index;
  rest : (x : List ℕ) → found_or (found_in l.definitions x) (defined_from l.number (procedures_in (drop l.item-index l.items)) x)
      ≡ defined_from 0 (procedures_in l.items) x;
}

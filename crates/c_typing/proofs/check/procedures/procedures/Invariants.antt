use Rattle.std.proofs.Common.{◌≡◌, ◌≤◌, ◌++◌, [], drop, take}
use Rattle.c_typing.specs.Scope.{asserts_in_file}
use Rattle.c_typing.specs.steps.Least.{least_from}
use Rattle.c_typing.specs.steps.Tables.{procedures_in, scoped_in, best_of, procedures_found}
use Rattle.c_typing.specs.steps.Listed.{names_in}
use Rattle.c_typing.proofs.Scoping.{IsReached}
use Rattle.c_typing.proofs.check.procedures.procedures.Given as goal

abbrev pub invariant-loop-tree : goal.invariant-loop-tree
invariant-loop-tree l =
    let items = l.table.items.now in
    let ps = procedures_in items in
    record {
      few : l.before.procedures ≤ l.tree-index;
      reached : IsReached items (drop l.tree-index items) l.before.globals;
      best : least_from (best_of l.notes.best) (procedures_found ps l.before.procedures (scoped_in (take l.before.globals (names_in items))
          (drop l.tree-index items))) ≡ least_from (best_of l.fn.notes.best) (procedures_found ps 0 (scoped_in [] items));
      asserts : l.notes.asserts.items ++ asserts_in_file (procedures_in (drop l.tree-index items)) ≡ l.fn.notes.asserts.items
          ++ asserts_in_file (procedures_in items);
    }

use Rattle.std.proofs.Common.{◌≡◌, ◌++◌, drop}
use Rattle.c_typing.specs.Lowering.{opening_values}
use Rattle.c_typing.specs.steps.Listed.{listed}
use Rattle.c_typing.proofs.lower.program.opening_values.Given as goal

abbrev pub invariant-loop-tree : goal.invariant-loop-tree
invariant-loop-tree l = l.made.items ++ opening_values (listed (drop l.tree-index l.table.globals.list.items))
    ≡ opening_values (listed l.table.globals.list.items)

use Rattle.std.proofs.Common.{map, drop}
use Rattle.c_tree.specs.View.{procedure_of}
use Rattle.c_typing.proofs.Programmed.{Built}
use Rattle.c_typing.proofs.lower.program.parts.Given as goal

abbrev pub invariant-loop-tree : goal.invariant-loop-tree
invariant-loop-tree l = Built l.table.items.now l.asserts (drop l.tree-index l.table.items.now) l.before.asserts l.before.globals
    (map procedure_of l.procedures.items) l.places.items

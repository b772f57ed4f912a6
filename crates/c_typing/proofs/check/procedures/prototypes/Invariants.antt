use Rattle.std.proofs.Common.{◌≡◌, drop}
use Rattle.c_typing.specs.steps.Tables.{procedures_in, notes_of}
use Rattle.c_typing.proofs.Filed.{prototypes_left}
use Rattle.c_typing.proofs.check.procedures.prototypes.Given as goal

abbrev pub invariant-loop-tree : goal.invariant-loop-tree
invariant-loop-tree l =
    prototypes_left (procedures_in l.table.items.now) (notes_of l.notes) (drop l.tree-index l.items) ≡ prototypes_left
    (procedures_in l.table.items.now) (notes_of l.fn.notes) l.items

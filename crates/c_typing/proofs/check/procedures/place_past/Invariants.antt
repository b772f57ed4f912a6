use Rattle.std.proofs.Common.{◌≡◌, drop, slice_get}
use Rattle.c_typing.specs.steps.Tables.{procedures_in}
use Rattle.c_typing.proofs.check.procedures.place_past.Given as goal

abbrev pub invariant-loop-tree : goal.invariant-loop-tree
invariant-loop-tree l = slice_get (procedures_in (drop l.tree-index l.items)) l.left ≡ slice_get (procedures_in l.items) 64

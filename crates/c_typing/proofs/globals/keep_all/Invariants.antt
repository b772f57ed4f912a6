use Rattle.std.proofs.Common.{◌≡◌, ◌++◌, map, drop}
use Rattle.c_tree.specs.FileView.{global_of as tree_of_global}
use Rattle.c_typing.specs.steps.Listed.{listed, AreNumbered}
use Rattle.c_typing.proofs.globals.keep_all.Given as goal

abbrev pub invariant-loop-tree : goal.invariant-loop-tree
invariant-loop-tree l = record {
  list : listed l.list.items ++ map tree_of_global (drop l.tree-index l.trees) ≡ listed l.fn.list.items
      ++ map tree_of_global l.trees;
  numbers : AreNumbered l.numbers l.list.items;
}

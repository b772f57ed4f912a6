use Rattle.std.proofs.Common.{◌≡◌, drop}
use Rattle.c_tree.specs.SourceView.{trees_of}
use Rattle.c_typing.specs.Lowering.{lowered_all}
use Rattle.c_typing.specs.steps.Tables.{scopes_of}
use Rattle.c_typing.specs.steps.FileScopes.{file_scope}
use Rattle.c_typing.proofs.Lowered.{values_left}
use Rattle.c_typing.proofs.lower.expressions.+expressions.Given as goal

abbrev pub invariant-arguments-loop-tree : goal.invariant-arguments-loop-tree
invariant-arguments-loop-tree l =
    values_left (file_scope l.file) (scopes_of l.scopes) l.made.items (drop l.tree-index l.trees)
    ≡ lowered_all (file_scope l.file) (scopes_of l.scopes) (trees_of l.trees)

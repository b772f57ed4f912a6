use Rattle.std.proofs.Common.{◌≡◌, drop}
use Rattle.c_typing.specs.steps.Tables.{scopes_of, notes_of}
use Rattle.c_typing.specs.steps.FileScopes.{file_scope}
use Rattle.c_typing.proofs.Noting.{arguments_left}
use Rattle.c_typing.proofs.check.expressions.+expressions.Given as goal

abbrev pub invariant-arguments-loop-tree : goal.invariant-arguments-loop-tree
invariant-arguments-loop-tree l =
    arguments_left (file_scope l.file) (scopes_of l.scopes) (notes_of l.notes) (drop l.tree-index l.trees) ≡ arguments_left
    (file_scope l.fn.file) (scopes_of l.fn.scopes) (notes_of l.fn.notes) l.fn.trees

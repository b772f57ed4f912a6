use Rattle.std.proofs.Common.{◌≡◌, drop}
use Rattle.c_typing.specs.steps.Tables.{scopes_of, IsLonger, notes_of}
use Rattle.c_typing.specs.steps.FileScopes.{file_scope}
use Rattle.c_typing.proofs.Declaring.{declarators_left, zeros_left}
use Rattle.c_typing.proofs.check.expressions.declarators.Given as goal

abbrev pub invariant-loop-tree : goal.invariant-loop-tree
invariant-loop-tree l =
    let file = file_scope l.file in
    record {
      notes : declarators_left file (scopes_of l.scopes) (notes_of l.notes) (drop l.tree-index l.trees) ≡ declarators_left file
          (scopes_of l.fn.scopes) (notes_of l.fn.notes) l.fn.trees;
      scopes : zeros_left file (scopes_of l.scopes) (drop l.tree-index l.trees) ≡ zeros_left file (scopes_of l.fn.scopes) l.fn.trees;
      longer : IsLonger l.fn.scopes l.scopes;
    }

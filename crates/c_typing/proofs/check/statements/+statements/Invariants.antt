use Rattle.std.proofs.Common.{◌≡◌, drop}
use Rattle.c_typing.specs.steps.Tables.{scopes_of, notes_of, outer_of}
use Rattle.c_typing.specs.steps.FileScopes.{file_scope}
use Rattle.c_typing.proofs.Declaring.{statements_left}
use Rattle.c_typing.proofs.check.statements.+statements.Given as goal

abbrev pub invariant-statements-loop-tree : goal.invariant-statements-loop-tree
invariant-statements-loop-tree l =
    let file = file_scope l.file in
    record {
      notes : statements_left file l.place.void l.place.in_loop (scopes_of l.scopes) (notes_of l.notes) (drop l.tree-index l.trees)
          ≡ statements_left file l.place.void l.place.in_loop (scopes_of l.fn.scopes) (notes_of l.fn.notes) l.fn.trees;
      outer : outer_of (scopes_of l.scopes) ≡ outer_of (scopes_of l.fn.scopes);
    }

use Rattle.std.proofs.Common.{◌≡◌, ◌+◌, drop}
use Rattle.c_typing.specs.steps.Tables.{scopes_of, IsLonger}
use Rattle.c_typing.specs.steps.FileScopes.{file_scope}
use Rattle.c_typing.proofs.Building.{sets_left, scopes_left, names_left}
use Rattle.c_typing.proofs.lower.build.declarators.Given as goal

abbrev pub invariant-loop-tree : goal.invariant-loop-tree
invariant-loop-tree l =
    let file = file_scope l.file in
    record {
      out : sets_left file (scopes_of l.state.scopes) l.state.next l.out.items (drop l.tree-index l.trees)
          ≡ sets_left file (scopes_of l.fn.state.scopes) l.fn.state.next l.fn.out.items l.trees;
      scopes : scopes_left file (scopes_of l.state.scopes) l.state.next (drop l.tree-index l.trees) ≡ scopes_left file
          (scopes_of l.fn.state.scopes) l.fn.state.next l.trees;
      next : l.state.next + names_left file (drop l.tree-index l.trees) ≡ l.fn.state.next + names_left file l.trees;
      id : l.state.id ≡ l.fn.state.id;
      longer : IsLonger l.fn.state.scopes l.state.scopes;
    }

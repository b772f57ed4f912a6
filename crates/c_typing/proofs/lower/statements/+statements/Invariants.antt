use Rattle.std.proofs.Common.{◌≡◌, ◌+◌, drop}
use Rattle.c_tree.specs.SourceView.{statement_trees_of}
use Rattle.c_tree.specs.View.{statements_of}
use Rattle.c_typing.specs.Lowering.{lowered_statements}
use Rattle.c_typing.specs.steps.LoweringSteps.{AreQuiet}
use Rattle.c_typing.specs.steps.Tables.{scopes_of, outer_of}
use Rattle.c_typing.specs.steps.FileScopes.{file_scope}
use Rattle.c_typing.proofs.Fitting.{lowered_left, declared_left, asserts_left}
use Rattle.c_typing.proofs.lower.statements.+statements.Given as goal

abbrev pub invariant-statements-loop-tree : goal.invariant-statements-loop-tree
invariant-statements-loop-tree l =
    let file = file_scope l.file in
    let rest = drop l.tree-index l.trees in
    record {
      made : lowered_left file (scopes_of l.state.scopes) l.state.next l.state.id (statements_of l.made.items) rest ≡ lowered_statements
          file
          (scopes_of l.fn.state.scopes) l.fn.state.next l.fn.state.id (statement_trees_of l.trees);
      next : l.state.next + declared_left file rest ≡ l.fn.state.next + declared_left file l.trees;
      id : l.state.id + asserts_left file rest ≡ l.fn.state.id + asserts_left file l.trees;
      quiet : AreQuiet (statement_trees_of rest);
      outer : outer_of (scopes_of l.state.scopes) ≡ outer_of (scopes_of l.fn.state.scopes);
    }

use Rattle.std.proofs.Common.{◌∙◌, ap, arith}
use Rattle.c_tree.specs.SourceView.{declarator_of}
use Rattle.c_typing.specs.Scope.{with_variable}
use Rattle.c_typing.specs.steps.Tables.{scopes_of, notes_of}
use Rattle.c_typing.specs.steps.FileScopes.{file_scope}
use Rattle.c_typing.proofs.Declaring.{declarators_turn, declarators_end, zeros_turn, zeros_end}
use Rattle.c_typing.proofs.Tabled.{longer-still}
use Rattle.c_typing.proofs.check.expressions.declarators.Goals as goal

pub loop-tree-preserved : goal.loop-tree-preserved
loop-tree-preserved c =
    let file = file_scope c.args.file.now in
    let ss = scopes_of c.loop-tree.scopes in
    let scopes = c.in_ok-declarator.ensures.scopes ∙ ap (λ d. with_variable ss (declarator_of d).named.name 0) c.tree-item.is in
    record {
      notes = declarators_turn file c.args.trees.now c.loop-tree.tree-index c.tree-item.result ss (scopes_of c.declarator.new.scopes)
          (notes_of c.loop-tree.notes) (notes_of c.declarator.new.notes) _ c.loop-tree-test.true
          (rw (← c.tree-item.is) c.in_ok-declarator.ensures.notes) scopes c.loop-tree.invariant.notes;
      scopes = zeros_turn file c.args.trees.now c.loop-tree.tree-index c.tree-item.result ss (scopes_of c.declarator.new.scopes) _
          c.loop-tree-test.true scopes c.loop-tree.invariant.scopes;
      longer = longer-still c.args.scopes.now.entries.items c.loop-tree.scopes.entries.items c.declarator.new.scopes.entries.items
          c.loop-tree.invariant.longer c.in_ok-declarator.ensures.longer;
    }

pub returns-clause-notes : goal.returns-clause-notes
returns-clause-notes c =
    declarators_end (file_scope c.args.file.now) c.args.trees.now c.loop-tree.tree-index (scopes_of c.loop-tree.scopes)
    (notes_of c.loop-tree.notes) _ (omega arith) c.loop-tree.invariant.notes

pub returns-clause-scopes : goal.returns-clause-scopes
returns-clause-scopes c = zeros_end (file_scope c.args.file.now) c.args.trees.now c.loop-tree.tree-index
    (scopes_of c.loop-tree.scopes) _ (omega arith) c.loop-tree.invariant.scopes

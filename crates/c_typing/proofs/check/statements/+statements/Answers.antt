use Rattle.std.proofs.Common.{◌∙◌, ap, sym, [], ◌∷◌, arith}
use Rattle.c_tree.specs.SourceView.{tree_of, init_of, optional_tree, optional_simple, statement_tree_of, if_of}
use Rattle.c_tree.proofs.SourceRows.{source_block_of, source_if_of, other_of}
use Rattle.c_typing.specs.Scope.{declared_by_init}
use Rattle.c_typing.specs.steps.Tables.{scopes_of, notes_of, outer_of, zeros_after}
use Rattle.c_typing.specs.steps.FileScopes.{file_scope}
use Rattle.c_typing.proofs.Declaring.{statements_turn, statements_end, outer-after, outer-zeros}
use Rattle.c_typing.proofs.Saying.{said, block_said, if_then_said, if_else_said, while_said, do_while_said, for_said}
use Rattle.c_typing.proofs.check.statements.+statements.Goals as goal

pub statement-returns-in_ok-statements-in-Block-clause-notes : goal.statement-returns-in_ok-statements-in-Block-clause-notes
statement-returns-in_ok-statements-in-Block-clause-notes t c =
    let file = file_scope c.args.file.now in
    let ss = scopes_of c.args.scopes.now in
    let n = notes_of c.args.notes.now in
    block_said file c.args.place.void c.args.place.in_loop ss (scopes_of c.open.new.self) n (notes_of c.statements.new.notes)
    c.in-Block.trees.items c.deref.result.now c.in_ok-open-in-Block.ensures c.deref.ensures.value c.in_ok-statements-in-Block.ensures.notes
    ∙ ap (said file c.args.place.void c.args.place.in_loop ss n)
    (sym (ap statement_tree_of c.in-Block.is ∙ source_block_of c.in-Block.trees))

pub statement-returns-in_ok-statement-in-If-2-clause-notes : goal.statement-returns-in_ok-statement-in-If-2-clause-notes
statement-returns-in_ok-statement-in-If-2-clause-notes t c =
    let file = file_scope c.args.file.now in
    let ss = scopes_of c.args.scopes.now in
    let n = notes_of c.args.notes.now in
    if_else_said file c.args.place.void c.args.place.in_loop ss (scopes_of c.statement.new.scopes) n (notes_of c.expression.new.notes)
    (notes_of c.statement.new.notes) (notes_of c.statement-in-Some.new.notes) (tree_of c.in-If.test)
    c.in-If.then.value c.deref-in-If.result.now c.in-Some.other.value c.deref-in-Some.result.now c.deref-in-If.ensures
    c.deref-in-Some.ensures
    c.in_ok-statement-in-If.ensures.scopes c.in_ok-expression-in-If.ensures.notes c.in_ok-statement-in-If.ensures.notes
    c.in_ok-statement-in-If-2.ensures.notes
    ∙ ap (said file c.args.place.void c.args.place.in_loop ss n)
    (sym (ap statement_tree_of c.in-If.is ∙ source_if_of c.in-If.test c.in-If.then c.in-If.other
    ∙ ap (λ o. if_of (tree_of c.in-If.test) (statement_tree_of c.in-If.then.value) (other_of o)) c.in-Some.is))

pub statement-returns-in_default-clause-notes : goal.statement-returns-in_default-clause-notes
statement-returns-in_default-clause-notes t c =
    let file = file_scope c.args.file.now in
    let ss = scopes_of c.args.scopes.now in
    let n = notes_of c.args.notes.now in
    if_then_said file c.args.place.void c.args.place.in_loop ss n (notes_of c.expression.new.notes) (notes_of c.statement.new.notes)
    (tree_of c.in-If.test) c.in-If.then.value c.deref-in-If.result.now c.deref-in-If.ensures c.in_ok-expression-in-If.ensures.notes
    c.in_ok-statement-in-If.ensures.notes
    ∙ ap (said file c.args.place.void c.args.place.in_loop ss n)
    (sym (ap statement_tree_of c.in-If.is ∙ source_if_of c.in-If.test c.in-If.then c.in-If.other
    ∙ ap (λ o. if_of (tree_of c.in-If.test) (statement_tree_of c.in-If.then.value) (other_of o)) c.in_default.is))

pub statement-returns-in_ok-statement-in-While-clause-notes : goal.statement-returns-in_ok-statement-in-While-clause-notes
statement-returns-in_ok-statement-in-While-clause-notes t c =
    let file = file_scope c.args.file.now in
    let ss = scopes_of c.args.scopes.now in
    let n = notes_of c.args.notes.now in
    while_said file c.args.place.void c.args.place.in_loop ss n (notes_of c.expression-in-While.new.notes)
    (notes_of c.statement-in-While.new.notes) (tree_of c.in-While.test) c.in-While.body.value c.deref-in-While.result.now
    c.deref-in-While.ensures c.in_ok-expression-in-While.ensures.notes c.in_ok-statement-in-While.ensures.notes
    ∙ ap (λ s. said file c.args.place.void c.args.place.in_loop ss n (statement_tree_of s)) (sym c.in-While.is)

pub statement-returns-in_ok-expression-in-DoWhile-clause-notes : goal.statement-returns-in_ok-expression-in-DoWhile-clause-notes
statement-returns-in_ok-expression-in-DoWhile-clause-notes t c =
    let file = file_scope c.args.file.now in
    let ss = scopes_of c.args.scopes.now in
    let n = notes_of c.args.notes.now in
    do_while_said file c.args.place.void c.args.place.in_loop ss (scopes_of c.statement-in-DoWhile.new.scopes) n
    (notes_of c.statement-in-DoWhile.new.notes) (notes_of c.expression-in-DoWhile.new.notes) (tree_of c.in-DoWhile.test)
    c.in-DoWhile.body.value c.deref-in-DoWhile.result.now c.deref-in-DoWhile.ensures
    c.in_ok-statement-in-DoWhile.ensures.scopes c.in_ok-statement-in-DoWhile.ensures.notes c.in_ok-expression-in-DoWhile.ensures.notes
    ∙ ap (λ s. said file c.args.place.void c.args.place.in_loop ss n (statement_tree_of s)) (sym c.in-DoWhile.is)

pub statement-returns-in_ok-statement-in-For-clause-notes : goal.statement-returns-in_ok-statement-in-For-clause-notes
statement-returns-in_ok-statement-in-For-clause-notes t c =
    let file = file_scope c.args.file.now in
    let ss = scopes_of c.args.scopes.now in
    let n = notes_of c.args.notes.now in
    for_said file c.args.place.void c.args.place.in_loop ss (scopes_of c.head.new.scopes) n (notes_of c.head.new.notes)
    (notes_of c.statement-in-For.new.notes) (init_of c.in-For.start) (optional_tree c.in-For.test) (optional_simple c.in-For.next)
    c.in-For.body.value c.deref-in-For.result.now c.deref-in-For.ensures
    c.in_ok-head-in-For.ensures.scopes c.in_ok-head-in-For.ensures.notes c.in_ok-statement-in-For.ensures.notes
    ∙ ap (λ s. said file c.args.place.void c.args.place.in_loop ss n (statement_tree_of s)) (sym c.in-For.is)

pub statement-returns-in_ok-statement-in-For-clause-scopes : goal.statement-returns-in_ok-statement-in-For-clause-scopes
statement-returns-in_ok-statement-in-For-clause-scopes t c =
    c.close-in-For.ensures ∙ ap outer_of (c.in_ok-statement-in-For.ensures.scopes ∙ c.in_ok-head-in-For.ensures.scopes)
    ∙ outer-zeros ([] ∷ scopes_of c.args.scopes.now) (declared_by_init (init_of c.in-For.start))

pub statements-loop-tree-preserved : goal.statements-loop-tree-preserved
statements-loop-tree-preserved t c =
    let file = file_scope c.args.file.now in
    let ss = scopes_of c.loop-tree.scopes in
    let step = c.in_ok-in_block.ensures.notes ∙ ap (λ s. said file c.args.place.void c.args.place.in_loop ss (notes_of c.loop-tree.notes)
    (statement_tree_of s)) c.tree-item.is in
    let scopes = c.in_ok-in_block.ensures.scopes ∙ ap (λ s. zeros_after ss (statement_tree_of s)) c.tree-item.is in
    record {
      notes = statements_turn file c.args.place.void c.args.place.in_loop c.args.trees.now c.loop-tree.tree-index c.tree-item.result ss
          (scopes_of c.in_block.new.scopes) (notes_of c.loop-tree.notes) (notes_of c.in_block.new.notes) _ c.loop-tree-test.true step scopes
          c.loop-tree.invariant.notes;
      outer = ap outer_of c.in_ok-in_block.ensures.scopes ∙ outer-after ss (statement_tree_of c.tree-item.result)
          ∙ c.loop-tree.invariant.outer;
    }

pub statements-returns-clause-notes : goal.statements-returns-clause-notes
statements-returns-clause-notes t c =
    statements_end (file_scope c.args.file.now) c.args.place.void c.args.place.in_loop c.args.trees.now c.loop-tree.tree-index
    (scopes_of c.loop-tree.scopes) (notes_of c.loop-tree.notes) _ (omega arith) c.loop-tree.invariant.notes

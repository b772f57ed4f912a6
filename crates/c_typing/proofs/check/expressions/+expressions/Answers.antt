use Rattle.std.proofs.Common.{◌≡◌, ◌∙◌, ap, sym, [], true, length, arith}
use Rattle.c_tree.specs.SourceView.{tree_of, identifier_of}
use Rattle.c_tree.proofs.SourceRows.{source_call_of}
use Rattle.c_typing.specs.Scope.{asserts_of}
use Rattle.c_typing.specs.Faults.{expression_faults}
use Rattle.c_typing.specs.steps.Tables.{scopes_of, notes_of, noted}
use Rattle.c_typing.specs.steps.FileScopes.{file_scope}
use Rattle.c_typing.specs.steps.Sides.{side_of}
use Rattle.c_typing.proofs.Sides.{side-binary}
use Rattle.c_typing.proofs.Noting.{call_noted, binary_noted, arguments_turn, arguments_end}
use Rattle.c_typing.proofs.check.expressions.+expressions.Goals as goal

pub expression-returns-in_ok-arguments-in-Call-clause-notes : goal.expression-returns-in_ok-arguments-in-Call-clause-notes
expression-returns-in_ok-arguments-in-Call-clause-notes t c =
    let file = file_scope c.args.file.now in
    let ss = scopes_of c.args.scopes.now in
    let n = notes_of c.args.notes.now in
    let few : c.len.result ≡ length c.in-Call.values.items = omega (arith, c.len.ensures, c.in-Call.values.ok.0) in
    call_noted file ss n (notes_of c.callee.new.notes) (notes_of c.arguments.new.notes) (identifier_of c.in-Call.named)
    c.in-Call.values.items
    c.deref.result.now c.len.result true few c.deref.ensures.value c.in_ok-callee-in-Call.ensures c.in_ok-arguments-in-Call.ensures
    ∙ ap (λ e. noted n (expression_faults file ss e) [] (asserts_of e))
    (sym (ap tree_of c.in-Call.is ∙ source_call_of c.in-Call.named c.in-Call.values))

pub expression-returns-in_ok-right-in-Binary-clause-notes : goal.expression-returns-in_ok-right-in-Binary-clause-notes
expression-returns-in_ok-right-in-Binary-clause-notes t c =
    let file = file_scope c.args.file.now in
    let ss = scopes_of c.args.scopes.now in
    let n = notes_of c.args.notes.now in
    let left = c.in_ok-left-in-Binary in
    let right = c.in_ok-right-in-Binary in
    binary_noted file ss n (notes_of c.expression-in-Binary.new.notes) (notes_of c.expression-in-Binary-2.new.notes)
    (notes_of c.operator.new.notes) c.in-Binary.op c.in-Binary.at c.in-Binary.left.value c.in-Binary.right.value
    c.deref-in-Binary.result.now
    c.deref-in-Binary-2.result.now
    left.left right.right c.deref-in-Binary.ensures c.deref-in-Binary-2.ensures left.ensures.notes right.ensures.notes
    left.ensures.side right.ensures.side c.operator.ensures
    ∙ ap (λ e. noted n (expression_faults file ss e) [] (asserts_of e)) (sym (ap tree_of c.in-Binary.is))

pub arguments-loop-tree-preserved : goal.arguments-loop-tree-preserved
arguments-loop-tree-preserved t c =
    let file = file_scope c.args.file.now in
    let ss = scopes_of c.args.scopes.now in
    arguments_turn file ss c.args.trees.now c.loop-tree.tree-index c.tree-item.result (notes_of c.loop-tree.notes)
    (notes_of c.expression.new.notes) _ c.loop-tree-test.true
    (c.in_ok-expression.ensures.notes ∙ ap (λ e. noted (notes_of c.loop-tree.notes) (expression_faults file ss (tree_of e)) []
    (asserts_of (tree_of e))) c.tree-item.is) c.loop-tree.invariant

pub arguments-returns : goal.arguments-returns
arguments-returns t c =
    arguments_end (file_scope c.args.file.now) (scopes_of c.args.scopes.now) c.args.trees.now c.loop-tree.tree-index
    (notes_of c.loop-tree.notes) _ (omega arith) c.loop-tree.invariant

pub expression-returns-in_ok-right-in-Binary-clause-side : goal.expression-returns-in_ok-right-in-Binary-clause-side
expression-returns-in_ok-right-in-Binary-clause-side t c =
    let file = file_scope c.args.file.now in
    let ss = scopes_of c.args.scopes.now in
    let left = c.in_ok-left-in-Binary in
    let right = c.in_ok-right-in-Binary in
    side-binary file ss c.in-Binary.op c.in-Binary.at (tree_of c.in-Binary.left.value) (tree_of c.in-Binary.right.value) left.left
    right.right
    c.combined.result (left.ensures.side ∙ ap (λ e. side_of file ss (tree_of e)) c.deref-in-Binary.ensures)
    (right.ensures.side ∙ ap (λ e. side_of file ss (tree_of e)) c.deref-in-Binary-2.ensures) c.combined.ensures
    ∙ ap (side_of file ss) (sym (ap tree_of c.in-Binary.is))

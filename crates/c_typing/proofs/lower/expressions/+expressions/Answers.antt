use Rattle.std.proofs.Common.{◌∙◌, ap, sym, arith}
use Rattle.c_tree.specs.SourceView.{tree_of, identifier_of}
use Rattle.c_tree.specs.View.{expression_of, expressions_of}
use Rattle.c_tree.proofs.SourceRows.{source_call_of}
use Rattle.c_typing.specs.Lowering.{lowered}
use Rattle.c_typing.specs.steps.Tables.{scopes_of, callee_from}
use Rattle.c_typing.specs.steps.FileScopes.{file_scope}
use Rattle.c_typing.proofs.Lowered.{values_turn, values_end, callee_fits, lowered_call_said}
use Rattle.c_typing.proofs.lower.expressions.+expressions.Goals as goal

pub arguments-loop-tree-preserved : goal.arguments-loop-tree-preserved
arguments-loop-tree-preserved t c =
    let file = file_scope c.args.file.now in
    let ss = scopes_of c.args.scopes.now in
    values_turn file ss c.args.trees.now c.loop-tree.tree-index c.tree-item.result c.loop-tree.made.items c.push.new.self.items
    c.in_ok-value.value _ c.loop-tree-test.true c.in_ok-push.ensures.items (c.in_ok-value.ensures ∙ ap (λ e. lowered file ss (tree_of e))
    c.tree-item.is) c.loop-tree.invariant

pub arguments-returns : goal.arguments-returns
arguments-returns t c =
    values_end (file_scope c.args.file.now) (scopes_of c.args.scopes.now) c.args.trees.now c.loop-tree.tree-index
    c.loop-tree.made.items _ (omega arith) c.loop-tree.invariant

pub expression-call-requires : goal.expression-call-requires
expression-call-requires t c = callee_fits (file_scope c.args.file.now).procedures c.as_str.result.now
    (callee_from c.callee_of-called.result) c.requires.procedures c.callee_of-called.ensures

pub expression-returns-in_ok-values-in-Call : goal.expression-returns-in_ok-values-in-Call
expression-returns-in_ok-values-in-Call t c =
    let file = file_scope c.args.file.now in
    let ss = scopes_of c.args.scopes.now in
    lowered_call_said file ss (expression_of c.call.result) (identifier_of c.in-Call.named) c.as_str.result.now
    (callee_from c.callee_of-called.result) (expressions_of c.in_ok-values-in-Call.values.items) c.deref.result.now c.in-Call.values.items
    c.deref.ensures.value c.as_str.ensures.value c.callee_of-called.ensures c.in_ok-values-in-Call.ensures c.call.ensures
    ∙ ap (lowered file ss) (sym (ap tree_of c.in-Call.is ∙ source_call_of c.in-Call.named c.in-Call.values))

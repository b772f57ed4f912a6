use Rattle.std.proofs.Common.{◌≡◌, ◌∙◌, ap, sym, get_or, refl, arith}
use Rattle.std.proofs.lemmas.Result.{IfOk-weaker}
use Rattle.c_tree.specs.Syntax as program
use Rattle.c_tree.specs.SourceView.{init_of, optional_tree, optional_simple, statement_tree_of, statement_trees_of}
use Rattle.c_tree.specs.declared.syntax_tree.StmtTree.{Block}
use Rattle.c_tree.specs.SourceTree.{block, for_loop}
use Rattle.c_tree.specs.View.{expression_of, statement_of, statements_of}
use Rattle.c_tree.proofs.SourceRows.{source_block_of}
use Rattle.c_typing.specs.steps.Tables.{scopes_of, outer_of}
use Rattle.c_typing.specs.steps.FileScopes.{file_scope}
use Rattle.c_typing.proofs.Building.{set_pushed}
use Rattle.c_typing.proofs.Fitting.{fits_at, same_lowered, block_lowered, for_lowered, plain_placed, plain_tree, placed_at, lowered_turn, lowered_end, left_end, declared_left, asserts_left, declared_turn, asserts_turn, quiet_turn, outer-after}
use Rattle.c_typing.proofs.lower.statements.+statements.Goals as goal

pub in_block-returns-in_ok-push-in_default : goal.in_block-returns-in_ok-push-in_default
in_block-returns-in_ok-push-in_default t c =
    let file = file_scope c.args.file.now in
    plain_placed file (scopes_of c.args.state.now.scopes) (scopes_of c.statement.new.state.scopes) c.args.state.now.next c.args.state.now.id
    c.statement.new.state.next c.statement.new.state.id (statement_tree_of c.args.tree.now)
    (statement_of c.in_ok-made-in_default.made.value)
    (statements_of c.args.out.now.items) (statements_of c.push.new.self.items) (plain_tree file c.args.tree.now c.in_default.not-Declare)
    (set_pushed c.args.out.now.items c.push.new.self.items c.into_inner.result (statement_of c.in_ok-made-in_default.made.value)
    c.in_ok-push-in_default.ensures.items (ap statement_of c.into_inner.ensures)) c.in_ok-made-in_default.ensures

pub nested-returns : goal.nested-returns
nested-returns t c =
    let file = file_scope c.args.file.now in
    let ss = scopes_of c.args.state.now.scopes in
    let n = c.args.state.now.next in
    let i = c.args.state.now.id in
    let n1 = c.statements.new.state.next in
    let i1 = c.statements.new.state.id in
    IfOk-weaker c.boxed.result _ _ (λ b e.
    same_lowered file ss (scopes_of c.close.new.self) n i n1 i1 (block (statement_trees_of c.args.trees.now.items))
    (statement_tree_of (Block c.args.trees.now)) (statement_of b.value) (sym (source_block_of c.args.trees.now))
    (block_lowered file ss (scopes_of c.open.new.self) (scopes_of c.statements.new.state.scopes) (scopes_of c.close.new.self) n i n1 i1
    c.args.trees.now.items c.deref.result.now (statements_of c.in_ok-made.made.items) (statement_of b.value)
    c.in_ok-open.ensures c.deref.ensures.value c.close.ensures (e ∙ c.block.ensures) c.in_ok-made.ensures)) c.boxed.ensures

pub statements-loop-tree-preserved : goal.statements-loop-tree-preserved
statements-loop-tree-preserved t c =
    let file = file_scope c.args.file.now in
    let k = c.loop-tree.tree-index in
    let ss = scopes_of c.loop-tree.state.scopes in
    let n = c.loop-tree.state.next in
    let i = c.loop-tree.state.id in
    let n1 = c.in_block.new.state.next in
    let i1 = c.in_block.new.state.id in
    let s1 = scopes_of c.in_block.new.state.scopes in
    let old = statements_of c.loop-tree.made.items in
    let new = statements_of c.in_block.new.out.items in
    let placed = placed_at file ss s1 n i n1 i1 c.tree-item.result c.args.trees.now k old new c.tree-item.is c.in_ok-in_block.ensures in
    let names = declared_turn file c.args.trees.now k c.tree-item.result c.loop-tree-test.true in
    let places = asserts_turn file c.args.trees.now k c.tree-item.result c.loop-tree-test.true in
    record {
      made = lowered_turn file c.args.trees.now k c.tree-item.result ss s1 n i n1 i1 old new _ c.loop-tree-test.true placed
          c.loop-tree.invariant.made;
      next = let a = placed.next_is in let b = c.loop-tree.invariant.next in omega (arith, names, a, b);
      id = let a = placed.id_is in let b = c.loop-tree.invariant.id in omega (arith, places, a, b);
      quiet = (quiet_turn file c.args.trees.now k c.tree-item.result c.loop-tree-test.true c.loop-tree.invariant.quiet).1;
      outer = ap outer_of placed.scopes ∙ outer-after file ss n (statement_tree_of (get_or c.args.trees.now k c.tree-item.result))
          ∙ c.loop-tree.invariant.outer;
    }

pub statements-returns : goal.statements-returns
statements-returns t c =
    let file = file_scope c.args.file.now in
    let past = lowered_end file c.args.trees.now c.loop-tree.tree-index (scopes_of c.loop-tree.state.scopes) c.loop-tree.state.next
    c.loop-tree.state.id (statements_of c.loop-tree.made.items) _ (omega arith) c.loop-tree.invariant.made in
    record {
      statements_are = past;
      next_is = let a = c.loop-tree.invariant.next in omega (
        arith,
        left_end (λ r. declared_left file r) c.args.trees.now c.loop-tree.tree-index
            (omega arith) refl,
        a,
      );
      id_is = let a = c.loop-tree.invariant.id in omega (
        arith,
        left_end (λ r. asserts_left file r) c.args.trees.now c.loop-tree.tree-index
            (omega arith) refl,
        a,
      );
      outer = c.loop-tree.invariant.outer;
    }

pub statement-returns-in_ok-body-in-For : goal.statement-returns-in_ok-body-in-For
statement-returns-in_ok-body-in-For t c =
    let file = file_scope c.args.file.now in
    let ss = scopes_of c.args.state.now.scopes in
    let n = c.args.state.now.next in
    let i = c.args.state.now.id in
    let n2 = c.statement-in-For.new.state.next in
    let i2 = c.statement-in-For.new.state.id in
    let s1 = scopes_of c.close.new.self in
    let arm = c.in-For in
    let parts = c.in_ok-parts-in-For in
    let x = expression_of parts.parts.value.test in
    let y = statement_of parts.parts.value.step.value in
    let z = statement_of c.in_ok-body-in-For.body.value in
    let whole = for_loop (init_of arm.first) (optional_tree arm.test) (optional_simple arm.step) (statement_tree_of arm.body.value) in
    let view : statement_tree_of c.args.tree.now ≡ whole = ap statement_tree_of arm.is in
    let fits = fits_at n i (statement_tree_of c.args.tree.now) whole view c.requires.fits in
    IfOk-weaker c.for_loop.result _ _ (λ b e.
    same_lowered file ss s1 n i n2 i2 whole (statement_tree_of c.args.tree.now) (statement_of b.value) (sym view)
    (for_lowered file ss (scopes_of c.head.new.state.scopes) (scopes_of c.statement-in-For.new.state.scopes) s1 n i c.head.new.state.next
    c.head.new.state.id n2 i2 (init_of arm.first) (optional_tree arm.test) (optional_simple arm.step) arm.body.value
    c.deref-in-For.result.now
    (statements_of parts.parts.value.before.items) x y z (program.loop x y z) (statement_of b.value) c.deref-in-For.ensures fits.quiet.1
    parts.ensures.scopes parts.ensures.before parts.ensures.test parts.ensures.step parts.ensures.next parts.ensures.id
    c.in_ok-body-in-For.ensures c.close.ensures refl e)) c.for_loop.ensures

use Rattle.std.proofs.Common.{◌≡◌, ℕ, ◌+◌, [], max, not, eqb, length, IfOk, OnOk, IsTrue, sym, ap, ◌∙◌, subst, arith}
use Rattle.c_tree.proofs.Rows.{block_of}
use Rattle.c_tree.specs.Syntax.{Statement, block, ignore, if_else, loop, do_while}
use Rattle.c_tree.specs.View.{expression_of, statement_of, statements_of}
use Rattle.c_tree.specs.WellFormed.{statement_nodes, statements_nodes}
use Rattle.flow_graph.specs.declared.graph.Edge.{Edge}
use Rattle.flow_graph.specs.declared.graph.Edge.TheVariants.{Guard}
use Rattle.flow_build.specs.steps.Translation.{value_of}
use Rattle.flow_build.specs.steps.Building.{statement_literals_fit, is_lowerable_statement}
use Rattle.flow_build.specs.steps.Additions.{TakesFew}
use Rattle.flow_build.specs.steps.StatementAdditions.{AddsStatement}
use Rattle.flow_build.proofs.AddingStatements.{choice_added, repetition_added, tested_repetition_added, value_then, next_lowerable, next_nodes, few_if, block_turns, block_ends}
use Rattle.flow_build.proofs.statement.+statements.Goals as goal

pub choice-returns-clause-adds : goal.choice-returns-clause-adds
choice-returns-clause-adds t c =
    let e = expression_of c.args.e.now in
    let a = statement_of c.args.met.now in
    let d = statement_of c.args.unmet.now in
    let P : ℕ → Type 0 = λ f. AddsStatement (if_else e a d) c.args.frame c.args.from c.args.exits c.args.b.now c.statement-2.new.b f in
    let next : c.node-second.new.self.next ≡ c.args.b.now.next + 2 = let x = c.node-first.ensures.next in let y = c.node-second.ensures.next
    in omega (arith, x, y) in
    subst P (sym (c.max-2.ensures ∙ ap (λ m. max c.in_ok-tested.tested m) c.max.ensures))
    (choice_added e a d c.args.frame c.args.from c.args.exits c.node-first.result c.node-second.result c.in_ok-tested.tested
    c.in_ok-left.left c.in_ok-right.right c.args.b.now c.node-second.new.self c.test.new.b c.statement.new.b c.statement-2.new.b
    (c.node-second.ensures.edges ∙ c.node-first.ensures.edges) next c.node-first.ensures.node
    (c.node-second.ensures.node ∙ c.node-first.ensures.next) c.in_ok-tested.ensures.adds c.in_ok-left.ensures.adds
    c.in_ok-right.ensures.adds)

pub repetition-returns-clause-adds : goal.repetition-returns-clause-adds
repetition-returns-clause-adds t c =
    let e = expression_of c.args.e.now in
    let step = statement_of c.args.step.now in
    let body = statement_of c.args.body.now in
    let P : ℕ → Type 0 = λ f. AddsStatement (loop e step body) c.args.frame c.args.from c.args.exits c.args.b.now c.statement-2.new.b f in
    let next : c.node-again.new.self.next ≡ c.args.b.now.next + 2 = let x = c.node-inner.ensures.next in let y = c.node-again.ensures.next
    in
    omega (arith, x, y) in
    subst P (sym (c.max-2.ensures ∙ ap (λ m. max c.in_ok-tested.tested m) c.max.ensures))
    (repetition_added e step body c.args.frame c.args.from c.args.exits c.node-inner.result c.node-again.result c.in_ok-tested.tested
    c.in_ok-left.left c.in_ok-right.right c.args.b.now c.node-again.new.self c.test.new.b c.statement.new.b c.statement-2.new.b
    (c.node-again.ensures.edges ∙ c.node-inner.ensures.edges) next c.node-inner.ensures.node
    (c.node-again.ensures.node ∙ c.node-inner.ensures.next) c.in_ok-tested.ensures.adds c.in_ok-left.ensures.adds
    c.in_ok-right.ensures.adds)

pub tested_repetition-returns-clause-adds : goal.tested_repetition-returns-clause-adds
tested_repetition-returns-clause-adds t c =
    let e = expression_of c.args.e.now in
    let body = statement_of c.args.body.now in
    let P : ℕ → Type 0 = λ f. AddsStatement (do_while body e) c.args.frame c.args.from c.args.exits c.args.b.now c.test.new.b f in
    subst P (sym c.max.ensures)
    (tested_repetition_added body e c.args.frame c.args.from c.args.exits c.node-again.result c.in_ok-left.left c.in_ok-tested.tested
    c.args.b.now c.node-again.new.self c.statement.new.b c.test.new.b
    c.node-again.ensures.edges c.node-again.ensures.next c.node-again.ensures.node c.in_ok-left.ensures.adds c.in_ok-tested.ensures.adds)

pub block-returns-clause-adds : goal.block-returns-clause-adds
block-returns-clause-adds t c =
    block_ends c.args.ss.now c.loop-i.i c.args.frame c.args.from c.args.exits c.args.b.now c.loop-i.b c.loop-i.node c.loop-i.free
    c.is_empty.result c.loop-i.invariant.left c.loop-i-test.false c.is_empty.ensures c.if-is_empty.false

pub block-loop-i-preserved : goal.block-loop-i-preserved
block-loop-i-preserved t c = record {
  left = block_turns c.args.ss.now c.loop-i.i c.index-ss-i.result c.args.frame c.args.from c.args.exits c.args.b.now c.loop-i.b
      c.next_node-to.new.b c.statement.new.b c.loop-i.node c.next_node-to.result c.loop-i.free c.max-free.result c.in_ok-reached.reached
      c.loop-i.invariant.left c.loop-i-test.true c.index-ss-i.is c.next_node-to.ensures.edges c.next_node-to.ensures.next
      c.next_node-to.ensures.node
      c.in_ok-reached.ensures.adds c.in_ok-reached.ensures.few c.in_ok-reached.ensures.literals c.max-free.ensures;
  lowerable = (next_lowerable c.args.ss.now c.loop-i.i c.index-ss-i.result c.loop-i-test.true c.index-ss-i.is
      c.loop-i.invariant.lowerable).1;
}

pub block-statement-requires : goal.block-statement-requires
block-statement-requires t c =
    let es = c.args.ss.now in
    let i = c.loop-i.i in
    let x = c.index-ss-i.result in
    let few = next_nodes es i x c.loop-i-test.true c.index-ss-i.is in
    let left = c.loop-i.invariant.left in
    let fewer = left.fewer in
    let nodes = left.few_nodes in
    let room = c.requires.room in
    let new = c.next_node-to.ensures.next in
    let one = few_if (not (eqb (i + 1) (length es))) in (
      omega (arith, few, fewer),
      (
        record {
          nodes = let r = room.nodes in omega (arith, r, few, nodes, new, one);
          slots = let r = room.slots in omega (arith, r, few, fewer);
        },
        (next_lowerable c.args.ss.now c.loop-i.i c.index-ss-i.result c.loop-i-test.true c.index-ss-i.is c.loop-i.invariant.lowerable).0,
      ),
    )

pub statement-returns-in_ok-skip-in-Ignore-clause-adds : goal.statement-returns-in_ok-skip-in-Ignore-clause-adds
statement-returns-in_ok-skip-in-Ignore-clause-adds t c =
    let e = expression_of c.in-Ignore.e in
    let l = c.in_ok-landed-in-Ignore.landed in
    let h = c.in_ok-landed-in-Ignore.ensures.adds in
    let P : Statement → Type 0 = λ s. AddsStatement s c.args.frame c.args.from c.args.exits c.args.b.now c.skip.new.b l.slot in
    let same : statement_of c.args.s.now ≡ ignore e = ap statement_of c.in-Ignore.is in
    let d : ℕ → Edge = λ n. Guard n c.args.exits.to (record { atoms = [] }) in
    subst P (sym same)
    (record {
      blocks = record {
        edges = value_then (value_of c.args.frame.layout e) d c.args.from c.args.frame.free c.args.b.now c.value.new.b c.skip.new.b l h
            c.in_ok-skip-in-Ignore.ensures.edges c.skip.ensures.next;
        next = c.skip.ensures.next ∙ h.blocks.next;
      };
      slot = h.slot;
    })

pub statement-block-requires : goal.statement-block-requires
statement-block-requires t c =
    let same : statement_of c.args.s.now ≡ block (statements_of c.deref.result.now) = ap statement_of c.in-Block.is ∙ block_of c.in-Block.ss
    ∙ ap (λ l. block (statements_of l)) (sym c.deref.ensures.value) in
    let P : Statement → Type 0 = λ s. IsTrue (is_lowerable_statement s) in
    let n : statement_nodes (statement_of c.args.s.now) ≡ 1 + statements_nodes (statements_of c.deref.result.now) = ap statement_nodes same
    in (
      omega (arith, n),
      (
        record {
          nodes = let r = c.requires.room.nodes in omega (arith, n, r);
          slots = let r = c.requires.room.slots in
              omega (arith, n, r);
        },
        subst P same c.requires.lowerable,
      ),
    )

pub statement-returns-in-Block-clause-adds : goal.statement-returns-in-Block-clause-adds
statement-returns-in-Block-clause-adds t c =
    let same : statement_of c.args.s.now ≡ block (statements_of c.deref.result.now) = ap statement_of c.in-Block.is ∙ block_of c.in-Block.ss
    ∙ ap (λ l. block (statements_of l)) (sym c.deref.ensures.value) in
    let P : Statement → Type 0 = λ s. IfOk c.block.result (λ l. AddsStatement s c.args.frame c.args.from c.args.exits c.args.b.now
    c.block.new.b l)
    in
    subst P (sym same) c.block.ensures.adds

pub statement-returns-in-Block-clause-few : goal.statement-returns-in-Block-clause-few
statement-returns-in-Block-clause-few t c =
    let same : statement_of c.args.s.now ≡ block (statements_of c.deref.result.now) = ap statement_of c.in-Block.is ∙ block_of c.in-Block.ss
    ∙ ap (λ l. block (statements_of l)) (sym c.deref.ensures.value) in
    let P : Statement → Type 0 = λ s. IfOk c.block.result (λ l. TakesFew (statement_nodes s) c.args.frame.free c.args.b.now c.block.new.b l)
    in
    subst P (sym same) c.block.ensures.few

pub statement-returns-in-Block-clause-literals : goal.statement-returns-in-Block-clause-literals
statement-returns-in-Block-clause-literals t c =
    let same : statement_of c.args.s.now ≡ block (statements_of c.deref.result.now) = ap statement_of c.in-Block.is ∙ block_of c.in-Block.ss
    ∙ ap (λ l. block (statements_of l)) (sym c.deref.ensures.value) in
    let P : Statement → Type 0 = λ s. OnOk c.block.result (IsTrue (statement_literals_fit s)) in
    subst P (sym same) c.block.ensures.literals

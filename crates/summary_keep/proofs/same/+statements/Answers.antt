use Rattle.std.proofs.Common.{◌≡◌, ◌↔◌, IsTrue, ◌+◌, ◌-◌, length, take, drop, ap, sym, subst, ◌∙◌, arith}
use Rattle.c_tree.proofs.Rows.{block_of}
use Rattle.c_tree.specs.Syntax.{Statement}
use Rattle.c_tree.specs.Syntax as source
use Rattle.c_tree.specs.View.{statement_of, statements_of}
use Rattle.c_tree.specs.WellFormed.{statement_nodes, statements_nodes}
use Rattle.summary_keep.specs.Bodies.{SameStatement}
use Rattle.summary_keep.specs.Keeping.{related_by}
use Rattle.summary_keep.specs.Matching.{Any}
use Rattle.summary_keep.proofs.Rows.{first_rest, some_statement_nodes, blocks_same, empty_body}
use Rattle.summary_keep.proofs.same.+statements.Goals as goal

pub same_body-same_body-requires : goal.same_body-same_body-requires
same_body-same_body-requires t c =
    let whole = first_rest c.args.old.now c.a-item.result c.in-len1-up.len_at_least c.a-item.is in
    let some = some_statement_nodes (statement_of c.a-item.result) in
    let n : statements_nodes (statements_of c.args.old.now) ≡ statement_nodes (statement_of c.a-item.result)
    + statements_nodes (statements_of (take (length c.args.old.now - 1) (drop 1 c.args.old.now))) =
    ap (λ l. statements_nodes (statements_of l)) whole in
    (omega (arith, n, some), tt)

pub same_body-returns-in-empty : goal.same_body-returns-in-empty
same_body-returns-in-empty t c =
    empty_body (related_by c.args.procs.now) c.args.old.now c.args.new.now c.is_empty.result c.in-empty.len_below c.is_empty.ensures

pub same_statement-same_body-requires : goal.same_statement-same_body-requires
same_statement-same_body-requires t c =
    let same : statement_of c.args.old.now ≡ source.block (statements_of c.deref.result.now) =
    ap statement_of c.in-Block-Block.is-0 ∙ block_of c.in-Block-Block.a ∙ ap (λ l. source.block (statements_of l))
    (sym c.deref.ensures.value)
    in
    let n : statement_nodes (statement_of c.args.old.now) ≡ 1 + statements_nodes (statements_of c.deref.result.now) = ap statement_nodes
    same
    in
    (omega (arith, n), tt)

pub same_statement-returns-in-Block-Block : goal.same_statement-returns-in-Block-Block
same_statement-returns-in-Block-Block t c =
    let R = related_by c.args.procs.now in
    let old : statement_of c.args.old.now ≡ source.block (statements_of c.deref.result.now) =
    ap statement_of c.in-Block-Block.is-0 ∙ block_of c.in-Block-Block.a ∙ ap (λ l. source.block (statements_of l))
    (sym c.deref.ensures.value)
    in
    let new : statement_of c.args.new.now ≡ source.block (statements_of c.deref-in-Block-Block.result.now) =
    ap statement_of c.in-Block-Block.is-1 ∙ block_of c.in-Block-Block.b ∙ ap (λ l. source.block (statements_of l))
    (sym c.deref-in-Block-Block.ensures.value) in
    let same = blocks_same R (statements_of c.deref.result.now) (statements_of c.deref-in-Block-Block.result.now) c.same_body.result
    c.same_body.ensures in
    let P : Statement → Statement → Type 0 = λ x y. IsTrue c.same_body.result ↔ SameStatement R Any x y in
    subst (P (statement_of c.args.old.now)) (sym new)
    (subst (λ x. P x (source.block (statements_of c.deref-in-Block-Block.result.now))) (sym old) same)

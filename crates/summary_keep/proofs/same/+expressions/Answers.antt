use Rattle.std.proofs.Common.{◌≡◌, ◌↔◌, IsTrue, ◌+◌, ◌-◌, length, take, drop, ap, sym, subst, ◌∙◌, arith}
use Rattle.c_tree.proofs.Rows.{call_of}
use Rattle.c_tree.specs.Syntax.{Expression}
use Rattle.c_tree.specs.Syntax as source
use Rattle.c_tree.specs.View.{expression_of, expressions_of}
use Rattle.c_tree.specs.WellFormed.{nodes, nodes_all}
use Rattle.summary_keep.specs.Bodies.{SameExpression}
use Rattle.summary_keep.specs.Keeping.{related_by}
use Rattle.summary_keep.specs.Matching.{Any}
use Rattle.summary_keep.proofs.Rows.{first_rest, some_nodes, calls_same, empty_same}
use Rattle.summary_keep.proofs.same.+expressions.Goals as goal

pub same_expression-same_expressions-requires : goal.same_expression-same_expressions-requires
same_expression-same_expressions-requires t c =
    let same : expression_of c.args.old.now ≡ source.call c.in-Call-Call.p (expressions_of c.deref.result.now) =
    ap expression_of c.in-Call-Call.is-0 ∙ call_of c.in-Call-Call.p c.in-Call-Call.a
    ∙ ap (λ l. source.call c.in-Call-Call.p (expressions_of l))
    (sym c.deref.ensures.value) in
    let n : nodes (expression_of c.args.old.now) ≡ 1 + nodes_all (expressions_of c.deref.result.now) = ap nodes same in
    (omega (arith, n), tt)

pub same_expressions-same_expressions-requires : goal.same_expressions-same_expressions-requires
same_expressions-same_expressions-requires t c =
    let whole = first_rest c.args.old.now c.a-item.result c.in-len1-up.len_at_least c.a-item.is in
    let some = some_nodes (expression_of c.a-item.result) in
    let n : nodes_all (expressions_of c.args.old.now) ≡ nodes (expression_of c.a-item.result)
    + nodes_all (expressions_of (take (length c.args.old.now - 1) (drop 1 c.args.old.now))) = ap (λ l. nodes_all (expressions_of l)) whole
    in
    (omega (arith, n, some), tt)

pub same_expressions-returns-in-empty : goal.same_expressions-returns-in-empty
same_expressions-returns-in-empty t c =
    empty_same (related_by c.args.procs.now) c.args.old.now c.args.new.now c.is_empty.result c.in-empty.len_below c.is_empty.ensures

pub same_expression-returns-then-is_related : goal.same_expression-returns-then-is_related
same_expression-returns-then-is_related t c =
    let R = related_by c.args.procs.now in
    let old : expression_of c.args.old.now ≡ source.call c.in-Call-Call.p (expressions_of c.deref.result.now) =
    ap expression_of c.in-Call-Call.is-0 ∙ call_of c.in-Call-Call.p c.in-Call-Call.a
    ∙ ap (λ l. source.call c.in-Call-Call.p (expressions_of l))
    (sym c.deref.ensures.value) in
    let new : expression_of c.args.new.now ≡ source.call c.in-Call-Call.q (expressions_of c.deref-then-is_related.result.now) =
    ap expression_of c.in-Call-Call.is-1 ∙ call_of c.in-Call-Call.q c.in-Call-Call.b
    ∙ ap (λ l. source.call c.in-Call-Call.q (expressions_of l))
    (sym c.deref-then-is_related.ensures.value) in
    let same = calls_same R c.in-Call-Call.p c.in-Call-Call.q (expressions_of c.deref.result.now)
    (expressions_of c.deref-then-is_related.result.now) c.same_expressions.result (sym c.is_related.ensures ∙ c.if-is_related.true)
    c.same_expressions.ensures in
    let P : Expression → Expression → Type 0 = λ x y. IsTrue c.same_expressions.result ↔ SameExpression R Any x y in
    subst (P (expression_of c.args.old.now)) (sym new) (subst (λ x. P x (source.call c.in-Call-Call.q
    (expressions_of c.deref-then-is_related.result.now))) (sym old) same)

use Rattle.std.proofs.Common.{◌≡◌, ◌++◌, OnOk, ◌+◌, ◌-◌, length, take, drop, ap, sym, subst, ◌∙◌, arith}
use Rattle.c_tree.proofs.Rows.{block_of}
use Rattle.c_tree.specs.Syntax.{Statement}
use Rattle.c_tree.specs.Syntax as source
use Rattle.c_tree.specs.View.{statement_of, statements_of}
use Rattle.c_tree.specs.WellFormed.{statement_nodes, statements_nodes, asserted_by}
use Rattle.summary_keep.proofs.Rows.{first_rest, some_statement_nodes}
use Rattle.summary_keep.proofs.assertions.+statements.Goals as goal

pub push_by-push_in-requires : goal.push_by-push_in-requires
push_by-push_in-requires t c =
    let same : statement_of c.args.statement.now ≡ source.block (statements_of c.deref.result.now) =
    ap statement_of c.in-Block.is ∙ block_of c.in-Block.items ∙ ap (λ l. source.block (statements_of l)) (sym c.deref.ensures.value) in
    let n : statement_nodes (statement_of c.args.statement.now) ≡ 1 + statements_nodes (statements_of c.deref.result.now) =
    ap statement_nodes
    same
    in
    (omega (arith, n), tt)

pub push_by-returns-in-Block : goal.push_by-returns-in-Block
push_by-returns-in-Block t c =
    let same : statement_of c.args.statement.now ≡ source.block (statements_of c.deref.result.now) =
    ap statement_of c.in-Block.is ∙ block_of c.in-Block.items ∙ ap (λ l. source.block (statements_of l)) (sym c.deref.ensures.value) in
    let P : Statement → Type 0 = λ x. OnOk c.push_in.result (c.push_in.new.out.items ≡ c.args.out.now.items ++ asserted_by x) in
    subst P (sym same) c.push_in.ensures

pub push_in-push_in-requires : goal.push_in-push_in-requires
push_in-push_in-requires t c =
    let whole = first_rest c.args.statements.now c.first-item.result c.in-len1-up.len_at_least c.first-item.is in
    let some = some_statement_nodes (statement_of c.first-item.result) in
    let n : statements_nodes (statements_of c.args.statements.now) ≡ statement_nodes (statement_of c.first-item.result)
    + statements_nodes (statements_of (take (length c.args.statements.now - 1) (drop 1 c.args.statements.now))) =
    ap (λ l. statements_nodes (statements_of l)) whole in
    (omega (arith, n, some), tt)

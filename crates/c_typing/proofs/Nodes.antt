-- The program of a tree has no more nodes than were counted of the tree.
use Rattle.std.proofs.Common.{◌≡◌, ℕ, pos, ◌+◌, ◌≤◌, List, [], ◌∷◌, length, Option, Some, None, arith}
use Rattle.c_tree.specs.declared.tree.Op.TheVariants as op
use Rattle.c_tree.specs.Syntax as program
use Rattle.c_tree.specs.Syntax.{Expressions, no_expressions, expression, Statement, Statements}
use Rattle.c_tree.specs.WellFormed.{nodes, nodes_all, nodes_optional, statement_nodes, statements_nodes}
use Rattle.c_tree.specs.SourceNodes.{tree_nodes, trees_nodes, optional_nodes, simple_nodes, declared_nodes, init_nodes, step_nodes, statement_tree_nodes, statement_trees_nodes}
use Rattle.c_tree.specs.SourceTree.{ExpressionTree, literal, name, call, not, negate, plus, binary, ExpressionTrees, no_arguments, argument, SimpleStatement, set, change, add_one, subtract_one, call_statement, Declarator, ForInit, no_init, declaring, starting, StatementTree, block, empty, declare, simple, if_then, if_else, while_loop, do_while, for_loop, break, continue, return, StatementTrees, no_statements, statement}
use Rattle.c_typing.specs.Scope.{FileScope, Scope, Callee, input, assume, assert, defined, unknown, callee_of, with_variable, declared_by, declared_by_init, asserts_by, asserts_by_init, asserts_by_step}
use Rattle.c_typing.specs.Lowering.{place, right_side, joined, lowered_call, first_of, called_statement, lowered, lowered_all, lowered_value, lowered_test, lowered_result, lowered_simple, lowered_step, lowered_declarators, init_scopes, with_init, scopes_after, spliced, lowered_statement, lowered_statements}
use Rattle.c_typing.proofs.Places.{read-nodes, set-nodes, changed-nodes, right-nodes}

call-nodes : (c : Callee) (es : Expressions) → nodes (lowered_call c es) ≤ 1 + nodes_all es
call-nodes input es = omega arith
call-nodes assume es = omega arith
call-nodes assert es = omega arith
call-nodes (defined number params void) es = omega arith
call-nodes unknown es = omega arith

first-nodes : (es : Expressions) → nodes (first_of es) ≤ 1 + nodes_all es
first-nodes no_expressions = omega arith
first-nodes (expression e es) = omega arith

called-nodes : (c : Callee) (id : ℕ) (es : Expressions) → statement_nodes (called_statement c id es) ≤ 2 + nodes_all es
called-nodes input id es = omega arith
called-nodes assume id es = omega (arith, first-nodes es)
called-nodes assert id es = omega (arith, first-nodes es)
called-nodes (defined number params void) id es = omega arith
called-nodes unknown id es = omega arith

nodes-joined : (xs ys : Statements) → statements_nodes (joined xs ys) ≡ statements_nodes xs + statements_nodes ys
nodes-joined program.no_statements ys = omega arith
nodes-joined (program.statement x xs) ys = omega (arith, nodes-joined xs ys)

module _ (file : FileScope) where
  mutual
    expression-nodes : (ss : List Scope) (e : ExpressionTree) → nodes (lowered file ss e) ≤ tree_nodes e
    expression-nodes ss (literal n) = omega arith
    expression-nodes ss (name n) = omega (arith, read-nodes (place file ss n.name))
    expression-nodes ss (call n es) = omega (
      arith,
      call-nodes (callee_of file.procedures n.name) (lowered_all file ss es),
      arguments-nodes ss es,
    )
    expression-nodes ss (not e) = omega (arith, expression-nodes ss e)
    expression-nodes ss (negate e) = omega (arith, expression-nodes ss e)
    expression-nodes ss (plus e) = expression-nodes ss e
    expression-nodes ss (binary o at a b) = omega (
      arith,
      expression-nodes ss a,
      expression-nodes ss b,
      right-nodes o (lowered file ss b),
    )

    arguments-nodes : (ss : List Scope) (es : ExpressionTrees) → nodes_all (lowered_all file ss es) ≤ trees_nodes es
    arguments-nodes ss no_arguments = omega arith
    arguments-nodes ss (argument e es) = omega (arith, expression-nodes ss e, arguments-nodes ss es)

  value-nodes : (ss : List Scope) (o : Option ExpressionTree) → nodes (lowered_value file ss o) ≤ optional_nodes o
  value-nodes ss None = omega arith
  value-nodes ss (Some e) = expression-nodes ss e

  test-nodes : (ss : List Scope) (o : Option ExpressionTree) → nodes (lowered_test file ss o) ≤ optional_nodes o
  test-nodes ss None = omega arith
  test-nodes ss (Some e) = expression-nodes ss e

  result-nodes : (ss : List Scope) (o : Option ExpressionTree) → nodes_optional (lowered_result file ss o) ≤ optional_nodes o
  result-nodes ss None = omega arith
  result-nodes ss (Some e) = expression-nodes ss e

  lowered_simple-nodes : (ss : List Scope) (id : ℕ) (s : SimpleStatement) → statement_nodes (lowered_simple file ss id s) ≤ simple_nodes s
  lowered_simple-nodes ss id (set n e) = omega (arith, set-nodes (place file ss n.name) (lowered file ss e), expression-nodes ss e)
  lowered_simple-nodes ss id (change o at n e) = omega (
    arith,
    changed-nodes (place file ss n.name) o (right_side o (lowered file ss e)),
    right-nodes o (lowered file ss e),
    expression-nodes ss e,
  )
  lowered_simple-nodes ss id (add_one n) = omega (arith, changed-nodes (place file ss n.name) op.Add (program.literal (pos 1)))
  lowered_simple-nodes ss id (subtract_one n) = omega (arith, changed-nodes (place file ss n.name) op.Subtract (program.literal (pos 1)))
  lowered_simple-nodes ss id (call_statement n es) = omega (
    arith,
    called-nodes (callee_of file.procedures n.name) id (lowered_all file ss es),
    arguments-nodes ss es,
  )

  lowered_step-nodes : (ss : List Scope) (id : ℕ) (s : Option SimpleStatement) → statement_nodes (lowered_step file ss id s) ≤ step_nodes s
  lowered_step-nodes ss id None = omega arith
  lowered_step-nodes ss id (Some s) = lowered_simple-nodes ss id s

  declarators-nodes : (ss : List Scope) (next : ℕ) (ds : List Declarator) → statements_nodes (lowered_declarators file ss next ds) ≤
      declared_nodes ds
  declarators-nodes ss next [] = omega arith
  declarators-nodes ss next (d ∷ ds) = omega (
    arith,
    value-nodes ss d.value,
    declarators-nodes (with_variable ss d.named.name next)
        (next + 1) ds,
  )

  with_init-nodes : (ss : List Scope) (next id : ℕ) (f : ForInit) (whole : Statement) → statement_nodes (with_init file ss next id f whole)
      ≤
      1
      + init_nodes f + statement_nodes whole
  with_init-nodes ss next id no_init whole = omega arith
  with_init-nodes ss next id (declaring ds) whole = omega (
    arith,
    nodes-joined (lowered_declarators file ([] ∷ ss) next ds)
        (program.statement whole program.no_statements),
    declarators-nodes ([] ∷ ss) next ds,
  )
  with_init-nodes ss next id (starting s) whole = omega (arith, lowered_simple-nodes ([] ∷ ss) id s)

  spliced-nodes : (ss : List Scope) (next : ℕ) (s : StatementTree) (whole : Statement) → statement_nodes whole ≤ statement_tree_nodes s →
      statements_nodes (spliced file ss next s whole) ≤ statement_tree_nodes s
  spliced-nodes ss next (declare ds) whole h = omega (arith, declarators-nodes ss next ds)
  spliced-nodes ss next (block a) whole h = omega arith
  spliced-nodes ss next empty whole h = omega arith
  spliced-nodes ss next (simple s) whole h = omega arith
  spliced-nodes ss next (if_then e a) whole h = omega arith
  spliced-nodes ss next (if_else e a c) whole h = omega arith
  spliced-nodes ss next (while_loop e a) whole h = omega arith
  spliced-nodes ss next (do_while a e) whole h = omega arith
  spliced-nodes ss next (for_loop f t s a) whole h = omega arith
  spliced-nodes ss next (break at) whole h = omega arith
  spliced-nodes ss next (continue at) whole h = omega arith
  spliced-nodes ss next (return at e) whole h = omega arith

  mutual
    lowered_statement-nodes : (ss : List Scope) (next id : ℕ) (s : StatementTree) → statement_nodes (lowered_statement file ss next id s) ≤
        statement_tree_nodes s
    lowered_statement-nodes ss next id (block a) = omega (arith, lowered_statements-nodes ([] ∷ ss) next id a)
    lowered_statement-nodes ss next id empty = omega arith
    lowered_statement-nodes ss next id (declare ds) = omega (arith, declarators-nodes ss next ds)
    lowered_statement-nodes ss next id (simple s) = lowered_simple-nodes ss id s
    lowered_statement-nodes ss next id (if_then e a) = omega (arith, expression-nodes ss e, lowered_statement-nodes ss next id a)
    lowered_statement-nodes ss next id (if_else e a c) =
        omega (
          arith,
          expression-nodes ss e,
          lowered_statement-nodes ss next id a,
          lowered_statement-nodes ss (next + length (declared_by a))
              (id + length (asserts_by a)) c,
        )
    lowered_statement-nodes ss next id (while_loop e a) = omega (arith, expression-nodes ss e, lowered_statement-nodes ss next id a)
    lowered_statement-nodes ss next id (do_while a e) = omega (arith, expression-nodes ss e, lowered_statement-nodes ss next id a)
    lowered_statement-nodes ss next id (for_loop f t s a) =
        let inside = init_scopes file ss next f in
        let id_step = id + length (asserts_by_init f) in
        let id_body = id + length (asserts_by_init f) + length (asserts_by_step s) in
        let test = test-nodes inside t in
        let step = lowered_step-nodes inside id_step s in
        let body = lowered_statement-nodes inside (next + length (declared_by_init f)) id_body a in
        omega (
          arith,
          with_init-nodes ss next id f (program.loop (lowered_test file inside t) (lowered_step file inside id_step s)
              (lowered_statement file inside (next + length (declared_by_init f)) id_body a)),
          test,
          step,
          body,
        )
    lowered_statement-nodes ss next id (break at) = omega arith
    lowered_statement-nodes ss next id (continue at) = omega arith
    lowered_statement-nodes ss next id (return at e) = omega (arith, result-nodes ss e)

    pub lowered_statements-nodes : (ss : List Scope) (next id : ℕ) (a : StatementTrees) →
        statements_nodes (lowered_statements file ss next id a)
        ≤ statement_trees_nodes a
    lowered_statements-nodes ss next id no_statements = omega arith
    lowered_statements-nodes ss next id (statement s rest) =
        let here = spliced-nodes ss next s (lowered_statement file ss next id s) (lowered_statement-nodes ss next id s) in
        let more = lowered_statements-nodes (scopes_after file ss next s) (next + length (declared_by s)) (id + length (asserts_by s)) rest
        in
        omega (
          arith,
          nodes-joined (spliced file ss next s (lowered_statement file ss next id s))
              (lowered_statements file (scopes_after file ss next s) (next + length (declared_by s)) (id + length (asserts_by s)) rest),
          here,
          more,
        )

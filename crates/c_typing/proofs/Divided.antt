-- In the program of a tree without faults each division is by a literal that may divide.
use Rattle.std.proofs.Common.{◌≡◌, ℕ, ℤ, ◌+◌, Bool, true, false, ◌&&◌, ◌||◌, not as not_bool, List, [], ◌∷◌, ◌++◌, length, Option, Some, None, unwrap_or, pos, refl, ◌∙◌, if◌then◌else◌}
use Rattle.c_tree.specs.declared.tree.Op.{Op}
use Rattle.c_tree.specs.declared.tree.Op.TheVariants as op
use Rattle.c_tree.specs.Constants.{constant_value}
use Rattle.c_tree.specs.Syntax as program
use Rattle.c_tree.specs.Syntax.{Expression, Expressions, no_expressions, expression, Statement, Statements}
use Rattle.c_tree.specs.WellFormed.{is_divisor, divides_by_literals, all_divide_by_literals, returns_divide_by_literals, runs_divide_by_literals, statements_divide_by_literals}
use Rattle.c_tree.specs.Operators.{is_division, is_product}
use Rattle.c_tree.specs.SourceTree.{ExpressionTree, literal, name, call, not, negate, plus, binary, ExpressionTrees, no_arguments, argument, SimpleStatement, set, change, add_one, subtract_one, call_statement, Declarator, ForInit, no_init, declaring, starting, StatementTree, block, empty, declare, simple, if_then, if_else, while_loop, do_while, for_loop, break, continue, return, StatementTrees, no_statements, statement}
use Rattle.c_typing.specs.declared.fault.TypeFault.TheVariants.{NotLinear, BadDivisor}
use Rattle.c_typing.specs.Scope.{FileScope, Scope, Callee, input, assume, assert, defined, unknown, callee_of, with_variable, declared_by, declared_by_init, asserts_by, asserts_by_init, asserts_by_step}
use Rattle.c_typing.specs.Faults.{fault_if, callee_faults, argument_count, name_faults, is_constant as is_constant_tree, may_divide, has_divisor, operator_faults, expression_faults, arguments_faults, optional_faults, simple_faults, step_faults, declared_faults, declarators_faults, init_faults, init_scopes as plain_scopes, scopes_after as plain_after, return_faults, statement_faults, statements_faults}
use Rattle.c_typing.specs.Lowering.{place, read_of, right_side, joined, lowered_call, first_of, called_statement, lowered, lowered_all, lowered_value, lowered_test, lowered_result, lowered_simple, lowered_step, lowered_declarators, init_scopes, with_init, scopes_after, spliced, lowered_statement, lowered_statements}
use Rattle.c_typing.proofs.Basics.{no_fault, nil_both, both, both_true, not_false}
use Rattle.c_typing.proofs.Places.{read-divides, set-divides}
use Rattle.c_typing.proofs.Erased.{erased, erased-with_names, erased-variable, optional-same, declarators-same, step-same, statement-same, statements-same, after-same}

divide-joined : (xs ys : Statements) → statements_divide_by_literals xs ≡ true → statements_divide_by_literals ys ≡ true →
    statements_divide_by_literals (joined xs ys) ≡ true
divide-joined program.no_statements ys p q = q
divide-joined (program.statement x xs) ys p q = let h = both_true (runs_divide_by_literals x) (statements_divide_by_literals xs) p in
    both (runs_divide_by_literals x) (statements_divide_by_literals (joined xs ys)) h.0 (divide-joined xs ys h.1 q)

call-divides : (c : Callee) (es : Expressions) → all_divide_by_literals es ≡ true → divides_by_literals (lowered_call c es) ≡ true
call-divides input es h = refl
call-divides assume es h = refl
call-divides assert es h = refl
call-divides (defined number params void) es h = h
call-divides unknown es h = refl

first-divides : (es : Expressions) → all_divide_by_literals es ≡ true → divides_by_literals (first_of es) ≡ true
first-divides no_expressions h = refl
first-divides (expression e es) h = (both_true (divides_by_literals e) (all_divide_by_literals es) h).0

called-divides : (c : Callee) (id : ℕ) (es : Expressions) → all_divide_by_literals es ≡ true →
    runs_divide_by_literals (called_statement c id es) ≡ true
called-divides input id es h = refl
called-divides assume id es h = first-divides es h
called-divides assert id es h = first-divides es h
called-divides (defined number params void) id es h = h
called-divides unknown id es h = refl

-- the side of a division is a literal that may divide
right-divisor : (o : Op) (c : Bool) (e : Expression) → (is_division o && not_bool (c && may_divide (constant_value e))) ≡ false →
    (not_bool (is_division o) || is_divisor (right_side o e)) ≡ true
right-divisor o c e h = go (is_division o) c (constant_value e) h
  where
    go : (d c : Bool) (v : Option ℤ) → (d && not_bool (c && may_divide v)) ≡ false →
        (not_bool d || is_divisor (if d then program.literal (unwrap_or v (pos 0)) else e)) ≡ true
    go false c v h = refl
    go true false v h = absurd cc
    go true true None h = absurd cc
    go true true (Some n) h = not_false (is_divisor (program.literal n)) h

right-divides : (o : Op) (e : Expression) → divides_by_literals e ≡ true → divides_by_literals (right_side o e) ≡ true
right-divides o e h = go (is_division o)
  where
    go : (b : Bool) → divides_by_literals (if b then program.literal (unwrap_or (constant_value e) (pos 0)) else e) ≡ true
    go true = refl
    go false = h

module _ (file : FileScope) where
  mutual
    expression-divides : (ss : List Scope) (e : ExpressionTree) → expression_faults file ss e ≡ [] → divides_by_literals (lowered file ss e)
        ≡ true
    expression-divides ss (literal n) h = refl
    expression-divides ss (name n) h = read-divides (place file ss n.name)
    expression-divides ss (call n es) h =
        let p = nil_both (callee_faults (callee_of file.procedures n.name) n (argument_count es) true) (arguments_faults file ss es) h in
        call-divides (callee_of file.procedures n.name) (lowered_all file ss es) (arguments-divides ss es p.1)
    expression-divides ss (not e) h = expression-divides ss e h
    expression-divides ss (negate e) h = expression-divides ss e h
    expression-divides ss (plus e) h = expression-divides ss e h
    expression-divides ss (binary o at a b) h =
        let product = fault_if (is_product o && not_bool (is_constant_tree a || is_constant_tree b)) NotLinear at in
        let wrong = is_division o && not_bool (has_divisor file ss b) in
        let p = nil_both (operator_faults file ss o at (is_constant_tree a || is_constant_tree b) b)
        (expression_faults file ss a ++ expression_faults file ss b) h in
        let w = nil_both product (fault_if wrong BadDivisor at) p.0 in
        let q = nil_both (expression_faults file ss a) (expression_faults file ss b) p.1 in
        let x = lowered file ss a in
        let y = right_side o (lowered file ss b) in
        let side = right-divisor o (is_constant_tree b) (lowered file ss b) (no_fault wrong BadDivisor at w.1) in
        let one = not_bool (is_division o) || is_divisor y in
        both (one && divides_by_literals x) (divides_by_literals y) (both one (divides_by_literals x) side (expression-divides ss a q.0))
        (right-divides o (lowered file ss b) (expression-divides ss b q.1))

    arguments-divides : (ss : List Scope) (es : ExpressionTrees) → arguments_faults file ss es ≡ [] →
        all_divide_by_literals (lowered_all file ss es) ≡ true
    arguments-divides ss no_arguments h = refl
    arguments-divides ss (argument e es) h =
        let q = nil_both (expression_faults file ss e) (arguments_faults file ss es) h in
        both (divides_by_literals (lowered file ss e)) (all_divide_by_literals (lowered_all file ss es)) (expression-divides ss e q.0)
        (arguments-divides ss es q.1)

  value-divides : (ss : List Scope) (o : Option ExpressionTree) → optional_faults file ss o ≡ [] →
      divides_by_literals (lowered_value file ss o) ≡ true
  value-divides ss None h = refl
  value-divides ss (Some e) h = expression-divides ss e h

  test-divides : (ss : List Scope) (o : Option ExpressionTree) → optional_faults file ss o ≡ [] →
      divides_by_literals (lowered_test file ss o)
      ≡ true
  test-divides ss None h = refl
  test-divides ss (Some e) h = expression-divides ss e h

  result-divides : (ss : List Scope) (o : Option ExpressionTree) → optional_faults file ss o ≡ [] → returns_divide_by_literals
      (lowered_result file ss o)
      ≡ true
  result-divides ss None h = refl
  result-divides ss (Some e) h = expression-divides ss e h

  simple-divides : (ss : List Scope) (id : ℕ) (s : SimpleStatement) → simple_faults file ss s ≡ [] →
      runs_divide_by_literals (lowered_simple file ss id s)
      ≡ true
  simple-divides ss id (set n e) h = set-divides (place file ss n.name) (lowered file ss e)
      (expression-divides ss e (nil_both (name_faults file ss n) (expression_faults file ss e) h).1)
  simple-divides ss id (change o at n e) h =
      let product = fault_if (is_product o && not_bool (is_constant_tree e)) NotLinear at in
      let wrong = is_division o && not_bool (has_divisor file ss e) in
      let q = nil_both (name_faults file ss n) (operator_faults file ss o at (is_constant_tree e) e ++ expression_faults file ss e) h in
      let r = nil_both (operator_faults file ss o at (is_constant_tree e) e) (expression_faults file ss e) q.1 in
      let w = nil_both product (fault_if wrong BadDivisor at) r.0 in
      let v = place file ss n.name in
      let x = right_side o (lowered file ss e) in
      let side = right-divisor o (is_constant_tree e) (lowered file ss e) (no_fault wrong BadDivisor at w.1) in
      let one = not_bool (is_division o) || is_divisor x in
      set-divides v (program.binary o (read_of v) x)
      (both (one && divides_by_literals (read_of v)) (divides_by_literals x) (both one (divides_by_literals (read_of v)) side
      (read-divides v))
      (right-divides o (lowered file ss e) (expression-divides ss e r.1)))
  simple-divides ss id (add_one n) h = let v = place file ss n.name in
      set-divides v (program.binary op.Add (read_of v) (program.literal (pos 1)))
      (both (divides_by_literals (read_of v)) true (read-divides v) refl)
  simple-divides ss id (subtract_one n) h = let v = place file ss n.name in
      set-divides v (program.binary op.Subtract (read_of v) (program.literal (pos 1)))
      (both (divides_by_literals (read_of v)) true (read-divides v) refl)
  simple-divides ss id (call_statement n es) h =
      let p = nil_both (callee_faults (callee_of file.procedures n.name) n (argument_count es) false) (arguments_faults file ss es) h in
      called-divides (callee_of file.procedures n.name) id (lowered_all file ss es) (arguments-divides ss es p.1)

  step-divides : (ss : List Scope) (id : ℕ) (s : Option SimpleStatement) → step_faults file ss s ≡ [] →
      runs_divide_by_literals (lowered_step file ss id s)
      ≡ true
  step-divides ss id None h = refl
  step-divides ss id (Some s) h = simple-divides ss id s h

  declarators-divides : (ss : List Scope) (next : ℕ) (ds : List Declarator) → declarators_faults file ss ds ≡ [] →
      statements_divide_by_literals (lowered_declarators file ss next ds) ≡ true
  declarators-divides ss next [] h = refl
  declarators-divides ss next (d ∷ ds) h =
      let p = nil_both (optional_faults file ss d.value) (declared_faults file ss d.named ++ declarators_faults file
      (with_variable ss d.named.name 0) ds)
      h in
      let q = nil_both (declared_faults file ss d.named) (declarators_faults file (with_variable ss d.named.name 0) ds) p.1 in
      let rest = declarators-same file (with_variable ss d.named.name next) (with_variable ss d.named.name 0) ds
      (erased-variable ss ss d.named.name next 0 refl) ∙ q.1 in
      both (divides_by_literals (lowered_value file ss d.value))
      (statements_divide_by_literals (lowered_declarators file (with_variable ss d.named.name next) (next + 1) ds))
      (value-divides ss d.value p.0) (declarators-divides (with_variable ss d.named.name next) (next + 1) ds rest)

  with_init-divides : (ss : List Scope) (next id : ℕ) (f : ForInit) (whole : Statement) → init_faults file ([] ∷ ss) f ≡ [] →
      runs_divide_by_literals whole
      ≡ true → runs_divide_by_literals (with_init file ss next id f whole) ≡ true
  with_init-divides ss next id no_init whole h w = w
  with_init-divides ss next id (declaring ds) whole h w =
      divide-joined (lowered_declarators file ([] ∷ ss) next ds) (program.statement whole program.no_statements)
      (declarators-divides ([] ∷ ss) next ds h) (both (runs_divide_by_literals whole) true w refl)
  with_init-divides ss next id (starting s) whole h w =
      both (runs_divide_by_literals (lowered_simple file ([] ∷ ss) id s)) (runs_divide_by_literals whole && true)
      (simple-divides ([] ∷ ss) id s h)
      (both (runs_divide_by_literals whole) true w refl)

  module _ (void : Bool) where
    spliced-divides : (l : Bool) (ss : List Scope) (next : ℕ) (s : StatementTree) (whole : Statement) → statement_faults file void l ss s
        ≡ [] →
        runs_divide_by_literals whole ≡ true → statements_divide_by_literals (spliced file ss next s whole) ≡ true
    spliced-divides l ss next (declare ds) whole h w = declarators-divides ss next ds h
    spliced-divides l ss next (block a) whole h w = both (runs_divide_by_literals whole) true w refl
    spliced-divides l ss next empty whole h w = both (runs_divide_by_literals whole) true w refl
    spliced-divides l ss next (simple s) whole h w = both (runs_divide_by_literals whole) true w refl
    spliced-divides l ss next (if_then e a) whole h w = both (runs_divide_by_literals whole) true w refl
    spliced-divides l ss next (if_else e a c) whole h w = both (runs_divide_by_literals whole) true w refl
    spliced-divides l ss next (while_loop e a) whole h w = both (runs_divide_by_literals whole) true w refl
    spliced-divides l ss next (do_while a e) whole h w = both (runs_divide_by_literals whole) true w refl
    spliced-divides l ss next (for_loop f t s a) whole h w = both (runs_divide_by_literals whole) true w refl
    spliced-divides l ss next (break at) whole h w = both (runs_divide_by_literals whole) true w refl
    spliced-divides l ss next (continue at) whole h w = both (runs_divide_by_literals whole) true w refl
    spliced-divides l ss next (return at e) whole h w = both (runs_divide_by_literals whole) true w refl

    mutual
      statement-divides : (l : Bool) (ss : List Scope) (next id : ℕ) (s : StatementTree) → statement_faults file void l ss s ≡ [] →
          runs_divide_by_literals (lowered_statement file ss next id s) ≡ true
      statement-divides l ss next id (block a) h = statements-divides l ([] ∷ ss) next id a h
      statement-divides l ss next id empty h = refl
      statement-divides l ss next id (declare ds) h = declarators-divides ss next ds h
      statement-divides l ss next id (simple s) h = simple-divides ss id s h
      statement-divides l ss next id (if_then e a) h =
          let p = nil_both (expression_faults file ss e) (statement_faults file void l ss a) h in
          let x = divides_by_literals (lowered file ss e) in
          let y = runs_divide_by_literals (lowered_statement file ss next id a) in
          both (x && y) true (both x y (expression-divides ss e p.0) (statement-divides l ss next id a p.1)) refl
      statement-divides l ss next id (if_else e a c) h =
          let p = nil_both (expression_faults file ss e) (statement_faults file void l ss a ++ statement_faults file void l ss c) h in
          let q = nil_both (statement_faults file void l ss a) (statement_faults file void l ss c) p.1 in
          let next_other = next + length (declared_by a) in
          let id_other = id + length (asserts_by a) in
          let x = divides_by_literals (lowered file ss e) in
          let y = runs_divide_by_literals (lowered_statement file ss next id a) in
          both (x && y) (runs_divide_by_literals (lowered_statement file ss next_other id_other c))
          (both x y (expression-divides ss e p.0) (statement-divides l ss next id a q.0)) (statement-divides l ss next_other id_other c q.1)
      statement-divides l ss next id (while_loop e a) h =
          let p = nil_both (expression_faults file ss e) (statement_faults file void true ss a) h in
          let x = divides_by_literals (lowered file ss e) in
          both (x && true) (runs_divide_by_literals (lowered_statement file ss next id a)) (both x true (expression-divides ss e p.0) refl)
          (statement-divides true ss next id a p.1)
      statement-divides l ss next id (do_while a e) h =
          let p = nil_both (statement_faults file void true ss a) (expression_faults file ss e) h in
          both (runs_divide_by_literals (lowered_statement file ss next id a)) (divides_by_literals (lowered file ss e))
          (statement-divides true ss next id a p.0)
          (expression-divides ss e p.1)
      statement-divides l ss next id (for_loop f t s a) h =
          let inside = init_scopes file ss next f in
          let plain = plain_scopes file ss f in
          let same : erased inside ≡ erased plain = erased-with_names ([] ∷ ss) ([] ∷ ss) next 0 (declared_by_init f) refl in
          let p = nil_both (init_faults file ([] ∷ ss) f)
          (optional_faults file plain t ++ (step_faults file plain s ++ statement_faults file void true plain a)) h in
          let q = nil_both (optional_faults file plain t) (step_faults file plain s ++ statement_faults file void true plain a) p.1 in
          let r = nil_both (step_faults file plain s) (statement_faults file void true plain a) q.1 in
          let next_body = next + length (declared_by_init f) in
          let id_step = id + length (asserts_by_init f) in
          let id_body = id + length (asserts_by_init f) + length (asserts_by_step s) in
          let test = lowered_test file inside t in
          let step = lowered_step file inside id_step s in
          let body = lowered_statement file inside next_body id_body a in
          let test_linear : divides_by_literals test ≡ true = test-divides inside t (optional-same file inside plain t same ∙ q.0) in
          let step_linear : runs_divide_by_literals step ≡ true = step-divides inside id_step s (step-same file inside plain s same ∙ r.0)
          in
          let body_linear : runs_divide_by_literals body ≡ true = statement-divides true inside next_body id_body a
          (statement-same file void true inside plain a same ∙ r.1) in
          with_init-divides ss next id f (program.loop test step body) p.0 (both (divides_by_literals test && runs_divide_by_literals step)
          (runs_divide_by_literals body)
          (both (divides_by_literals test) (runs_divide_by_literals step) test_linear step_linear) body_linear)
      statement-divides l ss next id (break at) h = refl
      statement-divides l ss next id (continue at) h = refl
      statement-divides l ss next id (return at e) h = result-divides ss e
          (nil_both (return_faults file void at e) (optional_faults file ss e)
          h).1

      pub statements-divides : (l : Bool) (ss : List Scope) (next id : ℕ) (a : StatementTrees) → statements_faults file void l ss a ≡ [] →
          statements_divide_by_literals (lowered_statements file ss next id a) ≡ true
      statements-divides l ss next id no_statements h = refl
      statements-divides l ss next id (statement s rest) h =
          let p = nil_both (statement_faults file void l ss s) (statements_faults file void l (plain_after file ss s) rest) h in
          let scopes = scopes_after file ss next s in
          let next_rest = next + length (declared_by s) in
          let id_rest = id + length (asserts_by s) in
          let whole = lowered_statement file ss next id s in
          divide-joined (spliced file ss next s whole) (lowered_statements file scopes next_rest id_rest rest)
          (spliced-divides l ss next s whole p.0 (statement-divides l ss next id s p.0))
          (statements-divides l scopes next_rest id_rest rest (statements-same file void l scopes (plain_after file ss s) rest
          (after-same file ss next s) ∙ p.1))

-- In the program of a tree without faults each product has a constant side.
use Rattle.std.proofs.Common.{◌≡◌, ℕ, ◌+◌, Bool, true, false, ◌&&◌, ◌||◌, not as not_bool, List, [], ◌∷◌, ◌++◌, length, Option, Some, None, unwrap_or, pos, refl, ap, ◌∙◌, if◌then◌else◌}
use Rattle.c_tree.specs.declared.tree.Op.{Op}
use Rattle.c_tree.specs.declared.tree.Op.TheVariants as op
use Rattle.c_tree.specs.Constants.{constant_value}
use Rattle.c_tree.specs.Syntax as program
use Rattle.c_tree.specs.Syntax.{Expression, Expressions, no_expressions, expression, Statement, Statements}
use Rattle.c_tree.specs.WellFormed.{is_constant, is_linear, are_linear, returns_linear, runs_linear, all_linear}
use Rattle.c_tree.specs.Operators.{is_arithmetic, is_division, is_product}
use Rattle.c_tree.specs.SourceTree.{ExpressionTree, literal, name, call, not, negate, plus, binary, ExpressionTrees, no_arguments, argument, SimpleStatement, set, change, add_one, subtract_one, call_statement, Declarator, ForInit, no_init, declaring, starting, StatementTree, block, empty, declare, simple, if_then, if_else, while_loop, do_while, for_loop, break, continue, return, StatementTrees, no_statements, statement}
use Rattle.c_typing.specs.declared.fault.TypeFault.TheVariants.{NotLinear, BadDivisor}
use Rattle.c_typing.specs.Scope.{FileScope, Scope, Callee, input, assume, assert, defined, unknown, callee_of, with_variable, declared_by, declared_by_init, asserts_by, asserts_by_init, asserts_by_step}
use Rattle.c_typing.specs.Faults.{fault_if, callee_faults, argument_count, name_faults, is_constant as is_constant_tree, has_divisor, operator_faults, expression_faults, arguments_faults, optional_faults, simple_faults, step_faults, declared_faults, declarators_faults, init_faults, init_scopes as plain_scopes, scopes_after as plain_after, return_faults, statement_faults, statements_faults}
use Rattle.c_typing.specs.Lowering.{place, read_of, right_side, joined, lowered_call, first_of, called_statement, lowered, lowered_all, lowered_value, lowered_test, lowered_result, lowered_simple, lowered_step, lowered_declarators, init_scopes, with_init, scopes_after, spliced, lowered_statement, lowered_statements}
use Rattle.c_typing.proofs.Basics.{no_fault, nil_both, both, both_true}
use Rattle.c_typing.proofs.Places.{read-linear, set-linear, right-linear}
use Rattle.c_typing.proofs.Erased.{erased, erased-with_names, erased-variable, optional-same, declarators-same, step-same, statement-same, statements-same, after-same}

or_right : (a b : Bool) → b ≡ true → (a || b) ≡ true
or_right true b e = refl
or_right false b e = e

-- a product with a constant side still has one where what was constant is so
constant_side : (p a b x y : Bool) → (p && not_bool (a || b)) ≡ false → (a ≡ true → x ≡ true) → (b ≡ true → y ≡ true) →
    (not_bool p || x || y) ≡ true
constant_side false a b x y e left right = refl
constant_side true true b x y e left right = ap (λ z. z || y) (left refl)
constant_side true false true x y e left right = or_right x y (right refl)
constant_side true false false x y e left right = absurd cc

all_linear-joined : (xs ys : Statements) → all_linear xs ≡ true → all_linear ys ≡ true → all_linear (joined xs ys) ≡ true
all_linear-joined program.no_statements ys p q = q
all_linear-joined (program.statement x xs) ys p q = let h = both_true (runs_linear x) (all_linear xs) p in
    both (runs_linear x) (all_linear (joined xs ys)) h.0 (all_linear-joined xs ys h.1 q)

call-linear : (c : Callee) (es : Expressions) → are_linear es ≡ true → is_linear (lowered_call c es) ≡ true
call-linear input es h = refl
call-linear assume es h = refl
call-linear assert es h = refl
call-linear (defined number params void) es h = h
call-linear unknown es h = refl

first-linear : (es : Expressions) → are_linear es ≡ true → is_linear (first_of es) ≡ true
first-linear no_expressions h = refl
first-linear (expression e es) h = (both_true (is_linear e) (are_linear es) h).0

called-linear : (c : Callee) (id : ℕ) (es : Expressions) → are_linear es ≡ true → runs_linear (called_statement c id es) ≡ true
called-linear input id es h = refl
called-linear assume id es h = first-linear es h
called-linear assert id es h = first-linear es h
called-linear (defined number params void) id es h = h
called-linear unknown id es h = refl

constant-right : (o : Op) (e : Expression) → is_constant e ≡ true → is_constant (right_side o e) ≡ true
constant-right o e h = go (is_division o)
  where
    go : (b : Bool) → is_constant (if b then program.literal (unwrap_or (constant_value e) (pos 0)) else e) ≡ true
    go true = refl
    go false = h

module _ (file : FileScope) where
  pub constant-lowered : (ss : List Scope) (e : ExpressionTree) → is_constant_tree e ≡ true → is_constant (lowered file ss e) ≡ true
  constant-lowered ss (literal n) h = refl
  constant-lowered ss (name n) h = absurd cc
  constant-lowered ss (call n es) h = absurd cc
  constant-lowered ss (not e) h = absurd cc
  constant-lowered ss (negate e) h = constant-lowered ss e h
  constant-lowered ss (plus e) h = constant-lowered ss e h
  constant-lowered ss (binary o at a b) h =
      let p = both_true (is_arithmetic o && is_constant_tree a) (is_constant_tree b) h in
      let q = both_true (is_arithmetic o) (is_constant_tree a) p.0 in
      let y = right_side o (lowered file ss b) in
      both (is_arithmetic o && is_constant (lowered file ss a)) (is_constant y)
      (both (is_arithmetic o) (is_constant (lowered file ss a)) q.0 (constant-lowered ss a q.1))
      (constant-right o (lowered file ss b) (constant-lowered ss b p.1))

  mutual
    expression-linear : (ss : List Scope) (e : ExpressionTree) → expression_faults file ss e ≡ [] → is_linear (lowered file ss e) ≡ true
    expression-linear ss (literal n) h = refl
    expression-linear ss (name n) h = read-linear (place file ss n.name)
    expression-linear ss (call n es) h =
        let p = nil_both (callee_faults (callee_of file.procedures n.name) n (argument_count es) true) (arguments_faults file ss es) h in
        call-linear (callee_of file.procedures n.name) (lowered_all file ss es) (arguments-linear ss es p.1)
    expression-linear ss (not e) h = expression-linear ss e h
    expression-linear ss (negate e) h = expression-linear ss e h
    expression-linear ss (plus e) h = expression-linear ss e h
    expression-linear ss (binary o at a b) h =
        let wrong = is_product o && not_bool (is_constant_tree a || is_constant_tree b) in
        let bad = fault_if (is_division o && not_bool (has_divisor file ss b)) BadDivisor at in
        let p = nil_both (operator_faults file ss o at (is_constant_tree a || is_constant_tree b) b)
        (expression_faults file ss a ++ expression_faults file ss b) h in
        let w = nil_both (fault_if wrong NotLinear at) bad p.0 in
        let q = nil_both (expression_faults file ss a) (expression_faults file ss b) p.1 in
        let x = lowered file ss a in
        let y = right_side o (lowered file ss b) in
        let side = constant_side (is_product o) (is_constant_tree a) (is_constant_tree b) (is_constant x) (is_constant y)
        (no_fault wrong NotLinear at w.0) (constant-lowered ss a)
        (λ c. constant-right o (lowered file ss b) (constant-lowered ss b c)) in
        let one = not_bool (is_product o) || is_constant x || is_constant y in
        both (one && is_linear x) (is_linear y) (both one (is_linear x) side (expression-linear ss a q.0))
        (right-linear o (lowered file ss b) (expression-linear ss b q.1))

    arguments-linear : (ss : List Scope) (es : ExpressionTrees) → arguments_faults file ss es ≡ [] → are_linear (lowered_all file ss es)
        ≡ true
    arguments-linear ss no_arguments h = refl
    arguments-linear ss (argument e es) h =
        let q = nil_both (expression_faults file ss e) (arguments_faults file ss es) h in
        both (is_linear (lowered file ss e)) (are_linear (lowered_all file ss es)) (expression-linear ss e q.0) (arguments-linear ss es q.1)

  value-linear : (ss : List Scope) (o : Option ExpressionTree) → optional_faults file ss o ≡ [] → is_linear (lowered_value file ss o) ≡ true
  value-linear ss None h = refl
  value-linear ss (Some e) h = expression-linear ss e h

  test-linear : (ss : List Scope) (o : Option ExpressionTree) → optional_faults file ss o ≡ [] → is_linear (lowered_test file ss o) ≡ true
  test-linear ss None h = refl
  test-linear ss (Some e) h = expression-linear ss e h

  result-linear : (ss : List Scope) (o : Option ExpressionTree) → optional_faults file ss o ≡ [] → returns_linear (lowered_result file ss o)
      ≡ true
  result-linear ss None h = refl
  result-linear ss (Some e) h = expression-linear ss e h

  simple-linear : (ss : List Scope) (id : ℕ) (s : SimpleStatement) → simple_faults file ss s ≡ [] →
      runs_linear (lowered_simple file ss id s)
      ≡ true
  simple-linear ss id (set n e) h = set-linear (place file ss n.name) (lowered file ss e)
      (expression-linear ss e (nil_both (name_faults file ss n) (expression_faults file ss e) h).1)
  simple-linear ss id (change o at n e) h =
      let wrong = is_product o && not_bool (is_constant_tree e) in
      let bad = fault_if (is_division o && not_bool (has_divisor file ss e)) BadDivisor at in
      let q = nil_both (name_faults file ss n) (operator_faults file ss o at (is_constant_tree e) e ++ expression_faults file ss e) h in
      let r = nil_both (operator_faults file ss o at (is_constant_tree e) e) (expression_faults file ss e) q.1 in
      let w = nil_both (fault_if wrong NotLinear at) bad r.0 in
      let v = place file ss n.name in
      let x = right_side o (lowered file ss e) in
      let side = constant_side (is_product o) false (is_constant_tree e) (is_constant (read_of v)) (is_constant x)
      (no_fault wrong NotLinear at w.0) (λ never. absurd cc)
      (λ c. constant-right o (lowered file ss e) (constant-lowered ss e c)) in
      let one = not_bool (is_product o) || is_constant (read_of v) || is_constant x in
      set-linear v (program.binary o (read_of v) x)
      (both (one && is_linear (read_of v)) (is_linear x) (both one (is_linear (read_of v)) side (read-linear v))
      (right-linear o (lowered file ss e) (expression-linear ss e r.1)))
  simple-linear ss id (add_one n) h = let v = place file ss n.name in
      set-linear v (program.binary op.Add (read_of v) (program.literal (pos 1))) (both (is_linear (read_of v)) true (read-linear v) refl)
  simple-linear ss id (subtract_one n) h = let v = place file ss n.name in
      set-linear v (program.binary op.Subtract (read_of v) (program.literal (pos 1)))
      (both (is_linear (read_of v)) true (read-linear v) refl)
  simple-linear ss id (call_statement n es) h =
      let p = nil_both (callee_faults (callee_of file.procedures n.name) n (argument_count es) false) (arguments_faults file ss es) h in
      called-linear (callee_of file.procedures n.name) id (lowered_all file ss es) (arguments-linear ss es p.1)

  step-linear : (ss : List Scope) (id : ℕ) (s : Option SimpleStatement) → step_faults file ss s ≡ [] →
      runs_linear (lowered_step file ss id s)
      ≡ true
  step-linear ss id None h = refl
  step-linear ss id (Some s) h = simple-linear ss id s h

  declarators-linear : (ss : List Scope) (next : ℕ) (ds : List Declarator) → declarators_faults file ss ds ≡ [] →
      all_linear (lowered_declarators file ss next ds) ≡ true
  declarators-linear ss next [] h = refl
  declarators-linear ss next (d ∷ ds) h =
      let p = nil_both (optional_faults file ss d.value) (declared_faults file ss d.named ++ declarators_faults file
      (with_variable ss d.named.name 0) ds)
      h in
      let q = nil_both (declared_faults file ss d.named) (declarators_faults file (with_variable ss d.named.name 0) ds) p.1 in
      let rest = declarators-same file (with_variable ss d.named.name next) (with_variable ss d.named.name 0) ds
      (erased-variable ss ss d.named.name next 0 refl) ∙ q.1 in
      both (is_linear (lowered_value file ss d.value))
      (all_linear (lowered_declarators file (with_variable ss d.named.name next) (next + 1) ds))
      (value-linear ss d.value p.0) (declarators-linear (with_variable ss d.named.name next) (next + 1) ds rest)

  with_init-linear : (ss : List Scope) (next id : ℕ) (f : ForInit) (whole : Statement) → init_faults file ([] ∷ ss) f ≡ [] →
      runs_linear whole
      ≡ true → runs_linear (with_init file ss next id f whole) ≡ true
  with_init-linear ss next id no_init whole h w = w
  with_init-linear ss next id (declaring ds) whole h w =
      all_linear-joined (lowered_declarators file ([] ∷ ss) next ds) (program.statement whole program.no_statements)
      (declarators-linear ([] ∷ ss) next ds h) (both (runs_linear whole) true w refl)
  with_init-linear ss next id (starting s) whole h w =
      both (runs_linear (lowered_simple file ([] ∷ ss) id s)) (runs_linear whole && true) (simple-linear ([] ∷ ss) id s h)
      (both (runs_linear whole) true w refl)

  module _ (void : Bool) where
    spliced-linear : (l : Bool) (ss : List Scope) (next : ℕ) (s : StatementTree) (whole : Statement) → statement_faults file void l ss s
        ≡ [] →
        runs_linear whole ≡ true → all_linear (spliced file ss next s whole) ≡ true
    spliced-linear l ss next (declare ds) whole h w = declarators-linear ss next ds h
    spliced-linear l ss next (block a) whole h w = both (runs_linear whole) true w refl
    spliced-linear l ss next empty whole h w = both (runs_linear whole) true w refl
    spliced-linear l ss next (simple s) whole h w = both (runs_linear whole) true w refl
    spliced-linear l ss next (if_then e a) whole h w = both (runs_linear whole) true w refl
    spliced-linear l ss next (if_else e a c) whole h w = both (runs_linear whole) true w refl
    spliced-linear l ss next (while_loop e a) whole h w = both (runs_linear whole) true w refl
    spliced-linear l ss next (do_while a e) whole h w = both (runs_linear whole) true w refl
    spliced-linear l ss next (for_loop f t s a) whole h w = both (runs_linear whole) true w refl
    spliced-linear l ss next (break at) whole h w = both (runs_linear whole) true w refl
    spliced-linear l ss next (continue at) whole h w = both (runs_linear whole) true w refl
    spliced-linear l ss next (return at e) whole h w = both (runs_linear whole) true w refl

    mutual
      statement-linear : (l : Bool) (ss : List Scope) (next id : ℕ) (s : StatementTree) → statement_faults file void l ss s ≡ [] →
          runs_linear (lowered_statement file ss next id s) ≡ true
      statement-linear l ss next id (block a) h = statements-linear l ([] ∷ ss) next id a h
      statement-linear l ss next id empty h = refl
      statement-linear l ss next id (declare ds) h = declarators-linear ss next ds h
      statement-linear l ss next id (simple s) h = simple-linear ss id s h
      statement-linear l ss next id (if_then e a) h =
          let p = nil_both (expression_faults file ss e) (statement_faults file void l ss a) h in
          let x = is_linear (lowered file ss e) in
          let y = runs_linear (lowered_statement file ss next id a) in
          both (x && y) true (both x y (expression-linear ss e p.0) (statement-linear l ss next id a p.1)) refl
      statement-linear l ss next id (if_else e a c) h =
          let p = nil_both (expression_faults file ss e) (statement_faults file void l ss a ++ statement_faults file void l ss c) h in
          let q = nil_both (statement_faults file void l ss a) (statement_faults file void l ss c) p.1 in
          let next_other = next + length (declared_by a) in
          let id_other = id + length (asserts_by a) in
          let x = is_linear (lowered file ss e) in
          let y = runs_linear (lowered_statement file ss next id a) in
          both (x && y) (runs_linear (lowered_statement file ss next_other id_other c))
          (both x y (expression-linear ss e p.0) (statement-linear l ss next id a q.0)) (statement-linear l ss next_other id_other c q.1)
      statement-linear l ss next id (while_loop e a) h =
          let p = nil_both (expression_faults file ss e) (statement_faults file void true ss a) h in
          let x = is_linear (lowered file ss e) in
          both (x && true) (runs_linear (lowered_statement file ss next id a)) (both x true (expression-linear ss e p.0) refl)
          (statement-linear true ss next id a p.1)
      statement-linear l ss next id (do_while a e) h =
          let p = nil_both (statement_faults file void true ss a) (expression_faults file ss e) h in
          both (runs_linear (lowered_statement file ss next id a)) (is_linear (lowered file ss e)) (statement-linear true ss next id a p.0)
          (expression-linear ss e p.1)
      statement-linear l ss next id (for_loop f t s a) h =
          let inside = init_scopes file ss next f in
          let plain = plain_scopes file ss f in
          let same : erased inside ≡ erased plain = erased-with_names ([] ∷ ss) ([] ∷ ss) next 0 (declared_by_init f) refl in
          let p = nil_both (init_faults file ([] ∷ ss) f)
          (optional_faults file plain t ++ (step_faults file plain s ++ statement_faults file void true plain a)) h in
          let q = nil_both (optional_faults file plain t) (step_faults file plain s ++ statement_faults file void true plain a) p.1 in
          let r = nil_both (step_faults file plain s) (statement_faults file void true plain a) q.1 in
          let next_body = next + length (declared_by_init f) in
          let id_step = id + length (asserts_by_init f) in
          let id_body = id + length (asserts_by_init f) + length (asserts_by_step s) in
          let test = lowered_test file inside t in
          let step = lowered_step file inside id_step s in
          let body = lowered_statement file inside next_body id_body a in
          let test_linear : is_linear test ≡ true = test-linear inside t (optional-same file inside plain t same ∙ q.0) in
          let step_linear : runs_linear step ≡ true = step-linear inside id_step s (step-same file inside plain s same ∙ r.0) in
          let body_linear : runs_linear body ≡ true = statement-linear true inside next_body id_body a
          (statement-same file void true inside plain a same ∙ r.1) in
          with_init-linear ss next id f (program.loop test step body) p.0 (both (is_linear test && runs_linear step) (runs_linear body)
          (both (is_linear test) (runs_linear step) test_linear step_linear) body_linear)
      statement-linear l ss next id (break at) h = refl
      statement-linear l ss next id (continue at) h = refl
      statement-linear l ss next id (return at e) h = result-linear ss e
          (nil_both (return_faults file void at e) (optional_faults file ss e)
          h).1

      pub statements-linear : (l : Bool) (ss : List Scope) (next id : ℕ) (a : StatementTrees) → statements_faults file void l ss a ≡ [] →
          all_linear (lowered_statements file ss next id a) ≡ true
      statements-linear l ss next id no_statements h = refl
      statements-linear l ss next id (statement s rest) h =
          let p = nil_both (statement_faults file void l ss s) (statements_faults file void l (plain_after file ss s) rest) h in
          let scopes = scopes_after file ss next s in
          let next_rest = next + length (declared_by s) in
          let id_rest = id + length (asserts_by s) in
          let whole = lowered_statement file ss next id s in
          all_linear-joined (spliced file ss next s whole) (lowered_statements file scopes next_rest id_rest rest)
          (spliced-linear l ss next s whole p.0 (statement-linear l ss next id s p.0))
          (statements-linear l scopes next_rest id_rest rest (statements-same file void l scopes (plain_after file ss s) rest
          (after-same file ss next s) ∙ p.1))

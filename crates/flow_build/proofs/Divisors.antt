-- The divisors of a body that divides by literals are small, and none is 0.
use Rattle.std.proofs.Common.{◌≤◌, ◌^◌, nat_le, ◌&&◌, ◌||◌, not as not_bool, List, [], ◌∷◌, ◌++◌, Option, None, Some, ℤ, IsTrue}
use Rattle.std.specs.Prelude.{All, unsigned_abs}
use Rattle.std.proofs.lemmas.Bool.{leb-true}
use Rattle.std.proofs.lemmas.List.Elements.{All-from_recursion, All-append}
use Rattle.c_tree.specs.declared.tree.Op.{Op}
use Rattle.c_tree.specs.declared.tree.Op.TheVariants.{Add, Subtract, Multiply, Divide, Remainder, Less, LessEqual, Greater, GreaterEqual, Equal, Unequal, And, Or}
use Rattle.c_tree.specs.Operators.{is_division}
use Rattle.c_tree.specs.Syntax.{Expression, literal, read, read_global, input, call, negate, not as not_of, binary, Expressions, no_expressions, expression, Statement, block, set, set_global, ignore, assume, assert, if_else, loop, do_while, break, continue, return, Statements, no_statements, statement}
use Rattle.c_tree.specs.WellFormed.{is_divisor, divides_by_literals, all_divide_by_literals, returns_divide_by_literals, runs_divide_by_literals, statements_divide_by_literals}
use Rattle.c_tree.specs.Constants.{constant_value}
use Rattle.flow_build.specs.Promises.{listed, divisor_in, divisors, divisors_in, result_divisors, statement_divisors, statements_divisors}
use Rattle.flow_build.proofs.Plain.{and_both}

-- not 0, and of magnitude at most 2^40
abbrev pub IsSmall : ℤ → Type 0
IsSmall c = (1 ≤ unsigned_abs c) × (unsigned_abs c ≤ 2 ^ 40)

abbrev AreSmall : List ℤ → Type 0
AreSmall cs = All (λ c. IsSmall c) cs

none_small : AreSmall []
none_small = All-from_recursion (λ c. IsSmall c) [] tt

both_small : (xs ys : List ℤ) → AreSmall xs → AreSmall ys → AreSmall (xs ++ ys)
both_small xs ys h k = All-append (λ c. IsSmall c) xs ys h k

literal_small : (b : Expression) → IsTrue (is_divisor b) → AreSmall (listed (constant_value b))
literal_small (literal n) h =
    let l = and_both (nat_le 1 (unsigned_abs n)) (nat_le (unsigned_abs n) 1099511627776) h in
    All-from_recursion (λ c. IsSmall c) (n ∷ [])
    ((leb-true 1 (unsigned_abs n) l.0, leb-true (unsigned_abs n) 1099511627776 l.1), tt)
literal_small (read x) h = absurd cc
literal_small (read_global y) h = absurd cc
literal_small input h = absurd cc
literal_small (call p es) h = absurd cc
literal_small (negate e) h = absurd cc
literal_small (not_of e) h = absurd cc
literal_small (binary op a b) h = absurd cc

divisor_small : (op : Op) (b : Expression) → IsTrue (not_bool (is_division op) || is_divisor b) → AreSmall (divisor_in op b)
divisor_small Divide b h = literal_small b h
divisor_small Remainder b h = literal_small b h
divisor_small Add b h = none_small
divisor_small Subtract b h = none_small
divisor_small Multiply b h = none_small
divisor_small Less b h = none_small
divisor_small LessEqual b h = none_small
divisor_small Greater b h = none_small
divisor_small GreaterEqual b h = none_small
divisor_small Equal b h = none_small
divisor_small Unequal b h = none_small
divisor_small And b h = none_small
divisor_small Or b h = none_small

mutual
  expression_small : (e : Expression) → IsTrue (divides_by_literals e) → AreSmall (divisors e)
  expression_small (literal n) h = none_small
  expression_small (read x) h = none_small
  expression_small (read_global y) h = none_small
  expression_small input h = none_small
  expression_small (call p es) h = expressions_small es h
  expression_small (negate e) h = expression_small e h
  expression_small (not_of e) h = expression_small e h
  expression_small (binary op a b) h =
      let x = and_both ((not_bool (is_division op) || is_divisor b) && divides_by_literals a) (divides_by_literals b) h in
      let y = and_both (not_bool (is_division op) || is_divisor b) (divides_by_literals a) x.0 in
      both_small (divisor_in op b) (divisors a ++ divisors b) (divisor_small op b y.0)
      (both_small (divisors a) (divisors b) (expression_small a y.1) (expression_small b x.1))

  expressions_small : (es : Expressions) → IsTrue (all_divide_by_literals es) → AreSmall (divisors_in es)
  expressions_small no_expressions h = none_small
  expressions_small (expression e es) h =
      let x = and_both (divides_by_literals e) (all_divide_by_literals es) h in
      both_small (divisors e) (divisors_in es) (expression_small e x.0) (expressions_small es x.1)

result_small : (o : Option Expression) → IsTrue (returns_divide_by_literals o) → AreSmall (result_divisors o)
result_small None h = none_small
result_small (Some e) h = expression_small e h

mutual
  statement_small : (s : Statement) → IsTrue (runs_divide_by_literals s) → AreSmall (statement_divisors s)
  statement_small (block ss) h = divisors_small ss h
  statement_small (set x e) h = expression_small e h
  statement_small (set_global y e) h = expression_small e h
  statement_small (ignore e) h = expression_small e h
  statement_small (assume e) h = expression_small e h
  statement_small (assert id e) h = expression_small e h
  statement_small (if_else e a b) h =
      let x = and_both (divides_by_literals e && runs_divide_by_literals a) (runs_divide_by_literals b) h in
      let y = and_both (divides_by_literals e) (runs_divide_by_literals a) x.0 in
      both_small (divisors e) (statement_divisors a ++ statement_divisors b) (expression_small e y.0)
      (both_small (statement_divisors a) (statement_divisors b) (statement_small a y.1) (statement_small b x.1))
  statement_small (loop e step body) h =
      let x = and_both (divides_by_literals e && runs_divide_by_literals step) (runs_divide_by_literals body) h in
      let y = and_both (divides_by_literals e) (runs_divide_by_literals step) x.0 in
      both_small (divisors e) (statement_divisors step ++ statement_divisors body) (expression_small e y.0)
      (both_small (statement_divisors step) (statement_divisors body) (statement_small step y.1) (statement_small body x.1))
  statement_small (do_while body e) h =
      let x = and_both (runs_divide_by_literals body) (divides_by_literals e) h in
      both_small (statement_divisors body) (divisors e) (statement_small body x.0) (expression_small e x.1)
  statement_small break h = none_small
  statement_small continue h = none_small
  statement_small (return o) h = result_small o h

  pub divisors_small : (ss : Statements) → IsTrue (statements_divide_by_literals ss) → All (λ c. IsSmall c) (statements_divisors ss)
  divisors_small no_statements h = none_small
  divisors_small (statement s ss) h =
      let x = and_both (runs_divide_by_literals s) (statements_divide_by_literals ss) h in
      both_small (statement_divisors s) (statements_divisors ss) (statement_small s x.0) (divisors_small ss x.1)

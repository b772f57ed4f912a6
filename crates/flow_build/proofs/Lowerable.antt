-- Programs that divide by literals can be lowered.
use Rattle.std.proofs.Common.{ℕ, ◌≤◌, length, nat_lt, Bool, true, ◌&&◌, ◌||◌, not as not_bool, ◌==◌, Option, None, Some, IsTrue, refl, arith}
use Rattle.std.specs.Prelude.{slice_get}
use Rattle.std.proofs.lemmas.Bool.{lt-ltb, ltb-true}
use Rattle.linear_formula.proofs.Limits.{both_in}
use Rattle.c_tree.specs.Syntax.{Expression, literal, read, read_global, input, call, negate, not as not_of, binary, Expressions, no_expressions, expression, Statement, block, set, set_global, ignore, assume, assert, if_else, loop, do_while, break, continue, return, Statements, no_statements, statement, PureProgram}
use Rattle.c_tree.specs.Operators.{is_division}
use Rattle.c_tree.specs.WellFormed.{takes, count, is_well_scoped, are_well_scoped, returns_well_scoped, runs_well_scoped, all_well_scoped, is_divisor, divides_by_literals, all_divide_by_literals, returns_divide_by_literals, runs_divide_by_literals, statements_divide_by_literals}
use Rattle.flow_build.specs.steps.Building.{is_lowerable, are_lowerable, is_lowerable_result, is_lowerable_statement, are_lowerable_statements}
use Rattle.flow_build.proofs.Plain.{and_both}

below : (x a b : ℕ) → a ≤ b → IsTrue (nat_lt x a) → IsTrue (nat_lt x b)
below x a b le h = let lt = ltb-true x a h in lt-ltb x b (omega (arith, lt, le))

module _ (P : PureProgram) (slots : ℕ) (few_slots : slots ≤ 24) (few_globals : length P.globals ≤ 16) where
  mutual
    expression_lowerable : (e : Expression) → IsTrue (is_well_scoped P slots e) → IsTrue (divides_by_literals e) → IsTrue (is_lowerable e)
    expression_lowerable (literal n) s d = refl
    expression_lowerable (read x) s d = below x slots 24 few_slots s
    expression_lowerable (read_global y) s d = below y (length P.globals) 16 few_globals s
    expression_lowerable input s d = refl
    expression_lowerable (call p es) s d =
        let sound = and_both (takes (slice_get P.procedures p) (count es) && not_bool (p == P.main)) (are_well_scoped P slots es) s in
        arguments_lowerable es sound.1 d
    expression_lowerable (negate e) s d = expression_lowerable e s d
    expression_lowerable (not_of e) s d = expression_lowerable e s d
    expression_lowerable (binary op a b) s d =
        let sound = and_both (is_well_scoped P slots a) (is_well_scoped P slots b) s in
        let divide = and_both ((not_bool (is_division op) || is_divisor b) && divides_by_literals a) (divides_by_literals b) d in
        let divisor = and_both (not_bool (is_division op) || is_divisor b) (divides_by_literals a) divide.0 in
        both_in ((not_bool (is_division op) || is_divisor b) && is_lowerable a) (is_lowerable b)
        (both_in (not_bool (is_division op) || is_divisor b) (is_lowerable a) divisor.0 (expression_lowerable a sound.0 divisor.1))
        (expression_lowerable b sound.1 divide.1)

    arguments_lowerable : (es : Expressions) → IsTrue (are_well_scoped P slots es) → IsTrue (all_divide_by_literals es) →
        IsTrue (are_lowerable es)
    arguments_lowerable no_expressions s d = refl
    arguments_lowerable (expression e es) s d =
        let sound = and_both (is_well_scoped P slots e) (are_well_scoped P slots es) s in
        let divide = and_both (divides_by_literals e) (all_divide_by_literals es) d in
        both_in (is_lowerable e) (are_lowerable es) (expression_lowerable e sound.0 divide.0) (arguments_lowerable es sound.1 divide.1)

  result_lowerable : (o : Option Expression) → IsTrue (returns_well_scoped P slots o) → IsTrue (returns_divide_by_literals o) →
      IsTrue (is_lowerable_result o)
  result_lowerable None s d = refl
  result_lowerable (Some e) s d = expression_lowerable e s d

  mutual
    statement_lowerable : (in_loop : Bool) (a : Statement) → IsTrue (runs_well_scoped P slots in_loop a) →
        IsTrue (runs_divide_by_literals a) → IsTrue (is_lowerable_statement a)
    statement_lowerable l (block ss) s d = statements_lowerable l ss s d
    statement_lowerable l (set x e) s d =
        let sound = and_both (nat_lt x slots) (is_well_scoped P slots e) s in
        both_in (nat_lt x 24) (is_lowerable e) (below x slots 24 few_slots sound.0) (expression_lowerable e sound.1 d)
    statement_lowerable l (set_global y e) s d =
        let sound = and_both (nat_lt y (length P.globals)) (is_well_scoped P slots e) s in
        both_in (nat_lt y 16) (is_lowerable e) (below y (length P.globals) 16 few_globals sound.0) (expression_lowerable e sound.1 d)
    statement_lowerable l (ignore e) s d = expression_lowerable e s d
    statement_lowerable l (assume e) s d = expression_lowerable e s d
    statement_lowerable l (assert id e) s d =
        let sound = and_both (nat_lt id (length P.asserts)) (is_well_scoped P slots e) s in
        expression_lowerable e sound.1 d
    statement_lowerable l (if_else e a b) s d =
        let sound = and_both (is_well_scoped P slots e && runs_well_scoped P slots l a) (runs_well_scoped P slots l b) s in
        let first = and_both (is_well_scoped P slots e) (runs_well_scoped P slots l a) sound.0 in
        let divide = and_both (divides_by_literals e && runs_divide_by_literals a) (runs_divide_by_literals b) d in
        let before = and_both (divides_by_literals e) (runs_divide_by_literals a) divide.0 in
        both_in (is_lowerable e && is_lowerable_statement a) (is_lowerable_statement b)
        (both_in (is_lowerable e) (is_lowerable_statement a) (expression_lowerable e first.0 before.0)
        (statement_lowerable l a first.1 before.1))
        (statement_lowerable l b sound.1 divide.1)
    statement_lowerable l (loop e a b) s d =
        let sound = and_both (is_well_scoped P slots e && runs_well_scoped P slots true a) (runs_well_scoped P slots true b) s in
        let first = and_both (is_well_scoped P slots e) (runs_well_scoped P slots true a) sound.0 in
        let divide = and_both (divides_by_literals e && runs_divide_by_literals a) (runs_divide_by_literals b) d in
        let before = and_both (divides_by_literals e) (runs_divide_by_literals a) divide.0 in
        both_in (is_lowerable e && is_lowerable_statement a) (is_lowerable_statement b)
        (both_in (is_lowerable e) (is_lowerable_statement a) (expression_lowerable e first.0 before.0)
        (statement_lowerable true a first.1 before.1))
        (statement_lowerable true b sound.1 divide.1)
    statement_lowerable l (do_while a e) s d =
        let sound = and_both (runs_well_scoped P slots true a) (is_well_scoped P slots e) s in
        let divide = and_both (runs_divide_by_literals a) (divides_by_literals e) d in
        both_in (is_lowerable_statement a) (is_lowerable e) (statement_lowerable true a sound.0 divide.0)
        (expression_lowerable e sound.1 divide.1)
    statement_lowerable l break s d = refl
    statement_lowerable l continue s d = refl
    statement_lowerable l (return o) s d = result_lowerable o s d

    pub statements_lowerable : (in_loop : Bool) (ss : Statements) → IsTrue (all_well_scoped P slots in_loop ss) →
        IsTrue (statements_divide_by_literals ss) → IsTrue (are_lowerable_statements ss)
    statements_lowerable l no_statements s d = refl
    statements_lowerable l (statement a ss) s d =
        let sound = and_both (runs_well_scoped P slots l a) (all_well_scoped P slots l ss) s in
        let divide = and_both (runs_divide_by_literals a) (statements_divide_by_literals ss) d in
        both_in (is_lowerable_statement a) (are_lowerable_statements ss) (statement_lowerable l a sound.0 divide.0)
        (statements_lowerable l ss sound.1 divide.1)

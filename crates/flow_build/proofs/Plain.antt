-- The bodies of a program are plain.
use Rattle.std.proofs.Common.{◌≡◌, ℕ, zero, suc, ◌≤◌, length, nat_lt, nat_le, Bool, true, false, ◌&&◌, ◌||◌, not as not_bool, ◌==◌, Option, None, Some, ℤ, pos, negsuc, IsTrue, refl}
use Rattle.std.specs.Prelude.{slice_get}
use Rattle.std.proofs.lemmas.Bool.{ltb-true, leb-true}
use Rattle.c_tree.specs.declared.tree.Op.{Op}
use Rattle.c_tree.specs.declared.tree.Op.TheVariants.{Add, Subtract, Multiply, Divide, Remainder, Less, LessEqual, Greater, GreaterEqual, Equal, Unequal, And, Or}
use Rattle.c_tree.specs.Syntax.{Expression, literal, read, read_global, input, call, negate, not as not_of, binary, Expressions, no_expressions, expression, Statement, block, set, set_global, ignore, assume, assert, if_else, loop, do_while, break, continue, return, Statements, no_statements, statement, PureProcedure, PureProgram}
use Rattle.c_tree.specs.WellFormed.{takes, count, is_well_scoped, are_well_scoped, returns_well_scoped, runs_well_scoped, all_well_scoped, is_constant, is_linear, are_linear, returns_linear, runs_linear, all_linear, is_divisor, divides_by_literals, all_divide_by_literals, returns_divide_by_literals, runs_divide_by_literals, statements_divide_by_literals, is_well_formed_procedure, statements_nodes}
use Rattle.c_tree.specs.Operators.{is_product, is_division}
use Rattle.c_tree.specs.Meaning.{is_zero}
use Rattle.flow_build.specs.declared.layout.Layout.{Layout}
use Rattle.flow_build.specs.steps.Procedures.{layout_of}
use Rattle.flow_build.specs.steps.Building.{literals_fit, all_literals_fit, result_literals_fit, statement_literals_fit, statements_literals_fit}
use Rattle.flow_build.proofs.Translated.{HasConstantSide, HasDivisor, IsPlain, ArePlain, IsPlainResult, RunsPlain, AllPlain}

pub and_both : (a b : Bool) → IsTrue (a && b) → (IsTrue a) × (IsTrue b)
and_both true b h = (refl, h)
and_both false b h = cc

constant_side : (op : Op) (a b : Expression) → IsTrue (not_bool (is_product op) || is_constant a || is_constant b) → HasConstantSide op a b
constant_side Multiply a b h = h
constant_side Divide a b h = tt
constant_side Remainder a b h = tt
constant_side Add a b h = tt
constant_side Subtract a b h = tt
constant_side Less a b h = tt
constant_side LessEqual a b h = tt
constant_side Greater a b h = tt
constant_side GreaterEqual a b h = tt
constant_side Equal a b h = tt
constant_side Unequal a b h = tt
constant_side And a b h = tt
constant_side Or a b h = tt

is_nonzero : (n : ℤ) → IsTrue (is_divisor (literal n)) → is_zero n ≡ false
is_nonzero (pos zero) h = cc
is_nonzero (pos (suc k)) h = refl
is_nonzero (negsuc k) h = refl

divisor_of : (b : Expression) → IsTrue (is_divisor b) → HasDivisor Divide b
divisor_of (literal n) h = (n, refl, is_nonzero n h)
divisor_of (read x) h = cc
divisor_of (read_global y) h = cc
divisor_of input h = cc
divisor_of (call p es) h = cc
divisor_of (negate e) h = cc
divisor_of (not_of e) h = cc
divisor_of (binary op a b) h = cc

has_divisor : (op : Op) (b : Expression) → IsTrue (not_bool (is_division op) || is_divisor b) → HasDivisor op b
has_divisor Divide b h = divisor_of b h
has_divisor Remainder b h = divisor_of b h
has_divisor Add b h = tt
has_divisor Subtract b h = tt
has_divisor Multiply b h = tt
has_divisor Less b h = tt
has_divisor LessEqual b h = tt
has_divisor Greater b h = tt
has_divisor GreaterEqual b h = tt
has_divisor Equal b h = tt
has_divisor Unequal b h = tt
has_divisor And b h = tt
has_divisor Or b h = tt

module _ (P : PureProgram) (params slots : ℕ) where
  abbrev L : Layout
  L = record { params = params; globals = length P.globals }

  mutual
    pub expression_plain : (e : Expression) → IsTrue (is_well_scoped P slots e) → IsTrue (is_linear e) → IsTrue (divides_by_literals e) →
        IsTrue (literals_fit e) → IsPlain P L slots e
    expression_plain (literal n) s l d f = f
    expression_plain (read x) s l d f = ltb-true x slots s
    expression_plain (read_global y) s l d f = ltb-true y (length P.globals) s
    expression_plain input s l d f = tt
    expression_plain (call p es) s l d f =
        let sound = and_both (takes (slice_get P.procedures p) (count es) && not_bool (p == P.main)) (are_well_scoped P slots es) s in
        (arguments_plain es sound.1 l d f, and_both (takes (slice_get P.procedures p) (count es)) (not_bool (p == P.main)) sound.0)
    expression_plain (negate e) s l d f = expression_plain e s l d f
    expression_plain (not_of e) s l d f = expression_plain e s l d f
    expression_plain (binary op a b) s l d f =
        let sound = and_both (is_well_scoped P slots a) (is_well_scoped P slots b) s in
        let linear = and_both ((not_bool (is_product op) || is_constant a || is_constant b) && is_linear a) (is_linear b) l in
        let side = and_both (not_bool (is_product op) || is_constant a || is_constant b) (is_linear a) linear.0 in
        let divide = and_both ((not_bool (is_division op) || is_divisor b) && divides_by_literals a) (divides_by_literals b) d in
        let divisor = and_both (not_bool (is_division op) || is_divisor b) (divides_by_literals a) divide.0 in
        let fits = and_both (literals_fit a) (literals_fit b) f in (
          constant_side op a b side.0,
          has_divisor op b divisor.0,
          expression_plain a sound.0 side.1 divisor.1 fits.0,
          expression_plain b sound.1 linear.1 divide.1 fits.1,
        )

    pub arguments_plain : (es : Expressions) → IsTrue (are_well_scoped P slots es) → IsTrue (are_linear es) →
        IsTrue (all_divide_by_literals es) → IsTrue (all_literals_fit es) → ArePlain P L slots es
    arguments_plain no_expressions s l d f = tt
    arguments_plain (expression e es) s l d f =
        let sound = and_both (is_well_scoped P slots e) (are_well_scoped P slots es) s in
        let linear = and_both (is_linear e) (are_linear es) l in
        let divide = and_both (divides_by_literals e) (all_divide_by_literals es) d in
        let fits = and_both (literals_fit e) (all_literals_fit es) f in
        (expression_plain e sound.0 linear.0 divide.0 fits.0, arguments_plain es sound.1 linear.1 divide.1 fits.1)

  result_plain : (o : Option Expression) → IsTrue (returns_well_scoped P slots o) → IsTrue (returns_linear o) →
      IsTrue (returns_divide_by_literals o) → IsTrue (result_literals_fit o) → IsPlainResult P L slots o
  result_plain None s l d f = tt
  result_plain (Some e) s l d f = expression_plain e s l d f

  mutual
    pub statement_plain : (in_loop : Bool) (a : Statement) → IsTrue (runs_well_scoped P slots in_loop a) → IsTrue (runs_linear a) →
        IsTrue (runs_divide_by_literals a) → IsTrue (statement_literals_fit a) → RunsPlain P L slots a
    statement_plain b (block ss) s l d f = statements_plain b ss s l d f
    statement_plain b (set x e) s l d f = let sound = and_both (nat_lt x slots) (is_well_scoped P slots e) s in
        (ltb-true x slots sound.0, expression_plain e sound.1 l d f)
    statement_plain b (set_global y e) s l d f =
        let sound = and_both (nat_lt y (length P.globals)) (is_well_scoped P slots e) s in
        (ltb-true y (length P.globals) sound.0, expression_plain e sound.1 l d f)
    statement_plain b (ignore e) s l d f = expression_plain e s l d f
    statement_plain b (assume e) s l d f = expression_plain e s l d f
    statement_plain b (assert id e) s l d f = expression_plain e (and_both _ (is_well_scoped P slots e) s).1 l d f
    statement_plain b (if_else e x y) s l d f =
        let s1 = and_both (is_well_scoped P slots e && runs_well_scoped P slots b x) (runs_well_scoped P slots b y) s in
        let s2 = and_both (is_well_scoped P slots e) (runs_well_scoped P slots b x) s1.0 in
        let l1 = and_both (is_linear e && runs_linear x) (runs_linear y) l in
        let l2 = and_both (is_linear e) (runs_linear x) l1.0 in
        let d1 = and_both (divides_by_literals e && runs_divide_by_literals x) (runs_divide_by_literals y) d in
        let d2 = and_both (divides_by_literals e) (runs_divide_by_literals x) d1.0 in
        let f1 = and_both (literals_fit e && statement_literals_fit x) (statement_literals_fit y) f in
        let f2 = and_both (literals_fit e) (statement_literals_fit x) f1.0 in
        (expression_plain e s2.0 l2.0 d2.0 f2.0, statement_plain b x s2.1 l2.1 d2.1 f2.1, statement_plain b y s1.1 l1.1 d1.1 f1.1)
    statement_plain b (loop e step body) s l d f =
        let s1 = and_both (is_well_scoped P slots e && runs_well_scoped P slots true step) (runs_well_scoped P slots true body) s in
        let s2 = and_both (is_well_scoped P slots e) (runs_well_scoped P slots true step) s1.0 in
        let l1 = and_both (is_linear e && runs_linear step) (runs_linear body) l in
        let l2 = and_both (is_linear e) (runs_linear step) l1.0 in
        let d1 = and_both (divides_by_literals e && runs_divide_by_literals step) (runs_divide_by_literals body) d in
        let d2 = and_both (divides_by_literals e) (runs_divide_by_literals step) d1.0 in
        let f1 = and_both (literals_fit e && statement_literals_fit body) (statement_literals_fit step) f in
        let f2 = and_both (literals_fit e) (statement_literals_fit body) f1.0 in (
          expression_plain e s2.0 l2.0 d2.0 f2.0,
          statement_plain true step s2.1 l2.1 d2.1 f1.1,
          statement_plain true body s1.1 l1.1 d1.1
              f2.1,
        )
    statement_plain b (do_while body e) s l d f =
        let s1 = and_both (runs_well_scoped P slots true body) (is_well_scoped P slots e) s in
        let l1 = and_both (runs_linear body) (is_linear e) l in
        let d1 = and_both (runs_divide_by_literals body) (divides_by_literals e) d in
        let f1 = and_both (statement_literals_fit body) (literals_fit e) f in
        (statement_plain true body s1.0 l1.0 d1.0 f1.0, expression_plain e s1.1 l1.1 d1.1 f1.1)
    statement_plain b break s l d f = tt
    statement_plain b continue s l d f = tt
    statement_plain b (return o) s l d f = result_plain o s l d f

    pub statements_plain : (in_loop : Bool) (ss : Statements) → IsTrue (all_well_scoped P slots in_loop ss) → IsTrue (all_linear ss) →
        IsTrue (statements_divide_by_literals ss) → IsTrue (statements_literals_fit ss) → AllPlain P L slots ss
    statements_plain b no_statements s l d f = tt
    statements_plain b (statement a ss) s l d f =
        let sound = and_both (runs_well_scoped P slots b a) (all_well_scoped P slots b ss) s in
        let linear = and_both (runs_linear a) (all_linear ss) l in
        let divide = and_both (runs_divide_by_literals a) (statements_divide_by_literals ss) d in
        let fits = and_both (statement_literals_fit a) (statements_literals_fit ss) f in
        (statement_plain b a sound.0 linear.0 divide.0 fits.0, statements_plain b ss sound.1 linear.1 divide.1 fits.1)

-- what a sound procedure keeps
pub record Kept (P : PureProgram) (p : PureProcedure) : Type 0 where
  pub params_in_slots : p.params ≤ p.slots
  pub few_slots : p.slots ≤ 24
  pub sound : IsTrue (all_well_scoped P p.slots false p.body)
  pub few_nodes : statements_nodes p.body ≤ 8000

pub kept : (P : PureProgram) (p : PureProcedure) → IsTrue (is_well_formed_procedure P p) → Kept P p
kept P p h =
    let a = and_both (nat_le p.params 8 && nat_le p.params p.slots && nat_le p.slots 24 && all_well_scoped P p.slots false p.body)
    (nat_le (statements_nodes p.body) 8000) h in
    let b = and_both (nat_le p.params 8 && nat_le p.params p.slots && nat_le p.slots 24) (all_well_scoped P p.slots false p.body) a.0 in
    let c = and_both (nat_le p.params 8 && nat_le p.params p.slots) (nat_le p.slots 24) b.0 in
    let d = and_both (nat_le p.params 8) (nat_le p.params p.slots) c.0 in
    record {
      params_in_slots = leb-true p.params p.slots d.1;
      few_slots = leb-true p.slots 24 c.1;
      sound = b.1;
      few_nodes = leb-true (statements_nodes p.body) 8000 a.1;
    }

pub body_plain : (P : PureProgram) (p : PureProcedure) → IsTrue (is_well_formed_procedure P p) → IsTrue (all_linear p.body) →
    IsTrue (statements_divide_by_literals p.body) → IsTrue (statements_literals_fit p.body) →
    AllPlain P (layout_of (length P.globals) p) p.slots p.body
body_plain P p s l d f = statements_plain P p.params p.slots false p.body (kept P p s).sound l d f

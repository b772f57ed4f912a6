-- What the graphs of a program promise.
use Rattle.std.specs.Prelude.{◌≡◌, ℕ, ◌+◌, ◌*◌, ◌^◌, ◌≤◌, nat_le, Bool, false, ◌&&◌, ◌||◌, ◌==◌, IsTrue, ◌⊎◌, List, [], ◌∷◌, ◌++◌, length, Option, None, Some, slice_get, All, Contains, ℤ, pos, negsuc, neg_ℤ, cond, unsigned_abs}
use Rattle.std.specs.List.{list_all, list_any}
use Rattle.c_tree.specs.declared.tree.Op.{Op}
use Rattle.c_tree.specs.declared.tree.Op.TheVariants.{Multiply, Divide, Remainder}
use Rattle.c_tree.specs.Syntax.{Expression, literal, read, read_global, input, call, negate, not as not_of, binary, Expressions, no_expressions, expression, Statement, block, set, set_global, ignore, assume, assert, if_else, loop, do_while, break, continue, return, Statements, no_statements, statement, PureProcedure, PureProgram}
use Rattle.c_tree.specs.WellFormed.{count, statements_nodes}
use Rattle.linear_formula.specs.declared.formula.Atom.{Atom}
use Rattle.flow_graph.specs.declared.graph.Edge.{Edge}
use Rattle.flow_graph.specs.declared.graph.Edge.TheVariants.{Entry, Assign, Guard, Input, Pick, Call, Assert, Return}
use Rattle.flow_graph.specs.declared.graph.Graph.{Graph}
use Rattle.c_tree.specs.Constants.{constant_value}

-- the call of procedure p with this number of arguments stands there
module _ (p arguments : ℕ) where
  abbrev mutual
    pub calls : Expression → Bool
    calls (literal n) = false
    calls (read x) = false
    calls (read_global y) = false
    calls input = false
    calls (call q es) = (q == p && count es == arguments) || calls_any es
    calls (negate e) = calls e
    calls (not_of e) = calls e
    calls (binary op a b) = calls a || calls b

    pub calls_any : Expressions → Bool
    calls_any no_expressions = false
    calls_any (expression e es) = calls e || calls_any es

  abbrev pub result_calls : Option Expression → Bool
  result_calls None = false
  result_calls (Some e) = calls e

  abbrev mutual
    pub statement_calls : Statement → Bool
    statement_calls (block ss) = statements_call ss
    statement_calls (set x e) = calls e
    statement_calls (set_global y e) = calls e
    statement_calls (ignore e) = calls e
    statement_calls (assume e) = calls e
    statement_calls (assert id e) = calls e
    statement_calls (if_else e a b) = calls e || statement_calls a || statement_calls b
    statement_calls (loop e step body) = calls e || statement_calls step || statement_calls body
    statement_calls (do_while body e) = statement_calls body || calls e
    statement_calls break = false
    statement_calls continue = false
    statement_calls (return o) = result_calls o

    pub statements_call : Statements → Bool
    statements_call no_statements = false
    statements_call (statement s ss) = statement_calls s || statements_call ss

abbrev pub listed : Option ℤ → List ℤ
listed None = []
listed (Some c) = c ∷ []

abbrev pub sides : Op → Expression → Expression → List ℤ
sides Multiply a b = listed (constant_value a) ++ listed (constant_value b)
sides _ a b = []

-- the values of the constant sides of products
abbrev mutual
  pub factors : Expression → List ℤ
  factors (literal n) = []
  factors (read x) = []
  factors (read_global y) = []
  factors input = []
  factors (call p es) = factors_in es
  factors (negate e) = factors e
  factors (not_of e) = factors e
  factors (binary op a b) = sides op a b ++ (factors a ++ factors b)

  pub factors_in : Expressions → List ℤ
  factors_in no_expressions = []
  factors_in (expression e es) = factors e ++ factors_in es

abbrev pub result_factors : Option Expression → List ℤ
result_factors None = []
result_factors (Some e) = factors e

abbrev mutual
  pub statement_factors : Statement → List ℤ
  statement_factors (block ss) = statements_factors ss
  statement_factors (set x e) = factors e
  statement_factors (set_global y e) = factors e
  statement_factors (ignore e) = factors e
  statement_factors (assume e) = factors e
  statement_factors (assert id e) = factors e
  statement_factors (if_else e a b) = factors e ++ (statement_factors a ++ statement_factors b)
  statement_factors (loop e step body) = factors e
      ++ (statement_factors step ++ statement_factors body)
  statement_factors (do_while body e) = statement_factors body ++ factors e
  statement_factors break = []
  statement_factors continue = []
  statement_factors (return o) = result_factors o

  pub statements_factors : Statements → List ℤ
  statements_factors no_statements = []
  statements_factors (statement s ss) = statement_factors s ++ statements_factors ss

-- the divisors: the values of the right sides of divisions and remainders
abbrev pub divisor_in : Op → Expression → List ℤ
divisor_in Divide b = listed (constant_value b)
divisor_in Remainder b = listed (constant_value b)
divisor_in _ b = []

abbrev mutual
  pub divisors : Expression → List ℤ
  divisors (literal n) = []
  divisors (read x) = []
  divisors (read_global y) = []
  divisors input = []
  divisors (call p es) = divisors_in es
  divisors (negate e) = divisors e
  divisors (not_of e) = divisors e
  divisors (binary op a b) = divisor_in op b ++ (divisors a ++ divisors b)

  pub divisors_in : Expressions → List ℤ
  divisors_in no_expressions = []
  divisors_in (expression e es) = divisors e ++ divisors_in es

abbrev pub result_divisors : Option Expression → List ℤ
result_divisors None = []
result_divisors (Some e) = divisors e

abbrev mutual
  pub statement_divisors : Statement → List ℤ
  statement_divisors (block ss) = statements_divisors ss
  statement_divisors (set x e) = divisors e
  statement_divisors (set_global y e) = divisors e
  statement_divisors (ignore e) = divisors e
  statement_divisors (assume e) = divisors e
  statement_divisors (assert id e) = divisors e
  statement_divisors (if_else e a b) = divisors e ++ (statement_divisors a ++ statement_divisors b)
  statement_divisors (loop e step body) = divisors e
      ++ (statement_divisors step ++ statement_divisors body)
  statement_divisors (do_while body e) = statement_divisors body ++ divisors e
  statement_divisors break = []
  statement_divisors continue = []
  statement_divisors (return o) = result_divisors o

  pub statements_divisors : Statements → List ℤ
  statements_divisors no_statements = []
  statements_divisors (statement s ss) = statement_divisors s ++ statements_divisors ss

-- a coefficient of an assignment: 1, -1, the value of a constant side of a product of the body, or
-- a divisor of the body or its negative
abbrev pub IsCoefficient : Statements → ℤ → Type 0
IsCoefficient body c =
    (c ≡ pos 1) ⊎ ((c ≡ negsuc 0) ⊎ (Contains (statements_factors body) c
    ⊎ (Contains (statements_divisors body) c ⊎ Contains (statements_divisors body) (neg_ℤ c))))

-- a row of at most two parts with the coefficients 1 and -1, and a constant of magnitude at most
-- 2^64
abbrev pub is_small_row : Atom → Bool
is_small_row row =
    nat_le (length row.term.parts) 2 && list_all (λ p. unsigned_abs p.1 == 1) row.term.parts
    && nat_le (unsigned_abs row.term.constant) (2 ^ 64)

-- a coefficient of a row of a pick: of magnitude 1, or of that of a divisor of the body
abbrev pub is_pick_coefficient : Statements → ℤ → Bool
is_pick_coefficient body c =
    unsigned_abs c == 1
    || list_any (λ d. unsigned_abs d == unsigned_abs c) (statements_divisors body)

abbrev pub is_pick_row : Statements → Atom → Bool
is_pick_row body row =
    nat_le (length row.term.parts) 2
    && list_all (λ p. is_pick_coefficient body p.1) row.term.parts
    && nat_le (unsigned_abs row.term.constant) (2 ^ 64)

abbrev pub are_pick_rows : Statements → List Atom → Bool
are_pick_rows body rows = length rows == 2 && list_all (is_pick_row body) rows

abbrev pub are_small_rows : List Atom → Bool
are_small_rows rows = nat_le (length rows) 2 && list_all is_small_row rows

-- what an edge of a procedure's graph keeps, in a program with the given number of globals
abbrev pub IsBoundedEdge : (globals : ℕ) → Statements → Edge → Type 0
IsBoundedEdge n body (Entry to params) = Unit {0}
IsBoundedEdge n body (Assign from to slot value) =
    All (λ part. IsCoefficient body part.0) value.parts
IsBoundedEdge n body (Guard from to rows) = IsTrue (are_small_rows rows.atoms)
IsBoundedEdge n body (Input from to slot) = Unit {0}
IsBoundedEdge n body (Pick from to slot rows) = IsTrue (are_pick_rows body rows.atoms)
IsBoundedEdge n body (Call from to proc args results) =
    (arguments : ℕ) × (length args ≡ arguments + n) × (length results ≡ 1 + n)
    × IsTrue (statements_call proc arguments body)
IsBoundedEdge n body (Assert from to id rows) = IsTrue (are_small_rows rows.atoms)
IsBoundedEdge n body (Return from to slots) = Unit {0}

-- what the graph of a procedure keeps: `main` has no entry values
pub record IsBounded (P : PureProgram) (i : ℕ) (p : PureProcedure) (g : Graph) : Type 0 where
  pub params : g.params ≡ cond (i == P.main) 0 (p.params + length P.globals)
  pub exits : g.exits ≡ 1 + length P.globals
  pub few_edges : length g.edges ≤ 16 * statements_nodes p.body + 32
  pub edges : (k : ℕ) (e : Edge) → slice_get g.edges k ≡ Some e →
      IsBoundedEdge (length P.globals) p.body e

-- one graph for each procedure, by its number
pub record AreBounded (P : PureProgram) (gs : List Graph) : Type 0 where
  pub each_procedure : length gs ≡ length P.procedures
  pub bounded : (i : ℕ) (p : PureProcedure) (g : Graph) →
      slice_get P.procedures i ≡ Some p → slice_get gs i ≡ Some g → IsBounded P i p g

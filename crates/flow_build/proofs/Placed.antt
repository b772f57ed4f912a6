-- The blocks of a procedure stand in its graph.
use Rattle.std.proofs.Common.{◌≡◌, ℕ, ◌+◌, ◌<◌, ◌≤◌, Bool, true, false, List, [], ◌∷◌, ◌++◌, length, ℤ, suc, negsuc, Some, None, pos, refl, sym, ap, subst, ◌⊎◌, inl, inr, append_assoc, arith}
use Rattle.linear_formula.specs.declared.formula.Atom.{Atom}
use Rattle.c_tree.specs.Syntax.{Statement, block, set, set_global, ignore, assume, assert, if_else, loop, do_while, break, continue, return, Statements, no_statements, statement, PureProcedure}
use Rattle.flow_graph.specs.declared.graph.Edge.{Edge}
use Rattle.flow_graph.specs.declared.graph.Edge.TheVariants.{Entry, Assign, Guard, Input, Pick, Call, Return}
use Rattle.flow_graph.specs.Shapes.{source}
use Rattle.c_tree.specs.declared.tree.Op.TheVariants.{GreaterEqual, Less}
use Rattle.flow_build.specs.declared.layout.Layout.{Layout}
use Rattle.flow_build.specs.steps.Layouts.{variable_slot, global_slot, global_slots}
use Rattle.flow_build.specs.declared.target.Target.{Target}
use Rattle.flow_build.specs.declared.target.Target.TheVariants.{Node, Fails, Nowhere}
use Rattle.flow_build.specs.declared.operand.Operand.TheVariants.{Variable, Constant}
use Rattle.flow_build.specs.steps.Forms.{Value, literal, read, input, call, scale, sum, difference, quotient, remainder, truth, Values, no_values, value, Test, compare, opposite, both, either}
use Rattle.flow_build.specs.steps.Translation.{value_of, test_of}
use Rattle.flow_build.specs.steps.Operands.{constant_lin, scaled_lin, operand_lin, sum_lin, difference_lin, rest_lin, rows_above, rows_below, rows_where, opposite_op}
use Rattle.flow_build.specs.steps.Blocks.{Block, edges_of, one, opening_blocks, way, ways, exit_node, end_node, return_node, entry_node, body_node, first_free}
use Rattle.flow_build.specs.steps.Lowering.{operand_at, landing, nodes_of_quotient, quotient_blocks, nodes_of, nodes_of_all, nodes_of_test, slots_of, slots_of_test, argument_slot, argument_slots, landing_of_all, value_blocks, values_blocks, test_blocks, result_of, nodes_of_statement, nodes_of_statements, return_edge, statement_blocks, statements_blocks}
use Rattle.flow_build.specs.steps.Procedures.{layout_of, free_slot, procedure_blocks, procedure_edges}
use Rattle.flow_build.proofs.Outgoing.{At}
use Rattle.flow_build.proofs.Fresh.{Fresh, fresh_none, fresh_both, Leave, leave_both, fresh_block, Range, fresh_within, fresh_then, fresh_three, fresh_first}

-- A value is in place, or its blocks begin at `from`, go on after lo and lead to lo.
pub record InPlace (v : Value) (from t lo : ℕ) : Type 0 where
  pub blocks : value_blocks v from t lo ≡ []
  pub lands : landing v from lo ≡ from
  pub nodes : nodes_of v ≡ 0

pub record Behind (v : Value) (from t lo : ℕ) : Type 0 where
  pub blocks : Fresh (Range from (lo + 1) (lo + nodes_of v)) (value_blocks v from t lo)
  pub lands : landing v from lo ≡ lo
  pub nodes : 0 < nodes_of v

abbrev pub Lands : Value → (from t lo : ℕ) → Type 0
Lands v from t lo = InPlace v from t lo ⊎ Behind v from t lo

way_leaves : (n : ℕ) (target : Target) (rows : List Atom) → Leave n (way n target rows)
way_leaves n (Node to) rows = (refl, tt)
way_leaves n (Fails id) rows = (refl, tt)
way_leaves n Nowhere rows = tt

pub ways_leave : (n : ℕ) (target : Target) (lists : List (List Atom)) → Leave n (ways n target lists)
ways_leave n target [] = tt
ways_leave n target (rows ∷ lists) = leave_both n (way n target rows) (ways n target lists) (way_leaves n target rows)
    (ways_leave n target lists)

fresh_same : (S : ℕ → Type 0) (xs ys : List Block) → xs ≡ ys → Fresh S ys → Fresh S xs
fresh_same S xs ys e x = let F : List Block → Type 0 = λ l. Fresh S l in subst F (sym e) x

-- what follows a value
after_value : (v : Value) (from t lo hi : ℕ) (ys : List Block) → from < lo → lo + nodes_of v ≤ hi → Lands v from t lo →
    Fresh (Range (landing v from lo) (lo + nodes_of v) hi) ys → Fresh (Range from lo hi) (value_blocks v from t lo ++ ys)
after_value v from t lo hi ys lt le (inl p) y =
    let F : ℕ → Type 0 = λ m. Fresh (Range m (lo + nodes_of v) hi) ys in
    fresh_same (Range from lo hi) (value_blocks v from t lo ++ ys) ys (ap (λ l. l ++ ys) p.blocks)
    (fresh_within from (lo + nodes_of v) hi lo hi ys (omega arith) (omega arith) (subst F p.lands y))
after_value v from t lo hi ys lt le (inr b) y =
    let F : ℕ → Type 0 = λ m. Fresh (Range m (lo + nodes_of v) hi) ys in
    let n = b.nodes in
    fresh_then from lo hi (lo + 1) (lo + nodes_of v) lo (lo + nodes_of v) hi (value_blocks v from t lo) ys lt (omega arith) (omega arith)
    (omega arith) (omega arith) (omega arith) (omega arith) b.blocks (subst F b.lands y)

lands_before : (v : Value) (from t lo : ℕ) → from < lo → Lands v from t lo → landing v from lo < lo + nodes_of v
lands_before v from t lo lt (inl p) = let a = p.lands in let b = p.nodes in omega arith
lands_before v from t lo lt (inr b) = let a = b.lands in let c = b.nodes in omega arith

fresh_edge : (n lo hi : ℕ) (e : Edge) → source e ≡ Some n → Fresh (Range n lo hi) (one n e ∷ [])
fresh_edge n lo hi e h = fresh_first n lo hi (e ∷ []) (h, tt)

abbrev LandsAlways : Value → Type 0
LandsAlways v = (from t lo : ℕ) → from < lo → Lands v from t lo

-- two values, and what leaves the node after them
two_values : (v u : Value) → LandsAlways v → LandsAlways u → (from t lo hi : ℕ) (es : List Edge) → from < lo → lo + nodes_of v
    + nodes_of u ≤ hi → Leave (landing u (landing v from lo) (lo + nodes_of v)) es →
    Fresh (Range from lo hi) (value_blocks v from t lo ++ (value_blocks u (landing v from lo) (t + slots_of v) (lo + nodes_of v)
    ++ record { node = landing u (landing v from lo) (lo + nodes_of v); edges = es } ∷ []))
two_values v u vl ul from t lo hi es lt le h =
    let m = landing v from lo in
    let k = lo + nodes_of v in
    let n = landing u m k in
    let lands = vl from t lo lt in
    let before = lands_before v from t lo lt lands in
    after_value v from t lo hi (value_blocks u m (t + slots_of v) k ++ record { node = n; edges = es } ∷ []) lt (omega arith) lands
    (after_value u m (t + slots_of v) k hi (record { node = n; edges = es } ∷ []) before (omega arith) (ul m (t + slots_of v) k before)
    (fresh_first n (k + nodes_of u) hi es h))

abbrev FreshAlways : Test → Type 0
FreshAlways c = (from : ℕ) (met unmet : Target) (t lo : ℕ) → from < lo → Fresh (Range from lo (lo + nodes_of_test c))
    (test_blocks c from met unmet t lo)

two_tests : (c d : Test) → FreshAlways c → FreshAlways d → (from : ℕ) (met1 unmet1 met2 unmet2 : Target) (t lo : ℕ) → from < lo →
    Fresh (Range from lo (lo + (1 + nodes_of_test c + nodes_of_test d))) (test_blocks c from met1 unmet1 t (lo + 1) ++ test_blocks d lo met2
    unmet2 (t + slots_of_test c) (lo + 1 + nodes_of_test c))
two_tests c d cf df from met1 unmet1 met2 unmet2 t lo lt =
    let k = lo + 1 + nodes_of_test c in
    fresh_then from lo (lo + (1 + nodes_of_test c + nodes_of_test d)) (lo + 1) k lo k (k + nodes_of_test d)
    (test_blocks c from met1 unmet1 t (lo + 1)) (test_blocks d lo met2 unmet2 (t + slots_of_test c) k)
    lt (omega arith) (omega arith) (omega arith) (omega arith) (omega arith) (omega arith)
    (cf from met1 unmet1 t (lo + 1) (omega arith))
    (df lo met2 unmet2 (t + slots_of_test c) k (omega arith))

sides_leave : (a from lo : ℕ) → Leave from (ways from (Node lo) (rows_where GreaterEqual (Variable a) (Constant (pos 0)))
    ++ ways from (Node (lo + 1)) (rows_where Less (Variable a) (Constant (pos 0))))
sides_leave a from lo =
    let met = rows_where GreaterEqual (Variable a) (Constant (pos 0)) in
    let unmet = rows_where Less (Variable a) (Constant (pos 0)) in
    leave_both from (ways from (Node lo) met) (ways from (Node (lo + 1)) unmet) (ways_leave from (Node lo) met)
    (ways_leave from (Node (lo + 1)) unmet)

-- the sides of a quotient
quotient_fresh : (c : ℤ) (a t from to lo : ℕ) → from < lo → Fresh (Range from lo (lo + nodes_of_quotient c))
    (quotient_blocks c a t from to lo)
quotient_fresh (pos k) a t from to lo lt =
    let es = ways from (Node lo) (rows_where GreaterEqual (Variable a) (Constant (pos 0)))
    ++ ways from (Node (lo + 1)) (rows_where Less (Variable a) (Constant (pos 0))) in
    let above = Pick lo to t (record { atoms = rows_above k a t }) in
    let below = Pick (lo + 1) to t (record { atoms = rows_below k a t }) in
    fresh_three from lo lo (lo + 1) (lo + 2) (lo + 2) (lo + 2) (lo + 2) (record { node = from; edges = es } ∷ []) (one lo above ∷ [])
    (one (lo + 1) below ∷ []) lt (omega arith) (omega arith) (omega arith) (omega arith) (omega arith) (omega arith)
    (fresh_first from (lo + 2) (lo + 2) es (sides_leave a from lo))
    (fresh_edge lo (lo + 2) (lo + 2) above refl)
    (fresh_edge (lo + 1) (lo + 2) (lo + 2) below refl)
quotient_fresh (negsuc k) a t from to lo lt =
    let es = ways from (Node lo) (rows_where GreaterEqual (Variable a) (Constant (pos 0)))
    ++ ways from (Node (lo + 1)) (rows_where Less (Variable a) (Constant (pos 0))) in
    let above = Pick lo (lo + 2) t (record { atoms = rows_above (suc k) a t }) in
    let below = Pick (lo + 1) (lo + 2) t (record { atoms = rows_below (suc k) a t }) in
    let turned = Assign (lo + 2) to t (scaled_lin (negsuc 0) (Variable t)) in
    fresh_three from lo lo (lo + 1) (lo + 2) (lo + 2) (lo + 2) (lo + 3) (record { node = from; edges = es } ∷ []) (one lo above ∷ [])
    (one (lo + 1) below ∷ one (lo + 2) turned ∷ []) lt (omega arith) (omega arith) (omega arith) (omega arith) (omega arith) (omega arith)
    (fresh_first from (lo + 2) (lo + 2) es (sides_leave a from lo))
    (fresh_edge lo (lo + 2) (lo + 2) above refl)
    (fresh_then (lo + 1) (lo + 2) (lo + 3) (lo + 3) (lo + 3) (lo + 2) (lo + 3) (lo + 3) (one (lo + 1) below ∷ [])
    (one (lo + 2) turned ∷ []) (omega arith) (omega arith) (omega arith) (omega arith) (omega arith) (omega arith) (omega arith)
    (fresh_edge (lo + 1) (lo + 3) (lo + 3) below refl)
    (fresh_edge (lo + 2) (lo + 3) (lo + 3) turned refl))

-- a value, and its quotient
value_quotient : (c : ℤ) (v : Value) (a : ℕ) → LandsAlways v → (from t u to lo : ℕ) → from < lo →
    Fresh (Range from lo (lo + nodes_of v + nodes_of_quotient c))
    (value_blocks v from t lo ++ quotient_blocks c a u (landing v from lo) to (lo + nodes_of v))
value_quotient c v a vl from t u to lo lt =
    let lands = vl from t lo lt in
    let n = landing v from lo in
    let k = lo + nodes_of v in
    after_value v from t lo (k + nodes_of_quotient c) (quotient_blocks c a u n to k) lt (omega arith) lands
    (quotient_fresh c a u n to k (lands_before v from t lo lt lands))

mutual
  pub value_lands : (v : Value) (from t lo : ℕ) → from < lo → Lands v from t lo
  value_lands (literal false n) from t lo lt = inl (record { blocks = refl; lands = refl; nodes = refl })
  value_lands (literal true n) from t lo lt = inr
      (record { blocks = fresh_edge from (lo + 1) (lo + 1) (Assign from lo t (constant_lin n)) refl; lands = refl; nodes = omega arith })
  value_lands (read false x) from t lo lt = inl (record { blocks = refl; lands = refl; nodes = refl })
  value_lands (read true x) from t lo lt =
      inr (record {
        blocks = fresh_edge from (lo + 1) (lo + 1) (Assign from lo t (operand_lin (Variable x))) refl;
        lands = refl;
        nodes = omega arith;
      })
  value_lands input from t lo lt = inr (record {
    blocks = fresh_edge from (lo + 1) (lo + 1) (Input from lo t) refl;
    lands = refl;
    nodes = omega arith;
  })
  value_lands (call p vs gs) from t lo lt =
      let n = landing_of_all vs from (lo + 1) in
      let e = Call n lo p (argument_slots vs (t + 1) ++ gs) (t ∷ gs) in
      inr (record {
        blocks =
            fresh_within from (lo + 1) (lo + 1 + nodes_of_all vs) (lo + 1) (lo + nodes_of (call p vs gs))
            (values_blocks vs from (t + 1) (lo + 1) ++ one n e ∷ []) (omega arith) (omega arith)
            (after_values vs from (t + 1) (lo + 1) (lo + 1 + nodes_of_all vs) (one n e ∷ []) (omega arith) (omega arith)
            (fresh_edge n (lo + 1 + nodes_of_all vs) (lo + 1 + nodes_of_all vs) e refl));
        lands = refl;
        nodes = omega arith;
      })
  value_lands (scale c v) from t lo lt =
      let n = landing v from (lo + 1) in
      let e = Assign n lo t (scaled_lin c (operand_at v (t + 1))) in
      inr (record {
        blocks =
            fresh_within from (lo + 1) (lo + 1 + nodes_of v) (lo + 1) (lo + nodes_of (scale c v)) (value_blocks v from (t + 1) (lo + 1)
            ++ one n e ∷ []) (omega arith) (omega arith)
            (after_value v from (t + 1) (lo + 1) (lo + 1 + nodes_of v) (one n e ∷ []) (omega arith) (omega arith)
            (value_lands v from (t + 1) (lo + 1) (omega arith)) (fresh_edge n (lo + 1 + nodes_of v) (lo + 1 + nodes_of v) e refl));
        lands = refl;
        nodes = omega arith;
      })
  value_lands (sum v u) from t lo lt =
      let e = Assign (landing u (landing v from (lo + 1)) (lo + 1 + nodes_of v)) lo t
      (sum_lin (operand_at v (t + 1)) (operand_at u (t + 1 + slots_of v))) in
      inr (record {
        blocks = two_values v u (value_lands v) (value_lands u) from (t + 1) (lo + 1) (lo + nodes_of (sum v u)) (e ∷ [])
            (omega arith) (omega arith) (refl, tt);
        lands = refl;
        nodes = omega arith;
      })
  value_lands (difference v u) from t lo lt =
      let e = Assign (landing u (landing v from (lo + 1)) (lo + 1 + nodes_of v)) lo t
      (difference_lin (operand_at v (t + 1)) (operand_at u (t + 1 + slots_of v))) in
      inr (record {
        blocks = two_values v u (value_lands v) (value_lands u) from (t + 1) (lo + 1) (lo + nodes_of (difference v u)) (e ∷ [])
            (omega arith) (omega arith) (refl, tt);
        lands = refl;
        nodes = omega arith;
      })
  value_lands (quotient c v) from t lo lt =
      let a = argument_slot v (t + 1) in
      let n = landing v from (lo + 1) in
      inr (record {
        blocks =
            fresh_within from (lo + 1) (lo + 1 + nodes_of v + nodes_of_quotient c) (lo + 1) (lo + nodes_of (quotient c v))
            (value_blocks v from (t + 1) (lo + 1) ++ quotient_blocks c a t n lo (lo + 1 + nodes_of v)) (omega arith) (omega arith)
            (value_quotient c v a (value_lands v) from (t + 1) t lo (lo + 1) (omega arith));
        lands = refl;
        nodes = omega arith;
      })
  value_lands (remainder c v) from t lo lt =
      let a = argument_slot v (t + 1) in
      let n = landing v from (lo + 2) in
      let hi = lo + 2 + nodes_of v + nodes_of_quotient c in
      let first = value_blocks v from (t + 1) (lo + 2) in
      let second = quotient_blocks c a t n (lo + 1) (lo + 2 + nodes_of v) in
      let third = one (lo + 1) (Assign (lo + 1) lo t (rest_lin c a t)) ∷ [] in
      inr (record {
        blocks =
            fresh_within from (lo + 1) hi (lo + 1) (lo + nodes_of (remainder c v)) (first ++ (second ++ third)) (omega arith) (omega arith)
            (fresh_same (Range from (lo + 1) hi) (first ++ (second ++ third)) ((first ++ second) ++ third)
            (sym (append_assoc first second third))
            (fresh_then from (lo + 1) hi (lo + 2) hi (lo + 1) hi hi (first ++ second) third
            (omega arith) (omega arith) (omega arith) (omega arith) (omega arith) (omega arith) (omega arith)
            (value_quotient c v a (value_lands v) from (t + 1) t (lo + 1) (lo + 2) (omega arith))
            (fresh_edge (lo + 1) hi hi (Assign (lo + 1) lo t (rest_lin c a t)) refl)));
        lands = refl;
        nodes = omega arith;
      })
  value_lands (truth c) from t lo lt =
      let one_edge = Assign (lo + 1) lo t (constant_lin (pos 1)) in
      let zero_edge = Assign (lo + 2) lo t (constant_lin (pos 0)) in
      let k = lo + 3 + nodes_of_test c in
      inr (record {
        blocks =
            fresh_within from (lo + 1) k (lo + 1) (lo + nodes_of (truth c)) (test_blocks c from (Node (lo + 1)) (Node (lo + 2)) (t + 1)
            (lo + 3) ++ one (lo + 1) one_edge ∷ one (lo + 2) zero_edge ∷ []) (omega arith) (omega arith)
            (fresh_three from (lo + 1) (lo + 1) (lo + 2) (lo + 3) k k k (test_blocks c from (Node (lo + 1)) (Node (lo + 2)) (t + 1)
            (lo + 3))
            (one (lo + 1) one_edge ∷ []) (one (lo + 2) zero_edge ∷ [])
            (omega arith) (omega arith) (omega arith) (omega arith) (omega arith) (omega arith) (omega arith)
            (test_fresh c from (Node (lo + 1)) (Node (lo + 2)) (t + 1) (lo + 3) (omega arith))
            (fresh_edge (lo + 1) k k one_edge refl)
            (fresh_edge (lo + 2) k k zero_edge refl));
        lands = refl;
        nodes = omega arith;
      })

  after_values : (vs : Values) (from t lo hi : ℕ) (ys : List Block) → from < lo → lo + nodes_of_all vs ≤ hi →
      Fresh (Range (landing_of_all vs from lo) (lo + nodes_of_all vs) hi) ys → Fresh (Range from lo hi) (values_blocks vs from t lo ++ ys)
  after_values no_values from t lo hi ys lt le y = fresh_within from (lo + 0) hi lo hi ys (omega arith) (omega arith) y
  after_values (value v vs) from t lo hi ys lt le y =
      let m = landing v from lo in
      let rest = values_blocks vs m (t + slots_of v) (lo + nodes_of v) in
      let lands = value_lands v from t lo lt in
      let top = landing_of_all vs m (lo + nodes_of v) in
      fresh_same (Range from lo hi) ((value_blocks v from t lo ++ rest) ++ ys) (value_blocks v from t lo ++ (rest ++ ys))
      (append_assoc (value_blocks v from t lo) rest ys)
      (after_value v from t lo hi (rest ++ ys) lt (omega arith) lands
      (after_values vs m (t + slots_of v) (lo + nodes_of v) hi ys (lands_before v from t lo lt lands) (omega arith)
      (fresh_within top (lo + (nodes_of v + nodes_of_all vs)) hi (lo + nodes_of v + nodes_of_all vs) hi ys (omega arith) (omega arith) y)))

  pub test_fresh : (c : Test) (from : ℕ) (met unmet : Target) (t lo : ℕ) → from < lo → Fresh (Range from lo (lo + nodes_of_test c))
      (test_blocks c from met unmet t lo)
  test_fresh (compare op v u) from met unmet t lo lt =
      let n = landing u (landing v from lo) (lo + nodes_of v) in
      let a = operand_at v t in
      let b = operand_at u (t + slots_of v) in
      two_values v u (value_lands v) (value_lands u) from t lo (lo + nodes_of_test (compare op v u)) (ways n met (rows_where op a b)
      ++ ways n unmet (rows_where (opposite_op op) a b)) lt (omega arith)
      (leave_both n (ways n met (rows_where op a b)) (ways n unmet (rows_where (opposite_op op) a b)) (ways_leave n met (rows_where op a b))
      (ways_leave n unmet (rows_where (opposite_op op) a b)))
  test_fresh (opposite c) from met unmet t lo lt = test_fresh c from unmet met t lo lt
  test_fresh (both c d) from met unmet t lo lt = two_tests c d (test_fresh c) (test_fresh d) from (Node lo) unmet met unmet t lo lt
  test_fresh (either c d) from met unmet t lo lt = two_tests c d (test_fresh c) (test_fresh d) from met (Node lo) met unmet t lo lt

-- a value, and an edge at the node after it
value_edge : (v : Value) (from t lo : ℕ) (e : Edge) → from < lo → source e ≡ Some (landing v from lo) →
    Fresh (Range from lo (lo + nodes_of v)) (value_blocks v from t lo ++ one (landing v from lo) e ∷ [])
value_edge v from t lo e lt h =
    let n = landing v from lo in
    after_value v from t lo (lo + nodes_of v) (one n e ∷ []) lt (omega arith) (value_lands v from t lo lt)
    (fresh_edge n (lo + nodes_of v) (lo + nodes_of v) e h)

return_leaves : (L : Layout) (gives : Bool) (n slot t : ℕ) → source (return_edge L gives n slot t) ≡ Some n
return_leaves L true n slot t = refl
return_leaves L false n slot t = refl

append_none : (xs : List Block) → xs ++ [] ≡ xs
append_none [] = refl
append_none (x ∷ xs) = ap (λ l. x ∷ l) (append_none xs)

module _ (L : Layout) (gives : Bool) (t : ℕ) where
  -- a statement and those after it
  followed : (s : Statement) (ss : Statements) (from to brk con lo : ℕ) → from < lo →
      ((to : ℕ) (lo : ℕ) → from < lo → Fresh (Range from lo (lo + nodes_of_statement L s)) (statement_blocks L gives t s from to brk con
      lo)) →
      ((from : ℕ) (lo : ℕ) → from < lo → Fresh (Range from lo (lo + nodes_of_statements L ss))
      (statements_blocks L gives t ss from to brk con
      lo)) →
      Fresh (Range from lo (lo + nodes_of_statements L (statement s ss))) (statements_blocks L gives t (statement s ss) from to brk con lo)
  followed s no_statements from to brk con lo lt first rest =
      let xs = statement_blocks L gives t s from to brk con (lo + 0) in
      fresh_same (Range from lo (lo + nodes_of_statements L (statement s no_statements))) (xs ++ []) xs (append_none xs)
      (fresh_within from (lo + 0) (lo + 0 + nodes_of_statement L s) lo (lo + nodes_of_statements L (statement s no_statements)) xs
      (omega arith)
      (omega arith) (first to (lo + 0) (omega arith)))
  followed s (statement r ss) from to brk con lo lt first rest =
      let k = lo + 1 + nodes_of_statement L s in
      let hi = k + nodes_of_statements L (statement r ss) in
      fresh_then from lo (lo + nodes_of_statements L (statement s (statement r ss))) (lo + 1) k lo k hi
      (statement_blocks L gives t s from lo brk con (lo + 1)) (statements_blocks L gives t (statement r ss) lo to brk con k)
      lt (omega arith) (omega arith) (omega arith) (omega arith) (omega arith) (omega arith) (first lo (lo + 1) (omega arith))
      (rest lo k (omega arith))

  in_block : (ss : Statements) (from to brk con lo : ℕ) → Fresh (Range from lo (lo + nodes_of_statements L ss))
      (statements_blocks L gives t ss from to brk con lo) → Fresh (Range from lo (lo + nodes_of_statements L ss))
      (statement_blocks L gives t (block ss) from to brk con lo)
  in_block no_statements from to brk con lo x = fresh_edge from lo (lo + 0) (Guard from to (record { atoms = [] })) refl
  in_block (statement s ss) from to brk con lo x = x

  mutual
    pub statement_fresh : (s : Statement) (from to brk con lo : ℕ) → from < lo → Fresh (Range from lo (lo + nodes_of_statement L s))
        (statement_blocks L gives t s from to brk con lo)
    statement_fresh (block ss) from to brk con lo lt = in_block ss from to brk con lo (statements_fresh ss from to brk con lo lt)
    statement_fresh (set x e) from to brk con lo lt =
        let n = landing (value_of L e) from lo in
        value_edge (value_of L e) from t lo (Assign n to (variable_slot L x) (operand_lin (operand_at (value_of L e) t))) lt refl
    statement_fresh (set_global y e) from to brk con lo lt =
        let n = landing (value_of L e) from lo in
        value_edge (value_of L e) from t lo (Assign n to (global_slot L y) (operand_lin (operand_at (value_of L e) t))) lt refl
    statement_fresh (ignore e) from to brk con lo lt = value_edge (value_of L e) from t lo
        (Guard (landing (value_of L e) from lo) to (record { atoms = [] })) lt refl
    statement_fresh (assume e) from to brk con lo lt = test_fresh (test_of L e) from (Node to) Nowhere t lo lt
    statement_fresh (assert id e) from to brk con lo lt = test_fresh (test_of L e) from (Node to) (Fails id) t lo lt
    statement_fresh (if_else e a b) from to brk con lo lt =
        let i = lo + 2 + nodes_of_test (test_of L e) in
        let j = i + nodes_of_statement L a in
        let k = j + nodes_of_statement L b in
        let test = test_blocks (test_of L e) from (Node lo) (Node (lo + 1)) t (lo + 2) in
        let first = statement_blocks L gives t a lo to brk con i in
        let second = statement_blocks L gives t b (lo + 1) to brk con j in
        fresh_within from lo k lo (lo + nodes_of_statement L (if_else e a b)) (test ++ (first ++ second)) (omega arith) (omega arith)
        (fresh_three from lo lo (lo + 1) (lo + 2) i j k test first second
        lt (omega arith) (omega arith) (omega arith) (omega arith) (omega arith) (omega arith)
        (test_fresh (test_of L e) from (Node lo) (Node (lo + 1)) t (lo + 2) (omega arith))
        (statement_fresh a lo to brk con i (omega arith))
        (statement_fresh b (lo + 1) to brk con j (omega arith)))
    statement_fresh (loop e step body) from to brk con lo lt =
        let i = lo + 2 + nodes_of_test (test_of L e) in
        let j = i + nodes_of_statement L body in
        let k = j + nodes_of_statement L step in
        let test = test_blocks (test_of L e) from (Node lo) (Node to) t (lo + 2) in
        let first = statement_blocks L gives t body lo (lo + 1) to (lo + 1) i in
        let second = statement_blocks L gives t step (lo + 1) from to from j in
        fresh_within from lo k lo (lo + nodes_of_statement L (loop e step body)) (test ++ (first ++ second)) (omega arith) (omega arith)
        (fresh_three from lo lo (lo + 1) (lo + 2) i j k test first second
        lt (omega arith) (omega arith) (omega arith) (omega arith) (omega arith) (omega arith)
        (test_fresh (test_of L e) from (Node lo) (Node to) t (lo + 2) (omega arith))
        (statement_fresh body lo (lo + 1) to (lo + 1) i (omega arith))
        (statement_fresh step (lo + 1) from to from j (omega arith)))
    statement_fresh (do_while body e) from to brk con lo lt =
        let k = lo + 1 + nodes_of_statement L body in
        let hi = k + nodes_of_test (test_of L e) in
        fresh_then from lo (lo + nodes_of_statement L (do_while body e)) (lo + 1) k lo k hi
        (statement_blocks L gives t body from lo to lo (lo + 1))
        (test_blocks (test_of L e) lo (Node from) (Node to) t k)
        lt (omega arith) (omega arith) (omega arith) (omega arith) (omega arith) (omega arith)
        (statement_fresh body from lo to lo (lo + 1) (omega arith))
        (test_fresh (test_of L e) lo (Node from) (Node to) t k (omega arith))
    statement_fresh break from to brk con lo lt = fresh_edge from lo (lo + 0) (Guard from brk (record { atoms = [] })) refl
    statement_fresh continue from to brk con lo lt = fresh_edge from lo (lo + 0) (Guard from con (record { atoms = [] })) refl
    statement_fresh (return None) from to brk con lo lt = fresh_edge from lo (lo + 0) (Assign from return_node t (constant_lin (pos 0)))
        refl
    statement_fresh (return (Some e)) from to brk con lo lt =
        let n = landing (result_of L e) from lo in
        let slot = argument_slot (result_of L e) t in
        value_edge (result_of L e) from t lo (return_edge L gives n slot t) lt (return_leaves L gives n slot t)

    pub statements_fresh : (ss : Statements) (from to brk con lo : ℕ) → from < lo → Fresh (Range from lo (lo + nodes_of_statements L ss))
        (statements_blocks L gives t ss from to brk con lo)
    statements_fresh no_statements from to brk con lo lt = fresh_none (Range from lo (lo + 0))
    statements_fresh (statement s ss) from to brk con lo lt =
        followed s ss from to brk con lo lt (λ to lo lt. statement_fresh s from to brk con lo lt)
        (λ from lo lt. statements_fresh ss from to brk con lo lt)

at_entry : (to params : ℕ) (es : List Edge) (bs : List Block) → At es bs → At (Entry to params ∷ es) bs
at_entry to params es [] h = tt
at_entry to params es (b ∷ bs) h = (h.0, at_entry to params es bs h.1)

-- the opening
opening_fresh : (from to lo x : ℕ) (zs : List ℤ) → from < lo → Fresh (Range from lo (lo + length zs)) (opening_blocks from to lo x zs)
opening_fresh from to lo x [] lt = fresh_edge from lo (lo + 0) (Guard from to (record { atoms = [] })) refl
opening_fresh from to lo x (z ∷ zs) lt =
    let e = Assign from lo x (constant_lin z) in
    let hi = lo + 1 + length zs in
    fresh_within from lo hi lo (lo + length (z ∷ zs)) (one from e ∷ opening_blocks lo to (lo + 1) (x + 1) zs) (omega arith) (omega arith)
    (fresh_then from lo hi (lo + 1) (lo + 1) lo (lo + 1) hi (one from e ∷ []) (opening_blocks lo to (lo + 1) (x + 1) zs)
    lt (omega arith) (omega arith) (omega arith) (omega arith) (omega arith) (omega arith)
    (fresh_edge from (lo + 1) (lo + 1) e refl) (opening_fresh lo to (lo + 1) (x + 1) zs (omega arith)))

-- the nodes of the opening, of the end and the return, and of the body
abbrev pub InFront : List ℤ → ℕ → Type 0
InFront opening = Range entry_node first_free (first_free + length opening)

abbrev pub IsLast : ℕ → Type 0
IsLast n = (n ≡ end_node) ⊎ (n ≡ return_node)

abbrev pub InBody : (globals : ℕ) → List ℤ → PureProcedure → ℕ → Type 0
InBody n opening p =
    Range body_node (first_free + length opening) (first_free + length opening + nodes_of_statements (layout_of n p) p.body)

abbrev pub InRest : (globals : ℕ) → List ℤ → PureProcedure → ℕ → Type 0
InRest n opening p k = IsLast k ⊎ InBody n opening p k

last_apart : (n : ℕ) (opening : List ℤ) (p : PureProcedure) (k : ℕ) → IsLast k → InBody n opening p k → ⊥
last_apart n opening p k (inl h) (inl r) = omega (arith, h, r)
last_apart n opening p k (inl h) (inr r) = omega (arith, h, r)
last_apart n opening p k (inr h) (inl r) = omega (arith, h, r)
last_apart n opening p k (inr h) (inr r) = omega (arith, h, r)

front_apart : (n : ℕ) (opening : List ℤ) (p : PureProcedure) (k : ℕ) → InFront opening k → InRest n opening p k → ⊥
front_apart n opening p k (inl h) (inl (inl r)) = omega (arith, h, r)
front_apart n opening p k (inl h) (inl (inr r)) = omega (arith, h, r)
front_apart n opening p k (inl h) (inr (inl r)) = omega (arith, h, r)
front_apart n opening p k (inl h) (inr (inr r)) = omega (arith, h, r)
front_apart n opening p k (inr h) (inl (inl r)) = omega (arith, h, r)
front_apart n opening p k (inr h) (inl (inr r)) = omega (arith, h, r)
front_apart n opening p k (inr h) (inr (inl r)) = omega (arith, h, r)
front_apart n opening p k (inr h) (inr (inr r)) = omega (arith, h, r)

pub procedure_fresh : (n : ℕ) (opening : List ℤ) (p : PureProcedure) → Fresh (λ k. InFront opening k ⊎ InRest n opening p k)
    (procedure_blocks n opening p)
procedure_fresh n opening p =
    let L = layout_of n p in
    let t = free_slot n p in
    let front = opening_blocks entry_node body_node first_free 0 opening in
    let end = one end_node (Assign end_node return_node t (constant_lin (pos 0))) in
    let last = one return_node (Return return_node exit_node (t ∷ global_slots L)) in
    let body = statement_blocks L p.gives t (block p.body) body_node end_node end_node end_node (first_free + length opening) in
    fresh_both (InFront opening) (InRest n opening p) (λ k. InFront opening k ⊎ InRest n opening p k) front (end ∷ last ∷ body)
    (λ k h. inl h) (λ k h. inr h) (front_apart n opening p)
    (opening_fresh entry_node body_node first_free 0 opening (omega arith))
    (fresh_both IsLast (InBody n opening p) (InRest n opening p) (end ∷ last ∷ []) body (λ k h. inl h) (λ k h. inr h)
    (last_apart n opening p)
    (fresh_both (λ k. k ≡ end_node) (λ k. k ≡ return_node) IsLast (end ∷ []) (last ∷ []) (λ k h. inl h) (λ k h. inr h)
    (λ k h j. omega (arith, h, j))
    (fresh_block end_node end.edges (refl, tt))
    (fresh_block return_node last.edges (refl, tt)))
    (statement_fresh L p.gives t (block p.body) body_node end_node end_node end_node (first_free + length opening) (omega arith)))

-- The edges that leave a block's node are the block's.
pub procedure_at : (n : ℕ) (opening : List ℤ) (entries : ℕ) (p : PureProcedure) →
    At (procedure_edges n opening entries p) (procedure_blocks n opening p)
procedure_at n opening entries p =
    at_entry entry_node entries (edges_of (procedure_blocks n opening p)) (procedure_blocks n opening p)
    ((procedure_fresh n opening p).at)

-- How many edges, nodes and slots programs take.
use Rattle.std.proofs.Common.{◌≡◌, ℕ, suc, ◌+◌, ◌*◌, ◌≤◌, Bool, true, false, None, Some, List, [], ◌∷◌, ◌++◌, length, ℤ, pos, negsuc, length-append, refl, ap, ◌∙◌, arith}
use Rattle.c_tree.specs.declared.tree.Op.{Op}
use Rattle.c_tree.specs.declared.tree.Op.TheVariants.{Add, Subtract, Multiply, Divide, Remainder, Less, LessEqual, Greater, GreaterEqual, Equal, Unequal, And, Or}
use Rattle.c_tree.specs.Syntax.{Expression, Statement, block, set, set_global, ignore, assume, assert, if_else, loop, do_while, break, continue, return, Statements, no_statements, statement, PureProcedure}
use Rattle.c_tree.specs.WellFormed.{nodes, statement_nodes, statements_nodes}
use Rattle.linear_formula.specs.declared.formula.Atom.{Atom}
use Rattle.flow_graph.specs.declared.graph.Edge.TheVariants.{Assign, Guard, Call, Return}
use Rattle.flow_build.specs.declared.operand.Operand.{Operand}
use Rattle.flow_build.specs.declared.layout.Layout.{Layout}
use Rattle.flow_build.specs.steps.Layouts.{variable_slot, global_slot}
use Rattle.flow_build.specs.declared.target.Target.{Target}
use Rattle.flow_build.specs.declared.target.Target.TheVariants.{Node, Fails, Nowhere}
use Rattle.flow_build.specs.steps.Forms.{Value, literal, read, input, call, scale, sum, difference, quotient, remainder, truth, Values, no_values, value, Test, compare, opposite, both, either}
use Rattle.flow_build.specs.steps.Translation.{value_of, test_of}
use Rattle.flow_build.specs.steps.Operands.{rows_where, opposite_op, constant_lin, scaled_lin, sum_lin, difference_lin, operand_lin, rest_lin}
use Rattle.flow_build.specs.steps.Blocks.{Block, edges_of, one, way, ways, opening_blocks, exit_node, end_node, return_node, entry_node, body_node, first_free}
use Rattle.flow_build.specs.steps.Lowering.{quotient_blocks, operand_at, landing, nodes_of, nodes_of_test, slots_of, slots_of_test, argument_slots, landing_of_all, value_blocks, values_blocks, test_blocks, between, nodes_between, result_of, nodes_of_statement, slots_of_statement, slots_of_statements, return_edge, argument_slot, statement_blocks, statements_blocks}
use Rattle.flow_build.specs.steps.Layouts.{global_slots}
use Rattle.flow_build.specs.steps.Procedures.{layout_of, free_slot, procedure_edges}
use Rattle.flow_build.proofs.Fresh.{edges_append}
use Rattle.flow_build.proofs.Weights.{weight, weight_all, weight_test, few_value, few_test, few_result, slots_weigh, slots_weigh_test}

-- how many edges the blocks have
abbrev pub size : List Block → ℕ
size bs = length (edges_of bs)

size-append : (xs ys : List Block) → size (xs ++ ys) ≡ size xs + size ys
size-append xs ys = ap length (edges_append xs ys) ∙ length-append (edges_of xs) (edges_of ys)

one_way : (n : ℕ) (target : Target) (rows : List Atom) → length (way n target rows) ≤ 1
one_way n (Node to) rows = omega arith
one_way n (Fails id) rows = omega arith
one_way n Nowhere rows = omega arith

few_ways : (n : ℕ) (target : Target) (lists : List (List Atom)) → length (ways n target lists) ≤ length lists
few_ways n target [] = omega arith
few_ways n target (rows ∷ lists) =
    let a = length-append (way n target rows) (ways n target lists) in
    let b = one_way n target rows in
    let c = few_ways n target lists in
    omega (arith, a, b, c)

few_rows : (op : Op) (a b : Operand) → length (rows_where op a b) + length (rows_where (opposite_op op) a b) ≤ 3
few_rows Add a b = omega arith
few_rows Subtract a b = omega arith
few_rows Multiply a b = omega arith
few_rows Divide a b = omega arith
few_rows Remainder a b = omega arith
few_rows Less a b = omega arith
few_rows LessEqual a b = omega arith
few_rows Greater a b = omega arith
few_rows GreaterEqual a b = omega arith
few_rows Equal a b = omega arith
few_rows Unequal a b = omega arith
few_rows And a b = omega arith
few_rows Or a b = omega arith

-- the edges after a comparison
few_sides : (op : Op) (a b : Operand) (n : ℕ) (met unmet : Target) →
    size (record { node = n; edges = ways n met (rows_where op a b) ++ ways n unmet (rows_where (opposite_op op) a b) } ∷ []) ≤ 3
few_sides op a b n met unmet =
    let xs = ways n met (rows_where op a b) in
    let ys = ways n unmet (rows_where (opposite_op op) a b) in
    let e = length-append xs ys in
    let f = length-append (xs ++ ys) [] in
    let c = few_ways n met (rows_where op a b) in
    let d = few_ways n unmet (rows_where (opposite_op op) a b) in
    let r = few_rows op a b in
    omega (arith, e, f, c, d, r)

-- the edges of a quotient
few_in_quotient : (c : ℤ) (a t from to lo : ℕ) → size (quotient_blocks c a t from to lo) ≤ 5
few_in_quotient (pos k) a t from to lo = omega arith
few_in_quotient (negsuc k) a t from to lo = omega arith

-- the edges of a form
mutual
  value_size : (v : Value) (from t lo : ℕ) → size (value_blocks v from t lo) ≤ weight 2 3 0 7 v
  value_size (literal false n) from t lo = omega arith
  value_size (literal true n) from t lo = omega arith
  value_size (read false x) from t lo = omega arith
  value_size (read true x) from t lo = omega arith
  value_size input from t lo = omega arith
  value_size (call p vs gs) from t lo =
      let n = landing_of_all vs from (lo + 1) in
      let a = size-append (values_blocks vs from (t + 1) (lo + 1)) (one n (Call n lo p (argument_slots vs (t + 1) ++ gs) (t ∷ gs)) ∷ []) in
      let b = values_size vs from (t + 1) (lo + 1) in
      omega (arith, a, b)
  value_size (scale c v) from t lo =
      let n = landing v from (lo + 1) in
      let a = size-append (value_blocks v from (t + 1) (lo + 1)) (one n (Assign n lo t (scaled_lin c (operand_at v (t + 1)))) ∷ []) in
      let b = value_size v from (t + 1) (lo + 1) in
      omega (arith, a, b)
  value_size (sum v u) from t lo =
      let m = landing v from (lo + 1) in
      let n = landing u m (lo + 1 + nodes_of v) in
      let last = one n (Assign n lo t (sum_lin (operand_at v (t + 1)) (operand_at u (t + 1 + slots_of v)))) ∷ [] in
      let second = value_blocks u m (t + 1 + slots_of v) (lo + 1 + nodes_of v) in
      let a = size-append (value_blocks v from (t + 1) (lo + 1)) (second ++ last) in
      let b = size-append second last in
      let c = value_size v from (t + 1) (lo + 1) in
      let d = value_size u m (t + 1 + slots_of v) (lo + 1 + nodes_of v) in
      omega (arith, a, b, c, d)
  value_size (difference v u) from t lo =
      let m = landing v from (lo + 1) in
      let n = landing u m (lo + 1 + nodes_of v) in
      let last = one n (Assign n lo t (difference_lin (operand_at v (t + 1)) (operand_at u (t + 1 + slots_of v)))) ∷ [] in
      let second = value_blocks u m (t + 1 + slots_of v) (lo + 1 + nodes_of v) in
      let a = size-append (value_blocks v from (t + 1) (lo + 1)) (second ++ last) in
      let b = size-append second last in
      let c = value_size v from (t + 1) (lo + 1) in
      let d = value_size u m (t + 1 + slots_of v) (lo + 1 + nodes_of v) in
      omega (arith, a, b, c, d)
  value_size (quotient c v) from t lo =
      let n = landing v from (lo + 1) in
      let last = quotient_blocks c (argument_slot v (t + 1)) t n lo (lo + 1 + nodes_of v) in
      let a = size-append (value_blocks v from (t + 1) (lo + 1)) last in
      let b = value_size v from (t + 1) (lo + 1) in
      let d = few_in_quotient c (argument_slot v (t + 1)) t n lo (lo + 1 + nodes_of v) in
      omega (arith, a, b, d)
  value_size (remainder c v) from t lo =
      let n = landing v from (lo + 2) in
      let x = argument_slot v (t + 1) in
      let middle = quotient_blocks c x t n (lo + 1) (lo + 2 + nodes_of v) in
      let last = one (lo + 1) (Assign (lo + 1) lo t (rest_lin c x t)) ∷ [] in
      let a = size-append (value_blocks v from (t + 1) (lo + 2)) (middle ++ last) in
      let b = size-append middle last in
      let d = value_size v from (t + 1) (lo + 2) in
      let e = few_in_quotient c x t n (lo + 1) (lo + 2 + nodes_of v) in
      omega (arith, a, b, d, e)
  value_size (truth c) from t lo =
      let test = test_blocks c from (Node (lo + 1)) (Node (lo + 2)) (t + 1) (lo + 3) in
      let a = size-append test (one (lo + 1) (Assign (lo + 1) lo t (constant_lin (pos 1)))
      ∷ one (lo + 2) (Assign (lo + 2) lo t (constant_lin (pos 0))) ∷ []) in
      let b = test_size c from (Node (lo + 1)) (Node (lo + 2)) (t + 1) (lo + 3) in
      omega (arith, a, b)

  values_size : (vs : Values) (from t lo : ℕ) → size (values_blocks vs from t lo) ≤ weight_all 2 3 0 7 vs
  values_size no_values from t lo = omega arith
  values_size (value v vs) from t lo =
      let m = landing v from lo in
      let a = size-append (value_blocks v from t lo) (values_blocks vs m (t + slots_of v) (lo + nodes_of v)) in
      let b = value_size v from t lo in
      let c = values_size vs m (t + slots_of v) (lo + nodes_of v) in
      omega (arith, a, b, c)

  test_size : (c : Test) (from : ℕ) (met unmet : Target) (t lo : ℕ) → size (test_blocks c from met unmet t lo) ≤ weight_test 2 3 0 7 c
  test_size (compare op v u) from met unmet t lo =
      let m = landing v from lo in
      let n = landing u m (lo + nodes_of v) in
      let x = operand_at v t in
      let y = operand_at u (t + slots_of v) in
      let last = record { node = n; edges = ways n met (rows_where op x y) ++ ways n unmet (rows_where (opposite_op op) x y) } ∷ [] in
      let second = value_blocks u m (t + slots_of v) (lo + nodes_of v) in
      let a = size-append (value_blocks v from t lo) (second ++ last) in
      let b = size-append second last in
      let c = value_size v from t lo in
      let d = value_size u m (t + slots_of v) (lo + nodes_of v) in
      let e = few_sides op x y n met unmet in
      omega (arith, a, b, c, d, e)
  test_size (opposite c) from met unmet t lo = test_size c from unmet met t lo
  test_size (both c d) from met unmet t lo =
      let k = lo + 1 + nodes_of_test c in
      let a = size-append (test_blocks c from (Node lo) unmet t (lo + 1)) (test_blocks d lo met unmet (t + slots_of_test c) k) in
      let b = test_size c from (Node lo) unmet t (lo + 1) in
      let e = test_size d lo met unmet (t + slots_of_test c) k in
      omega (arith, a, b, e)
  test_size (either c d) from met unmet t lo =
      let k = lo + 1 + nodes_of_test c in
      let a = size-append (test_blocks c from met (Node lo) t (lo + 1)) (test_blocks d lo met unmet (t + slots_of_test c) k) in
      let b = test_size c from met (Node lo) t (lo + 1) in
      let e = test_size d lo met unmet (t + slots_of_test c) k in
      omega (arith, a, b, e)

-- In a procedure whose names lie so:
module _ (L : Layout) where
  edges_few : (e : Expression) → weight 2 3 0 7 (value_of L e) ≤ 5 * nodes e
  edges_few e = few_value 2 3 0 7 L 5 (omega arith) (omega arith) (omega arith) (omega arith) (omega arith) e

  value_edges : (e : Expression) (from t lo : ℕ) → size (value_blocks (value_of L e) from t lo) ≤ 5 * nodes e
  value_edges e from t lo = let a = value_size (value_of L e) from t lo in let b = edges_few e in omega (arith, a, b)

  result_edges : (e : Expression) (from t lo : ℕ) → size (value_blocks (result_of L e) from t lo) ≤ 5 * nodes e
  result_edges e from t lo =
      let a = value_size (result_of L e) from t lo in
      let b = few_result 2 3 0 7 L 5 (omega arith) (omega arith) (omega arith) (omega arith) (omega arith) e in
      omega (arith, a, b)

  test_edges : (e : Expression) (from : ℕ) (met unmet : Target) (t lo : ℕ) →
      size (test_blocks (test_of L e) from met unmet t lo) ≤ 5 * nodes e
  test_edges e from met unmet t lo =
      let a = test_size (test_of L e) from met unmet t lo in
      let b = few_test 2 3 0 7 L 5 (omega arith) (omega arith) (omega arith) (omega arith) (omega arith) e in
      omega (arith, a, b)

-- the edges of statements
module _ (L : Layout) (gives : Bool) (t : ℕ) where
  in_block : (ss : Statements) (from to brk con lo n : ℕ) → size (statements_blocks L gives t ss from to brk con lo) ≤ n →
      size (statement_blocks L gives t (block ss) from to brk con lo) ≤ 1 + n
  in_block no_statements from to brk con lo n h = omega arith
  in_block (statement s ss) from to brk con lo n h = omega arith

  mutual
    pub statement_edges : (s : Statement) (from to brk con lo : ℕ) → size (statement_blocks L gives t s from to brk con lo) ≤ 5 *
        statement_nodes s
    statement_edges (block ss) from to brk con lo = let a = in_block ss from to brk con lo (5 * statements_nodes ss)
        (statements_edges ss from to brk con lo) in omega (arith, a)
    statement_edges (set x e) from to brk con lo =
        let n = landing (value_of L e) from lo in
        let a = size-append (value_blocks (value_of L e) from t lo)
        (one n (Assign n to (variable_slot L x) (operand_lin (operand_at (value_of L e) t))) ∷ []) in
        let b = value_edges L e from t lo in
        omega (arith, a, b)
    statement_edges (set_global y e) from to brk con lo =
        let n = landing (value_of L e) from lo in
        let a = size-append (value_blocks (value_of L e) from t lo)
        (one n (Assign n to (global_slot L y) (operand_lin (operand_at (value_of L e) t))) ∷ []) in
        let b = value_edges L e from t lo in
        omega (arith, a, b)
    statement_edges (ignore e) from to brk con lo =
        let n = landing (value_of L e) from lo in
        let a = size-append (value_blocks (value_of L e) from t lo) (one n (Guard n to (record { atoms = [] })) ∷ []) in
        let b = value_edges L e from t lo in
        omega (arith, a, b)
    statement_edges (assume e) from to brk con lo = let a = test_edges L e from (Node to) Nowhere t lo in omega (arith, a)
    statement_edges (assert id e) from to brk con lo = let a = test_edges L e from (Node to) (Fails id) t lo in omega (arith, a)
    statement_edges (if_else e a b) from to brk con lo =
        let i = lo + 2 + nodes_of_test (test_of L e) in
        let j = i + nodes_of_statement L a in
        let first = statement_blocks L gives t a lo to brk con i in
        let second = statement_blocks L gives t b (lo + 1) to brk con j in
        let p = size-append (test_blocks (test_of L e) from (Node lo) (Node (lo + 1)) t (lo + 2)) (first ++ second) in
        let q = size-append first second in
        let c = test_edges L e from (Node lo) (Node (lo + 1)) t (lo + 2) in
        let x = statement_edges a lo to brk con i in
        let y = statement_edges b (lo + 1) to brk con j in
        omega (arith, p, q, c, x, y)
    statement_edges (loop e step body) from to brk con lo =
        let i = lo + 2 + nodes_of_test (test_of L e) in
        let j = i + nodes_of_statement L body in
        let first = statement_blocks L gives t body lo (lo + 1) to (lo + 1) i in
        let second = statement_blocks L gives t step (lo + 1) from to from j in
        let p = size-append (test_blocks (test_of L e) from (Node lo) (Node to) t (lo + 2)) (first ++ second) in
        let q = size-append first second in
        let c = test_edges L e from (Node lo) (Node to) t (lo + 2) in
        let x = statement_edges body lo (lo + 1) to (lo + 1) i in
        let y = statement_edges step (lo + 1) from to from j in
        omega (arith, p, q, c, x, y)
    statement_edges (do_while body e) from to brk con lo =
        let k = lo + 1 + nodes_of_statement L body in
        let p = size-append (statement_blocks L gives t body from lo to lo (lo + 1)) (test_blocks (test_of L e) lo (Node from) (Node to) t
        k)
        in
        let x = statement_edges body from lo to lo (lo + 1) in
        let c = test_edges L e lo (Node from) (Node to) t k in
        omega (arith, p, x, c)
    statement_edges break from to brk con lo = omega arith
    statement_edges continue from to brk con lo = omega arith
    statement_edges (return None) from to brk con lo = omega arith
    statement_edges (return (Some e)) from to brk con lo =
        let n = landing (result_of L e) from lo in
        let a = size-append (value_blocks (result_of L e) from t lo) (one n (return_edge L gives n (argument_slot (result_of L e) t) t)
        ∷ [])
        in
        let b = result_edges L e from t lo in
        omega (arith, a, b)

    pub statements_edges : (ss : Statements) (from to brk con lo : ℕ) → size (statements_blocks L gives t ss from to brk con lo) ≤ 5 *
        statements_nodes ss
    statements_edges no_statements from to brk con lo = omega arith
    statements_edges (statement s ss) from to brk con lo =
        let m = between ss to lo in
        let l = lo + nodes_between ss in
        let p = size-append (statement_blocks L gives t s from m brk con l)
        (statements_blocks L gives t ss m to brk con (l + nodes_of_statement L s))
        in
        let x = statement_edges s from m brk con l in
        let y = statements_edges ss m to brk con (l + nodes_of_statement L s) in
        omega (arith, p, x, y)

opening_size : (from to lo x : ℕ) (zs : List ℤ) → size (opening_blocks from to lo x zs) ≡ 1 + length zs
opening_size from to lo x [] = refl
opening_size from to lo x (z ∷ zs) = ap suc (opening_size lo to (lo + 1) (x + 1) zs) ∙ omega arith

pub procedure_size : (n : ℕ) (opening : List ℤ) (entries : ℕ) (p : PureProcedure) → length opening ≤ 16 →
    length (procedure_edges n opening entries p) ≤ 16 * statements_nodes p.body + 32
procedure_size n opening entries p few =
    let L = layout_of n p in
    let t = free_slot n p in
    let body = statement_blocks L p.gives t (block p.body) body_node end_node end_node end_node (first_free + length opening) in
    let first = opening_blocks entry_node body_node first_free 0 opening in
    let last = one end_node (Assign end_node return_node t (constant_lin (pos 0)))
    ∷ one return_node (Return return_node exit_node (t ∷ global_slots L)) ∷ body in
    let a = size-append first last in
    let b = opening_size entry_node body_node first_free 0 opening in
    let c = statement_edges L p.gives t (block p.body) body_node end_node end_node end_node (first_free + length opening) in
    omega (arith, a, b, c)

pub between_one : (ss : Statements) → nodes_between ss ≤ 1
between_one no_statements = omega arith
between_one (statement s ss) = omega arith

-- their slots
module _ (L : Layout) where
  value_slots : (e : Expression) → slots_of (value_of L e) ≤ nodes e
  value_slots e =
      let a = slots_weigh (value_of L e) in
      let b = few_value 1 0 0 1 L 1 (omega arith) (omega arith) (omega arith) (omega arith) (omega arith) e in
      omega (arith, a, b)

  result_slots : (e : Expression) → slots_of (result_of L e) ≤ nodes e
  result_slots e =
      let a = slots_weigh (result_of L e) in
      let b = few_result 1 0 0 1 L 1 (omega arith) (omega arith) (omega arith) (omega arith) (omega arith) e in
      omega (arith, a, b)

  test_slots : (e : Expression) → slots_of_test (test_of L e) ≤ nodes e
  test_slots e =
      let a = slots_weigh_test (test_of L e) in
      let b = few_test 1 0 0 1 L 1 (omega arith) (omega arith) (omega arith) (omega arith) (omega arith) e in
      omega (arith, a, b)

  mutual
    pub few_slots : (s : Statement) → slots_of_statement L s ≤ statement_nodes s
    few_slots (block ss) = let a = few_slots_all ss in omega (arith, a)
    few_slots (set x e) = let a = value_slots e in omega (arith, a)
    few_slots (set_global y e) = let a = value_slots e in omega (arith, a)
    few_slots (ignore e) = let a = value_slots e in omega (arith, a)
    few_slots (assume e) = let a = test_slots e in omega (arith, a)
    few_slots (assert id e) = let a = test_slots e in omega (arith, a)
    few_slots (if_else e a b) = let c = test_slots e in let x = few_slots a in let y = few_slots b in omega (arith, c, x, y)
    few_slots (loop e step body) = let c = test_slots e in let x = few_slots step in let y = few_slots body in omega (arith, c, x, y)
    few_slots (do_while body e) = let c = test_slots e in let x = few_slots body in omega (arith, c, x)
    few_slots break = omega arith
    few_slots continue = omega arith
    few_slots (return None) = omega arith
    few_slots (return (Some e)) = let a = result_slots e in omega (arith, a)

    pub few_slots_all : (ss : Statements) → slots_of_statements L ss ≤ statements_nodes ss
    few_slots_all no_statements = omega arith
    few_slots_all (statement s ss) = let a = few_slots s in let b = few_slots_all ss in omega (arith, a, b)

-- The blocks of values, tests and statements. Each begins at a given node; its other nodes are
-- numbered from `lo` on, and its slots from `t` on.
use Rattle.std.specs.Prelude.{ℕ, ◌+◌, max, Bool, true, false, List, [], ◌∷◌, ◌++◌, None, Some, suc, ℤ, pos, negsuc}
use Rattle.c_tree.specs.Syntax.{Expression, Statement, block, set, set_global, ignore, assume, assert, if_else, loop, do_while, break, continue, return, Statements, no_statements, statement}
use Rattle.c_tree.specs.declared.tree.Op.TheVariants.{Less, GreaterEqual}
use Rattle.flow_graph.specs.declared.graph.Edge.{Edge}
use Rattle.flow_graph.specs.declared.graph.Edge.TheVariants.{Assign, Guard, Input, Pick, Call, Return}
use Rattle.flow_build.specs.declared.operand.Operand.{Operand}
use Rattle.flow_build.specs.declared.operand.Operand.TheVariants.{Variable, Constant}
use Rattle.flow_build.specs.declared.layout.Layout.{Layout}
use Rattle.flow_build.specs.declared.target.Target.{Target}
use Rattle.flow_build.specs.declared.target.Target.TheVariants.{Node, Fails, Nowhere}
use Rattle.flow_build.specs.steps.Forms.{Value, literal, read, input, call, scale, sum, difference, quotient, remainder, truth, Values, no_values, value, Test, compare, opposite, both, either}
use Rattle.flow_build.specs.steps.Layouts.{variable_slot, global_slot, global_slots}
use Rattle.flow_build.specs.steps.Translation.{value_of, test_of, in_slot}
use Rattle.flow_build.specs.steps.Operands.{constant_lin, scaled_lin, operand_lin, sum_lin, difference_lin, rest_lin, rows_where, rows_above, rows_below, opposite_op}
use Rattle.flow_build.specs.steps.Blocks.{Block, one, ways, exit_node, return_node}

-- A literal or a variable that isn't kept is used in place: it has no blocks.
abbrev pub operand_at : Value → (t : ℕ) → Operand
operand_at (literal false n) t = Constant n
operand_at (read false x) t = Variable x
operand_at v t = Variable t

-- the node after a value
abbrev pub landing : Value → (from lo : ℕ) → ℕ
landing (literal false n) from lo = from
landing (read false x) from lo = from
landing v from lo = lo

-- the sides of a quotient, and the node before it is turned
abbrev pub nodes_of_quotient : ℤ → ℕ
nodes_of_quotient (pos k) = 2
nodes_of_quotient (negsuc k) = 3

-- how many nodes are taken
abbrev mutual
  pub nodes_of : Value → ℕ
  nodes_of (literal false n) = 0
  nodes_of (literal true n) = 1
  nodes_of (read false x) = 0
  nodes_of (read true x) = 1
  nodes_of input = 1
  nodes_of (call p vs gs) = 1 + nodes_of_all vs
  nodes_of (scale c v) = 1 + nodes_of v
  nodes_of (sum v u) = 1 + nodes_of v + nodes_of u
  nodes_of (difference v u) = 1 + nodes_of v + nodes_of u
  nodes_of (quotient c v) = 1 + nodes_of v + nodes_of_quotient c
  nodes_of (remainder c v) = 2 + nodes_of v + nodes_of_quotient c
  nodes_of (truth c) = 3 + nodes_of_test c

  pub nodes_of_all : Values → ℕ
  nodes_of_all no_values = 0
  nodes_of_all (value v vs) = nodes_of v + nodes_of_all vs

  pub nodes_of_test : Test → ℕ
  nodes_of_test (compare op v u) = nodes_of v + nodes_of u
  nodes_of_test (opposite c) = nodes_of_test c
  nodes_of_test (both c d) = 1 + nodes_of_test c + nodes_of_test d
  nodes_of_test (either c d) = 1 + nodes_of_test c + nodes_of_test d

-- how many slots are taken; a value's own slot is the first
abbrev mutual
  pub slots_of : Value → ℕ
  slots_of (literal false n) = 0
  slots_of (literal true n) = 1
  slots_of (read false x) = 0
  slots_of (read true x) = 1
  slots_of input = 1
  slots_of (call p vs gs) = 1 + slots_of_all vs
  slots_of (scale c v) = 1 + slots_of v
  slots_of (sum v u) = 1 + slots_of v + slots_of u
  slots_of (difference v u) = 1 + slots_of v + slots_of u
  slots_of (quotient c v) = 1 + slots_of v
  slots_of (remainder c v) = 1 + slots_of v
  slots_of (truth c) = 1 + slots_of_test c

  pub slots_of_all : Values → ℕ
  slots_of_all no_values = 0
  slots_of_all (value v vs) = slots_of v + slots_of_all vs

  pub slots_of_test : Test → ℕ
  slots_of_test (compare op v u) = slots_of v + slots_of u
  slots_of_test (opposite c) = slots_of_test c
  slots_of_test (both c d) = slots_of_test c + slots_of_test d
  slots_of_test (either c d) = slots_of_test c + slots_of_test d

-- where an argument lies
abbrev pub argument_slot : Value → (t : ℕ) → ℕ
argument_slot (read false x) t = x
argument_slot v t = t

abbrev pub argument_slots : Values → (t : ℕ) → List ℕ
argument_slots no_values t = []
argument_slots (value v vs) t = argument_slot v t ∷ argument_slots vs (t + slots_of v)

abbrev pub landing_of_all : Values → (from lo : ℕ) → ℕ
landing_of_all no_values from lo = from
landing_of_all (value v vs) from lo = landing_of_all vs (landing v from lo) (lo + nodes_of v)

-- from a node where slot a is at least 0, and from one where it is below, to a node where slot t
-- has the quotient by k
abbrev pub picks : (k a t above below to : ℕ) → List Block
picks k a t above below to =
    one above (Pick above to t (record { atoms = rows_above k a t }))
    ∷ one below (Pick below to t (record { atoms = rows_below k a t })) ∷ []

-- from a node to another one, where slot t has the quotient of slot a by the divisor
abbrev pub quotient_blocks : ℤ → (a t from to lo : ℕ) → List Block
quotient_blocks c a t from to lo =
    record {
      node = from;
      edges = ways from (Node lo) (rows_where GreaterEqual (Variable a) (Constant (pos 0)))
          ++ ways from (Node (lo + 1)) (rows_where Less (Variable a) (Constant (pos 0)));
    } ∷ picked_blocks c
  where
    picked_blocks : ℤ → List Block
    picked_blocks (pos k) = picks k a t lo (lo + 1) to
    picked_blocks (negsuc k) =
        picks (suc k) a t lo (lo + 1) (lo + 2)
        ++ one (lo + 2) (Assign (lo + 2) to t (scaled_lin (negsuc 0) (Variable t))) ∷ []

abbrev mutual
  -- from a node to `landing`, where the operand has the value
  pub value_blocks : Value → (from t lo : ℕ) → List Block
  value_blocks (literal false n) from t lo = []
  value_blocks (literal true n) from t lo = one from (Assign from lo t (constant_lin n)) ∷ []
  value_blocks (read false x) from t lo = []
  value_blocks (read true x) from t lo = one from (Assign from lo t (operand_lin (Variable x))) ∷ []
  value_blocks input from t lo = one from (Input from lo t) ∷ []
  value_blocks (call p vs gs) from t lo =
      let n = landing_of_all vs from (lo + 1) in
      values_blocks vs from (t + 1) (lo + 1)
      ++ one n (Call n lo p (argument_slots vs (t + 1) ++ gs) (t ∷ gs)) ∷ []
  value_blocks (scale c v) from t lo =
      let n = landing v from (lo + 1) in
      value_blocks v from (t + 1) (lo + 1)
      ++ one n (Assign n lo t (scaled_lin c (operand_at v (t + 1))))
      ∷ []
  value_blocks (sum v u) from t lo =
      let m = landing v from (lo + 1) in
      let n = landing u m (lo + 1 + nodes_of v) in
      value_blocks v from (t + 1) (lo + 1)
      ++ (value_blocks u m (t + 1 + slots_of v) (lo + 1 + nodes_of v)
      ++ one n (Assign n lo t (sum_lin (operand_at v (t + 1)) (operand_at u (t + 1 + slots_of v))))
      ∷ [])
  value_blocks (difference v u) from t lo =
      let m = landing v from (lo + 1) in
      let n = landing u m (lo + 1 + nodes_of v) in
      value_blocks v from (t + 1) (lo + 1)
      ++ (value_blocks u m (t + 1 + slots_of v) (lo + 1 + nodes_of v)
      ++ one n (Assign n lo t
      (difference_lin (operand_at v (t + 1)) (operand_at u (t + 1 + slots_of v))))
      ∷ [])
  value_blocks (quotient c v) from t lo =
      let n = landing v from (lo + 1) in
      value_blocks v from (t + 1) (lo + 1)
      ++ quotient_blocks c (argument_slot v (t + 1)) t n lo (lo + 1 + nodes_of v)
  value_blocks (remainder c v) from t lo =
      let n = landing v from (lo + 2) in
      let a = argument_slot v (t + 1) in
      value_blocks v from (t + 1) (lo + 2)
      ++ (quotient_blocks c a t n (lo + 1) (lo + 2 + nodes_of v)
      ++ one (lo + 1) (Assign (lo + 1) lo t (rest_lin c a t)) ∷ [])
  value_blocks (truth c) from t lo =
      test_blocks c from (Node (lo + 1)) (Node (lo + 2)) (t + 1) (lo + 3)
      ++ one (lo + 1) (Assign (lo + 1) lo t (constant_lin (pos 1)))
      ∷ one (lo + 2) (Assign (lo + 2) lo t (constant_lin (pos 0))) ∷ []

  pub values_blocks : Values → (from t lo : ℕ) → List Block
  values_blocks no_values from t lo = []
  values_blocks (value v vs) from t lo = value_blocks v from t lo ++ values_blocks vs
      (landing v from lo) (t + slots_of v) (lo + nodes_of v)

  -- from a node to one of the targets
  pub test_blocks : Test → (from : ℕ) → (met unmet : Target) → (t lo : ℕ) → List Block
  test_blocks (compare op v u) from met unmet t lo =
      let m = landing v from lo in
      let n = landing u m (lo + nodes_of v) in
      let a = operand_at v t in
      let b = operand_at u (t + slots_of v) in
      value_blocks v from t lo
      ++ (value_blocks u m (t + slots_of v) (lo + nodes_of v)
      ++ record {
        node = n;
        edges = ways n met (rows_where op a b) ++ ways n unmet
            (rows_where (opposite_op op) a b);
      } ∷ [])
  test_blocks (opposite c) from met unmet t lo = test_blocks c from unmet met t lo
  test_blocks (both c d) from met unmet t lo =
      test_blocks c from (Node lo) unmet t (lo + 1) ++ test_blocks d lo met unmet
      (t + slots_of_test c) (lo + 1 + nodes_of_test c)
  test_blocks (either c d) from met unmet t lo =
      test_blocks c from met (Node lo) t (lo + 1) ++ test_blocks d lo met unmet
      (t + slots_of_test c)
      (lo + 1 + nodes_of_test c)

-- the node between a statement and those after it
abbrev pub between : Statements → (to lo : ℕ) → ℕ
between no_statements to lo = to
between (statement s ss) to lo = lo

abbrev pub nodes_between : Statements → ℕ
nodes_between no_statements = 0
nodes_between (statement s ss) = 1

-- the value that a return leaves in a slot
abbrev pub result_of : Layout → Expression → Value
result_of L e = in_slot (value_of L e)

-- In a procedure whose names lie so:
module _ (L : Layout) where
  abbrev mutual
    pub nodes_of_statement : Statement → ℕ
    nodes_of_statement (block ss) = nodes_of_statements ss
    nodes_of_statement (set x e) = nodes_of (value_of L e)
    nodes_of_statement (set_global y e) = nodes_of (value_of L e)
    nodes_of_statement (ignore e) = nodes_of (value_of L e)
    nodes_of_statement (assume e) = nodes_of_test (test_of L e)
    nodes_of_statement (assert id e) = nodes_of_test (test_of L e)
    nodes_of_statement (if_else e a b) = 2 + nodes_of_test (test_of L e) + nodes_of_statement a
        + nodes_of_statement b
    nodes_of_statement (loop e step body) = 2 + nodes_of_test (test_of L e) + nodes_of_statement
        body
        + nodes_of_statement step
    nodes_of_statement (do_while body e) = 1 + nodes_of_statement body + nodes_of_test (test_of L e)
    nodes_of_statement break = 0
    nodes_of_statement continue = 0
    nodes_of_statement (return None) = 0
    nodes_of_statement (return (Some e)) = nodes_of (result_of L e)

    pub nodes_of_statements : Statements → ℕ
    nodes_of_statements no_statements = 0
    nodes_of_statements (statement s ss) = nodes_between ss + nodes_of_statement s
        + nodes_of_statements ss

  -- the most slots that a statement takes at a time
  abbrev mutual
    pub slots_of_statement : Statement → ℕ
    slots_of_statement (block ss) = slots_of_statements ss
    slots_of_statement (set x e) = slots_of (value_of L e)
    slots_of_statement (set_global y e) = slots_of (value_of L e)
    slots_of_statement (ignore e) = slots_of (value_of L e)
    slots_of_statement (assume e) = slots_of_test (test_of L e)
    slots_of_statement (assert id e) = slots_of_test (test_of L e)
    slots_of_statement (if_else e a b) = max (slots_of_test (test_of L e))
        (max (slots_of_statement a) (slots_of_statement b))
    slots_of_statement (loop e step body) = max (slots_of_test (test_of L e))
        (max (slots_of_statement body) (slots_of_statement step))
    slots_of_statement (do_while body e) = max (slots_of_statement body)
        (slots_of_test (test_of L e))
    slots_of_statement break = 0
    slots_of_statement continue = 0
    slots_of_statement (return None) = 0
    slots_of_statement (return (Some e)) = slots_of (result_of L e)

    pub slots_of_statements : Statements → ℕ
    slots_of_statements no_statements = 0
    slots_of_statements (statement s ss) = max (slots_of_statement s) (slots_of_statements ss)

-- the edge after a returned value: a `void` procedure returns 0
abbrev pub return_edge : Layout → (gives : Bool) → ℕ → (slot t : ℕ) → Edge
return_edge L true n slot t = Return n exit_node (slot ∷ global_slots L)
return_edge L false n slot t = Assign n return_node t (constant_lin (pos 0))

-- In a procedure whose slots from t on are free and which gives a value or doesn't:
module _ (L : Layout) (gives : Bool) (t : ℕ) where
  abbrev mutual
    -- from a node to `to`; `brk` and `con` are where Break and Continue lead
    pub statement_blocks : Statement → (from to brk con lo : ℕ) → List Block
    statement_blocks (block no_statements) from to brk con lo = one from
        (Guard from to (record { atoms = [] })) ∷ []
    statement_blocks (block (statement s ss)) from to brk con lo =
        let m = between ss to lo in
        let l = lo + nodes_between ss in
        statement_blocks s from m brk con l ++ statements_blocks ss m to brk con
        (l + nodes_of_statement L s)
    statement_blocks (set x e) from to brk con lo =
        let v = value_of L e in
        let n = landing v from lo in
        value_blocks v from t lo
        ++ one n (Assign n to (variable_slot L x) (operand_lin (operand_at v t)))
        ∷ []
    statement_blocks (set_global y e) from to brk con lo =
        let v = value_of L e in
        let n = landing v from lo in
        value_blocks v from t lo
        ++ one n (Assign n to (global_slot L y) (operand_lin (operand_at v t)))
        ∷ []
    statement_blocks (ignore e) from to brk con lo =
        let v = value_of L e in
        let n = landing v from lo in
        value_blocks v from t lo ++ one n (Guard n to (record { atoms = [] })) ∷ []
    statement_blocks (assume e) from to brk con lo = test_blocks (test_of L e) from (Node to)
        Nowhere
        t lo
    statement_blocks (assert id e) from to brk con lo = test_blocks (test_of L e) from (Node to)
        (Fails id) t lo
    statement_blocks (if_else e a b) from to brk con lo =
        let i = lo + 2 + nodes_of_test (test_of L e) in
        test_blocks (test_of L e) from (Node lo) (Node (lo + 1)) t (lo + 2)
        ++ (statement_blocks a lo to brk con i ++ statement_blocks b (lo + 1) to brk con
        (i + nodes_of_statement L a))
    statement_blocks (loop e step body) from to brk con lo =
        let i = lo + 2 + nodes_of_test (test_of L e) in
        test_blocks (test_of L e) from (Node lo) (Node to) t (lo + 2)
        ++ (statement_blocks body lo (lo + 1) to (lo + 1) i ++ statement_blocks step (lo + 1) from
        to from (i + nodes_of_statement L body))
    statement_blocks (do_while body e) from to brk con lo =
        statement_blocks body from lo to lo (lo + 1)
        ++ test_blocks (test_of L e) lo (Node from) (Node to) t (lo + 1 + nodes_of_statement L body)
    statement_blocks break from to brk con lo = one from (Guard from brk (record { atoms = [] }))
        ∷ []
    statement_blocks continue from to brk con lo = one from (Guard from con (record { atoms = [] }))
        ∷ []
    statement_blocks (return None) from to brk con lo = one from
        (Assign from return_node t (constant_lin (pos 0))) ∷ []
    statement_blocks (return (Some e)) from to brk con lo =
        let v = result_of L e in
        let n = landing v from lo in
        value_blocks v from t lo ++ one n (return_edge L gives n (argument_slot v t) t) ∷ []

    -- the statements from a node on; without one it is `to` itself
    pub statements_blocks : Statements → (from to brk con lo : ℕ) → List Block
    statements_blocks no_statements from to brk con lo = []
    statements_blocks (statement s ss) from to brk con lo =
        let m = between ss to lo in
        let l = lo + nodes_between ss in
        statement_blocks s from m brk con l ++ statements_blocks ss m to brk con
        (l + nodes_of_statement L s)

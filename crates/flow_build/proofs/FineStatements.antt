-- The edges of statements keep what edges keep.
use Rattle.std.proofs.Common.{ℕ, ◌+◌, ◌<◌, ◌≤◌, nat_lt, Bool, true, false, ◌||◌, List, [], ◌∷◌, ◌++◌, None, Some, ℤ, pos, negsuc, arith}
use Rattle.std.specs.List.{list_all}
use Rattle.std.proofs.lemmas.Bool.{lt-ltb}
use Rattle.linear_formula.proofs.Limits.{both_in}
use Rattle.std.proofs.lemmas.List.Elements.{Contains-append_left, Contains-append_right}
use Rattle.c_tree.specs.Syntax.{Expression, Statement, block, set, set_global, ignore, assume, assert, if_else, loop, do_while, break, continue, return, Statements, no_statements, statement, PureProgram}
use Rattle.flow_graph.specs.declared.graph.Edge.TheVariants.{Assign, Guard}
use Rattle.flow_build.specs.declared.layout.Layout.{Layout}
use Rattle.flow_build.specs.steps.Layouts.{variable_slot, global_slot, global_slots}
use Rattle.flow_build.specs.declared.target.Target.{Target}
use Rattle.flow_build.specs.declared.target.Target.TheVariants.{Node, Fails, Nowhere}
use Rattle.flow_build.specs.steps.Translation.{value_of, test_of}
use Rattle.flow_build.specs.steps.Operands.{constant_lin, operand_lin}
use Rattle.flow_build.specs.steps.Blocks.{Block, one as one_block, return_node}
use Rattle.flow_build.specs.steps.Lowering.{operand_at, landing, nodes_of_test, slots_of, slots_of_test, argument_slot, value_blocks, test_blocks, between, nodes_between, result_of, nodes_of_statement, nodes_of_statements, slots_of_statement, slots_of_statements, return_edge, statement_blocks, statements_blocks}
use Rattle.flow_build.specs.Promises.{IsCoefficient, calls, factors, divisors, statement_calls, statements_call, statement_factors, statements_factors, statement_divisors, statements_divisors}
use Rattle.flow_build.proofs.Translated.{IsPlain, RunsPlain, AllPlain, variable_low, value_fits, test_fits, result_fits, result_in_slot}
use Rattle.flow_build.proofs.GlobalSlots.{results_count, slots_below}
use Rattle.flow_build.proofs.Occurring.{or_left, or_right, Allows, allows_left, allows_right, AllowsOf, value_keeps, test_keeps, result_keeps}
use Rattle.flow_build.proofs.Fine.{Fine, IsInner, inner_source, assign_fine, no_rows, guard_fine, return_fine, minus_one, one_divides, constant_lin_is, operand_lin_is, IsTarget}
use Rattle.flow_build.proofs.FineForms.{BlocksFine, blocks_both, Called, Divides, Room, smaller, fresh_inner, lands_inner, operand_is, argument_is, edge_fine, value_fine, test_fine}

-- In a procedure of this body, whose names lie so, which has the given number of variables, and whose graph the given numbers of nodes and
-- slots:
module _ (P : PureProgram) (L : Layout) (own : ℕ) (low : L.params ≤ own) (body : Statements) (nodes slots : ℕ) (six : 6 ≤ nodes)
    (some : own + L.globals < slots) where
  -- the slots from here on are free
  abbrev t : ℕ
  t = own + L.globals

  pub enough : L.params + L.globals ≤ t
  enough = omega (arith, low)

  abbrev K : ℤ → Type 0
  K = IsCoefficient body

  abbrev D : ℤ → Type 0
  D = Divides P L body nodes slots t enough

  abbrev C : ℕ → ℕ → Type 0
  C = Called P L body nodes slots t enough

  minus : K (negsuc 0)
  minus = minus_one L.globals body nodes slots

  one : D (pos 1)
  one = one_divides L.globals body nodes slots

  abbrev Of : (fs ds : List ℤ) → (ℕ → ℕ → Bool) → Type 0
  Of fs ds called = Allows K D C fs ds called

  abbrev OfExpression : Expression → Type 0
  OfExpression e = AllowsOf K D C e

  abbrev pub OfStatement : Statement → Type 0
  OfStatement s = Of (statement_factors s) (statement_divisors s) (λ p n. statement_calls p n s)

  abbrev pub OfStatements : Statements → Type 0
  OfStatements ss = Of (statements_factors ss) (statements_divisors ss) (λ p n. statements_call p n ss)

  -- the parts of three
  module _ (xs ys zs us vs ws : List ℤ) (a b c : ℕ → ℕ → Bool) (h : Of (xs ++ (ys ++ zs)) (us ++ (vs ++ ws))
      (λ p n. a p n || b p n || c p n)) where
    of_first : Of xs us a
    of_first = record {
      factor = λ x i. h.factor x (Contains-append_left xs (ys ++ zs) x i);
      divisor = λ x i. h.divisor x (Contains-append_left us (vs ++ ws) x i);
      call = λ p n i. h.call p n (or_left (a p n || b p n) (c p n) (or_left (a p n) (b p n) i));
    }

    of_second : Of ys vs b
    of_second = record {
      factor = λ x i. h.factor x (Contains-append_right xs (ys ++ zs) x (Contains-append_left ys zs x i));
      divisor = λ x i. h.divisor x (Contains-append_right us (vs ++ ws) x (Contains-append_left vs ws x i));
      call = λ p n i. h.call p n (or_left (a p n || b p n) (c p n) (or_right (a p n) (b p n) i));
    }

    of_third : Of zs ws c
    of_third = record {
      factor = λ x i. h.factor x (Contains-append_right xs (ys ++ zs) x (Contains-append_right ys zs x i));
      divisor = λ x i. h.divisor x (Contains-append_right us (vs ++ ws) x (Contains-append_right vs ws x i));
      call = λ p n i. h.call p n (or_right (a p n || b p n) (c p n) i);
    }

  abbrev Inner : ℕ → Type 0
  Inner n = IsInner L.globals body nodes slots n

  abbrev AreFine : List Block → Type 0
  AreFine bs = BlocksFine P L body nodes slots t enough bs

  abbrev Has : (lo taken above : ℕ) → Type 0
  Has lo taken above = Room P L body nodes slots t enough t lo taken above

  return_inner : Inner return_node
  return_inner = record { below = omega arith; above = omega arith; apart = λ q. omega arith }

  guarded : (n to : ℕ) → Inner n → Inner to → Fine L.globals body nodes slots (Guard n to (record { atoms = [] }))
  guarded n to h k = guard_fine L.globals body nodes slots n to [] (inner_source L.globals body nodes slots n h) k
      (no_rows L.globals body nodes slots)

  zero_fine : (n : ℕ) → Inner n → Fine L.globals body nodes slots (Assign n return_node t (constant_lin (pos 0)))
  zero_fine n h = assign_fine L.globals body nodes slots n return_node t (constant_lin (pos 0))
      (inner_source L.globals body nodes slots n h)
      return_inner some
      (constant_lin_is L.globals body nodes slots (pos 0))

  -- the result and the globals
  pub returned_fine : (gives : Bool) (n slot : ℕ) → Inner n → slot < slots → Fine L.globals body nodes slots (return_edge L gives n slot t)
  returned_fine true n slot h lt =
      let all = global_slots L in
      let below = slots_below slots L.params L.globals (omega (arith, low, some)) in
      return_fine L.globals body nodes slots n (slot ∷ all) (inner_source L.globals body nodes slots n h) (omega arith)
      (both_in (nat_lt slot slots) (list_all (λ x. nat_lt x slots) all) (lt-ltb slot slots lt) below)
      (results_count slot L.params L.globals)
  returned_fine false n slot h lt = zero_fine n h

  condition_fine : (e : Expression) (from : ℕ) (met unmet : Target) (lo : ℕ) → IsPlain P L own e → OfExpression e → Inner from →
      IsTarget L.globals body nodes slots met → IsTarget L.globals body nodes slots unmet → Has lo (nodes_of_test (test_of L e))
      (slots_of_test (test_of L e)) →
      AreFine (test_blocks (test_of L e) from met unmet t lo)
  condition_fine e from met unmet lo plain of inner m u r =
      test_fine P L body nodes slots t enough (test_of L e) from met unmet t lo (test_fits P L own low e plain)
      (test_keeps K D C L minus one e of) inner m u r

  global_low : (y : ℕ) → y < L.globals → global_slot L y < t
  global_low y h = omega (arith, low, h)

  -- fewer nodes from the same on or later, and fewer slots
  fewer : (lo n s lo2 n2 s2 : ℕ) → Has lo n s → lo ≤ lo2 → lo2 + n2 ≤ lo + n → s2 ≤ s → Has lo2 n2 s2
  fewer lo n s lo2 n2 s2 r a b c = smaller P L body nodes slots t enough t lo n s t lo2 n2 s2 r a b (omega arith) (omega arith)

  fresh : (lo n s k : ℕ) → Has lo n s → lo ≤ k → k < lo + n → Inner k
  fresh lo n s k r a b = fresh_inner P L body nodes slots t enough t lo n s k r a b

  between_inner : (ss : Statements) (to lo n s : ℕ) → Has lo (nodes_between ss + n) s → Inner to → Inner (between ss to lo)
  between_inner no_statements to lo n s r h = h
  between_inner (statement a ss) to lo n s r h = fresh lo (1 + n) s lo r (omega arith) (omega arith)

  module _ (gives : Bool) where
    in_block : (ss : Statements) (from to brk con lo : ℕ) → Inner from → Inner to →
        AreFine (statements_blocks L gives t ss from to brk con lo) →
        AreFine (statement_blocks L gives t (block ss) from to brk con lo)
    in_block no_statements from to brk con lo fi ti h = edge_fine P L body nodes slots t enough from (Guard from to (record { atoms = [] }))
        (guarded from to fi ti)
    in_block (statement s ss) from to brk con lo fi ti h = h

    mutual
      pub statement_fine : (s : Statement) → RunsPlain P L own s → OfStatement s → (from to brk con lo : ℕ) → Inner from → Inner to →
          Inner brk →
          Inner con → Has lo (nodes_of_statement L s) (slots_of_statement L s) → AreFine (statement_blocks L gives t s from to brk con lo)
      statement_fine (block ss) plain of from to brk con lo fi ti bi ci r = in_block ss from to brk con lo fi ti
          (statements_fine ss plain of from to brk con lo fi ti bi ci r)
      statement_fine (set x e) plain of from to brk con lo fi ti bi ci r =
          let v = value_of L e in
          let n = landing v from lo in
          let behind = lands_inner P L body nodes slots t enough v from t lo (slots_of v) fi r in
          let a = operand_at v t in
          let fits = value_fits P L own low e plain.1 in
          let lt = variable_low P L own x plain.0 in
          let edge = Assign n to (variable_slot L x) (operand_lin a) in
          blocks_both P L body nodes slots t enough (value_blocks v from t lo) (one_block n edge ∷ [])
          (value_fine P L body nodes slots t enough v from t lo fits (value_keeps K D C L minus one e of) fi r)
          (edge_fine P L body nodes slots t enough n edge (assign_fine L.globals body nodes slots n to (variable_slot L x) (operand_lin a)
          (inner_source L.globals body nodes slots n behind) ti (omega (arith, some, lt))
          (operand_lin_is L.globals body nodes slots a (operand_is P L body nodes slots t enough v t fits r.above_vars r.few_slots))))
      statement_fine (set_global y e) plain of from to brk con lo fi ti bi ci r =
          let v = value_of L e in
          let n = landing v from lo in
          let behind = lands_inner P L body nodes slots t enough v from t lo (slots_of v) fi r in
          let a = operand_at v t in
          let fits = value_fits P L own low e plain.1 in
          let lt = global_low y plain.0 in
          let edge = Assign n to (global_slot L y) (operand_lin a) in
          blocks_both P L body nodes slots t enough (value_blocks v from t lo) (one_block n edge ∷ [])
          (value_fine P L body nodes slots t enough v from t lo fits (value_keeps K D C L minus one e of) fi r)
          (edge_fine P L body nodes slots t enough n edge (assign_fine L.globals body nodes slots n to (global_slot L y) (operand_lin a)
          (inner_source L.globals body nodes slots n behind) ti (omega (arith, some, lt))
          (operand_lin_is L.globals body nodes slots a (operand_is P L body nodes slots t enough v t fits r.above_vars r.few_slots))))
      statement_fine (ignore e) plain of from to brk con lo fi ti bi ci r =
          let v = value_of L e in
          let n = landing v from lo in
          let behind = lands_inner P L body nodes slots t enough v from t lo (slots_of v) fi r in
          blocks_both P L body nodes slots t enough (value_blocks v from t lo) (one_block n (Guard n to (record { atoms = [] })) ∷ [])
          (value_fine P L body nodes slots t enough v from t lo (value_fits P L own low e plain) (value_keeps K D C L minus one e of) fi r)
          (guarded n to behind ti, tt)
      statement_fine (assume e) plain of from to brk con lo fi ti bi ci r = condition_fine e from (Node to) Nowhere lo plain of fi ti tt r
      statement_fine (assert id e) plain of from to brk con lo fi ti bi ci r = condition_fine e from (Node to) (Fails id) lo plain of fi ti
          tt r
      statement_fine (if_else e a b) plain of from to brk con lo fi ti bi ci r =
          let k = nodes_of_test (test_of L e) in
          let n = nodes_of_statement L (if_else e a b) in
          let s = slots_of_statement L (if_else e a b) in
          let i = lo + 2 + k in
          let j = i + nodes_of_statement L a in
          let oe = of_first (factors e) (statement_factors a) (statement_factors b) (divisors e) (statement_divisors a)
          (statement_divisors b)
          (λ p n. calls p n e) (λ p n. statement_calls p n a)
          (λ p n. statement_calls p n b) of in
          let oa = of_second (factors e) (statement_factors a) (statement_factors b) (divisors e) (statement_divisors a)
          (statement_divisors b)
          (λ p n. calls p n e) (λ p n. statement_calls p n a)
          (λ p n. statement_calls p n b) of in
          let ob = of_third (factors e) (statement_factors a) (statement_factors b) (divisors e) (statement_divisors a)
          (statement_divisors b)
          (λ p n. calls p n e) (λ p n. statement_calls p n a)
          (λ p n. statement_calls p n b) of in
          let x = fresh lo n s lo r (omega arith) (omega arith) in
          let y = fresh lo n s (lo + 1) r (omega arith) (omega arith) in
          let first = statement_blocks L gives t a lo to brk con i in
          let second = statement_blocks L gives t b (lo + 1) to brk con j in
          blocks_both P L body nodes slots t enough (test_blocks (test_of L e) from (Node lo) (Node (lo + 1)) t (lo + 2)) (first ++ second)
          (condition_fine e from (Node lo) (Node (lo + 1)) (lo + 2) plain.0 oe fi x y (fewer lo n s (lo + 2) k (slots_of_test (test_of L e))
          r
          (omega arith) (omega arith) (omega arith)))
          (blocks_both P L body nodes slots t enough first second
          (statement_fine a plain.1 oa lo to brk con i x ti bi ci (fewer lo n s i (nodes_of_statement L a) (slots_of_statement L a) r
          (omega arith) (omega arith) (omega arith)))
          (statement_fine b plain.2 ob (lo + 1) to brk con j y ti bi ci (fewer lo n s j (nodes_of_statement L b) (slots_of_statement L b) r
          (omega arith) (omega arith) (omega arith))))
      statement_fine (loop e step inside) plain of from to brk con lo fi ti bi ci r =
          let k = nodes_of_test (test_of L e) in
          let n = nodes_of_statement L (loop e step inside) in
          let s = slots_of_statement L (loop e step inside) in
          let i = lo + 2 + k in
          let j = i + nodes_of_statement L inside in
          let oe = of_first (factors e) (statement_factors step) (statement_factors inside) (divisors e) (statement_divisors step)
          (statement_divisors inside)
          (λ p n. calls p n e)
          (λ p n. statement_calls p n step) (λ p n. statement_calls p n inside) of in
          let os = of_second (factors e) (statement_factors step) (statement_factors inside) (divisors e) (statement_divisors step)
          (statement_divisors inside)
          (λ p n. calls p n e)
          (λ p n. statement_calls p n step) (λ p n. statement_calls p n inside) of in
          let oi = of_third (factors e) (statement_factors step) (statement_factors inside) (divisors e) (statement_divisors step)
          (statement_divisors inside)
          (λ p n. calls p n e)
          (λ p n. statement_calls p n step) (λ p n. statement_calls p n inside) of in
          let x = fresh lo n s lo r (omega arith) (omega arith) in
          let y = fresh lo n s (lo + 1) r (omega arith) (omega arith) in
          let first = statement_blocks L gives t inside lo (lo + 1) to (lo + 1) i in
          let second = statement_blocks L gives t step (lo + 1) from to from j in
          blocks_both P L body nodes slots t enough (test_blocks (test_of L e) from (Node lo) (Node to) t (lo + 2)) (first ++ second)
          (condition_fine e from (Node lo) (Node to) (lo + 2) plain.0 oe fi x ti (fewer lo n s (lo + 2) k (slots_of_test (test_of L e)) r
          (omega arith) (omega arith) (omega arith)))
          (blocks_both P L body nodes slots t enough first second
          (statement_fine inside plain.2 oi lo (lo + 1) to (lo + 1) i x y ti y
          (fewer lo n s i (nodes_of_statement L inside) (slots_of_statement L inside) r (omega arith) (omega arith) (omega arith)))
          (statement_fine step plain.1 os (lo + 1) from to from j y fi ti fi
          (fewer lo n s j (nodes_of_statement L step) (slots_of_statement L step) r (omega arith) (omega arith) (omega arith))))
      statement_fine (do_while inside e) plain of from to brk con lo fi ti bi ci r =
          let k = nodes_of_test (test_of L e) in
          let n = nodes_of_statement L (do_while inside e) in
          let s = slots_of_statement L (do_while inside e) in
          let j = lo + 1 + nodes_of_statement L inside in
          let oi = allows_left K D C (statement_factors inside) (factors e) (statement_divisors inside) (divisors e)
          (λ p n. statement_calls p n inside) (λ p n. calls p n e) of in
          let oe = allows_right K D C (statement_factors inside) (factors e) (statement_divisors inside) (divisors e)
          (λ p n. statement_calls p n inside) (λ p n. calls p n e) of in
          let x = fresh lo n s lo r (omega arith) (omega arith) in
          blocks_both P L body nodes slots t enough (statement_blocks L gives t inside from lo to lo (lo + 1))
          (test_blocks (test_of L e) lo (Node from) (Node to) t j)
          (statement_fine inside plain.0 oi from lo to lo (lo + 1) fi x ti x (fewer lo n s (lo + 1) (nodes_of_statement L inside)
          (slots_of_statement L inside) r (omega arith) (omega arith) (omega arith)))
          (condition_fine e lo (Node from) (Node to) j plain.1 oe x fi ti (fewer lo n s j k (slots_of_test (test_of L e)) r (omega arith)
          (omega arith) (omega arith)))
      statement_fine break plain of from to brk con lo fi ti bi ci r = edge_fine P L body nodes slots t enough from
          (Guard from brk (record { atoms = [] })) (guarded from brk fi bi)
      statement_fine continue plain of from to brk con lo fi ti bi ci r = edge_fine P L body nodes slots t enough from
          (Guard from con (record { atoms = [] })) (guarded from con fi ci)
      statement_fine (return None) plain of from to brk con lo fi ti bi ci r = edge_fine P L body nodes slots t enough from
          (Assign from return_node t (constant_lin (pos 0))) (zero_fine from fi)
      statement_fine (return (Some e)) plain of from to brk con lo fi ti bi ci r =
          let v = result_of L e in
          let n = landing v from lo in
          let slot = argument_slot v t in
          let behind = lands_inner P L body nodes slots t enough v from t lo (slots_of v) fi r in
          let fits = result_fits P L own low e plain in
          blocks_both P L body nodes slots t enough (value_blocks v from t lo) (one_block n (return_edge L gives n slot t) ∷ [])
          (value_fine P L body nodes slots t enough v from t lo fits (result_keeps K D C L minus one e of) fi r) (
            returned_fine gives n slot behind (argument_is P L body nodes slots t enough v t (result_in_slot P L own e) fits r.above_vars
                r.few_slots),
            tt,
          )

      pub statements_fine : (ss : Statements) → AllPlain P L own ss → OfStatements ss → (from to brk con lo : ℕ) → Inner from → Inner to →
          Inner brk → Inner con → Has lo (nodes_of_statements L ss) (slots_of_statements L ss) →
          AreFine (statements_blocks L gives t ss from to brk con lo)
      statements_fine no_statements plain of from to brk con lo fi ti bi ci r = tt
      statements_fine (statement a ss) plain of from to brk con lo fi ti bi ci r =
          let n = nodes_of_statements L (statement a ss) in
          let s = slots_of_statements L (statement a ss) in
          let m = between ss to lo in
          let l = lo + nodes_between ss in
          let k = l + nodes_of_statement L a in
          let oa = allows_left K D C (statement_factors a) (statements_factors ss) (statement_divisors a) (statements_divisors ss)
          (λ p n. statement_calls p n a) (λ p n. statements_call p n ss) of in
          let os = allows_right K D C (statement_factors a) (statements_factors ss) (statement_divisors a) (statements_divisors ss)
          (λ p n. statement_calls p n a) (λ p n. statements_call p n ss) of in
          let there = between_inner ss to lo (nodes_of_statement L a + nodes_of_statements L ss) s
          (fewer lo n s lo (nodes_between ss + (nodes_of_statement L a + nodes_of_statements L ss)) s r (omega arith) (omega arith)
          (omega arith))
          ti in
          blocks_both P L body nodes slots t enough (statement_blocks L gives t a from m brk con l)
          (statements_blocks L gives t ss m to brk con k)
          (statement_fine a plain.0 oa from m brk con l fi there bi ci (fewer lo n s l (nodes_of_statement L a) (slots_of_statement L a) r
          (omega arith) (omega arith) (omega arith)))
          (statements_fine ss plain.1 os m to brk con k there ti bi ci (fewer lo n s k (nodes_of_statements L ss) (slots_of_statements L ss)
          r
          (omega arith) (omega arith) (omega arith)))

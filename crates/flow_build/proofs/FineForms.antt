-- The edges of forms keep what edges keep.
use Rattle.std.proofs.Common.{◌≡◌, ℕ, ◌+◌, ◌<◌, ◌≤◌, zero, suc, nat_lt, true, false, List, [], ◌∷◌, ◌++◌, length, length-append, ℤ, pos, negsuc, IsTrue, ◌⊎◌, inl, inr, refl, sym, ◌∙◌, subst, arith}
use Rattle.std.specs.List.{list_all}
use Rattle.std.proofs.lemmas.Bool.{lt-ltb}
use Rattle.std.proofs.lemmas.List.Folds.{list_all-append}
use Rattle.linear_formula.proofs.Limits.{both_in}
use Rattle.c_tree.specs.declared.tree.Op.TheVariants.{Less, GreaterEqual}
use Rattle.c_tree.specs.Syntax.{Statements, PureProgram}
use Rattle.flow_build.specs.declared.layout.Layout.{Layout}
use Rattle.flow_build.specs.steps.Layouts.{global_slots}
use Rattle.flow_graph.specs.declared.graph.Lin.{Lin}
use Rattle.flow_graph.specs.declared.graph.Edge.{Edge}
use Rattle.flow_graph.specs.declared.graph.Edge.TheVariants.{Assign, Call}
use Rattle.flow_build.specs.declared.operand.Operand.TheVariants.{Variable, Constant}
use Rattle.flow_build.specs.declared.target.Target.{Target}
use Rattle.flow_build.specs.declared.target.Target.TheVariants.{Node}
use Rattle.flow_build.specs.steps.Forms.{Value, literal, read, input, call, scale, sum, difference, quotient, remainder, truth, Values, no_values, value, Test, compare, opposite, both, either}
use Rattle.flow_build.specs.steps.Operands.{constant_lin, scaled_lin, operand_lin, sum_lin, difference_lin, rest_lin, constant_of, rows_where, opposite_op}
use Rattle.std.specs.Prelude.{◌+ℤ◌, ◌-ℤ◌, ◌*ℤ◌, neg_ℤ}
use Rattle.flow_build.specs.steps.Blocks.{Block, edges_of, one, ways}
use Rattle.flow_build.specs.steps.Lowering.{nodes_of_quotient, picks, quotient_blocks, operand_at, landing, nodes_of, nodes_of_all, nodes_of_test, slots_of, slots_of_all, slots_of_test, argument_slot, argument_slots, landing_of_all, value_blocks, values_blocks, test_blocks}
use Rattle.flow_build.specs.Promises.{IsCoefficient, statements_call}
use Rattle.flow_build.proofs.FormMeaning.{count_values, FitsValue, FitsValues, FitsTest, IsInSlot}
use Rattle.flow_build.proofs.Fresh.{edges_append}
use Rattle.flow_build.proofs.Slots.{arguments_count}
use Rattle.flow_build.proofs.GlobalSlots.{slots_count, results_count, slots_below, distinct_behind}
use Rattle.flow_build.proofs.Occurring.{Keeps, KeepsAll, KeepsTest}
use Rattle.flow_build.proofs.Fine.{Fine, IsInner, inner_source, IsLin, assign_fine, input_fine, call_fine, IsOperand, variable_is, constant_is, constant_lin_is, multiple_is, pair_is, plus_one, minus_one, operand_lin_is, rows_are, AllFine, fine_both, IsTarget, ways_fine, IsDivisorHere, taken_away, above_fine, below_fine}

-- In a procedure of this body, whose names lie so, whose graph has the given numbers of nodes and slots, and whose temporaries lie from
-- vars on:
module _ (P : PureProgram) (L : Layout) (body : Statements) (nodes slots vars : ℕ) (low : L.params + L.globals ≤ vars) where
  -- what the edges of blocks keep
  abbrev pub BlocksFine : List Block → Type 0
  BlocksFine bs = AllFine L.globals body nodes slots (edges_of bs)

  pub blocks_both : (xs ys : List Block) → BlocksFine xs → BlocksFine ys → BlocksFine (xs ++ ys)
  blocks_both xs ys h k =
      let A : List Edge → Type 0 = λ es. AllFine L.globals body nodes slots es in
      subst A (sym (edges_append xs ys)) (fine_both L.globals body nodes slots (edges_of xs) (edges_of ys) h k)

  pub block_fine : (n : ℕ) (es : List Edge) → AllFine L.globals body nodes slots es → BlocksFine (record { node = n; edges = es } ∷ [])
  block_fine n es h = fine_both L.globals body nodes slots es [] h tt

  -- the multiples, divisors and calls of the body
  abbrev pub Called : ℕ → ℕ → Type 0
  Called p n = IsTrue (statements_call p n body)

  abbrev pub Divides : ℤ → Type 0
  Divides c = IsDivisorHere L.globals body nodes slots c

  abbrev pub KeepsValue : Value → Type 0
  KeepsValue v = Keeps (IsCoefficient body) Divides Called v

  abbrev pub KeepsValues : Values → Type 0
  KeepsValues vs = KeepsAll (IsCoefficient body) Divides Called vs

  abbrev pub KeepsOfTest : Test → Type 0
  KeepsOfTest c = KeepsTest (IsCoefficient body) Divides Called c

  -- there is room for the given number of nodes from lo on, and of slots from t on
  pub record Room (t lo taken above : ℕ) : Type 0 where
    pub fresh : 6 ≤ lo
    pub few_nodes : lo + taken ≤ nodes
    pub above_vars : vars ≤ t
    pub few_slots : t + above ≤ slots

  pub smaller : (t lo n s t2 lo2 n2 s2 : ℕ) → Room t lo n s → lo ≤ lo2 → lo2 + n2 ≤ lo + n → t ≤ t2 → t2 + s2 ≤ t + s → Room t2 lo2 n2 s2
  smaller t lo n s t2 lo2 n2 s2 r a b c d =
      let x = r.fresh in
      let y = r.few_nodes in
      let z = r.above_vars in
      let w = r.few_slots in
      record { fresh = omega arith; few_nodes = omega arith; above_vars = omega arith; few_slots = omega arith }

  -- a fresh node
  pub fresh_inner : (t lo n s k : ℕ) → Room t lo n s → lo ≤ k → k < lo + n → IsInner L.globals body nodes slots k
  fresh_inner t lo n s k r a b = let x = r.fresh in let y = r.few_nodes in record {
    below = omega arith;
    above = omega arith;
    apart = λ q. omega arith;
  }

  pub lands_inner : (v : Value) (from t lo s : ℕ) → IsInner L.globals body nodes slots from → Room t lo (nodes_of v) s →
      IsInner L.globals body nodes slots (landing v from lo)
  lands_inner (literal false n) from t lo s h r = h
  lands_inner (literal true n) from t lo s h r = fresh_inner t lo 1 s lo r (omega arith) (omega arith)
  lands_inner (read false x) from t lo s h r = h
  lands_inner (read true x) from t lo s h r = fresh_inner t lo 1 s lo r (omega arith) (omega arith)
  lands_inner input from t lo s h r = fresh_inner t lo 1 s lo r (omega arith) (omega arith)
  lands_inner (call p vs gs) from t lo s h r = fresh_inner t lo (nodes_of (call p vs gs)) s lo r (omega arith) (omega arith)
  lands_inner (scale c v) from t lo s h r = fresh_inner t lo (nodes_of (scale c v)) s lo r (omega arith) (omega arith)
  lands_inner (sum v u) from t lo s h r = fresh_inner t lo (nodes_of (sum v u)) s lo r (omega arith) (omega arith)
  lands_inner (difference v u) from t lo s h r = fresh_inner t lo (nodes_of (difference v u)) s lo r (omega arith) (omega arith)
  lands_inner (quotient c v) from t lo s h r = fresh_inner t lo (nodes_of (quotient c v)) s lo r (omega arith) (omega arith)
  lands_inner (remainder c v) from t lo s h r = fresh_inner t lo (nodes_of (remainder c v)) s lo r (omega arith) (omega arith)
  lands_inner (truth c) from t lo s h r = fresh_inner t lo (nodes_of (truth c)) s lo r (omega arith) (omega arith)

  pub all_land_inner : (vs : Values) (from t lo s : ℕ) → IsInner L.globals body nodes slots from → Room t lo (nodes_of_all vs) s →
      IsInner L.globals body nodes slots (landing_of_all vs from lo)
  all_land_inner no_values from t lo s h r = h
  all_land_inner (value v vs) from t lo s h r =
      all_land_inner vs (landing v from lo) t (lo + nodes_of v) s
      (lands_inner v from t lo s h (smaller t lo (nodes_of v + nodes_of_all vs) s t lo (nodes_of v) s r (omega arith) (omega arith)
      (omega arith) (omega arith)))
      (smaller t lo (nodes_of v + nodes_of_all vs) s t (lo + nodes_of v) (nodes_of_all vs) s r (omega arith) (omega arith) (omega arith)
      (omega arith))

  own_slot : (t s : ℕ) → vars ≤ t → t + s ≤ slots → 0 < s → IsOperand L.globals body nodes slots (Variable t)
  own_slot t s le room some = variable_is L.globals body nodes slots t (omega arith)

  pub operand_is : (v : Value) (t : ℕ) → FitsValue P L vars v → vars ≤ t → t + slots_of v ≤ slots → IsOperand L.globals body nodes slots
      (operand_at v t)
  operand_is (literal false n) t h le room = constant_is L.globals body nodes slots n h
  operand_is (literal true n) t h le room = own_slot t 1 le room (omega arith)
  operand_is (read false x) t h le room = variable_is L.globals body nodes slots x (omega arith)
  operand_is (read true x) t h le room = own_slot t 1 le room (omega arith)
  operand_is input t h le room = own_slot t 1 le room (omega arith)
  operand_is (call p vs gs) t h le room = own_slot t (slots_of (call p vs gs)) le room (omega arith)
  operand_is (scale c v) t h le room = own_slot t (slots_of (scale c v)) le room (omega arith)
  operand_is (sum v u) t h le room = own_slot t (slots_of (sum v u)) le room (omega arith)
  operand_is (difference v u) t h le room = own_slot t (slots_of (difference v u)) le room (omega arith)
  operand_is (quotient c v) t h le room = own_slot t (slots_of (quotient c v)) le room (omega arith)
  operand_is (remainder c v) t h le room = own_slot t (slots_of (remainder c v)) le room (omega arith)
  operand_is (truth c) t h le room = own_slot t (slots_of (truth c)) le room (omega arith)

  pub argument_is : (v : Value) (t : ℕ) → IsInSlot v → FitsValue P L vars v → vars ≤ t → t + slots_of v ≤ slots → argument_slot v t < slots
  argument_is (literal false n) t i h le room = absurd i
  argument_is (literal true n) t i h le room = omega arith
  argument_is (read false x) t i h le room = omega arith
  argument_is (read true x) t i h le room = omega arith
  argument_is input t i h le room = omega arith
  argument_is (call p vs gs) t i h le room = omega arith
  argument_is (scale c v) t i h le room = omega arith
  argument_is (sum v u) t i h le room = omega arith
  argument_is (difference v u) t i h le room = omega arith
  argument_is (quotient c v) t i h le room = omega arith
  argument_is (remainder c v) t i h le room = omega arith
  argument_is (truth c) t i h le room = omega arith

  -- what was there before the slots that a form takes, or is one of them after the first
  argument_apart : (v : Value) (t : ℕ) → IsInSlot v → FitsValue P L vars v → vars ≤ t → argument_slot v (t + 1) ≡ t → ⊥
  argument_apart (literal false n) t i h le e = absurd i
  argument_apart (literal true n) t i h le e = omega arith
  argument_apart (read false x) t i h le e = omega arith
  argument_apart (read true x) t i h le e = omega arith
  argument_apart input t i h le e = omega arith
  argument_apart (call p vs gs) t i h le e = omega arith
  argument_apart (scale c v) t i h le e = omega arith
  argument_apart (sum v u) t i h le e = omega arith
  argument_apart (difference v u) t i h le e = omega arith
  argument_apart (quotient c v) t i h le e = omega arith
  argument_apart (remainder c v) t i h le e = omega arith
  argument_apart (truth c) t i h le e = omega arith

  pub arguments_named : (vs : Values) (t : ℕ) → FitsValues P L vars vs → vars ≤ t → t + slots_of_all vs ≤ slots →
      IsTrue (list_all (λ x. nat_lt x slots) (argument_slots vs t))
  arguments_named no_values t h le room = refl
  arguments_named (value v vs) t h le room =
      let x = argument_slot v t in
      let rest = argument_slots vs (t + slots_of v) in
      both_in (nat_lt x slots) (list_all (λ x. nat_lt x slots) rest) (lt-ltb x slots (argument_is v t h.0 h.1 le (omega arith)))
      (arguments_named vs (t + slots_of v) h.2 (omega arith) (omega arith))

  -- one edge alone
  pub edge_fine : (n : ℕ) (e : Edge) → Fine L.globals body nodes slots e → BlocksFine (one n e ∷ [])
  edge_fine n e f = (f, tt)

  some_nodes : (n : ℕ) → IsInner L.globals body nodes slots n → 1 < nodes
  some_nodes n h = let a = h.below in let b = h.above in omega arith

  -- an assignment of a value's own slot
  own_fine : (n t lo k s : ℕ) (lin : Lin) → IsInner L.globals body nodes slots n → Room t lo (1 + k) (1 + s) → IsLin L.globals body nodes
      slots lin →
      AllFine L.globals body nodes slots (Assign n lo t lin ∷ [])
  own_fine n t lo k s lin h r l =
      let a = r.few_slots in (
        assign_fine L.globals body nodes slots n lo t lin (inner_source L.globals body nodes slots n h)
            (fresh_inner t lo (1 + k) (1 + s) lo r (omega arith)
            (omega arith)) (omega arith) l,
        tt,
      )

  abbrev ValueFine : Value → Type 0
  ValueFine v = (from t lo : ℕ) → FitsValue P L vars v → KeepsValue v → IsInner L.globals body nodes slots from →
      Room t lo (nodes_of v) (slots_of v) →
      BlocksFine (value_blocks v from t lo)

  abbrev TestFine : Test → Type 0
  TestFine c =
      (from : ℕ) (met unmet : Target) (t lo : ℕ) → FitsTest P L vars c → KeepsOfTest c → IsInner L.globals body nodes slots from →
      IsTarget L.globals body nodes slots met → IsTarget L.globals body nodes slots unmet → Room t lo (nodes_of_test c) (slots_of_test c) →
      BlocksFine (test_blocks c from met unmet t lo)

  -- two values, and edges after them that read their operands
  module _ (v u : Value) (vf : ValueFine v) (uf : ValueFine u) (from t lo : ℕ) (fits : FitsValue P L vars v × FitsValue P L vars u)
      (keeps : KeepsValue v × KeepsValue u) (inner : IsInner L.globals body nodes slots from)
      (room : Room t lo (nodes_of v + nodes_of u) (slots_of v + slots_of u)) where
    abbrev middle : ℕ
    middle = landing v from lo

    abbrev last_node : ℕ
    last_node = landing u middle (lo + nodes_of v)

    left_room : Room t lo (nodes_of v) (slots_of v)
    left_room = smaller t lo (nodes_of v + nodes_of u) (slots_of v + slots_of u) t lo (nodes_of v) (slots_of v) room (omega arith)
        (omega arith) (omega arith) (omega arith)

    right_room : Room (t + slots_of v) (lo + nodes_of v) (nodes_of u) (slots_of u)
    right_room = smaller t lo (nodes_of v + nodes_of u) (slots_of v + slots_of u) (t + slots_of v) (lo + nodes_of v) (nodes_of u)
        (slots_of u) room (omega arith) (omega arith) (omega arith) (omega arith)

    between : IsInner L.globals body nodes slots middle
    between = lands_inner v from t lo (slots_of v) inner left_room

    behind : IsInner L.globals body nodes slots last_node
    behind = lands_inner u middle (t + slots_of v) (lo + nodes_of v) (slots_of u) between right_room

    left : IsOperand L.globals body nodes slots (operand_at v t)
    left = operand_is v t fits.0 left_room.above_vars left_room.few_slots

    right : IsOperand L.globals body nodes slots (operand_at u (t + slots_of v))
    right = operand_is u (t + slots_of v) fits.1 right_room.above_vars right_room.few_slots

    two_fine : (es : List Edge) → AllFine L.globals body nodes slots es →
        BlocksFine (value_blocks v from t lo ++ (value_blocks u middle (t + slots_of v) (lo + nodes_of v)
        ++ record { node = last_node; edges = es } ∷ []))
    two_fine es f =
        let second = value_blocks u middle (t + slots_of v) (lo + nodes_of v) in
        let last = record { node = last_node; edges = es } ∷ [] in
        blocks_both (value_blocks v from t lo) (second ++ last) (vf from t lo fits.0 keeps.0 inner left_room)
        (blocks_both second last (uf middle (t + slots_of v) (lo + nodes_of v) fits.1 keeps.1 between right_room)
        (block_fine last_node es f))

  two_tests : (c d : Test) → TestFine c → TestFine d → (from : ℕ) (met1 unmet1 met2 unmet2 : Target) (t lo : ℕ) → FitsTest P L vars c
      × FitsTest P L vars d → KeepsOfTest c × KeepsOfTest d → IsInner L.globals body nodes slots from →
      (IsInner L.globals body nodes slots lo → IsTarget L.globals body nodes slots met1) →
      (IsInner L.globals body nodes slots lo → IsTarget L.globals body nodes slots unmet1) →
      IsTarget L.globals body nodes slots met2 → IsTarget L.globals body nodes slots unmet2 →
      Room t lo (1 + nodes_of_test c + nodes_of_test d) (slots_of_test c + slots_of_test d) →
      BlocksFine (test_blocks c from met1 unmet1 t (lo + 1) ++ test_blocks d lo met2 unmet2 (t + slots_of_test c)
      (lo + 1 + nodes_of_test c))
  two_tests c d cf df from met1 unmet1 met2 unmet2 t lo fits keeps inner m1 u1 m2 u2 r =
      let k = nodes_of_test c in
      let l = nodes_of_test d in
      let i = slots_of_test c in
      let j = slots_of_test d in
      let low = fresh_inner t lo (1 + k + l) (i + j) lo r (omega arith) (omega arith) in
      blocks_both (test_blocks c from met1 unmet1 t (lo + 1)) (test_blocks d lo met2 unmet2 (t + i) (lo + 1 + k))
      (cf from met1 unmet1 t (lo + 1) fits.0 keeps.0 inner (m1 low) (u1 low) (smaller t lo (1 + k + l) (i + j) t (lo + 1) k i r
      (omega arith)
      (omega arith) (omega arith) (omega arith)))
      (df lo met2 unmet2 (t + i) (lo + 1 + k) fits.1 keeps.1 low m2 u2 (smaller t lo (1 + k + l) (i + j) (t + i) (lo + 1 + k) l j r
      (omega arith) (omega arith) (omega arith) (omega arith)))

  -- from a node where an operand has the dividend to one where slot t has the quotient
  module _ (a t from to lo : ℕ) (apart : a ≡ t → ⊥) (la : a < slots) (lt : t < slots) (inner : IsInner L.globals body nodes slots from)
      (there : IsInner L.globals body nodes slots to) where
    abbrev signs : List Edge
    signs = ways from (Node lo) (rows_where GreaterEqual (Variable a) (Constant (pos 0)))
        ++ ways from (Node (lo + 1)) (rows_where Less (Variable a) (Constant (pos 0)))

    signs_fine : IsInner L.globals body nodes slots lo → IsInner L.globals body nodes slots (lo + 1) → AllFine L.globals body nodes slots
        signs
    signs_fine above below =
        let x = variable_is L.globals body nodes slots a la in
        let zero = constant_is L.globals body nodes slots (pos 0) refl in
        let source = inner_source L.globals body nodes slots from inner in
        let some = some_nodes from inner in
        let up = rows_where GreaterEqual (Variable a) (Constant (pos 0)) in
        let down = rows_where Less (Variable a) (Constant (pos 0)) in
        fine_both L.globals body nodes slots (ways from (Node lo) up) (ways from (Node (lo + 1)) down)
        (ways_fine L.globals body nodes slots from (Node lo) up some source above (rows_are L.globals body nodes slots GreaterEqual
        (Variable a)
        (Constant (pos 0)) x zero))
        (ways_fine L.globals body nodes slots from (Node (lo + 1)) down some source below
        (rows_are L.globals body nodes slots Less (Variable a)
        (Constant (pos 0)) x zero))

    module _ (b : ℕ) (divides : Divides (pos (suc b)) ⊎ Divides (negsuc b)) (above : IsInner L.globals body nodes slots lo)
        (below : IsInner L.globals body nodes slots (lo + 1)) where
      picks_fine : (n : ℕ) → IsInner L.globals body nodes slots n → BlocksFine (picks (suc b) a t lo (lo + 1) n)
      picks_fine n h = (
        above_fine L.globals body nodes slots b a t divides apart la lt lo n (inner_source L.globals body nodes slots lo above) h,
        (
          below_fine L.globals body nodes slots b a t divides apart la lt (lo + 1) n
              (inner_source L.globals body nodes slots (lo + 1) below) h,
          tt,
        ),
      )

    quotient_fine : (c : ℤ) → Divides c → ((k : ℕ) → lo ≤ k → k < lo + nodes_of_quotient c → IsInner L.globals body nodes slots k) →
        BlocksFine (quotient_blocks c a t from to lo)
    quotient_fine (pos zero) h fresh = absurd (let s = h.some in omega (arith, s))
    quotient_fine (pos (suc b)) h fresh =
        let above = fresh lo (omega arith) (omega arith) in
        let below = fresh (lo + 1) (omega arith) (omega arith) in
        fine_both L.globals body nodes slots signs (edges_of (picks (suc b) a t lo (lo + 1) to)) (signs_fine above below)
        (picks_fine b (inl h) above below to there)
    quotient_fine (negsuc b) h fresh =
        let above = fresh lo (omega arith) (omega arith) in
        let below = fresh (lo + 1) (omega arith) (omega arith) in
        let turning = fresh (lo + 2) (omega arith) (omega arith) in
        let first = picks (suc b) a t lo (lo + 1) (lo + 2) in
        let last = one (lo + 2) (Assign (lo + 2) to t (scaled_lin (negsuc 0) (Variable t))) ∷ [] in
        fine_both L.globals body nodes slots signs (edges_of (first ++ last)) (signs_fine above below)
        (blocks_both first last (picks_fine b (inr h) above below (lo + 2) turning)
        (edge_fine (lo + 2) (Assign (lo + 2) to t (scaled_lin (negsuc 0) (Variable t))) (assign_fine L.globals body nodes slots (lo + 2) to
        t
        (scaled_lin (negsuc 0) (Variable t)) (inner_source L.globals body nodes slots (lo + 2) turning) there lt
        (multiple_is L.globals body nodes slots (negsuc 0) (negsuc 0 *ℤ pos 0) (Variable t) (minus_one L.globals body nodes slots)
        (variable_is L.globals body nodes slots t lt)))))

  -- a call over the globals
  globals_called : (n lo p t : ℕ) (vs : Values) (args gs : List ℕ) → gs ≡ global_slots L → IsInner L.globals body nodes slots n →
      IsInner L.globals body nodes slots lo → vars ≤ t → t < slots → IsTrue (list_all (λ x. nat_lt x slots) args) →
      length args ≡ count_values vs → Called p (count_values vs) → Fine L.globals body nodes slots (Call n lo p (args ++ gs) (t ∷ gs))
  globals_called n lo p t vs args gs e h k le lt named many called =
      let all = global_slots L in
      let below = slots_below slots L.params L.globals (omega (arith, low, le, lt)) in
      let count : length all ≡ L.globals = slots_count L.params L.globals in
      let both = length-append args all in
      let F : List ℕ → Type 0 = λ l. Fine L.globals body nodes slots (Call n lo p (args ++ l) (t ∷ l)) in
      subst F (sym e) (call_fine L.globals body nodes slots n lo (count_values vs)
      (record { procedure = p; arguments = args ++ all; results = t ∷ all })
      (inner_source L.globals body nodes slots n h) k
      (both_in (nat_lt t slots) (list_all (λ x. nat_lt x slots) all) (lt-ltb t slots lt) below)
      (list_all-append (λ x. nat_lt x slots) args all ∙ both_in (list_all (λ x. nat_lt x slots) args) (list_all (λ x. nat_lt x slots) all)
      named below)
      (omega (arith, both, many, count)) (results_count t L.params L.globals)
      (distinct_behind t L.params L.globals (omega (arith, low, le))) called)

  mutual
    pub value_fine : (v : Value) → ValueFine v
    value_fine (literal false n) from t lo fits keeps inner r = tt
    value_fine (literal true n) from t lo fits keeps inner r = own_fine from t lo 0 0 (constant_lin n) inner r
        (constant_lin_is L.globals body nodes slots n)
    value_fine (read false x) from t lo fits keeps inner r = tt
    value_fine (read true x) from t lo fits keeps inner r =
        let a = r.few_slots in
        let b = r.above_vars in
        own_fine from t lo 0 0 (operand_lin (Variable x)) inner r (operand_lin_is L.globals body nodes slots (Variable x)
        (variable_is L.globals body nodes slots x (omega arith)))
    value_fine input from t lo fits keeps inner r =
        let a = r.few_slots in (
          input_fine L.globals body nodes slots from lo t (inner_source L.globals body nodes slots from inner)
              (fresh_inner t lo 1 1 lo r (omega arith) (omega arith))
              (omega arith),
          tt,
        )
    value_fine (call p vs gs) from t lo fits keeps inner r =
        let n = landing_of_all vs from (lo + 1) in
        let args = argument_slots vs (t + 1) in
        let k = nodes_of_all vs in
        let s = slots_of_all vs in
        let a = r.few_slots in
        let b = r.above_vars in
        let rest = smaller t lo (1 + k) (1 + s) (t + 1) (lo + 1) k s r (omega arith) (omega arith) (omega arith) (omega arith) in
        let behind = all_land_inner vs from (t + 1) (lo + 1) s inner rest in
        let e = Call n lo p (args ++ gs) (t ∷ gs) in
        blocks_both (values_blocks vs from (t + 1) (lo + 1)) (one n e ∷ []) (values_fine vs from (t + 1) (lo + 1) fits.0 keeps.1 inner rest)
        (edge_fine n e (globals_called n lo p t vs args gs fits.2 behind (fresh_inner t lo (1 + k) (1 + s) lo r (omega arith) (omega arith))
        b (omega arith) (arguments_named vs (t + 1) fits.0 (omega arith) (omega arith)) (arguments_count vs (t + 1)) keeps.0))
    value_fine (scale c v) from t lo fits keeps inner r =
        let n = landing v from (lo + 1) in
        let k = nodes_of v in
        let s = slots_of v in
        let a = operand_at v (t + 1) in
        let rest = smaller t lo (1 + k) (1 + s) (t + 1) (lo + 1) k s r (omega arith) (omega arith) (omega arith) (omega arith) in
        blocks_both (value_blocks v from (t + 1) (lo + 1)) (one n (Assign n lo t (scaled_lin c a)) ∷ [])
        (value_fine v from (t + 1) (lo + 1) fits keeps.1 inner rest)
        (own_fine n t lo k s (scaled_lin c a) (lands_inner v from (t + 1) (lo + 1) s inner rest) r
        (multiple_is L.globals body nodes slots c (c *ℤ constant_of a) a keeps.0
        (operand_is v (t + 1) fits rest.above_vars rest.few_slots)))
    value_fine (sum v u) from t lo fits keeps inner r =
        let vu : FitsValue P L vars v × FitsValue P L vars u = (fits.0, fits.1) in
        let k = nodes_of v + nodes_of u in
        let s = slots_of v + slots_of u in
        let rest = smaller t lo (1 + nodes_of v + nodes_of u) (1 + slots_of v + slots_of u) (t + 1) (lo + 1) k s r (omega arith)
        (omega arith) (omega arith) (omega arith) in
        let whole = smaller t lo (1 + nodes_of v + nodes_of u) (1 + slots_of v + slots_of u) t lo (1 + k) (1 + s) r (omega arith)
        (omega arith) (omega arith) (omega arith) in
        let n = landing u (landing v from (lo + 1)) (lo + 1 + nodes_of v) in
        let a = operand_at v (t + 1) in
        let b = operand_at u (t + 1 + slots_of v) in
        let lin = pair_is L.globals body nodes slots (pos 1) (pos 1) (constant_of a +ℤ constant_of b) a b
        (plus_one L.globals body nodes slots)
        (plus_one L.globals body nodes slots) (left v u (value_fine v) (value_fine u) from (t + 1) (lo + 1) vu keeps inner rest)
        (right v u (value_fine v) (value_fine u) from (t + 1) (lo + 1) vu keeps inner rest) in
        two_fine v u (value_fine v) (value_fine u) from (t + 1) (lo + 1) vu keeps inner rest (Assign n lo t (sum_lin a b) ∷ [])
        (own_fine n t lo k s (sum_lin a b) (behind v u (value_fine v) (value_fine u) from (t + 1) (lo + 1) vu keeps inner rest) whole lin)
    value_fine (difference v u) from t lo fits keeps inner r =
        let vu : FitsValue P L vars v × FitsValue P L vars u = (fits.0, fits.1) in
        let k = nodes_of v + nodes_of u in
        let s = slots_of v + slots_of u in
        let rest = smaller t lo (1 + nodes_of v + nodes_of u) (1 + slots_of v + slots_of u) (t + 1) (lo + 1) k s r (omega arith)
        (omega arith) (omega arith) (omega arith) in
        let whole = smaller t lo (1 + nodes_of v + nodes_of u) (1 + slots_of v + slots_of u) t lo (1 + k) (1 + s) r (omega arith)
        (omega arith) (omega arith) (omega arith) in
        let n = landing u (landing v from (lo + 1)) (lo + 1 + nodes_of v) in
        let a = operand_at v (t + 1) in
        let b = operand_at u (t + 1 + slots_of v) in
        let lin = pair_is L.globals body nodes slots (pos 1) (negsuc 0) (constant_of a -ℤ constant_of b) a b
        (plus_one L.globals body nodes slots)
        (minus_one L.globals body nodes slots) (left v u (value_fine v) (value_fine u) from (t + 1) (lo + 1) vu keeps inner rest)
        (right v u (value_fine v) (value_fine u) from (t + 1) (lo + 1) vu keeps inner rest) in
        two_fine v u (value_fine v) (value_fine u) from (t + 1) (lo + 1) vu keeps inner rest (Assign n lo t (difference_lin a b) ∷ [])
        (own_fine n t lo k s (difference_lin a b) (behind v u (value_fine v) (value_fine u) from (t + 1) (lo + 1) vu keeps inner rest)
        whole lin)
    value_fine (quotient c v) from t lo fits keeps inner r =
        let n = landing v from (lo + 1) in
        let k = nodes_of v in
        let s = slots_of v in
        let q = nodes_of_quotient c in
        let x = argument_slot v (t + 1) in
        let a = r.few_slots in
        let b = r.above_vars in
        let rest = smaller t lo (1 + k + q) (1 + s) (t + 1) (lo + 1) k s r (omega arith) (omega arith) (omega arith) (omega arith) in
        let behind = lands_inner v from (t + 1) (lo + 1) s inner rest in
        let top = fresh_inner t lo (1 + k + q) (1 + s) lo r (omega arith) (omega arith) in
        blocks_both (value_blocks v from (t + 1) (lo + 1)) (quotient_blocks c x t n lo (lo + 1 + k))
        (value_fine v from (t + 1) (lo + 1) fits.1 keeps.1 inner rest)
        (quotient_fine x t n lo (lo + 1 + k) (argument_apart v t fits.0 fits.1 b)
        (argument_is v (t + 1) fits.0 fits.1 rest.above_vars rest.few_slots) (omega arith) behind top c keeps.0
        (λ i f g. fresh_inner t lo (1 + k + q) (1 + s) i r (omega arith) (omega arith)))
    value_fine (remainder c v) from t lo fits keeps inner r =
        let n = landing v from (lo + 2) in
        let k = nodes_of v in
        let s = slots_of v in
        let q = nodes_of_quotient c in
        let x = argument_slot v (t + 1) in
        let a = r.few_slots in
        let b = r.above_vars in
        let lt : t < slots = omega arith in
        let rest = smaller t lo (2 + k + q) (1 + s) (t + 1) (lo + 2) k s r (omega arith) (omega arith) (omega arith) (omega arith) in
        let behind = lands_inner v from (t + 1) (lo + 2) s inner rest in
        let top = fresh_inner t lo (2 + k + q) (1 + s) lo r (omega arith) (omega arith) in
        let second = fresh_inner t lo (2 + k + q) (1 + s) (lo + 1) r (omega arith) (omega arith) in
        let lx = argument_is v (t + 1) fits.0 fits.1 rest.above_vars rest.few_slots in
        let middle = quotient_blocks c x t n (lo + 1) (lo + 2 + k) in
        let e = Assign (lo + 1) lo t (rest_lin c x t) in
        blocks_both (value_blocks v from (t + 1) (lo + 2)) (middle ++ one (lo + 1) e ∷ [])
        (value_fine v from (t + 1) (lo + 2) fits.1 keeps.1 inner rest)
        (blocks_both middle (one (lo + 1) e ∷ [])
        (quotient_fine x t n (lo + 1) (lo + 2 + k) (argument_apart v t fits.0 fits.1 b) lx lt behind second c keeps.0
        (λ i f g. fresh_inner t lo (2 + k + q) (1 + s) i r (omega arith) (omega arith)))
        (edge_fine (lo + 1) e (assign_fine L.globals body nodes slots (lo + 1) lo t (rest_lin c x t)
        (inner_source L.globals body nodes slots (lo + 1) second) top lt
        (pair_is L.globals body nodes slots (pos 1) (neg_ℤ c) (pos 0) (Variable x) (Variable t) (plus_one L.globals body nodes slots)
        (taken_away L.globals body nodes slots c keeps.0) (variable_is L.globals body nodes slots x lx)
        (variable_is L.globals body nodes slots t lt)))))
    value_fine (truth c) from t lo fits keeps inner r =
        let k = nodes_of_test c in
        let s = slots_of_test c in
        let a = r.few_slots in
        let top = fresh_inner t lo (3 + k) (1 + s) lo r (omega arith) (omega arith) in
        let one_node = fresh_inner t lo (3 + k) (1 + s) (lo + 1) r (omega arith) (omega arith) in
        let zero_node = fresh_inner t lo (3 + k) (1 + s) (lo + 2) r (omega arith) (omega arith) in
        blocks_both (test_blocks c from (Node (lo + 1)) (Node (lo + 2)) (t + 1) (lo + 3))
        (one (lo + 1) (Assign (lo + 1) lo t (constant_lin (pos 1))) ∷ one (lo + 2) (Assign (lo + 2) lo t (constant_lin (pos 0))) ∷ [])
        (test_fine c from (Node (lo + 1)) (Node (lo + 2)) (t + 1) (lo + 3) fits keeps inner one_node zero_node
        (smaller t lo (3 + k) (1 + s) (t + 1) (lo + 3) k s r (omega arith) (omega arith) (omega arith) (omega arith))) (
          assign_fine L.globals body nodes slots (lo + 1) lo t (constant_lin (pos 1)) (inner_source L.globals body nodes slots (lo + 1)
              one_node)
              top
              (omega arith) (constant_lin_is L.globals body nodes slots (pos 1)),
          (
            assign_fine L.globals body nodes slots (lo + 2) lo t (constant_lin (pos 0)) (inner_source L.globals body nodes slots (lo + 2)
                zero_node) top
                (omega arith) (constant_lin_is L.globals body nodes slots (pos 0)),
            tt,
          ),
        )

    values_fine : (vs : Values) (from t lo : ℕ) → FitsValues P L vars vs → KeepsValues vs → IsInner L.globals body nodes slots from →
        Room t lo (nodes_of_all vs) (slots_of_all vs) → BlocksFine (values_blocks vs from t lo)
    values_fine no_values from t lo fits keeps inner r = tt
    values_fine (value v vs) from t lo fits keeps inner r =
        let m = landing v from lo in
        let first = smaller t lo (nodes_of v + nodes_of_all vs) (slots_of v + slots_of_all vs) t lo (nodes_of v) (slots_of v) r
        (omega arith)
        (omega arith) (omega arith) (omega arith) in
        let rest = smaller t lo (nodes_of v + nodes_of_all vs) (slots_of v + slots_of_all vs) (t + slots_of v) (lo + nodes_of v)
        (nodes_of_all vs) (slots_of_all vs) r (omega arith) (omega arith) (omega arith) (omega arith) in
        blocks_both (value_blocks v from t lo) (values_blocks vs m (t + slots_of v) (lo + nodes_of v))
        (value_fine v from t lo fits.1 keeps.0 inner first)
        (values_fine vs m (t + slots_of v) (lo + nodes_of v) fits.2 keeps.1 (lands_inner v from t lo (slots_of v) inner first) rest)

    pub test_fine : (c : Test) → TestFine c
    test_fine (compare op v u) from met unmet t lo fits keeps inner mi ui r =
        let vu : FitsValue P L vars v × FitsValue P L vars u = (fits.1, fits.2) in
        let n = landing u (landing v from lo) (lo + nodes_of v) in
        let a = operand_at v t in
        let b = operand_at u (t + slots_of v) in
        let there = behind v u (value_fine v) (value_fine u) from t lo vu keeps inner r in
        let source = inner_source L.globals body nodes slots n there in
        let some = some_nodes n there in
        let x = left v u (value_fine v) (value_fine u) from t lo vu keeps inner r in
        let y = right v u (value_fine v) (value_fine u) from t lo vu keeps inner r in
        let xs = ways n met (rows_where op a b) in
        let ys = ways n unmet (rows_where (opposite_op op) a b) in
        two_fine v u (value_fine v) (value_fine u) from t lo vu keeps inner r (xs ++ ys)
        (fine_both L.globals body nodes slots xs ys (ways_fine L.globals body nodes slots n met (rows_where op a b) some source mi
        (rows_are L.globals body nodes slots op a b x y)) (ways_fine L.globals body nodes slots n unmet (rows_where (opposite_op op) a b)
        some source ui
        (rows_are L.globals body nodes slots (opposite_op op) a b x y)))
    test_fine (opposite c) from met unmet t lo fits keeps inner mi ui r = test_fine c from unmet met t lo fits keeps inner ui mi r
    test_fine (both c d) from met unmet t lo fits keeps inner mi ui r = two_tests c d (test_fine c) (test_fine d) from (Node lo) unmet met
        unmet t lo fits keeps inner (λ x. x) (λ x. ui) mi ui r
    test_fine (either c d) from met unmet t lo fits keeps inner mi ui r = two_tests c d (test_fine c) (test_fine d) from met (Node lo) met
        unmet t lo fits keeps inner (λ x. mi) (λ x. x) mi ui r

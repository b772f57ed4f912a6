-- From an end of the graph to a result of the source: values, arguments and tests.
use Rattle.std.proofs.Common.{◌≡◌, ◌⊎◌, ℕ, zero, suc, ◌+◌, ◌≤◌, List, [], ◌∷◌, ◌++◌, length, Bool, true, false, not, ◌&&◌, ◌||◌, cond, ℤ, pos, negsuc, ◌+ℤ◌, ◌-ℤ◌, ◌*ℤ◌, int_div, IsTrue, refl, sym, ap, ◌∙◌, subst, inl, inr, arith, map}
use Rattle.std.proofs.lemmas.List.{map-append, length-map}
use Rattle.c_tree.specs.Syntax.{PureProgram}
use Rattle.c_tree.specs.declared.tree.Op.TheVariants.{Less, GreaterEqual}
use Rattle.c_tree.proofs.Dividing.{negated}
use Rattle.c_tree.specs.declared.tree.Op.{Op}
use Rattle.c_tree.specs.Meaning.{State, with_slot, values_from, Divided, World, Progress, goes, ends, stopped as source_stopped, Relation, Gives, Ends, Then, Choice, is_value, ExactOrStopped, TakesInput, bit, Callee}
use Rattle.flow_graph.specs.declared.graph.Edge.{Edge}
use Rattle.flow_graph.specs.declared.graph.Edge.TheVariants.{Assign, Call, Input}
use Rattle.flow_graph.specs.declared.graph.Lin.{Lin}
use Rattle.flow_graph.specs.Runs.{End, inside, Called, EndsIn, lin_value}
use Rattle.flow_graph.specs.Columns.{AreValues, AreAllValues}
use Rattle.flow_graph.proofs.Values.{values_with, values_map, values_slots}
use Rattle.flow_build.specs.declared.operand.Operand.{Operand}
use Rattle.flow_build.specs.declared.operand.Operand.TheVariants.{Variable, Constant}
use Rattle.flow_build.specs.declared.layout.Layout.{Layout}
use Rattle.flow_build.specs.steps.Layouts.{global_slots, seen}
use Rattle.flow_build.specs.steps.Blocks.{ways}
use Rattle.flow_build.specs.declared.target.Target.{Target}
use Rattle.flow_build.specs.declared.target.Target.TheVariants.{Node}
use Rattle.flow_build.specs.steps.Forms.{Value, literal, read, input, call, scale, sum, difference, quotient, remainder, truth, Values, no_values, value, Test, compare, opposite, both, either}
use Rattle.flow_build.specs.steps.Operands.{constant_lin, operand_lin, scaled_lin, sum_lin, difference_lin, rest_lin, rows_where, rows_above, rows_below}
use Rattle.flow_build.specs.steps.Lowering.{operand_at, landing, nodes_of, slots_of, slots_of_test, nodes_of_test, argument_slot, argument_slots, landing_of_all, picks, quotient_blocks, value_blocks, values_blocks, test_blocks}
use Rattle.flow_build.proofs.FormMeaning.{comparison, Yields, YieldsAll, Decides, makes_call, make_call, tests_call, count_values, IsCallable, IsDivisor, IsSettled, IsInSlot, FitsValue, FitsValues, FitsTest}
use Rattle.flow_build.proofs.Outgoing.{out, At, at_left, at_right}
use Rattle.flow_build.proofs.Dividing.{from_zero, above_holds, above_tells, below_holds, below_tells, quotient_value, rest_is, rest_value}
use Rattle.flow_build.proofs.Slots.{keeps_lower, keeps_weak, slot_there, slot_other, Matches, matches_temp, Keeps, keeps_all, keeps_with, keeps_on, globals_hold, arguments_count, called, called_there, called_matches, called_keeps, operand_value, operand_is, constant_is, scaled_is, sum_is, difference_is, operand_kept, argument_is}
use Rattle.flow_build.proofs.Coming.{Hears, Covers, covers_map, Comes, then_comes, le_self, lt_le, Before, Within, within, Stops, over_pick, Assigned, over_assign, over_value, over_input, CameBack, over_call, Led, over_compare}

le_plus : (a b c : ℕ) → a ≤ b → a ≤ b + c
le_plus a b c le = omega arith

module _ (C : Called) (g : List Edge) (rest : List ℤ) (end : End) where
  -- A state in which slot t alone is new, and has the quotient.
  abbrev pub Quotient : ℕ → ℤ → State → State → Type 0
  Quotient t z σ σ' = ((y : ℕ) → (y ≡ t → ⊥) → σ' y ≡ σ y) × AreValues σ' × (σ' t ≡ z)

  -- over the two picks of a quotient by a magnitude
  over_picks : (K k b a t n to lo : ℕ) (x : ℤ) (σ : State) (ins : List ℤ) → (a ≡ t → ⊥) → out n g
      ≡ ways n (Node lo) (rows_where GreaterEqual (Variable a) (Constant (pos 0)))
      ++ ways n (Node (lo + 1)) (rows_where Less (Variable a) (Constant (pos 0))) → At g (picks (suc b) a t lo (lo + 1) to) → σ a ≡ x →
      IsTrue (is_value x) → k ≤ K → EndsIn C g k (inside n σ) ins rest end →
      Before C g rest end K (inside to (with_slot σ t (int_div x (pos (suc b))))) ins
  over_picks K k b a t n to lo x σ ins apart h at e ok le f =
      on x e ok (subst (λ z. Led C g rest end K (cond (comparison GreaterEqual z (pos 0)) (Node lo) (Node (lo + 1))) σ ins) e
      (over_compare C g rest end K n GreaterEqual (Variable a) (Constant (pos 0)) (Node lo) (Node (lo + 1)) σ ins k refl h le f))
    where
      on : (z : ℤ) → σ a ≡ z → IsTrue (is_value z) →
          Led C g rest end K (cond (comparison GreaterEqual z (pos 0)) (Node lo) (Node (lo + 1))) σ ins →
          Before C g rest end K (inside to (with_slot σ t (int_div z (pos (suc b))))) ins
      on (pos n) q v led =
          let z = int_div (pos n) (pos (suc b)) in
          let l = subst (λ c. Led C g rest end K (cond c (Node lo) (Node (lo + 1))) σ ins) (from_zero n) led in
          let p = over_pick C g rest end K l.0 lo to t (rows_above (suc b) a t) σ ins at.0 z (quotient_value (pos n) b v)
          (above_holds b a t apart σ z n q refl) (lt_le l.0 K l.1) l.2 in
          subst (λ u. Before C g rest end K (inside to (with_slot σ t u)) ins) (above_tells b a t apart σ p.0 n q p.2) p.3
      on (negsuc n) q v led =
          let z = int_div (negsuc n) (pos (suc b)) in
          let p = over_pick C g rest end K led.0 (lo + 1) to t (rows_below (suc b) a t) σ ins at.1.0 z (quotient_value (negsuc n) b v)
          (below_holds b a t apart σ z n q refl) (lt_le led.0 K led.1) led.2 in
          subst (λ u. Before C g rest end K (inside to (with_slot σ t u)) ins) (below_tells b a t apart σ p.0 n q p.2) p.3

  -- the quotient in its slot, or no value of it
  abbrev pub Divides : ℕ → ℤ → ℤ → ℕ → ℕ → State → List ℤ → Type 0
  Divides K x c to t σ ins =
      ((is_value (int_div x c) ≡ true) × (σ' : State) × Quotient t (int_div x c) σ σ' × Before C g rest end K (inside to σ') ins)
      ⊎ ((is_value (int_div x c) ≡ false) × Stops C g rest end ins)

  -- over the edges of a quotient
  over_quotient : (K k : ℕ) (c : ℤ) (a t n to lo : ℕ) (x : ℤ) (σ : State) (ins : List ℤ) → IsDivisor c → (a ≡ t → ⊥) →
      At g (quotient_blocks c a t n to lo) → σ a ≡ x → IsTrue (is_value x) → AreValues σ → k ≤ K →
      EndsIn C g k (inside n σ) ins rest end → Divides K x c to t σ ins
  over_quotient K k (pos zero) a t n to lo x σ ins d apart at e ok vals le f = absurd (let clash : true ≡ false = d in cc)
  over_quotient K k (pos (suc b)) a t n to lo x σ ins d apart at e ok vals le f =
      let z = int_div x (pos (suc b)) in
      let v = quotient_value x b ok in
      inl (
        v,
        with_slot σ t z,
        ((λ y ne. slot_other σ t y z ne), values_with σ t z vals v, slot_there σ t z),
        over_picks K k b a t n to lo x σ ins apart at.0 at.1 e ok le f,
      )
  over_quotient K k (negsuc b) a t n to lo x σ ins d apart at e ok vals le f =
      let first = over_picks K k b a t n (lo + 2) lo x σ ins apart at.0 (at.1.0, (at.1.1.0, tt)) e ok le f in
      on (over_assign C g rest end K first.0 (lo + 2) to t l σ1 ins at.1.1.1.0 (lt_le first.0 K first.1) first.2)
    where
      z : ℤ
      z = int_div x (pos (suc b))

      σ1 : State
      σ1 = with_slot σ t z

      l : Lin
      l = scaled_lin (negsuc 0) (Variable t)

      is : lin_value σ1 l ≡ int_div x (negsuc b)
      is = scaled_is σ1 (negsuc 0) (Variable t) ∙ ap (λ u. negsuc 0 *ℤ u) (slot_there σ t z) ∙ sym (negated x b)

      vals1 : AreValues σ1
      vals1 = values_with σ t z vals (quotient_value x b ok)

      on : Assigned C g rest end K to t l σ1 ins → Divides K x (negsuc b) to t σ ins
      on (inl y) = inl (
        ap is_value (sym is) ∙ y.0,
        with_slot σ1 t (lin_value σ1 l),
        (
          (λ u ne. slot_other σ1 t u (lin_value σ1 l) ne ∙ slot_other σ t u z ne),
          values_with σ1 t (lin_value σ1 l) vals1 y.0,
          slot_there σ1 t (lin_value σ1 l) ∙ is,
        ),
        y.1,
      )
      on (inr n) = inr (ap is_value (sym is) ∙ n.0, n.1)

  -- where there is a quotient, and where there is none
  divides_to : (x c : ℤ) (F : Relation ℤ) (w : World) (r : Progress ℤ) → IsDivisor c → is_value (int_div x c) ≡ true → F w r →
      Divided x c F w r
  divides_to x c F w r d is h =
      subst (λ b. Choice b F (Ends source_stopped) w r) (sym (ap (λ b. not b && is_value (int_div x c)) d ∙ is)) h

  divides_not : (x c : ℤ) (F : Relation ℤ) (w : World) → IsDivisor c → is_value (int_div x c) ≡ false →
      Divided x c F w (ends w source_stopped)
  divides_not x c F w d is =
      subst (λ b. Choice b F (Ends source_stopped) w (ends w source_stopped)) (sym (ap (λ b. not b && is_value (int_div x c)) d ∙ is)) refl

  module _ (P : PureProgram) (L : Layout) (vars : ℕ) (fit : L.params + L.globals ≤ vars) where
    -- what the program's state is in a world
    abbrev pub Sees : State → World → State
    Sees s w = seen L s w.globals

    -- what follows a value: at the next node the operand has it
    abbrev pub Behind : (c : Bool) (s : State) (K to : ℕ) (a : Operand) (t : ℕ) (σ : State) → World → ℤ → Type 0
    Behind c s K to a t σ w v =
        (σ' : State) × Matches vars σ' (Sees s w) × Keeps c vars t σ σ' × AreValues σ' × (operand_value σ' a ≡ v)
        × Within C g rest end K (inside to σ') w.inputs

    abbrev pub BehindAll : (c : Bool) (s : State) (K to t : ℕ) (vs : Values) (σ : State) → World → List ℤ → Type 0
    BehindAll c s K to t vs σ w xs =
        (σ' : State) × Matches vars σ' (Sees s w) × Keeps c vars t σ σ' × AreValues σ' × (map σ' (argument_slots vs t) ≡ xs)
        × Within C g rest end K (inside to σ') w.inputs

    abbrev pub BehindTest : (c : Bool) (s : State) (K : ℕ) (met unmet : Target) (t : ℕ) (σ : State) → World → Bool → Type 0
    BehindTest c s K met unmet t σ w b =
        (σ' : State) × Matches vars σ' (Sees s w) × Keeps c vars t σ σ' × AreValues σ' × Led C g rest end K (cond b met unmet) σ' w.inputs

    -- the exact value, assigned to the slot
    exact_comes : (c : Bool) (s : State) (K k n to t : ℕ) (l : Lin) (z : ℤ) (σ σ0 : State) (w : World) → vars ≤ t →
        out n g ≡ Assign n to t l ∷ [] → lin_value σ l ≡ z → Matches vars σ (Sees s w) →
        Keeps c vars t σ0 σ → AreValues σ → k ≤ K → EndsIn C g k (inside n σ) w.inputs rest end → Comes C g rest end (ExactOrStopped z) w
        (Behind c s K to (Variable t) t σ0)
    exact_comes c s K k n to t l z σ σ0 w low h e m keep vals le f = on (over_assign C g rest end K k n to t l σ w.inputs h le f)
      where
        on : Assigned C g rest end K to t l σ w.inputs → Comes C g rest end (ExactOrStopped z) w (Behind c s K to (Variable t) t σ0)
        on (inl y) = (
          goes w z,
          subst (λ b. Choice b (Gives z) (Ends source_stopped) w (goes w z)) (sym (ap is_value (sym e) ∙ y.0)) refl,
          (
            with_slot σ t (lin_value σ l),
            matches_temp vars t (lin_value σ l) σ (Sees s w) low m,
            keeps_with c vars t t σ0 σ (lin_value σ l) low (le_self t) keep,
            values_with σ t (lin_value σ l) vals y.0,
            slot_there σ t (lin_value σ l) ∙ e,
            within C g rest end K (inside to (with_slot σ t (lin_value σ l))) w.inputs y.1,
          ),
        )
        on (inr n) = (
          ends w source_stopped,
          subst (λ b. Choice b (Gives z) (Ends source_stopped) w (ends w source_stopped))
              (sym (ap is_value (sym e) ∙ n.0)) refl,
          n.1,
        )

    -- what is a value, assigned to the slot
    gives_comes : (c : Bool) (s : State) (K k n to t : ℕ) (l : Lin) (z : ℤ) (σ σ0 : State) (w : World) → vars ≤ t →
        out n g ≡ Assign n to t l ∷ [] → lin_value σ l ≡ z →
        IsTrue (is_value z) → Matches vars σ (Sees s w) → Keeps c vars t σ0 σ → AreValues σ → k ≤ K →
        EndsIn C g k (inside n σ) w.inputs rest end → Comes C g rest end (Gives z) w (Behind c s K to (Variable t) t σ0)
    gives_comes c s K k n to t l z σ σ0 w low h e ok m keep vals le f =
        let ok' = subst (λ y. IsTrue (is_value y)) (sym e) ok in
        let σ1 = with_slot σ t (lin_value σ l) in (
          goes w z,
          refl,
          (
            σ1,
            matches_temp vars t (lin_value σ l) σ (Sees s w) low m,
            keeps_with c vars t t σ0 σ (lin_value σ l) low (le_self t) keep,
            values_with σ t (lin_value σ l) vals ok',
            slot_there σ t (lin_value σ l) ∙ e,
            within C g rest end K (inside to σ1) w.inputs (over_value C g rest end K k n to t l σ w.inputs h ok' le f),
          ),
        )

    input_comes : (s : State) (K k n to t : ℕ) (σ : State) (w : World) → vars ≤ t → out n g ≡ Input n to t ∷ [] →
        Matches vars σ (Sees s w) → AreValues σ → k ≤ K → EndsIn C g k (inside n σ)
        w.inputs rest end → Comes C g rest end (λ w o. TakesInput w.inputs w o) w (Behind false s K to (Variable t) t σ)
    input_comes s K k n to t σ w low h m vals le f =
        let c = over_input C g rest end K k n to t σ w.inputs h le f in
        let v = c.0 in
        let w1 : World = record w { inputs = c.1 } in
        let σ1 = with_slot σ t v in (
          goes w1 v,
          subst (λ is. TakesInput is w (goes w1 v)) (sym c.3) (c.2, refl),
          (
            σ1,
            matches_temp vars t v σ (Sees s w) low m,
            keeps_with false vars t t σ σ v low (le_self t) (keeps_all false vars t σ),
            values_with σ t v vals c.2,
            slot_there σ t v,
            within C g rest end K (inside to σ1) c.1 c.4,
          ),
        )

    -- a slot that holds something else than t does
    argument_apart : (v : Value) (t : ℕ) → FitsValue P L vars v → vars ≤ t → argument_slot v (t + 1) ≡ t → ⊥
    argument_apart (literal false n) t fits low q = omega (arith, q)
    argument_apart (literal true n) t fits low q = omega (arith, q)
    argument_apart (read false x) t fits low q = omega (arith, q, fits, low)
    argument_apart (read true x) t fits low q = omega (arith, q)
    argument_apart input t fits low q = omega (arith, q)
    argument_apart (call p vs gs) t fits low q = omega (arith, q)
    argument_apart (scale c v) t fits low q = omega (arith, q)
    argument_apart (sum v u) t fits low q = omega (arith, q)
    argument_apart (difference v u) t fits low q = omega (arith, q)
    argument_apart (quotient c v) t fits low q = omega (arith, q)
    argument_apart (remainder c v) t fits low q = omega (arith, q)
    argument_apart (truth c) t fits low q = omega (arith, q)

    quotient_matches : (t : ℕ) (z : ℤ) (σ σ' S : State) → vars ≤ t → Quotient t z σ σ' → Matches vars σ S → Matches vars σ' S
    quotient_matches t z σ σ' S low k m = record { each = λ x lt. k.0 x (λ q. omega (arith, q, lt, low)) ∙ m.each x lt }

    quotient_keeps : (c : Bool) (t : ℕ) (z : ℤ) (σ0 σ σ' : State) → vars ≤ t → Quotient t z σ σ' → Keeps c vars t σ0 σ →
        Keeps c vars t σ0 σ'
    quotient_keeps c t z σ0 σ σ' low k h = record {
      above = λ x from to. k.0 x (λ q. omega (arith, q, to)) ∙ h.above x from to;
      below = λ none x lt. k.0 x (λ q. omega (arith, q, lt, low)) ∙ h.below none x lt;
    }

    module _ (D : Callee) where
      -- what is proved of values, arguments and tests
      abbrev pub ValueComes : Value → (from t lo : ℕ) → Type 0
      ValueComes v from t lo =
          (s σ : State) (w : World) → Matches vars σ (Sees s w) → AreValues σ → (K k : ℕ) → k ≤ K →
          EndsIn C g k (inside from σ) w.inputs rest end
          → Comes C g rest end (Yields L D v s) w (Behind (makes_call v) s K (landing v from lo) (operand_at v t) t σ)

      abbrev pub ValuesCome : Values → (from t lo : ℕ) → Type 0
      ValuesCome vs from t lo =
          (s σ : State) (w : World) → Matches vars σ (Sees s w) → AreValues σ → (K k : ℕ) → k ≤ K →
          EndsIn C g k (inside from σ) w.inputs rest end
          → Comes C g rest end (YieldsAll L D vs s) w (BehindAll (make_call vs) s K (landing_of_all vs from lo) t vs σ)

      abbrev pub TestComes : Test → (from : ℕ) (met unmet : Target) (t lo : ℕ) → Type 0
      TestComes c from met unmet t lo =
          (s σ : State) (w : World) → Matches vars σ (Sees s w) → AreValues σ → (K k : ℕ) → k ≤ K →
          EndsIn C g k (inside from σ) w.inputs rest end
          → Comes C g rest end (Decides L D c s) w (BehindTest (tests_call c) s K met unmet t σ)

      -- one side's value, and what is done with it
      one_comes : {A : Type 0} (v : Value) (from t lo : ℕ) (F : ℤ → Relation A) (G : World → A → Type 0) → ValueComes v from t lo
          → (s σ : State) (w : World) → Matches vars σ (Sees s w) → AreValues σ → (K k : ℕ) → k ≤ K →
          EndsIn C g k (inside from σ) w.inputs rest end
          → ((w1 : World) (σ1 : State) (x : ℤ) (j : ℕ) → Matches vars σ1 (Sees s w1) → Keeps (makes_call v) vars t σ σ1 → AreValues σ1 →
          operand_value σ1 (operand_at v t) ≡ x → j ≤ K →
          EndsIn C g j (inside (landing v from lo) σ1) w1.inputs rest end → Comes C g rest end (F x) w1 G)
          → Comes C g rest end (Then (Yields L D v s) F) w G
      one_comes v from t lo F G comes s σ w m vals K k le h next =
          then_comes C g rest end (Yields L D v s) F w (Behind (makes_call v) s K (landing v from lo) (operand_at v t) t σ) G
          (comes s σ w m vals K k le h)
          (λ w1 x c. next w1 c.0 x c.5.0 c.1 c.2 c.3 c.4 c.5.1 c.5.2)

      -- both sides' values, and what is done with them
      both_come : {A : Type 0} (v u : Value) (from t lo : ℕ) (F : ℤ → ℤ → Relation A) (G : World → A → Type 0) → vars ≤ t →
          FitsValue P L vars v → IsSettled v (makes_call u)
          → ValueComes v from t lo → ValueComes u (landing v from lo) (t + slots_of v) (lo + nodes_of v)
          → (s σ : State) (w : World) → Matches vars σ (Sees s w) → AreValues σ → (K k : ℕ) → k ≤ K →
          EndsIn C g k (inside from σ) w.inputs rest end
          → ((w2 : World) (σ2 : State) (x y : ℤ) (j : ℕ) → Matches vars σ2 (Sees s w2) →
          Keeps (makes_call v || makes_call u) vars t σ σ2 → AreValues σ2 → operand_value σ2 (operand_at v t) ≡ x →
          operand_value σ2 (operand_at u (t + slots_of v)) ≡ y
          → j ≤ K → EndsIn C g j (inside (landing u (landing v from lo) (lo + nodes_of v)) σ2) w2.inputs rest end →
          Comes C g rest end (F x y) w2 G)
          → Comes C g rest end (Then (Yields L D v s) (λ x. Then (Yields L D u s) (F x))) w G
      both_come v u from t lo F G low fits still first second s σ w m vals K k le h next =
          let t2 = t + slots_of v in
          let up = le_plus t t (slots_of v) (le_self t) in
          one_comes v from t lo (λ x. Then (Yields L D u s) (F x)) G first s σ w m vals K k le h
          (λ w1 σ1 x j m1 keep1 vals1 x_is le1 h1.
          one_comes u (landing v from lo) t2 (lo + nodes_of v) (F x) G second s σ1 w1 m1 vals1 K j le1 h1
          (λ w2 σ2 y i m2 keep2 vals2 y_is le2 h2.
          next w2 σ2 x y i m2 (keeps_on (makes_call v) (makes_call u) vars t t2 σ σ1 σ2 up keep1 keep2) vals2
          (operand_kept P L (makes_call u) vars t v σ1 σ2 low fits still keep2 ∙ x_is) y_is le2 h2))

      -- the truth of a test, as a value
      truth_comes : (c : Test) (from t lo : ℕ) → vars ≤ t → out (lo + 1) g ≡ Assign (lo + 1) lo t (constant_lin (pos 1)) ∷ [] →
          out (lo + 2) g ≡ Assign (lo + 2) lo t (constant_lin (pos 0)) ∷ []
          → TestComes c from (Node (lo + 1)) (Node (lo + 2)) (t + 1) (lo + 3) → ValueComes (truth c) from t lo
      truth_comes c from t lo low yes_node no_node comes s σ w m vals K k le h =
          then_comes C g rest end (Decides L D c s) (λ b. Gives (bit b)) w
          (BehindTest (tests_call c) s K (Node (lo + 1)) (Node (lo + 2)) (t + 1) σ)
          (Behind (tests_call c) s K lo (Variable t) t σ)
          (comes s σ w m vals K k le h) on
        where
          on : (w1 : World) (b : Bool) → BehindTest (tests_call c) s K (Node (lo + 1)) (Node (lo + 2)) (t + 1) σ w1 b →
              Comes C g rest end (Gives (bit b)) w1 (Behind (tests_call c) s K lo (Variable t) t σ)
          on w1 true d = gives_comes (tests_call c) s K d.4.0 (lo + 1) lo t (constant_lin (pos 1)) (pos 1) d.0 σ w1 low yes_node
              (constant_is d.0 (pos 1)) refl d.1
              (keeps_lower (tests_call c) vars t (t + 1) σ d.0 (le_plus t t 1 (le_self t)) d.2) d.3 (lt_le d.4.0 K d.4.1) d.4.2
          on w1 false d = gives_comes (tests_call c) s K d.4.0 (lo + 2) lo t (constant_lin (pos 0)) (pos 0) d.0 σ w1 low no_node
              (constant_is d.0 (pos 0)) refl d.1
              (keeps_lower (tests_call c) vars t (t + 1) σ d.0 (le_plus t t 1 (le_self t)) d.2) d.3 (lt_le d.4.0 K d.4.1) d.4.2

      opposite_comes : (c : Test) (from : ℕ) (met unmet : Target) (t lo : ℕ) → TestComes c from unmet met t lo → TestComes (opposite c) from
          met unmet t lo
      opposite_comes c from met unmet t lo comes s σ w m vals K k le h =
          then_comes C g rest end (Decides L D c s) (λ b. Gives (not b)) w (BehindTest (tests_call c) s K unmet met t σ)
          (BehindTest (tests_call c) s K met unmet t σ)
          (comes s σ w m vals K k le h) on
        where
          on : (w1 : World) (b : Bool) → BehindTest (tests_call c) s K unmet met t σ w1 b → Comes C g rest end (Gives (not b)) w1
              (BehindTest (tests_call c) s K met unmet t σ)
          on w1 true d = (goes w1 false, refl, d)
          on w1 false d = (goes w1 true, refl, d)

      -- the second test, after the first
      second_comes : (e : Bool) (d : Test) (lo : ℕ) (met unmet : Target) (t u lo2 : ℕ) → TestComes d lo met unmet (t + u) lo2
          → (s σ σ1 : State) (w : World) → Matches vars σ1 (Sees s w) → Keeps e vars t σ σ1 → AreValues σ1 → (K : ℕ) →
          Before C g rest end K (inside lo σ1) w.inputs
          → Comes C g rest end (Decides L D d s) w (BehindTest (e || tests_call d) s K met unmet t σ)
      second_comes e d lo met unmet t u lo2 comes s σ σ1 w m1 keep vals K b =
          let c = comes s σ1 w m1 vals K b.0 (lt_le b.0 K b.1) b.2 in
          (c.0, c.1, on c.0 c.2)
        where
          on : (r : Progress Bool) → Covers C g rest end (BehindTest (tests_call d) s K met unmet (t + u) σ1) r →
              Covers C g rest end (BehindTest (e || tests_call d) s K met unmet t σ) r
          on r c = covers_map C g rest end (BehindTest (tests_call d) s K met unmet (t + u) σ1)
              (BehindTest (e || tests_call d) s K met unmet t σ)
              (λ w b x. (
                x.0,
                x.1,
                keeps_on e (tests_call d) vars t (t + u) σ σ1 x.0 (le_plus t t u (le_self t)) keep x.2,
                x.3,
                x.4,
              )) r c

      both_tests_come : (c d : Test) (from lo : ℕ) (met unmet : Target) (t u lo1 lo2 : ℕ) → TestComes c from (Node lo) unmet t lo1 →
          TestComes d lo met unmet (t + u) lo2 → TestComes (both c d) from met unmet t lo1
      both_tests_come c d from lo met unmet t u lo1 lo2 first second s σ w m vals K k le h =
          then_comes C g rest end (Decides L D c s) (λ b. Choice b (Decides L D d s) (Gives false)) w
          (BehindTest (tests_call c) s K (Node lo) unmet t σ)
          (BehindTest (tests_call c || tests_call d) s K met unmet t σ) (first s σ w m vals K k le h) on
        where
          on : (w1 : World) (b : Bool) → BehindTest (tests_call c) s K (Node lo) unmet t σ w1 b →
              Comes C g rest end (Choice b (Decides L D d s) (Gives false))
              w1 (BehindTest (tests_call c || tests_call d) s K met unmet t σ)
          on w1 true x = second_comes (tests_call c) d lo met unmet t u lo2 second s σ x.0 w1 x.1 x.2 x.3 K x.4
          on w1 false x = (
            goes w1 false,
            refl,
            (x.0, x.1, keeps_weak (tests_call c) (tests_call d) vars t σ x.0 x.2, x.3, x.4),
          )

      either_test_comes : (c d : Test) (from lo : ℕ) (met unmet : Target) (t u lo1 lo2 : ℕ) → TestComes c from met (Node lo) t lo1 →
          TestComes d lo met unmet (t + u) lo2 → TestComes (either c d) from met unmet t lo1
      either_test_comes c d from lo met unmet t u lo1 lo2 first second s σ w m vals K k le h =
          then_comes C g rest end (Decides L D c s) (λ b. Choice b (Gives true) (Decides L D d s)) w
          (BehindTest (tests_call c) s K met (Node lo) t σ)
          (BehindTest (tests_call c || tests_call d) s K met unmet t σ) (first s σ w m vals K k le h) on
        where
          on : (w1 : World) (b : Bool) → BehindTest (tests_call c) s K met (Node lo) t σ w1 b →
              Comes C g rest end (Choice b (Gives true) (Decides L D d s)) w1
              (BehindTest (tests_call c || tests_call d) s K met unmet t σ)
          on w1 true x = (
            goes w1 true,
            refl,
            (x.0, x.1, keeps_weak (tests_call c) (tests_call d) vars t σ x.0 x.2, x.3, x.4),
          )
          on w1 false x = second_comes (tests_call c) d lo met unmet t u lo2 second s σ x.0 w1 x.1 x.2 x.3 K x.4

      compare_comes : (op : Op) (v u : Value) (from : ℕ) (met unmet : Target) (t lo : ℕ) → vars ≤ t → FitsTest P L vars (compare op v u) →
          At g (test_blocks (compare op v u) from met unmet t lo)
          → ValueComes v from t lo → ValueComes u (landing v from lo) (t + slots_of v) (lo + nodes_of v) → TestComes (compare op v u) from
          met
          unmet t lo
      compare_comes op v u from met unmet t lo low fits at first second s σ w m vals K k le h =
          let n = landing u (landing v from lo) (lo + nodes_of v) in
          let a = operand_at v t in
          let b = operand_at u (t + slots_of v) in
          let calls = makes_call v || makes_call u in
          let node = at_right g (value_blocks u (landing v from lo) (t + slots_of v) (lo + nodes_of v)) _
          (at_right g (value_blocks v from t lo) _ at) in
          both_come v u from t lo (λ x y. Gives (comparison op x y)) (BehindTest calls s K met unmet t σ) low fits.1 fits.3 first second s σ
          w m vals K k le h
          (λ w2 σ2 x y j m2 keep vals2 x_is y_is le2 h2.
          let led = over_compare C g rest end K n op a b met unmet σ2 w2.inputs j fits.0 node.0 le2 h2 in
          let same : comparison op (operand_value σ2 a) (operand_value σ2 b) ≡ comparison op x y =
          ap (λ z. comparison op z (operand_value σ2 b))
          x_is ∙ ap (λ z. comparison op x z) y_is in (
            goes w2 (comparison op x y),
            refl,
            (σ2, m2, keep, vals2, subst (λ z. Led C g rest end K (cond z met unmet) σ2 w2.inputs) same led),
          ))

      -- a value and those after it
      values_come_first : (v : Value) (vs : Values) (from t lo : ℕ) → vars ≤ t → IsInSlot v → FitsValue P L vars v →
          IsSettled v (make_call vs) → ValueComes v from t lo →
          ValuesCome vs (landing v from lo) (t + slots_of v) (lo + nodes_of v) → ValuesCome (value v vs) from t lo
      values_come_first v vs from t lo low in_slot fits still first others s σ w m vals K k le h =
          let t2 = t + slots_of v in
          let n = landing_of_all vs (landing v from lo) (lo + nodes_of v) in
          let calls = makes_call v || make_call vs in
          one_comes v from t lo (λ x. Then (YieldsAll L D vs s) (λ xs. Gives (x ∷ xs))) (BehindAll calls s K n t (value v vs) σ) first s σ w
          m vals K k le h
          (λ w1 σ1 x j m1 keep1 vals1 x_is le1 h1.
          then_comes C g rest end (YieldsAll L D vs s) (λ xs. Gives (x ∷ xs)) w1 (BehindAll (make_call vs) s K n t2 vs σ1)
          (BehindAll calls s K n t (value v vs) σ)
          (others s σ1 w1 m1 vals1 K j le1 h1)
          (λ w2 xs c.
          let σ2 = c.0 in
          let is : σ2 (argument_slot v t) ≡ x = argument_is t v σ2 in_slot
          ∙ operand_kept P L (make_call vs) vars t v σ1 σ2 low fits still c.2 ∙ x_is in (
            goes w2 (x ∷ xs),
            refl,
            (
              σ2,
              c.1,
              keeps_on (makes_call v) (make_call vs) vars t t2 σ σ1 σ2 (le_plus t t (slots_of v) (le_self t)) keep1 c.2,
              c.3,
              ap (λ y. y ∷ map σ2 (argument_slots vs t2)) is ∙ ap (λ l. x ∷ l) c.4,
              c.5,
            ),
          )))

      module _ (hears : Hears P L.globals C D) where
        call_comes : (p : ℕ) (vs : Values) (gs : List ℕ) (from t lo : ℕ) → vars ≤ t → IsCallable P p (count_values vs) →
            gs ≡ global_slots L → out (landing_of_all vs from (lo + 1)) g
            ≡ Call (landing_of_all vs from (lo + 1)) lo p (argument_slots vs (t + 1) ++ gs) (t ∷ gs) ∷ [] →
            ValuesCome vs from (t + 1) (lo + 1) → ValueComes (call p vs gs) from t lo
        call_comes p vs gs from t lo low able same node comes s σ w m vals K k le h =
            let n = landing_of_all vs from (lo + 1) in
            then_comes C g rest end (YieldsAll L D vs s) (D p) w (BehindAll (make_call vs) s K n (t + 1) vs σ)
            (Behind true s K lo (Variable t) t σ)
            (comes s σ w m vals K k le h)
            (λ w1 xs c.
            let σ1 = c.0 in
            let slots = argument_slots vs (t + 1) in
            let keep = keeps_lower (make_call vs) vars t (t + 1) σ σ1 (le_plus t t 1 (le_self t)) c.2 in
            let all : map σ1 (slots ++ global_slots L) ≡ xs ++ values_from w1.globals 0 L.globals =
            map-append σ1 slots (global_slots L) ∙ ap (λ l. l ++ map σ1 (global_slots L)) c.4
            ∙ ap (λ l. xs ++ l) (globals_hold L vars σ1 s w1.globals fit c.1) in
            let many : count_values vs ≡ length xs = sym (length-map slots σ1 ∙ arguments_count vs (t + 1)) ∙ ap length c.4 in
            let edge : out n g ≡ Call n lo p (slots ++ global_slots L) (t ∷ global_slots L) ∷ [] =
            subst (λ l. out n g ≡ Call n lo p (slots ++ l) (t ∷ l) ∷ []) same node in
            let r = over_call C g rest end P L D hears K c.5.0 n lo t p (slots ++ global_slots L) xs σ1 w1 edge all
            (subst (IsCallable P p) many able) (subst AreAllValues all (values_map σ1 c.3 (slots ++ global_slots L))) c.5.1 c.5.2 in (
              r.0,
              r.1,
              covers_map C g rest end (CameBack C g rest end L K lo t σ1) (Behind true s K lo (Variable t) t σ)
                  (λ w2 v b. (
                    called L vars t fit low σ1 s w1.globals w2.globals v,
                    called_matches L vars t fit low σ1 s w1.globals w2.globals v c.1,
                    called_keeps L vars t fit low σ1 s w1.globals w2.globals v (make_call vs) σ keep,
                    values_slots σ1 (t ∷ global_slots L) (v ∷ values_from w2.globals 0 L.globals) c.3 b.0,
                    called_there L vars t fit low σ1 s w1.globals w2.globals v,
                    within C g rest end K (inside lo (called L vars t fit low σ1 s w1.globals w2.globals v)) w2.inputs b.1,
                  )) r.0 r.2,
            ))

        -- a quotient or a remainder, after the dividend
        quotient_comes : (c : ℤ) (v : Value) (from t lo : ℕ) → vars ≤ t → IsInSlot v → FitsValue P L vars v → IsDivisor c →
            At g (quotient_blocks c (argument_slot v (t + 1)) t (landing v from (lo + 1)) lo (lo + 1 + nodes_of v)) →
            ValueComes v from (t + 1) (lo + 1) → ValueComes (quotient c v) from t lo
        quotient_comes c v from t lo low in_slot fits d at comes s σ w m vals K k le h =
            let a = argument_slot v (t + 1) in
            one_comes v from (t + 1) (lo + 1) (λ x. Divided x c (ExactOrStopped (int_div x c)))
            (Behind (makes_call v) s K lo (Variable t) t σ) comes s σ w m vals K k le h
            (λ w1 σ1 x j m1 keep vals1 x_is le1 h1.
            let is : σ1 a ≡ x = argument_is (t + 1) v σ1 in_slot ∙ x_is in
            on w1 σ1 x m1 (keeps_lower (makes_call v) vars t (t + 1) σ σ1 (le_plus t t 1 (le_self t)) keep)
            (over_quotient K j c a t (landing v from (lo + 1)) lo (lo + 1 + nodes_of v) x σ1 w1.inputs d (argument_apart v t fits low) at is
            (subst (λ z. IsTrue (is_value z)) is (vals1 a)) vals1 le1 h1))
          where
            on : (w1 : World) (σ1 : State) (x : ℤ) → Matches vars σ1 (Sees s w1) → Keeps (makes_call v) vars t σ σ1 →
                Divides K x c lo t σ1 w1.inputs →
                Comes C g rest end (Divided x c (ExactOrStopped (int_div x c))) w1 (Behind (makes_call v) s K lo (Variable t) t σ)
            on w1 σ1 x m1 keep (inl y) = (
              goes w1 (int_div x c),
              divides_to x c (ExactOrStopped (int_div x c)) w1 (goes w1 (int_div x c)) d y.0
                  (subst (λ b. Choice b (Gives (int_div x c)) (Ends source_stopped) w1 (goes w1 (int_div x c))) (sym y.0) refl),
              (
                y.1,
                quotient_matches t (int_div x c) σ1 y.1 (Sees s w1) low y.2 m1,
                quotient_keeps (makes_call v) t (int_div x c) σ σ1 y.1 low y.2 keep,
                y.2.1,
                y.2.2,
                within C g rest end K (inside lo y.1) w1.inputs y.3,
              ),
            )
            on w1 σ1 x m1 keep (inr n) = (ends w1 source_stopped, divides_not x c (ExactOrStopped (int_div x c)) w1 d n.0, n.1)

        remainder_comes : (c : ℤ) (v : Value) (from t lo : ℕ) → vars ≤ t → IsInSlot v → FitsValue P L vars v → IsDivisor c →
            At g (quotient_blocks c (argument_slot v (t + 1)) t (landing v from (lo + 2)) (lo + 1) (lo + 2 + nodes_of v)) →
            out (lo + 1) g ≡ Assign (lo + 1) lo t (rest_lin c (argument_slot v (t + 1)) t) ∷ [] →
            ValueComes v from (t + 1) (lo + 2) → ValueComes (remainder c v) from t lo
        remainder_comes c v from t lo low in_slot fits d at last comes s σ w m vals K k le h =
            one_comes v from (t + 1) (lo + 2) (λ x. Divided x c (Gives (x -ℤ (c *ℤ int_div x c))))
            (Behind (makes_call v) s K lo (Variable t) t σ) comes s σ w m vals K k le h
            (λ w1 σ1 x j m1 keep vals1 x_is le1 h1.
            let is : σ1 a ≡ x = argument_is (t + 1) v σ1 in_slot ∙ x_is in
            let ok = subst (λ z. IsTrue (is_value z)) is (vals1 a) in
            on w1 σ1 x m1 is ok (keeps_lower (makes_call v) vars t (t + 1) σ σ1 (le_plus t t 1 (le_self t)) keep)
            (over_quotient K j c a t (landing v from (lo + 2)) (lo + 1) (lo + 2 + nodes_of v) x σ1 w1.inputs d apart at is
            ok vals1 le1 h1))
          where
            a : ℕ
            a = argument_slot v (t + 1)

            apart : a ≡ t → ⊥
            apart = argument_apart v t fits low

            on : (w1 : World) (σ1 : State) (x : ℤ) → Matches vars σ1 (Sees s w1) → σ1 a ≡ x → IsTrue (is_value x) →
                Keeps (makes_call v) vars t σ σ1 → Divides K x c (lo + 1) t σ1 w1.inputs →
                Comes C g rest end (Divided x c (Gives (x -ℤ (c *ℤ int_div x c)))) w1 (Behind (makes_call v) s K lo (Variable t) t σ)
            on w1 σ1 x m1 is ok keep (inl y) =
                let z = x -ℤ (c *ℤ int_div x c) in
                let r = gives_comes (makes_call v) s K y.3.0 (lo + 1) lo t (rest_lin c a t) z y.1 σ w1 low last
                (rest_is y.1 c a t x (int_div x c) (y.2.0 a apart ∙ is) y.2.2) (rest_value x c ok)
                (quotient_matches t (int_div x c) σ1 y.1 (Sees s w1) low y.2 m1)
                (quotient_keeps (makes_call v) t (int_div x c) σ σ1 y.1 low y.2 keep) y.2.1 (lt_le y.3.0 K y.3.1) y.3.2 in
                (r.0, divides_to x c (Gives z) w1 r.0 d y.0 r.1, r.2)
            on w1 σ1 x m1 is ok keep (inr n) =
                (ends w1 source_stopped, divides_not x c (Gives (x -ℤ (c *ℤ int_div x c))) w1 d n.0, n.1)

        mutual
          pub value_comes : (v : Value) (from t lo : ℕ) → FitsValue P L vars v → vars ≤ t → At g (value_blocks v from t lo) →
              ValueComes v from t lo
          value_comes (literal false n) from t lo fits low at s σ w m vals K k le h =
              (goes w n, refl, (σ, m, keeps_all false vars t σ, vals, refl, (k, le, h)))
          value_comes (literal true n) from t lo fits low at s σ w m vals K k le h =
              gives_comes false s K k from lo t (constant_lin n) n σ σ w low at.0 (constant_is σ n) fits m (keeps_all false vars t σ) vals
              le h
          value_comes (read false x) from t lo fits low at s σ w m vals K k le h = (
            goes w (Sees s w x),
            refl,
            (σ, m, keeps_all false vars t σ, vals, m.each x fits, (k, le, h)),
          )
          value_comes (read true x) from t lo fits low at s σ w m vals K k le h =
              gives_comes false s K k from lo t (operand_lin (Variable x)) (Sees s w x) σ σ w low at.0
              (operand_is σ (Variable x) ∙ m.each x fits)
              (subst (λ z. IsTrue (is_value z)) (m.each x fits) (vals x)) m (keeps_all false vars t σ) vals le h
          value_comes input from t lo fits low at s σ w m vals K k le h = input_comes s K k from lo t σ w low at.0 m vals le h
          value_comes (call p vs gs) from t lo fits low at s σ w m vals K k le h =
              call_comes p vs gs from t lo low fits.1 fits.2 (at_right g (values_blocks vs from (t + 1) (lo + 1)) _ at).0
              (values_come vs from (t + 1) (lo + 1) fits.0 (le_plus vars t 1 low) (at_left g (values_blocks vs from (t + 1) (lo + 1)) _ at))
              s σ
              w m vals K k le h
          value_comes (scale c v) from t lo fits low at s σ w m vals K k le h =
              let n = landing v from (lo + 1) in
              let a = operand_at v (t + 1) in
              one_comes v from (t + 1) (lo + 1) (λ x. ExactOrStopped (c *ℤ x)) (Behind (makes_call v) s K lo (Variable t) t σ)
              (value_comes v from (t + 1) (lo + 1) fits (le_plus vars t 1 low) (at_left g (value_blocks v from (t + 1) (lo + 1)) _ at)) s σ
              w
              m vals K k le h
              (λ w1 σ1 x j m1 keep vals1 x_is le1 h1.
              exact_comes (makes_call v) s K j n lo t (scaled_lin c a) (c *ℤ x) σ1 σ w1 low
              (at_right g (value_blocks v from (t + 1) (lo + 1)) _ at).0
              (scaled_is σ1 c a ∙ ap (λ z. c *ℤ z) x_is) m1
              (keeps_lower (makes_call v) vars t (t + 1) σ σ1 (le_plus t t 1 (le_self t)) keep) vals1 le1 h1)
          value_comes (sum v u) from t lo fits low at s σ w m vals K k le h =
              let m0 = landing v from (lo + 1) in
              let t2 = t + 1 + slots_of v in
              let lo2 = lo + 1 + nodes_of v in
              let a = operand_at v (t + 1) in
              let b = operand_at u t2 in
              let calls = makes_call v || makes_call u in
              let behind = at_right g (value_blocks v from (t + 1) (lo + 1)) _ at in
              let low1 = le_plus vars t 1 low in
              both_come v u from (t + 1) (lo + 1) (λ x y. ExactOrStopped (x +ℤ y)) (Behind calls s K lo (Variable t) t σ) low1 fits.0 fits.2
              (value_comes v from (t + 1) (lo + 1) fits.0 low1 (at_left g (value_blocks v from (t + 1) (lo + 1)) _ at))
              (value_comes u m0 t2 lo2 fits.1 (le_plus vars (t + 1) (slots_of v) low1) (at_left g (value_blocks u m0 t2 lo2) _ behind))
              s σ w m vals K k le h
              (λ w2 σ2 x y j m2 keep vals2 x_is y_is le2 h2.
              exact_comes calls s K j (landing u m0 lo2) lo t (sum_lin a b) (x +ℤ y) σ2 σ w2 low
              (at_right g (value_blocks u m0 t2 lo2) _ behind).0
              (sum_is σ2 a b ∙ ap (λ z. z +ℤ operand_value σ2 b) x_is ∙ ap (λ z. x +ℤ z) y_is) m2
              (keeps_lower calls vars t (t + 1) σ σ2 (le_plus t t 1 (le_self t)) keep) vals2 le2 h2)
          value_comes (difference v u) from t lo fits low at s σ w m vals K k le h =
              let m0 = landing v from (lo + 1) in
              let t2 = t + 1 + slots_of v in
              let lo2 = lo + 1 + nodes_of v in
              let a = operand_at v (t + 1) in
              let b = operand_at u t2 in
              let calls = makes_call v || makes_call u in
              let behind = at_right g (value_blocks v from (t + 1) (lo + 1)) _ at in
              let low1 = le_plus vars t 1 low in
              both_come v u from (t + 1) (lo + 1) (λ x y. ExactOrStopped (x -ℤ y)) (Behind calls s K lo (Variable t) t σ) low1 fits.0 fits.2
              (value_comes v from (t + 1) (lo + 1) fits.0 low1 (at_left g (value_blocks v from (t + 1) (lo + 1)) _ at))
              (value_comes u m0 t2 lo2 fits.1 (le_plus vars (t + 1) (slots_of v) low1) (at_left g (value_blocks u m0 t2 lo2) _ behind))
              s σ w m vals K k le h
              (λ w2 σ2 x y j m2 keep vals2 x_is y_is le2 h2.
              exact_comes calls s K j (landing u m0 lo2) lo t (difference_lin a b) (x -ℤ y) σ2 σ w2 low
              (at_right g (value_blocks u m0 t2 lo2) _ behind).0
              (difference_is σ2 a b ∙ ap (λ z. z -ℤ operand_value σ2 b) x_is ∙ ap (λ z. x -ℤ z) y_is) m2
              (keeps_lower calls vars t (t + 1) σ σ2 (le_plus t t 1 (le_self t)) keep) vals2 le2 h2)
          value_comes (quotient c v) from t lo fits low at s σ w m vals K k le h =
              quotient_comes c v from t lo low fits.0 fits.1 fits.2 (at_right g (value_blocks v from (t + 1) (lo + 1)) _ at)
              (value_comes v from (t + 1) (lo + 1) fits.1 (le_plus vars t 1 low) (at_left g (value_blocks v from (t + 1) (lo + 1)) _ at)) s
              σ w
              m vals K k le h
          value_comes (remainder c v) from t lo fits low at s σ w m vals K k le h =
              let behind = at_right g (value_blocks v from (t + 1) (lo + 2)) _ at in
              let blocks = quotient_blocks c (argument_slot v (t + 1)) t (landing v from (lo + 2)) (lo + 1) (lo + 2 + nodes_of v) in
              remainder_comes c v from t lo low fits.0 fits.1 fits.2 (at_left g blocks _ behind) (at_right g blocks _ behind).0
              (value_comes v from (t + 1) (lo + 2) fits.1 (le_plus vars t 1 low) (at_left g (value_blocks v from (t + 1) (lo + 2)) _ at)) s
              σ w
              m vals K k le h
          value_comes (truth c) from t lo fits low at s σ w m vals K k le h =
              let blocks = test_blocks c from (Node (lo + 1)) (Node (lo + 2)) (t + 1) (lo + 3) in
              let behind = at_right g blocks _ at in
              truth_comes c from t lo low behind.0 behind.1.0 (test_comes c from (Node (lo + 1)) (Node (lo + 2)) (t + 1) (lo + 3) fits
              (le_plus vars t 1 low) (at_left g blocks _ at)) s σ w m vals K k le h

          pub values_come : (vs : Values) (from t lo : ℕ) → FitsValues P L vars vs → vars ≤ t → At g (values_blocks vs from t lo) →
              ValuesCome vs from t lo
          values_come no_values from t lo fits low at s σ w m vals K k le h =
              (goes w [], refl, (σ, m, keeps_all false vars t σ, vals, refl, (k, le, h)))
          values_come (value v vs) from t lo fits low at s σ w m vals K k le h =
              values_come_first v vs from t lo low fits.0 fits.1 fits.3
              (value_comes v from t lo fits.1 low (at_left g (value_blocks v from t lo) _ at))
              (values_come vs (landing v from lo) (t + slots_of v) (lo + nodes_of v) fits.2 (le_plus vars t (slots_of v) low)
              (at_right g (value_blocks v from t lo) _ at)) s σ w m vals K k le h

          pub test_comes : (c : Test) (from : ℕ) (met unmet : Target) (t lo : ℕ) → FitsTest P L vars c → vars ≤ t →
              At g (test_blocks c from met unmet t lo) → TestComes c from met unmet t lo
          test_comes (compare op v u) from met unmet t lo fits low at s σ w m vals K k le h =
              let behind = at_right g (value_blocks v from t lo) _ at in
              let t2 = t + slots_of v in
              let lo2 = lo + nodes_of v in
              compare_comes op v u from met unmet t lo low fits at
              (value_comes v from t lo fits.1 low (at_left g (value_blocks v from t lo) _ at))
              (value_comes u (landing v from lo) t2 lo2 fits.2 (le_plus vars t (slots_of v) low)
              (at_left g (value_blocks u (landing v from lo) t2 lo2) _ behind)) s σ w m vals K k le h
          test_comes (opposite c) from met unmet t lo fits low at s σ w m vals K k le h = opposite_comes c from met unmet t lo
              (test_comes c from unmet met t lo fits low at) s σ w m vals K k le h
          test_comes (both c d) from met unmet t lo fits low at s σ w m vals K k le h =
              let blocks = test_blocks c from (Node lo) unmet t (lo + 1) in
              both_tests_come c d from lo met unmet t (slots_of_test c) (lo + 1) (lo + 1 + nodes_of_test c)
              (test_comes c from (Node lo) unmet t (lo + 1) fits.0 low (at_left g blocks _ at))
              (test_comes d lo met unmet (t + slots_of_test c) (lo + 1 + nodes_of_test c) fits.1 (le_plus vars t (slots_of_test c) low)
              (at_right g blocks _ at)) s σ w m vals K k le h
          test_comes (either c d) from met unmet t lo fits low at s σ w m vals K k le h =
              let blocks = test_blocks c from met (Node lo) t (lo + 1) in
              either_test_comes c d from lo met unmet t (slots_of_test c) (lo + 1) (lo + 1 + nodes_of_test c)
              (test_comes c from met (Node lo) t (lo + 1) fits.0 low (at_left g blocks _ at))
              (test_comes d lo met unmet (t + slots_of_test c) (lo + 1 + nodes_of_test c) fits.1 (le_plus vars t (slots_of_test c) low)
              (at_right g blocks _ at)) s σ w m vals K k le h

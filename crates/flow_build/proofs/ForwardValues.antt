-- From the end of the source's step to an end of the graph: values and tests.
use Rattle.std.proofs.Common.{◌≡◌, ℕ, zero, suc, ◌+◌, ◌≤◌, List, [], ◌∷◌, ◌++◌, length, Bool, true, false, not, ◌&&◌, ◌||◌, cond, ℤ, pos, negsuc, ◌+ℤ◌, ◌-ℤ◌, ◌*ℤ◌, int_div, IsTrue, refl, sym, ap, ◌∙◌, subst, arith, map}
use Rattle.std.proofs.lemmas.List.{map-append, length-map}
use Rattle.c_tree.specs.Syntax.{PureProgram}
use Rattle.c_tree.specs.declared.tree.Op.TheVariants.{Less, GreaterEqual}
use Rattle.c_tree.proofs.Dividing.{negated}
use Rattle.c_tree.specs.Meaning.{State, with_slot, values_from, World, Progress, goes, ends, stopped as source_stopped, Relation, Gives, Ends, Then, Choice, is_value, ExactOrStopped, Divided, Callee, bit}
use Rattle.flow_graph.specs.declared.graph.Edge.{Edge}
use Rattle.flow_graph.specs.declared.graph.Edge.TheVariants.{Assign, Call}
use Rattle.flow_graph.specs.declared.graph.Lin.{Lin}
use Rattle.flow_graph.specs.Runs.{End, stopped, inside, Called, lin_value}
use Rattle.flow_graph.specs.Columns.{AreValues, AreAllValues}
use Rattle.flow_graph.proofs.Values.{values_map, values_with}
use Rattle.flow_build.specs.declared.target.Target.{Target}
use Rattle.flow_build.specs.declared.target.Target.TheVariants.{Node}
use Rattle.flow_build.specs.declared.layout.Layout.{Layout}
use Rattle.flow_build.specs.steps.Layouts.{global_slots, seen}
use Rattle.flow_build.specs.declared.operand.Operand.TheVariants.{Variable, Constant}
use Rattle.flow_build.specs.steps.Forms.{Value, literal, read, input, call, scale, sum, difference, quotient, remainder, truth, Values, no_values, value, Test, compare, opposite, both, either}
use Rattle.flow_build.specs.steps.Operands.{constant_lin, scaled_lin, operand_lin, sum_lin, difference_lin, rest_lin, rows_where, rows_above, rows_below, opposite_op}
use Rattle.flow_build.specs.steps.Blocks.{Block, one, ways}
use Rattle.flow_build.specs.steps.Lowering.{operand_at, landing, nodes_of, nodes_of_test, slots_of, slots_of_test, argument_slot, argument_slots, landing_of_all, picks, quotient_blocks, value_blocks, values_blocks, test_blocks}
use Rattle.flow_build.proofs.FormMeaning.{Yields, YieldsAll, Decides, comparison, makes_call, make_call, tests_call, count_values, IsCallable, IsDivisor, IsSettled, FitsValue, FitsValues, FitsTest}
use Rattle.flow_build.proofs.Outgoing.{out, At, at_left, at_right}
use Rattle.flow_build.proofs.Slots.{slot_there, slot_other, keeps_lower, keeps_weak, Matches, Keeps, keeps_all, keeps_on, globals_hold, arguments_count, operand_value, operand_is, constant_is, scaled_is, sum_is, difference_is, operand_kept, argument_is}
use Rattle.flow_build.proofs.Dividing.{from_zero, above_holds, below_holds, quotient_value, rest_is, rest_value}
use Rattle.flow_build.proofs.Reaching.{Told, Reach, Covers, then_covers, covers_on, goes_on, Meets, assigned, stops, assign_shut, picked, value_after, exact_after, input_after, call_after, compared_meets}

pub at_two : (g : List Edge) (xs ys : List Block) → At g (xs ++ ys) → At g xs × At g ys
at_two g xs ys h = (at_left g xs ys h, at_right g xs ys h)

pub at_three : (g : List Edge) (xs ys zs : List Block) → At g (xs ++ (ys ++ zs)) → At g xs × At g ys × At g zs
at_three g xs ys zs h = let later = at_right g xs (ys ++ zs) h in (at_left g xs (ys ++ zs) h, at_left g ys zs later, at_right g ys zs later)

module _ (C : Called) (g : List Edge) (rest : List ℤ) (end : End) where
  abbrev Cov : {A : Type 0} → (World → A → Type 0) → Progress A → Type 0
  Cov K r = Covers C g rest end K r

  abbrev Comes : ℕ → State → List ℤ → Type 0
  Comes n σ ins = Reach C g rest end (inside n σ) ins

  abbrev Met : Target → State → List ℤ → Type 0
  Met target σ ins = Meets C g rest end target σ ins

  opposite_met : (b : Bool) (met unmet : Target) (σ : State) (ins : List ℤ) → Met (cond (not b) met unmet) σ ins →
      Met (cond b unmet met) σ ins
  opposite_met true met unmet σ ins h = h
  opposite_met false met unmet σ ins h = h

  -- what a decision leads to
  pub chosen : {A : Type 0} (b : Bool) (P Q : Relation A) (w : World) (r : Progress A) (met unmet : Target) (σ : State) (ins : List ℤ) →
      Choice b P Q w r → (P w r → Met met σ ins) → (Q w r → Met unmet σ ins) → Met (cond b met unmet) σ ins
  chosen true P Q w r met unmet σ ins h yes_case no_case = yes_case h
  chosen false P Q w r met unmet σ ins h yes_case no_case = no_case h

  -- over the two picks of a quotient by a magnitude
  picked_over : (b a t n to lo : ℕ) (x : ℤ) (σ : State) (ins : List ℤ) → (a ≡ t → ⊥) → out n g
      ≡ ways n (Node lo) (rows_where GreaterEqual (Variable a) (Constant (pos 0)))
      ++ ways n (Node (lo + 1)) (rows_where Less (Variable a) (Constant (pos 0))) → At g (picks (suc b) a t lo (lo + 1) to) → σ a ≡ x →
      IsTrue (is_value x) → Comes to (with_slot σ t (int_div x (pos (suc b)))) ins → Comes n σ ins
  picked_over b a t n to lo x σ ins apart h at e ok more =
      compared_meets C g rest end n (Node lo) (Node (lo + 1)) GreaterEqual (Variable a) (Constant (pos 0)) σ ins h refl
      (subst (λ z. Met (cond (comparison GreaterEqual z (pos 0)) (Node lo) (Node (lo + 1))) σ ins) (sym e) (on x e ok more))
    where
      on : (z : ℤ) → σ a ≡ z → IsTrue (is_value z) → Comes to (with_slot σ t (int_div z (pos (suc b)))) ins →
          Met (cond (comparison GreaterEqual z (pos 0)) (Node lo) (Node (lo + 1))) σ ins
      on (pos n) q v k =
          let z = int_div (pos n) (pos (suc b)) in
          subst (λ c. Met (cond c (Node lo) (Node (lo + 1))) σ ins) (sym (from_zero n))
          (picked C g rest end lo to t (rows_above (suc b) a t) z σ ins at.0 (quotient_value (pos n) b v)
          (above_holds b a t apart σ z n q refl) k)
      on (negsuc n) q v k =
          let z = int_div (negsuc n) (pos (suc b)) in
          picked C g rest end (lo + 1) to t (rows_below (suc b) a t) z σ ins at.1.0 (quotient_value (negsuc n) b v)
          (below_holds b a t apart σ z n q refl) k

  -- A state in which slot t alone is new, and has the quotient.
  abbrev pub Quotient : ℕ → ℤ → State → State → Type 0
  Quotient t z σ σ' = ((y : ℕ) → (y ≡ t → ⊥) → σ' y ≡ σ y) × AreValues σ' × (σ' t ≡ z)

  -- over the edges of a quotient
  quotient_over : (c : ℤ) (a t n to lo : ℕ) (x : ℤ) (σ : State) (ins : List ℤ) → IsDivisor c → (a ≡ t → ⊥) →
      At g (quotient_blocks c a t n to lo) → σ a ≡ x → IsTrue (is_value x) → AreValues σ →
      ((σ' : State) → is_value (int_div x c) ≡ true → Quotient t (int_div x c) σ σ' → Comes to σ' ins) →
      (is_value (int_div x c) ≡ false → (end ≡ stopped) × (rest ≡ ins)) → Comes n σ ins
  quotient_over (pos zero) a t n to lo x σ ins d apart at e ok vals more over = absurd (let no : true ≡ false = d in cc)
  quotient_over (pos (suc b)) a t n to lo x σ ins d apart at e ok vals more over =
      let z = int_div x (pos (suc b)) in
      let v = quotient_value x b ok in
      picked_over b a t n to lo x σ ins apart at.0 at.1 e ok
      (more (with_slot σ t z) v ((λ y ne. slot_other σ t y z ne), values_with σ t z vals v, slot_there σ t z))
  quotient_over (negsuc b) a t n to lo x σ ins d apart at e ok vals more over =
      picked_over b a t n (lo + 2) lo x σ ins apart at.0 (at.1.0, (at.1.1.0, tt)) e ok (on (is_value (int_div x (negsuc b))) refl)
    where
      z : ℤ
      z = int_div x (pos (suc b))

      σ1 : State
      σ1 = with_slot σ t z

      is : lin_value σ1 (scaled_lin (negsuc 0) (Variable t)) ≡ int_div x (negsuc b)
      is = scaled_is σ1 (negsuc 0) (Variable t) ∙ ap (λ u. negsuc 0 *ℤ u) (slot_there σ t z) ∙ sym (negated x b)

      vals1 : AreValues σ1
      vals1 = values_with σ t z vals (quotient_value x b ok)

      l : Lin
      l = scaled_lin (negsuc 0) (Variable t)

      on : (k : Bool) → is_value (int_div x (negsuc b)) ≡ k → Comes (lo + 2) σ1 ins
      on true k =
          let fits : IsTrue (is_value (lin_value σ1 l)) = ap is_value is ∙ k in
          let σ2 = with_slot σ1 t (lin_value σ1 l) in
          assigned C g rest end (lo + 2) to t l σ1 ins at.1.1.1.0 fits
          (more σ2 k (
            (λ y ne. slot_other σ1 t y (lin_value σ1 l) ne ∙ slot_other σ t y z ne),
            values_with σ1 t (lin_value σ1 l) vals1 fits,
            slot_there σ1 t (lin_value σ1 l) ∙ is,
          ))
      on false k = stops C g rest end (lo + 2) (Assign (lo + 2) to t l ∷ []) σ1 ins at.1.1.1.0
          (assign_shut C σ1 (lo + 2) to t l (ap is_value is ∙ k)) (over k)

  -- by a divisor the run stops only where the quotient is no value
  abbrev pub Whole : ℤ → ℤ → Relation ℤ → Relation ℤ
  Whole x c P = Choice (is_value (int_div x c)) P (Ends source_stopped)

  pub divided_whole : (x c : ℤ) (P : Relation ℤ) (w : World) (r : Progress ℤ) → IsDivisor c → Divided x c P w r → Whole x c P w r
  divided_whole x c P w r d h = subst (λ b. Choice b P (Ends source_stopped) w r) (ap (λ b. not b && is_value (int_div x c)) d) h

  -- an end of the source's is one of the graph's
  whole_ends : (x c : ℤ) (P : Relation ℤ) (K : World → ℤ → Type 0) (w : World) (r : Progress ℤ) → is_value (int_div x c) ≡ false →
      Whole x c P w r → Cov K r → (end ≡ stopped) × (rest ≡ w.inputs)
  whole_ends x c P K w r none h cov =
      let stop : r ≡ ends w source_stopped = subst (λ b. Choice b P (Ends source_stopped) w r) none h in
      subst (Cov K) stop cov

  -- the value of a quotient goes on
  exact_goes : (z : ℤ) (K : World → ℤ → Type 0) (w : World) (r : Progress ℤ) → is_value z ≡ true →
      Choice (is_value z) (ExactOrStopped z) (Ends source_stopped) w r → Cov K r → K w z
  exact_goes z K w r is h cov =
      let once = subst (λ b. Choice b (ExactOrStopped z) (Ends source_stopped) w r) is h in
      let gives : r ≡ goes w z = subst (λ b. Choice b (Gives z) (Ends source_stopped) w r) is once in
      goes_on C g rest end K w z r gives cov

  module _ (P : PureProgram) (L : Layout) (D : Callee) (told : (p : ℕ) (args : List ℤ) (w : World) (r : Progress ℤ) →
      IsCallable P p (length args) → AreAllValues (args ++ values_from w.globals 0 L.globals) → D p args w r →
      Told L.globals (C p (args ++ values_from w.globals 0 L.globals) w.inputs) r)
      (vars : ℕ) (fit : L.params + L.globals ≤ vars) where
    -- what the program's state is in a world
    abbrev pub Sees : State → World → State
    Sees s w = seen L s w.globals

    -- what follows a value: at the next node, with its value in its operand
    abbrev pub AfterValue : Value → State → ℕ → ℕ → State → World → ℤ → Type 0
    AfterValue v s to t σ w z =
        (σ' : State) → Matches vars σ' (Sees s w) → Keeps (makes_call v) vars t σ σ' → AreValues σ' → operand_value σ' (operand_at v t)
        ≡ z →
        Comes to σ' w.inputs

    abbrev pub AfterValues : Values → State → ℕ → ℕ → State → World → List ℤ → Type 0
    AfterValues vs s to t σ w zs =
        (σ' : State) → Matches vars σ' (Sees s w) → Keeps (make_call vs) vars t σ σ' → AreValues σ' → map σ' (argument_slots vs t) ≡ zs →
        Comes to σ' w.inputs

    abbrev pub AfterTest : Bool → State → Target → Target → ℕ → State → World → Bool → Type 0
    AfterTest c s met unmet t σ w b =
        (σ' : State) → Matches vars σ' (Sees s w) → Keeps c vars t σ σ' → AreValues σ' → Met (cond b met unmet) σ' w.inputs

    -- a value's part of the graph
    abbrev pub ValueForth : Value → ℕ → ℕ → ℕ → Type 0
    ValueForth v from to t =
        (s σ : State) (w : World) → Matches vars σ (Sees s w) → AreValues σ → (r : Progress ℤ) → Yields L D v s w r →
        Cov (AfterValue v s to t σ) r → Comes from σ w.inputs

    -- one value and then another
    pair_reaches : {A : Type 0} (v u : Value) (from m n t : ℕ) → FitsValue P L vars v → IsSettled v (makes_call u) → vars ≤ t →
        ValueForth v from m t → ValueForth u m n (t + slots_of v)
        → (Q : ℤ → ℤ → Relation A) (K : World → A → Type 0) (s σ : State) (w : World) → Matches vars σ (Sees s w) → AreValues σ →
        (r : Progress A) →
        Then (Yields L D v s) (λ x. Then (Yields L D u s) (λ y. Q x y)) w r → Cov K r
        → ((w' : World) (x y : ℤ) (σ' : State) → Matches vars σ' (Sees s w') → Keeps (makes_call v || makes_call u) vars t σ σ' →
        AreValues σ' → operand_value σ' (operand_at v t) ≡ x →
        operand_value σ' (operand_at u (t + slots_of v)) ≡ y → Q x y w' r → Comes n σ' w'.inputs) → Comes from σ w.inputs
    pair_reaches v u from m n t fits still le fv fu Q K s σ w ms vals r h cov more =
        fv s σ w ms vals h.0 h.1
        (then_covers C g rest end (λ x. Then (Yields L D u s) (λ y. Q x y)) K (AfterValue v s m t σ) r (λ w1 x q σ1 ms1 keep1 vals1 x_is.
        fu s σ1 w1 ms1 vals1 q.0 q.1
        (then_covers C g rest end (λ y. Q x y) K (AfterValue u s n (t + slots_of v) σ1) r (λ w2 y k σ2 ms2 keep2 vals2 y_is.
        more w2 x y σ2 ms2 (keeps_on (makes_call v) (makes_call u) vars t (t + slots_of v) σ σ1 σ2 (omega arith) keep1 keep2) vals2
        (operand_kept P L (makes_call u) vars t v σ1 σ2 le fits still keep2 ∙ x_is)
        y_is k) q.0 q.2 cov)) h.0 h.2 cov)

    -- the bit of a decision
    truth_after : (c b : Bool) (lo t : ℕ) (s σ σ0 : State) (w : World) → vars ≤ t → out (lo + 1) g
        ≡ Assign (lo + 1) lo t (constant_lin (pos 1)) ∷ [] →
        out (lo + 2) g ≡ Assign (lo + 2) lo t (constant_lin (pos 0)) ∷ []
        → Matches vars σ (Sees s w) → Keeps c vars t σ0 σ → AreValues σ → ((σ' : State) → Matches vars σ' (Sees s w) →
        Keeps c vars t σ0 σ' → AreValues σ' → σ' t ≡ bit b → Comes lo σ' w.inputs) →
        Met (cond b (Node (lo + 1)) (Node (lo + 2))) σ w.inputs
    truth_after c true lo t s σ σ0 w low one_at zero_at ms keep vals more =
        value_after C g rest end L vars s c (lo + 1) lo t (constant_lin (pos 1)) (pos 1) σ σ0 w low one_at (constant_is σ (pos 1)) refl ms
        keep
        vals more
    truth_after c false lo t s σ σ0 w low one_at zero_at ms keep vals more =
        value_after C g rest end L vars s c (lo + 2) lo t (constant_lin (pos 0)) (pos 0) σ σ0 w low zero_at (constant_is σ (pos 0)) refl ms
        keep
        vals more

    -- a slot that holds something else than t does
    argument_apart : (v : Value) (t : ℕ) → FitsValue P L vars v → vars ≤ t → argument_slot v (t + 1) ≡ t → ⊥
    argument_apart (literal false n) t fits low q = omega (arith, q)
    argument_apart (literal true n) t fits low q = omega (arith, q)
    argument_apart (read false x) t fits low q = omega (arith, q, fits, low)
    argument_apart (read true x) t fits low q = omega (arith, q)
    argument_apart input t fits low q = omega (arith, q)
    argument_apart (call p vs gs) t fits low q = omega (arith, q)
    argument_apart (scale c v) t fits low q = omega (arith, q)
    argument_apart (sum v u) t fits low q = omega (arith, q)
    argument_apart (difference v u) t fits low q = omega (arith, q)
    argument_apart (quotient c v) t fits low q = omega (arith, q)
    argument_apart (remainder c v) t fits low q = omega (arith, q)
    argument_apart (truth c) t fits low q = omega (arith, q)

    -- the state after a quotient still matches
    quotient_matches : (t : ℕ) (z : ℤ) (σ σ' S : State) → vars ≤ t → Quotient t z σ σ' → Matches vars σ S → Matches vars σ' S
    quotient_matches t z σ σ' S low k m = record { each = λ x lt. k.0 x (λ q. omega (arith, q, lt, low)) ∙ m.each x lt }

    quotient_keeps : (c : Bool) (t : ℕ) (z : ℤ) (σ0 σ σ' : State) → vars ≤ t → Quotient t z σ σ' → Keeps c vars t σ0 σ →
        Keeps c vars t σ0 σ'
    quotient_keeps c t z σ0 σ σ' low k h = record {
      above = λ x from to. k.0 x (λ q. omega (arith, q, to)) ∙ h.above x from to;
      below = λ none x lt. k.0 x (λ q. omega (arith, q, lt, low)) ∙ h.below none x lt;
    }

    mutual
      pub value_reaches : (v : Value) (from t lo : ℕ) → FitsValue P L vars v → vars ≤ t → At g (value_blocks v from t lo) →
          ValueForth v from (landing v from lo) t
      value_reaches (literal false n) from t lo fits le at s σ w ms vals r h cov =
          goes_on C g rest end (AfterValue (literal false n) s from t σ) w n r h cov σ ms (keeps_all false vars t σ) vals refl
      value_reaches (literal true n) from t lo fits le at s σ w ms vals r h cov =
          value_after C g rest end L vars s false from lo t (constant_lin n) n σ σ w le at.0 (constant_is σ n) fits ms
          (keeps_all false vars t σ) vals (goes_on C g rest end (AfterValue (literal true n) s lo t σ) w n r h cov)
      value_reaches (read false x) from t lo fits le at s σ w ms vals r h cov =
          goes_on C g rest end (AfterValue (read false x) s from t σ) w (Sees s w x) r h cov σ ms (keeps_all false vars t σ) vals
          (ms.each x fits)
      value_reaches (read true x) from t lo fits le at s σ w ms vals r h cov =
          value_after C g rest end L vars s false from lo t (operand_lin (Variable x)) (Sees s w x) σ σ w le at.0
          (operand_is σ (Variable x) ∙ ms.each x fits)
          (subst (λ z. IsTrue (is_value z)) (ms.each x fits) (vals x)) ms (keeps_all false vars t σ) vals
          (goes_on C g rest end (AfterValue (read true x) s lo t σ) w (Sees s w x) r h cov)
      value_reaches input from t lo fits le at s σ w ms vals r h cov =
          input_after C g rest end L vars s false from lo t σ w w.inputs r le at.0 refl h ms vals cov
      value_reaches (call p vs gs) from t lo fits le at s σ w ms vals r h cov =
          let n = landing_of_all vs from (lo + 1) in
          let args = argument_slots vs (t + 1) in
          let parts = at_two g (values_blocks vs from (t + 1) (lo + 1)) (one n (Call n lo p (args ++ gs) (t ∷ gs)) ∷ []) at in
          let edge : out n g ≡ Call n lo p (args ++ global_slots L) (t ∷ global_slots L) ∷ [] =
          subst (λ l. out n g ≡ Call n lo p (args ++ l) (t ∷ l) ∷ []) fits.2 parts.1.0 in
          values_reach vs from (t + 1) (lo + 1) fits.0 (omega arith) parts.0 s σ w ms vals h.0 h.1
          (then_covers C g rest end (D p) (AfterValue (call p vs gs) s lo t σ) (AfterValues vs s n (t + 1) σ) r
          (λ w1 zs q σ1 ms1 keep1 vals1 args_are.
          let all : map σ1 (args ++ global_slots L) ≡ zs ++ values_from w1.globals 0 L.globals =
          map-append σ1 args (global_slots L) ∙ ap (λ l. l ++ map σ1 (global_slots L)) args_are
          ∙ ap (λ l. zs ++ l) (globals_hold L vars σ1 s w1.globals fit ms1) in
          let many : count_values vs ≡ length zs = sym (length-map args σ1 ∙ arguments_count vs (t + 1)) ∙ ap length args_are in
          let c = subst (λ x. Told L.globals (C p x w1.inputs) r) (sym all)
          (told p zs w1 r (subst (IsCallable P p) many fits.1) (subst AreAllValues all (values_map σ1 vals1 (args ++ global_slots L))) q) in
          call_after C g rest end L vars s (make_call vs) n lo t p (args ++ global_slots L) σ1 σ w1 r fit le edge c ms1
          (keeps_lower (make_call vs) vars t (t + 1) σ σ1 (omega arith) keep1) vals1 cov) h.0 h.2 cov)
      value_reaches (scale c v) from t lo fits le at s σ w ms vals r h cov =
          let n = landing v from (lo + 1) in
          let a = operand_at v (t + 1) in
          let parts = at_two g (value_blocks v from (t + 1) (lo + 1)) (one n (Assign n lo t (scaled_lin c a)) ∷ []) at in
          value_reaches v from (t + 1) (lo + 1) fits (omega arith) parts.0 s σ w ms vals h.0 h.1
          (then_covers C g rest end (λ x. ExactOrStopped (c *ℤ x)) (AfterValue (scale c v) s lo t σ) (AfterValue v s n (t + 1) σ) r
          (λ w1 x q σ1 ms1 keep1 vals1 x_is.
          exact_after C g rest end L vars s (makes_call v) n lo t (scaled_lin c a) (c *ℤ x) σ1 σ w1 r le parts.1.0
          (scaled_is σ1 c a ∙ ap (λ z. c *ℤ z) x_is) ms1
          (keeps_lower (makes_call v) vars t (t + 1) σ σ1 (omega arith) keep1) vals1 q cov) h.0 h.2 cov)
      value_reaches (sum v u) from t lo fits le at s σ w ms vals r h cov =
          let m = landing v from (lo + 1) in
          let n = landing u m (lo + 1 + nodes_of v) in
          let a = operand_at v (t + 1) in
          let b = operand_at u (t + 1 + slots_of v) in
          let parts = at_three g (value_blocks v from (t + 1) (lo + 1)) (value_blocks u m (t + 1 + slots_of v) (lo + 1 + nodes_of v))
          (one n (Assign n lo t (sum_lin a b)) ∷ []) at in
          let calls = makes_call v || makes_call u in
          pair_reaches v u from m n (t + 1) fits.0 fits.2 (omega arith) (value_reaches v from (t + 1) (lo + 1) fits.0 (omega arith) parts.0)
          (value_reaches u m (t + 1 + slots_of v) (lo + 1 + nodes_of v) fits.1 (omega arith) parts.1)
          (λ x y. ExactOrStopped (x +ℤ y)) (AfterValue (sum v u) s lo t σ) s σ w ms vals r h cov (λ w2 x y σ2 ms2 keep vals2 x_is y_is k.
          exact_after C g rest end L vars s calls n lo t (sum_lin a b) (x +ℤ y) σ2 σ w2 r le parts.2.0
          (sum_is σ2 a b ∙ ap (λ z. z +ℤ operand_value σ2 b) x_is
          ∙ ap (λ z. x +ℤ z) y_is) ms2 (keeps_lower calls vars t (t + 1) σ σ2 (omega arith) keep) vals2 k cov)
      value_reaches (difference v u) from t lo fits le at s σ w ms vals r h cov =
          let m = landing v from (lo + 1) in
          let n = landing u m (lo + 1 + nodes_of v) in
          let a = operand_at v (t + 1) in
          let b = operand_at u (t + 1 + slots_of v) in
          let parts = at_three g (value_blocks v from (t + 1) (lo + 1)) (value_blocks u m (t + 1 + slots_of v) (lo + 1 + nodes_of v))
          (one n (Assign n lo t (difference_lin a b)) ∷ []) at in
          let calls = makes_call v || makes_call u in
          pair_reaches v u from m n (t + 1) fits.0 fits.2 (omega arith) (value_reaches v from (t + 1) (lo + 1) fits.0 (omega arith) parts.0)
          (value_reaches u m (t + 1 + slots_of v) (lo + 1 + nodes_of v) fits.1 (omega arith) parts.1)
          (λ x y. ExactOrStopped (x -ℤ y)) (AfterValue (difference v u) s lo t σ) s σ w ms vals r h cov
          (λ w2 x y σ2 ms2 keep vals2 x_is y_is k.
          exact_after C g rest end L vars s calls n lo t (difference_lin a b) (x -ℤ y) σ2 σ w2 r le parts.2.0
          (difference_is σ2 a b ∙ ap (λ z. z -ℤ operand_value σ2 b) x_is ∙ ap (λ z. x -ℤ z) y_is) ms2
          (keeps_lower calls vars t (t + 1) σ σ2 (omega arith) keep) vals2 k cov)
      value_reaches (quotient c v) from t lo fits le at s σ w ms vals r h cov =
          let n = landing v from (lo + 1) in
          let a = argument_slot v (t + 1) in
          let parts = at_two g (value_blocks v from (t + 1) (lo + 1)) (quotient_blocks c a t n lo (lo + 1 + nodes_of v)) at in
          value_reaches v from (t + 1) (lo + 1) fits.1 (omega arith) parts.0 s σ w ms vals h.0 h.1
          (then_covers C g rest end (λ x. Divided x c (ExactOrStopped (int_div x c))) (AfterValue (quotient c v) s lo t σ)
          (AfterValue v s n (t + 1) σ) r
          (λ w1 x q σ1 ms1 keep1 vals1 x_is.
          let is : σ1 a ≡ x = argument_is (t + 1) v σ1 fits.0 ∙ x_is in
          let whole = divided_whole x c (ExactOrStopped (int_div x c)) w1 r fits.2 q in
          quotient_over c a t n lo (lo + 1 + nodes_of v) x σ1 w1.inputs fits.2 (argument_apart v t fits.1 le) parts.1 is
          (subst (λ z. IsTrue (is_value z)) is (vals1 a)) vals1
          (λ σ2 is_one k. exact_goes (int_div x c) (AfterValue (quotient c v) s lo t σ) w1 r is_one whole cov σ2
          (quotient_matches t (int_div x c) σ1 σ2 (Sees s w1) le k ms1)
          (quotient_keeps (makes_call v) t (int_div x c) σ σ1 σ2 le k (keeps_lower (makes_call v) vars t (t + 1) σ σ1 (omega arith) keep1))
          k.1
          k.2)
          (λ none. whole_ends x c (ExactOrStopped (int_div x c)) (AfterValue (quotient c v) s lo t σ) w1 r none whole cov)) h.0 h.2 cov)
      value_reaches (remainder c v) from t lo fits le at s σ w ms vals r h cov =
          let n = landing v from (lo + 2) in
          let a = argument_slot v (t + 1) in
          let parts = at_three g (value_blocks v from (t + 1) (lo + 2)) (quotient_blocks c a t n (lo + 1) (lo + 2 + nodes_of v))
          (one (lo + 1) (Assign (lo + 1) lo t (rest_lin c a t)) ∷ []) at in
          value_reaches v from (t + 1) (lo + 2) fits.1 (omega arith) parts.0 s σ w ms vals h.0 h.1
          (then_covers C g rest end (λ x. Divided x c (Gives (x -ℤ (c *ℤ int_div x c)))) (AfterValue (remainder c v) s lo t σ)
          (AfterValue v s n (t + 1) σ) r
          (λ w1 x q σ1 ms1 keep1 vals1 x_is.
          let is : σ1 a ≡ x = argument_is (t + 1) v σ1 fits.0 ∙ x_is in
          let apart = argument_apart v t fits.1 le in
          let whole = divided_whole x c (Gives (x -ℤ (c *ℤ int_div x c))) w1 r fits.2 q in
          quotient_over c a t n (lo + 1) (lo + 2 + nodes_of v) x σ1 w1.inputs fits.2 apart parts.1 is
          (subst (λ z. IsTrue (is_value z)) is (vals1 a)) vals1
          (λ σ2 is_one k.
          let z = x -ℤ (c *ℤ int_div x c) in
          value_after C g rest end L vars s (makes_call v) (lo + 1) lo t (rest_lin c a t) z σ2 σ w1 le parts.2.0
          (rest_is σ2 c a t x (int_div x c) (k.0 a apart ∙ is) k.2) (rest_value x c (subst (λ u. IsTrue (is_value u)) is (vals1 a)))
          (quotient_matches t (int_div x c) σ1 σ2 (Sees s w1) le k ms1)
          (quotient_keeps (makes_call v) t (int_div x c) σ σ1 σ2 le k (keeps_lower (makes_call v) vars t (t + 1) σ σ1 (omega arith) keep1))
          k.1
          (goes_on C g rest end (AfterValue (remainder c v) s lo t σ) w1 z r
          (subst (λ b. Choice b (Gives z) (Ends source_stopped) w1 r) is_one whole) cov))
          (λ none. whole_ends x c (Gives (x -ℤ (c *ℤ int_div x c))) (AfterValue (remainder c v) s lo t σ) w1 r none whole cov)) h.0 h.2 cov)
      value_reaches (truth c) from t lo fits le at s σ w ms vals r h cov =
          let parts = at_two g (test_blocks c from (Node (lo + 1)) (Node (lo + 2)) (t + 1) (lo + 3))
          (one (lo + 1) (Assign (lo + 1) lo t (constant_lin (pos 1))) ∷ one (lo + 2) (Assign (lo + 2) lo t (constant_lin (pos 0))) ∷ []) at
          in
          test_reaches c from (Node (lo + 1)) (Node (lo + 2)) (t + 1) (lo + 3) fits (omega arith) parts.0 s σ w ms vals h.0 h.1
          (then_covers C g rest end (λ b. Gives (bit b)) (AfterValue (truth c) s lo t σ)
          (AfterTest (tests_call c) s (Node (lo + 1)) (Node (lo + 2)) (t + 1) σ)
          r (λ w1 b q σ1 ms1 keep1 vals1.
          truth_after (tests_call c) b lo t s σ1 σ w1 le parts.1.0 parts.1.1.0 ms1
          (keeps_lower (tests_call c) vars t (t + 1) σ σ1 (omega arith) keep1) vals1
          (goes_on C g rest end (AfterValue (truth c) s lo t σ) w1 (bit b) r q cov)) h.0 h.2 cov)

      pub values_reach : (vs : Values) (from t lo : ℕ) → FitsValues P L vars vs → vars ≤ t → At g (values_blocks vs from t lo) →
          (s σ : State) (w : World) → Matches vars σ (Sees s w) → AreValues σ → (r : Progress (List ℤ)) → YieldsAll L D vs s w r →
          Cov (AfterValues vs s (landing_of_all vs from lo) t σ) r → Comes from σ w.inputs
      values_reach no_values from t lo fits le at s σ w ms vals r h cov =
          goes_on C g rest end (AfterValues no_values s from t σ) w [] r h cov σ ms (keeps_all false vars t σ) vals refl
      values_reach (value v vs) from t lo fits le at s σ w ms vals r h cov =
          let m = landing v from lo in
          let n = landing_of_all vs m (lo + nodes_of v) in
          let t2 = t + slots_of v in
          let parts = at_two g (value_blocks v from t lo) (values_blocks vs m t2 (lo + nodes_of v)) at in
          value_reaches v from t lo fits.1 le parts.0 s σ w ms vals h.0 h.1
          (then_covers C g rest end (λ x. Then (YieldsAll L D vs s) (λ xs. Gives (x ∷ xs))) (AfterValues (value v vs) s n t σ)
          (AfterValue v s m t σ) r (λ w1 x q σ1 ms1 keep1 vals1 x_is.
          values_reach vs m t2 (lo + nodes_of v) fits.2 (omega arith) parts.1 s σ1 w1 ms1 vals1 q.0 q.1
          (then_covers C g rest end (λ xs. Gives (x ∷ xs)) (AfterValues (value v vs) s n t σ) (AfterValues vs s n t2 σ1) r
          (λ w2 xs k σ2 ms2 keep2 vals2 xs_are.
          goes_on C g rest end (AfterValues (value v vs) s n t σ) w2 (x ∷ xs) r k cov σ2 ms2
          (keeps_on (makes_call v) (make_call vs) vars t t2 σ σ1 σ2 (omega arith) keep1 keep2) vals2
          (ap (λ z. z ∷ map σ2 (argument_slots vs t2))
          (argument_is t v σ2 fits.0 ∙ operand_kept P L (make_call vs) vars t v σ1 σ2 le fits.1 fits.3 keep2 ∙ x_is)
          ∙ ap (λ l. x ∷ l) xs_are)) q.0 q.2 cov)) h.0 h.2 cov)

      pub test_reaches : (c : Test) (from : ℕ) (met unmet : Target) (t lo : ℕ) → FitsTest P L vars c → vars ≤ t →
          At g (test_blocks c from met unmet t lo) → (s σ : State) (w : World) → Matches vars σ (Sees s w) → AreValues σ →
          (r : Progress Bool) → Decides L D c s w r → Cov (AfterTest (tests_call c) s met unmet t σ) r → Comes from σ w.inputs
      test_reaches (compare op v u) from met unmet t lo fits le at s σ w ms vals r h cov =
          let m = landing v from lo in
          let n = landing u m (lo + nodes_of v) in
          let a = operand_at v t in
          let b = operand_at u (t + slots_of v) in
          let calls = makes_call v || makes_call u in
          let parts = at_three g (value_blocks v from t lo) (value_blocks u m (t + slots_of v) (lo + nodes_of v))
          (record { node = n; edges = ways n met (rows_where op a b) ++ ways n unmet (rows_where (opposite_op op) a b) } ∷ []) at in
          pair_reaches v u from m n t fits.1 fits.3 le (value_reaches v from t lo fits.1 le parts.0)
          (value_reaches u m (t + slots_of v) (lo + nodes_of v) fits.2 (omega arith) parts.1)
          (λ x y. Gives (comparison op x y)) (AfterTest calls s met unmet t σ) s σ w ms vals r h cov
          (λ w2 x y σ2 ms2 keep vals2 x_is y_is k.
          compared_meets C g rest end n met unmet op a b σ2 w2.inputs parts.2.0 fits.0
          (subst (λ d. Met (cond d met unmet) σ2 w2.inputs)
          (sym (ap (λ z. comparison op z (operand_value σ2 b)) x_is ∙ ap (λ z. comparison op x z) y_is))
          (goes_on C g rest end (AfterTest calls s met unmet t σ) w2 (comparison op x y) r k cov σ2 ms2 keep vals2)))
      test_reaches (opposite c) from met unmet t lo fits le at s σ w ms vals r h cov =
          let calls = tests_call c in
          test_reaches c from unmet met t lo fits le at s σ w ms vals h.0 h.1
          (then_covers C g rest end (λ b. Gives (not b)) (AfterTest calls s met unmet t σ) (AfterTest calls s unmet met t σ) r
          (λ w1 b q σ1 ms1 keep1 vals1.
          opposite_met b met unmet σ1 w1.inputs
          (goes_on C g rest end (AfterTest calls s met unmet t σ) w1 (not b) r q cov σ1 ms1 keep1 vals1)) h.0 h.2 cov)
      test_reaches (both c d) from met unmet t lo fits le at s σ w ms vals r h cov =
          let t2 = t + slots_of_test c in
          let lo2 = lo + 1 + nodes_of_test c in
          let e = tests_call c in
          let f = tests_call d in
          let parts = at_two g (test_blocks c from (Node lo) unmet t (lo + 1)) (test_blocks d lo met unmet t2 lo2) at in
          test_reaches c from (Node lo) unmet t (lo + 1) fits.0 le parts.0 s σ w ms vals h.0 h.1
          (then_covers C g rest end (λ b. Choice b (Decides L D d s) (Gives false)) (AfterTest (e || f) s met unmet t σ)
          (AfterTest e s (Node lo) unmet t σ)
          r (λ w1 b q σ1 ms1 keep1 vals1.
          chosen b (Decides L D d s) (Gives false) w1 r (Node lo) unmet σ1 w1.inputs q
          (λ k. test_reaches d lo met unmet t2 lo2 fits.1 (omega arith) parts.1 s σ1 w1 ms1 vals1 r k
          (covers_on C g rest end (AfterTest (e || f) s met unmet t σ) (AfterTest f s met unmet t2 σ1)
          (λ w2 b2 more σ2 ms2 keep2 vals2. more σ2 ms2 (keeps_on e f vars t t2 σ σ1 σ2 (omega arith) keep1 keep2) vals2) r cov))
          (λ k. goes_on C g rest end (AfterTest (e || f) s met unmet t σ) w1 false r k cov σ1 ms1 (keeps_weak e f vars t σ σ1 keep1) vals1))
          h.0 h.2 cov)
      test_reaches (either c d) from met unmet t lo fits le at s σ w ms vals r h cov =
          let t2 = t + slots_of_test c in
          let lo2 = lo + 1 + nodes_of_test c in
          let e = tests_call c in
          let f = tests_call d in
          let parts = at_two g (test_blocks c from met (Node lo) t (lo + 1)) (test_blocks d lo met unmet t2 lo2) at in
          test_reaches c from met (Node lo) t (lo + 1) fits.0 le parts.0 s σ w ms vals h.0 h.1
          (then_covers C g rest end (λ b. Choice b (Gives true) (Decides L D d s)) (AfterTest (e || f) s met unmet t σ)
          (AfterTest e s met (Node lo) t σ) r
          (λ w1 b q σ1 ms1 keep1 vals1.
          chosen b (Gives true) (Decides L D d s) w1 r met (Node lo) σ1 w1.inputs q
          (λ k. goes_on C g rest end (AfterTest (e || f) s met unmet t σ) w1 true r k cov σ1 ms1 (keeps_weak e f vars t σ σ1 keep1) vals1)
          (λ k. test_reaches d lo met unmet t2 lo2 fits.1 (omega arith) parts.1 s σ1 w1 ms1 vals1 r k
          (covers_on C g rest end (AfterTest (e || f) s met unmet t σ) (AfterTest f s met unmet t2 σ1)
          (λ w2 b2 more σ2 ms2 keep2 vals2. more σ2 ms2 (keeps_on e f vars t t2 σ σ1 σ2 (omega arith) keep1 keep2) vals2) r cov))) h.0 h.2
          cov)

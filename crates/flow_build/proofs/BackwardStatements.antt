-- From an end of the graph to a result of the source: statements.
use Rattle.std.proofs.Common.{◌≡◌, ℕ, zero, suc, ◌+◌, ◌<◌, ◌≤◌, List, [], ◌∷◌, Bool, true, false, cond, Some, None, ℤ, pos, IsTrue, refl, sym, ap, ◌∙◌, subst, arith}
use Rattle.c_tree.specs.Syntax.{Expression, Statement, block, set, set_global, ignore, assume, assert, if_else, loop, do_while, break, continue, return, Statements, no_statements, statement, PureProgram}
use Rattle.c_tree.specs.Meaning.{State, with_slot, values_from, SetsGlobal, World, Progress, goes, ends, stopped as source_stopped, failed as source_failed, Flow, normal, broken, continued, returned, Relation, Gives, Ends, Onward, Then, Choice, is_value, is_zero, Callee, Eval, AfterNormal, AfterBody, Turns, DoTurns, Exec, Execs}
use Rattle.flow_graph.specs.declared.graph.Edge.{Edge}
use Rattle.flow_graph.specs.declared.graph.Edge.TheVariants.{Assign, Guard, Return}
use Rattle.flow_graph.specs.Runs.{End, came, inside, Called, EndsIn, lin_value}
use Rattle.flow_graph.specs.Columns.{AreValues}
use Rattle.flow_graph.proofs.Values.{values_with}
use Rattle.flow_build.specs.declared.layout.Layout.{Layout}
use Rattle.flow_build.specs.steps.Layouts.{variable_slot, global_slot, global_slots, seen}
use Rattle.flow_build.specs.declared.target.Target.{Target}
use Rattle.flow_build.specs.declared.target.Target.TheVariants.{Node, Fails, Nowhere}
use Rattle.flow_build.specs.steps.Translation.{value_of, test_of}
use Rattle.flow_build.specs.steps.Operands.{constant_lin, operand_lin}
use Rattle.flow_build.specs.steps.Blocks.{exit_node, return_node}
use Rattle.flow_build.specs.steps.Lowering.{operand_at, argument_slot, landing, value_blocks, test_blocks, between, nodes_between, nodes_of_test, result_of, nodes_of_statement, return_edge, statement_blocks, statements_blocks}
use Rattle.flow_build.proofs.FormMeaning.{Yields, Decides, makes_call, tests_call}
use Rattle.flow_build.proofs.Seen.{seen_set, seen_set_global}
use Rattle.flow_build.proofs.Translated.{IsPlain, RunsPlain, AllPlain, value_fits, test_fits, result_fits, result_in_slot, by_value, by_result, by_test}
use Rattle.flow_build.proofs.Outgoing.{out, At, at_left, at_right}
use Rattle.flow_build.proofs.Slots.{slot_there, Matches, matches_temp, matches_same, matches_with, globals_hold, operand_value, operand_is, operand_has, constant_is, argument_is}
use Rattle.flow_build.proofs.Coming.{Hears, Comes, then_comes, le_self, lt_le, Within, within, over_value, over_skip, over_return, Led}
use Rattle.flow_build.proofs.BackwardValues.{Behind, BehindTest, TestComes, value_comes, test_comes}

-- a number of turns that stands inside comes out
out_then : {A B : Type 0} (P : Relation A) (Q : ℕ → A → Relation B) (w : World) (o : Progress B) → Then P (λ v w1 o1. (n : ℕ) × Q n v w1 o1)
    w o → (n : ℕ) × Then P (Q n) w o
out_then {A} {B} P Q w o h = on h.0 h.1 h.2
  where
    on : (r : Progress A) → P w r → Onward (λ v w1 o1. (n : ℕ) × Q n v w1 o1) r o → (n : ℕ) × Then P (Q n) w o
    on (goes w1 v) p k = (k.0, (goes w1 v, p, k.1))
    on (ends w1 e) p k = (0, (ends w1 e, p, k))

out_choice : {A : Type 0} (b : Bool) (P : Relation A) (Q : ℕ → Relation A) (w : World) (o : Progress A) →
    Choice b P (λ w1 o1. (n : ℕ) × Q n w1 o1) w o → (n : ℕ) × Choice b P (Q n) w o
out_choice true P Q w o h = (0, h)
out_choice false P Q w o h = h

out_body : (f : Flow) (Q : ℕ → State → Relation Flow) (w : World) (o : Progress Flow) → AfterBody f (λ s w1 o1. (n : ℕ) × Q n s w1 o1) w o →
    (n : ℕ) × AfterBody f (Q n) w o
out_body (normal s) Q w o h = h
out_body (broken s) Q w o h = (0, h)
out_body (continued s) Q w o h = h
out_body (returned v) Q w o h = (0, h)

inside_then : {A B : Type 0} (P : Relation A) (Q R : A → Relation B) (w : World) (o : Progress B) →
    ((v : A) (w1 : World) → Q v w1 o → R v w1 o) → Then P Q w o → Then P R w o
inside_then {A} {B} P Q R w o f h = on h.0 h.1 h.2
  where
    on : (r : Progress A) → P w r → Onward Q r o → Then P R w o
    on (goes w1 v) p k = (goes w1 v, p, f v w1 k)
    on (ends w1 e) p k = (ends w1 e, p, k)

inside_choice : {A : Type 0} (b : Bool) (P Q R : Relation A) (w : World) (o : Progress A) → (Q w o → R w o) → Choice b P Q w o →
    Choice b P R w o
inside_choice true P Q R w o f h = h
inside_choice false P Q R w o f h = f h

inside_body : (f : Flow) (Q R : State → Relation Flow) (w : World) (o : Progress Flow) → ((s : State) → Q s w o → R s w o) →
    AfterBody f Q w o → AfterBody f R w o
inside_body (normal s) Q R w o f h = f s h
inside_body (broken s) Q R w o f h = h
inside_body (continued s) Q R w o f h = f s h
inside_body (returned v) Q R w o f h = h

module _ (D : Callee) (T : State → Relation ℤ) (S B : State → Relation Flow) where
  -- some number of turns
  abbrev Loops : State → Relation Flow
  Loops s w o = (n : ℕ) × Turns false D n T S B s w o

  abbrev Turn : (State → Relation Flow) → State → Relation Flow
  Turn L s = Then (T s)
      (λ v. Choice (is_zero v) (Gives (normal s)) (Then (B s) (λ f. AfterBody f (λ s1. Then (S s1) (λ g. AfterBody g L)))))

  -- one turn more
  loops_fold : (s : State) (w : World) (o : Progress Flow) → Turn Loops s w o → Loops s w o
  loops_fold s w o h =
      let a = out_then (T s) (λ n v. Choice (is_zero v) (Gives (normal s))
      (Then (B s) (λ f. AfterBody f (λ s1. Then (S s1) (λ g. AfterBody g (Turns false D n T S B)))))) w o
      (inside_then (T s) _ _ w o (λ v w1 k1. out_choice (is_zero v) _ _ w1 o (inside_choice (is_zero v) _ _ _ w1 o (λ k2.
      out_then (B s) (λ n f. AfterBody f (λ s1. Then (S s1) (λ g. AfterBody g (Turns false D n T S B)))) w1 o
      (inside_then (B s) _ _ w1 o (λ f w2 k3. out_body f _ w2 o (inside_body f _ _ w2 o (λ s1 k4.
      out_then (S s1) (λ n g. AfterBody g (Turns false D n T S B)) w2 o
      (inside_then (S s1) _ _ w2 o (λ g w3 k5. out_body g _ w3 o k5) k4)) k3)) k2)) k1)) h) in
      (suc a.0, a.1)

module _ (D : Callee) (T : State → Relation ℤ) (B : State → Relation Flow) where
  abbrev DoLoops : State → Relation Flow
  DoLoops s w o = (n : ℕ) × DoTurns false D n B T s w o

  abbrev TestAgain : (State → Relation Flow) → State → Relation Flow
  TestAgain L s = Then (T s) (λ v. Choice (is_zero v) (Gives (normal s)) (L s))

  abbrev DoTurn : (State → Relation Flow) → State → Relation Flow
  DoTurn L s = Then (B s) (λ f. AfterBody f (TestAgain L))

  do_loops_fold : (s : State) (w : World) (o : Progress Flow) → DoTurn DoLoops s w o → DoLoops s w o
  do_loops_fold s w o h =
      let a = out_then (B s) (λ n f. AfterBody f (TestAgain (DoTurns false D n B T))) w o
      (inside_then (B s) _ _ w o (λ f w1 k1. out_body f _ w1 o (inside_body f _ _ w1 o (λ s1 k2.
      out_then (T s1) (λ n v. Choice (is_zero v) (Gives (normal s1)) (DoTurns false D n B T s1)) w1 o
      (inside_then (T s1) _ _ w1 o (λ v w2 k3. out_choice (is_zero v) _ _ w2 o k3) k2)) k1)) h) in
      (suc a.0, a.1)

none_below : (k : ℕ) → k < 0 → ⊥
none_below k lt = omega arith

lt_self : (k : ℕ) → k < suc k
lt_self k = omega arith

le_by : (i j K : ℕ) → i ≤ j → j ≤ K → i ≤ K
le_by i j K a b = omega arith

le_under : (j k K : ℕ) → j < k → k ≤ K → j ≤ K
le_under j k K a b = omega arith

lt_bound : (i j k bound : ℕ) → i ≤ j → j < k → k < suc bound → i < bound
lt_bound i j k bound a b c = omega arith

lt_bound_do : (i j k bound : ℕ) → i < j → j ≤ k → k < suc bound → i < bound
lt_bound_do i j k bound a b c = omega arith

cond_same : {A : Type 0} (b : Bool) (x : A) → cond b x x ≡ x
cond_same true x = refl
cond_same false x = refl

-- Without a statement the first node is the one after it.
abbrev pub Begins : Statements → (from to : ℕ) → Type 0
Begins no_statements from to = from ≡ to
Begins (statement a ss) from to = Unit {0}

begins_between : (ss : Statements) (to lo : ℕ) → Begins ss (between ss to lo) to
begins_between no_statements to lo = refl
begins_between (statement a ss) to lo = tt

module _ (C : Called) (g : List Edge) (rest : List ℤ) (end : End) (gives : Bool) (P : PureProgram) (L : Layout) (slots : ℕ)
    (params_low : L.params ≤ slots) where
  -- how many slots the variables and the globals have
  abbrev vars : ℕ
  vars = slots + L.globals

  fit : L.params + L.globals ≤ vars
  fit = omega (arith, params_low)

  -- what the program's state is in a world
  abbrev pub Sees : State → World → State
  Sees s w = seen L s w.globals

  -- at the node, in a state of the source
  abbrev pub StandsAt : ℕ → ℕ → World → State → Type 0
  StandsAt K n w s = (σ : State) × Matches vars σ (Sees s w) × AreValues σ × Within C g rest end K (inside n σ) w.inputs

  abbrev pub BehindFlow : (K to brk con : ℕ) → World → Flow → Type 0
  BehindFlow K to brk con w (normal s) = StandsAt K to w s
  BehindFlow K to brk con w (broken s) = StandsAt K brk w s
  BehindFlow K to brk con w (continued s) = StandsAt K con w s
  BehindFlow K to brk con w (returned v) =
      (end ≡ came (cond gives v (pos 0) ∷ values_from w.globals 0 L.globals)) × (rest ≡ w.inputs)

  -- what is proved of statements
  abbrev pub RunComes : (State → Relation Flow) → (from to brk con : ℕ) → Type 0
  RunComes S from to brk con =
      (s σ : State) (w : World) → Matches vars σ (Sees s w) → AreValues σ → (K k : ℕ) → k ≤ K → EndsIn C g k (inside from σ) w.inputs rest
      end
      → Comes C g rest end (S s) w (BehindFlow K to brk con)

  wider : (j K n : ℕ) (w : World) (s : State) → j ≤ K → StandsAt j n w s → StandsAt K n w s
  wider j K n w s le b = (b.0, b.1, b.2, (b.3.0, le_by b.3.0 j K b.3.1 le, b.3.2))

  -- one after the other
  sequence_comes : (F S : State → Relation Flow) (from mid to brk con : ℕ) → RunComes F from mid brk con → RunComes S mid to brk con →
      RunComes (λ s. Then (F s) (λ f. AfterNormal f S)) from to brk con
  sequence_comes F S from mid to brk con first second s σ w m vals K k le h =
      then_comes C g rest end (F s) (λ f. AfterNormal f S) w (BehindFlow K mid brk con) (BehindFlow K to brk con)
      (first s σ w m vals K k le h)
      on
    where
      on : (w1 : World) (f : Flow) → BehindFlow K mid brk con w1 f → Comes C g rest end (AfterNormal f S) w1 (BehindFlow K to brk con)
      on w1 (normal s1) b = second s1 b.0 w1 b.1 b.2 K b.3.0 b.3.1 b.3.2
      on w1 (broken s1) b = (goes w1 (broken s1), refl, b)
      on w1 (continued s1) b = (goes w1 (continued s1), refl, b)
      on w1 (returned v) b = (goes w1 (returned v), refl, b)

  -- after a body whose Break leads to `to`, and whose Continue to where it leads itself
  after_body : (j K mid to brk con : ℕ) (Q : State → Relation Flow) (w : World) → j ≤ K →
      ((s : State) → StandsAt j mid w s → Comes C g rest end (Q s) w (BehindFlow K to brk con))
      → (f : Flow) → BehindFlow j mid to mid w f → Comes C g rest end (AfterBody f Q) w (BehindFlow K to brk con)
  after_body j K mid to brk con Q w le next (normal s) b = next s b
  after_body j K mid to brk con Q w le next (broken s) b = (goes w (normal s), refl, wider j K to w s le b)
  after_body j K mid to brk con Q w le next (continued s) b = next s b
  after_body j K mid to brk con Q w le next (returned v) b = (goes w (returned v), refl, b)

  module _ (D : Callee) (t : ℕ) (low : vars ≤ t) where
    -- what follows a test of the source
    decided_comes : (e : Expression) (from : ℕ) (met unmet : Target) (lo : ℕ) → IsPlain P L slots e →
        TestComes C g rest end P L vars fit D (test_of L e) from met unmet t lo
        → (F Q : Relation Flow) (G : World → Flow → Type 0) (s σ : State) (w : World) → Matches vars σ (Sees s w) → AreValues σ →
        (K k : ℕ) → k ≤ K → EndsIn C g k (inside from σ) w.inputs rest end
        → ((w1 : World) (σ1 : State) → Matches vars σ1 (Sees s w1) → AreValues σ1 → Led C g rest end K unmet σ1 w1.inputs →
        Comes C g rest end F w1 G)
        → ((w1 : World) (σ1 : State) → Matches vars σ1 (Sees s w1) → AreValues σ1 → Led C g rest end K met σ1 w1.inputs →
        Comes C g rest end Q w1 G)
        → Comes C g rest end (Then (Eval false D e s) (λ v. Choice (is_zero v) F Q)) w G
    decided_comes e from met unmet lo plain comes F Q G s σ w m vals K k le h otherwise then_so =
        let calls = tests_call (test_of L e) in
        let c = then_comes C g rest end (Decides L D (test_of L e) s) (λ b. Choice b Q F) w
        (BehindTest C g rest end P L vars fit calls s K met unmet t σ) G
        (comes s σ w m vals K k le h) on in
        (c.0, (by_test P L slots D e s F Q plain).back w c.0 c.1, c.2)
      where
        on : (w1 : World) (b : Bool) → BehindTest C g rest end P L vars fit (tests_call (test_of L e)) s K met unmet t σ w1 b →
            Comes C g rest end (Choice b Q F) w1 G
        on w1 true b = then_so w1 b.0 b.1 b.3 b.4
        on w1 false b = otherwise w1 b.0 b.1 b.3 b.4

    module _ (e : Expression) (plain : IsPlain P L slots e) (S B : State → Relation Flow) (to brk con : ℕ) where
      abbrev Looping : State → Relation Flow
      Looping = Loops D (Eval false D e) S B

      abbrev Stepping : State → Relation Flow
      Stepping s = Then (S s) (λ f. AfterBody f Looping)

      loop_comes : (bound from lo lo2 : ℕ) → TestComes C g rest end P L vars fit D (test_of L e) from (Node lo) (Node to) t lo2
          → RunComes B lo (lo + 1) to (lo + 1) → RunComes S (lo + 1) from to from
          → (s σ : State) (w : World) → Matches vars σ (Sees s w) → AreValues σ → (K k : ℕ) → k < bound → k ≤ K →
          EndsIn C g k (inside from σ)
          w.inputs rest end
          → Comes C g rest end (Looping s) w (BehindFlow K to brk con)
      loop_comes zero from lo lo2 test body step s σ w m vals K k lt le h = absurd (none_below k lt)
      loop_comes (suc bound) from lo lo2 test body step s σ w m vals K k lt le h =
          let c = decided_comes e from (Node lo) (Node to) lo2 plain test (Gives (normal s)) (Then (B s) (λ f. AfterBody f Stepping))
          (BehindFlow K to brk con) s σ w m vals k k (le_self k) h
          (λ w1 σ1 m1 vals1 led. (goes w1 (normal s), refl, (σ1, m1, vals1, (led.0, le_under led.0 k K led.1 le, led.2))))
          (λ w1 σ1 m1 vals1 led.
          let j = led.0 in
          let le1 = le_under j k K led.1 le in
          then_comes C g rest end (B s) (λ f. AfterBody f Stepping) w1 (BehindFlow j (lo + 1) to (lo + 1)) (BehindFlow K to brk con)
          (body s σ1 w1 m1 vals1 j j (le_self j) led.2)
          (λ w2 f. after_body j K (lo + 1) to brk con Stepping w2 le1 (λ s2 d2.
          then_comes C g rest end (S s2) (λ f. AfterBody f Looping) w2 (BehindFlow j from to from) (BehindFlow K to brk con)
          (step s2 d2.0 w2 d2.1 d2.2 j d2.3.0 d2.3.1 d2.3.2)
          (λ w3 f3. after_body j K from to brk con Looping w3 le1 (λ s3 d3.
          loop_comes bound from lo lo2 test body step s3 d3.0 w3 d3.1 d3.2 K d3.3.0 (lt_bound d3.3.0 j k bound d3.3.1 led.1 lt)
          (le_by d3.3.0 j K d3.3.1 le1) d3.3.2) f3)) f)) in
          (c.0, loops_fold D (Eval false D e) S B s w c.0 c.1, c.2)

    module _ (e : Expression) (plain : IsPlain P L slots e) (B : State → Relation Flow) (to brk con : ℕ) where
      abbrev DoLooping : State → Relation Flow
      DoLooping = DoLoops D (Eval false D e) B

      do_comes : (bound from lo lo2 : ℕ) → RunComes B from lo to lo → TestComes C g rest end P L vars fit D (test_of L e) lo (Node from)
          (Node to) t
          lo2
          → (s σ : State) (w : World) → Matches vars σ (Sees s w) → AreValues σ → (K k : ℕ) → k < bound → k ≤ K →
          EndsIn C g k (inside from σ)
          w.inputs rest end
          → Comes C g rest end (DoLooping s) w (BehindFlow K to brk con)
      do_comes zero from lo lo2 body test s σ w m vals K k lt le h = absurd (none_below k lt)
      do_comes (suc bound) from lo lo2 body test s σ w m vals K k lt le h =
          let again = TestAgain D (Eval false D e) B DoLooping in
          let c = then_comes C g rest end (B s) (λ f. AfterBody f again) w (BehindFlow k lo to lo) (BehindFlow K to brk con)
          (body s σ w m vals k k (le_self k) h)
          (λ w1 f. after_body k K lo to brk con again w1 le (λ s1 d1.
          let j = d1.3.0 in
          let le1 = le_by j k K d1.3.1 le in
          decided_comes e lo (Node from) (Node to) lo2 plain test (Gives (normal s1)) (DoLooping s1) (BehindFlow K to brk con) s1 d1.0 w1
          d1.1 d1.2 j j (le_self j) d1.3.2
          (λ w2 σ2 m2 vals2 led. (goes w2 (normal s1), refl, (σ2, m2, vals2, (led.0, le_under led.0 j K led.1 le1, led.2))))
          (λ w2 σ2 m2 vals2 led.
          do_comes bound from lo lo2 body test s1 σ2 w2 m2 vals2 K led.0 (lt_bound_do led.0 j k bound led.1 d1.3.1 lt)
          (le_under led.0 j K led.1 le1) led.2)) f) in
          (c.0, do_loops_fold D (Eval false D e) B s w c.0 c.1, c.2)

  module _ (D : Callee) (hears : Hears P L.globals C D) (t : ℕ) (low : vars ≤ t) (returning : out return_node g
      ≡ Return return_node exit_node (t ∷ global_slots L) ∷ []) where
    -- what the frame returns
    abbrev pub Came : ℤ → World → Type 0
    Came z w = (end ≡ came (z ∷ values_from w.globals 0 L.globals)) × (rest ≡ w.inputs)

    slots_returned : (k n slot : ℕ) (z : ℤ) (s σ : State) (w : World) → Matches vars σ (Sees s w) →
        out n g ≡ Return n exit_node (slot ∷ global_slots L) ∷ [] → σ slot ≡ z → EndsIn C g k (inside n σ) w.inputs rest end → Came z w
    slots_returned k n slot z s σ w m h is f =
        let r = over_return C g rest end k n (slot ∷ global_slots L) σ w.inputs h f in (
          r.0 ∙ ap (λ ys. came (σ slot ∷ ys)) (globals_hold L vars σ s w.globals fit m)
              ∙ ap (λ y. came (y ∷ values_from w.globals 0 L.globals)) is,
          r.1,
        )

    -- 0 is returned
    pub zero_returned : (k n : ℕ) (s σ : State) (w : World) → Matches vars σ (Sees s w) →
        out n g ≡ Assign n return_node t (constant_lin (pos 0)) ∷ [] →
        EndsIn C g k (inside n σ) w.inputs rest end → Came (pos 0) w
    zero_returned k n s σ w m h f =
        let z = lin_value σ (constant_lin (pos 0)) in
        let is : z ≡ pos 0 = constant_is σ (pos 0) in
        let b = over_value C g rest end k k n return_node t (constant_lin (pos 0)) σ w.inputs h
        (subst (λ y. IsTrue (is_value y)) (sym is) refl) (le_self k) f in
        slots_returned b.0 return_node t (pos 0) s (with_slot σ t z) w (matches_temp vars t z σ (Sees s w) low m) returning
        (slot_there σ t z ∙ is) b.2

    over_result : (b : Bool) (k n slot : ℕ) (z : ℤ) (s σ : State) (w : World) → Matches vars σ (Sees s w) →
        out n g ≡ return_edge L b n slot t ∷ [] → σ slot ≡ z → EndsIn C g k (inside n σ) w.inputs rest end → Came (cond b z (pos 0)) w
    over_result true k n slot z s σ w m h is f = slots_returned k n slot z s σ w m h is f
    over_result false k n slot z s σ w m h is f = zero_returned k n s σ w m h f

    tested : (e : Expression) (from : ℕ) (met unmet : Target) (lo : ℕ) → IsPlain P L slots e →
        At g (test_blocks (test_of L e) from met unmet t lo) →
        TestComes C g rest end P L vars fit D (test_of L e) from met unmet t lo
    tested e from met unmet lo plain at = test_comes C g rest end P L vars fit D hears (test_of L e) from met unmet t lo
        (test_fits P L slots params_low e plain) low at

    set_comes : (x : ℕ) (e : Expression) (from to brk con lo : ℕ) → IsPlain P L slots e →
        At g (statement_blocks L gives t (set x e) from to brk con lo) → RunComes (Exec false D (set x e)) from to brk con
    set_comes x e from to brk con lo plain at s σ w m vals K k le h =
        let v = value_of L e in
        let n = landing v from lo in
        let a = operand_at v t in
        let fits = value_fits P L slots params_low e plain in
        let node = at_right g (value_blocks v from t lo) _ at in
        let c = then_comes C g rest end (Yields L D v s) (λ z. Gives (normal (with_slot s x z))) w
        (Behind C g rest end P L vars fit (makes_call v) s K n a t σ) (BehindFlow K to brk con)
        (value_comes C g rest end P L vars fit D hears v from t lo fits low (at_left g (value_blocks v from t lo) _ at) s σ w m vals K k le
        h)
        (λ w1 z b.
        let σ1 = b.0 in
        let y = lin_value σ1 (operand_lin a) in
        let is : y ≡ operand_value σ1 a = operand_is σ1 a in
        let ok = subst (λ u. IsTrue (is_value u)) (sym is) (operand_has P L vars t v σ1 fits b.3) in
        let σ2 = with_slot σ1 (variable_slot L x) y in (
          goes (w1) (normal (with_slot s x z)),
          refl,
          (
            σ2,
            matches_same vars σ2 (with_slot (Sees s w1) (variable_slot L x) z) (Sees (with_slot s x z) w1)
                (λ u. sym (seen_set L s w1.globals x z u))
                (matches_with vars (variable_slot L x) z y σ1 (Sees s w1) (is ∙ b.4) b.1),
            values_with σ1 (variable_slot L x) y b.3 ok,
            within C g rest end K (inside to σ2) w1.inputs (over_value C g rest end K b.5.0 n to (variable_slot L x) (operand_lin a) σ1
                w1.inputs node.0 ok b.5.1 b.5.2),
          ),
        )) in
        (c.0, (by_value P L slots D e s (λ z. Gives (normal (with_slot s x z))) plain).back w c.0 c.1, c.2)

    set_global_comes : (y : ℕ) (e : Expression) (from to brk con lo : ℕ) → IsPlain P L slots e → (y < L.globals) →
        At g (statement_blocks L gives t (set_global y e) from to brk con lo) → RunComes (Exec false D (set_global y e)) from to brk con
    set_global_comes y e from to brk con lo plain there at s σ w m vals K k le h =
        let v = value_of L e in
        let n = landing v from lo in
        let a = operand_at v t in
        let fits = value_fits P L slots params_low e plain in
        let node = at_right g (value_blocks v from t lo) _ at in
        let c = then_comes C g rest end (Yields L D v s) (λ z. SetsGlobal y z s) w
        (Behind C g rest end P L vars fit (makes_call v) s K n a t σ) (BehindFlow K to brk con)
        (value_comes C g rest end P L vars fit D hears v from t lo fits low (at_left g (value_blocks v from t lo) _ at) s σ w m vals K k le
        h)
        (λ w1 z b.
        let σ1 = b.0 in
        let q = lin_value σ1 (operand_lin a) in
        let is : q ≡ operand_value σ1 a = operand_is σ1 a in
        let ok = subst (λ u. IsTrue (is_value u)) (sym is) (operand_has P L vars t v σ1 fits b.3) in
        let σ2 = with_slot σ1 (global_slot L y) q in (
          goes (record w1 { globals = with_slot w1.globals y z }) (normal s),
          refl,
          (
            σ2,
            matches_same vars σ2 (with_slot (Sees s w1) (global_slot L y) z) (seen L s (with_slot w1.globals y z))
                (λ u. sym (seen_set_global L s w1.globals y z there u))
                (matches_with vars (global_slot L y) z q σ1 (Sees s w1) (is ∙ b.4) b.1),
            values_with σ1 (global_slot L y) q b.3 ok,
            within C g rest end K (inside to σ2) w1.inputs (over_value C g rest end K b.5.0 n to (global_slot L y) (operand_lin a) σ1
                w1.inputs node.0 ok b.5.1 b.5.2),
          ),
        )) in
        (c.0, (by_value P L slots D e s (λ z. SetsGlobal y z s) plain).back w c.0 c.1, c.2)

    ignore_comes : (e : Expression) (from to brk con lo : ℕ) → IsPlain P L slots e →
        At g (statement_blocks L gives t (ignore e) from to brk con lo) →
        RunComes (Exec false D (ignore e)) from to brk con
    ignore_comes e from to brk con lo plain at s σ w m vals K k le h =
        let v = value_of L e in
        let n = landing v from lo in
        let node = at_right g (value_blocks v from t lo) _ at in
        let c = then_comes C g rest end (Yields L D v s) (λ z. Gives (normal s)) w
        (Behind C g rest end P L vars fit (makes_call v) s K n (operand_at v t) t σ)
        (BehindFlow K to brk con)
        (value_comes C g rest end P L vars fit D hears v from t lo (value_fits P L slots params_low e plain) low
        (at_left g (value_blocks v from t lo) _ at) s σ w m vals K k le h)
        (λ w1 z b. (
          goes w1 (normal s),
          refl,
          (
            b.0,
            b.1,
            b.3,
            within C g rest end K (inside to b.0) w1.inputs
                (over_skip C g rest end K b.5.0 n to b.0 w1.inputs node.0 b.5.1 b.5.2),
          ),
        )) in
        (c.0, (by_value P L slots D e s (λ z. Gives (normal s)) plain).back w c.0 c.1, c.2)

    assume_comes : (e : Expression) (from to brk con lo : ℕ) → IsPlain P L slots e →
        At g (statement_blocks L gives t (assume e) from to brk con lo) →
        RunComes (Exec false D (assume e)) from to brk con
    assume_comes e from to brk con lo plain at s σ w m vals K k le h =
        decided_comes D t low e from (Node to) Nowhere lo plain (tested e from (Node to) Nowhere lo plain at) (Ends source_stopped)
        (Gives (normal s)) (BehindFlow K to brk con) s σ w m vals K k le h
        (λ w1 σ1 m1 vals1 led. (ends w1 source_stopped, refl, led))
        (λ w1 σ1 m1 vals1 led. (goes w1 (normal s), refl, (σ1, m1, vals1, within C g rest end K (inside to σ1) w1.inputs led)))

    assert_comes : (id : ℕ) (e : Expression) (from to brk con lo : ℕ) → IsPlain P L slots e →
        At g (statement_blocks L gives t (assert id e) from to brk con lo) → RunComes (Exec false D (assert id e)) from to brk con
    assert_comes id e from to brk con lo plain at s σ w m vals K k le h =
        decided_comes D t low e from (Node to) (Fails id) lo plain (tested e from (Node to) (Fails id) lo plain at)
        (Ends (source_failed id))
        (Gives (normal s)) (BehindFlow K to brk con) s σ w m vals K k le h
        (λ w1 σ1 m1 vals1 led. (ends w1 (source_failed id), refl, led))
        (λ w1 σ1 m1 vals1 led. (goes w1 (normal s), refl, (σ1, m1, vals1, within C g rest end K (inside to σ1) w1.inputs led)))

    branches_come : (e : Expression) (F Q : State → Relation Flow) (from one other lo to brk con : ℕ) → IsPlain P L slots e →
        TestComes C g rest end P L vars fit D (test_of L e) from (Node one) (Node other) t lo → RunComes F one to brk con →
        RunComes Q other to brk con
        → RunComes (λ s. Then (Eval false D e s) (λ v. Choice (is_zero v) (Q s) (F s))) from to brk con
    branches_come e F Q from one other lo to brk con plain test first second s σ w m vals K k le h =
        decided_comes D t low e from (Node one) (Node other) lo plain test (Q s) (F s) (BehindFlow K to brk con) s σ w m vals K k le h
        (λ w1 σ1 m1 vals1 led. second s σ1 w1 m1 vals1 K led.0 (lt_le led.0 K led.1) led.2)
        (λ w1 σ1 m1 vals1 led. first s σ1 w1 m1 vals1 K led.0 (lt_le led.0 K led.1) led.2)

    return_comes : (e : Expression) (from to brk con lo : ℕ) → IsPlain P L slots e →
        At g (statement_blocks L gives t (return (Some e)) from to brk con lo) → RunComes (Exec false D (return (Some e))) from to brk con
    return_comes e from to brk con lo plain at s σ w m vals K k le h =
        let v = result_of L e in
        let n = landing v from lo in
        let slot = argument_slot v t in
        let node = at_right g (value_blocks v from t lo) _ at in
        let c = then_comes C g rest end (Yields L D v s) (λ z. Gives (returned z)) w
        (Behind C g rest end P L vars fit (makes_call v) s K n (operand_at v t) t σ)
        (BehindFlow K to brk con)
        (value_comes C g rest end P L vars fit D hears v from t lo (result_fits P L slots params_low e plain) low
        (at_left g (value_blocks v from t lo) _ at) s σ w m vals K k le h)
        (λ w1 z b.
        let is : b.0 slot ≡ z = argument_is t v b.0 (result_in_slot P L slots e) ∙ b.4 in
        (goes w1 (returned z), refl, over_result gives b.5.0 n slot z s b.0 w1 b.1 node.0 is b.5.2)) in
        (c.0, (by_result P L slots D e s (λ z. Gives (returned z)) plain).back w c.0 c.1, c.2)

    skip_stands : (K k from n : ℕ) (s σ : State) (w : World) → out from g ≡ Guard from n (record { atoms = [] }) ∷ [] →
        Matches vars σ (Sees s w) →
        AreValues σ → k ≤ K → EndsIn C g k (inside from σ) w.inputs rest end → StandsAt K n w s
    skip_stands K k from n s σ w h m vals le f = (
      σ,
      m,
      vals,
      within C g rest end K (inside n σ) w.inputs
          (over_skip C g rest end K k from n σ w.inputs h le f),
    )

    mutual
      pub exec_comes : (a : Statement) (from to brk con lo : ℕ) → RunsPlain P L slots a →
          At g (statement_blocks L gives t a from to brk con lo) →
          RunComes (Exec false D a) from to brk con
      exec_comes (block no_statements) from to brk con lo plain at s σ w m vals K k le h = (
        goes w (normal s),
        refl,
        skip_stands K k from to s σ w at.0 m vals le h,
      )
      exec_comes (block (statement a ss)) from to brk con lo plain at s σ w m vals K k le h =
          let n = between ss to lo in
          let l = lo + nodes_between ss in
          let blocks = statement_blocks L gives t a from n brk con l in
          sequence_comes (Exec false D a) (Execs false D ss) from n to brk con
          (exec_comes a from n brk con l plain.0 (at_left g blocks _ at))
          (execs_come ss n to brk con (l + nodes_of_statement L a) (begins_between ss to lo) plain.1 (at_right g blocks _ at)) s σ w m vals
          K
          k le h
      exec_comes (set x e) from to brk con lo plain at s σ w m vals K k le h = set_comes x e from to brk con lo plain.1 at s σ w m vals K k
          le h
      exec_comes (set_global y e) from to brk con lo plain at s σ w m vals K k le h =
          set_global_comes y e from to brk con lo plain.1 plain.0 at s σ w m vals K k le h
      exec_comes (ignore e) from to brk con lo plain at s σ w m vals K k le h = ignore_comes e from to brk con lo plain at s σ w m vals K k
          le h
      exec_comes (assume e) from to brk con lo plain at s σ w m vals K k le h = assume_comes e from to brk con lo plain at s σ w m vals K k
          le h
      exec_comes (assert id e) from to brk con lo plain at s σ w m vals K k le h = assert_comes id e from to brk con lo plain at s σ w m
          vals K k le h
      exec_comes (if_else e a b) from to brk con lo plain at s σ w m vals K k le h =
          let i = lo + 2 + nodes_of_test (test_of L e) in
          let test = test_blocks (test_of L e) from (Node lo) (Node (lo + 1)) t (lo + 2) in
          let blocks = statement_blocks L gives t a lo to brk con i in
          let behind = at_right g test _ at in
          branches_come e (Exec false D a) (Exec false D b) from lo (lo + 1) (lo + 2) to brk con plain.0
          (tested e from (Node lo) (Node (lo + 1)) (lo + 2) plain.0 (at_left g test _ at))
          (exec_comes a lo to brk con i plain.1 (at_left g blocks _ behind)) (exec_comes b (lo + 1) to brk con (i + nodes_of_statement L a)
          plain.2 (at_right g blocks _ behind)) s σ w m vals K k le h
      exec_comes (loop e step body) from to brk con lo plain at s σ w m vals K k le h =
          let i = lo + 2 + nodes_of_test (test_of L e) in
          let test = test_blocks (test_of L e) from (Node lo) (Node to) t (lo + 2) in
          let blocks = statement_blocks L gives t body lo (lo + 1) to (lo + 1) i in
          let behind = at_right g test _ at in
          loop_comes D t low e plain.0 (Exec false D step) (Exec false D body) to brk con (suc k) from lo (lo + 2)
          (tested e from (Node lo) (Node to) (lo + 2) plain.0 (at_left g test _ at))
          (exec_comes body lo (lo + 1) to (lo + 1) i plain.2 (at_left g blocks _ behind))
          (exec_comes step (lo + 1) from to from (i + nodes_of_statement L body) plain.1 (at_right g blocks _ behind)) s σ w m vals K k
          (lt_self k) le h
      exec_comes (do_while body e) from to brk con lo plain at s σ w m vals K k le h =
          let i = lo + 1 + nodes_of_statement L body in
          let blocks = statement_blocks L gives t body from lo to lo (lo + 1) in
          do_comes D t low e plain.1 (Exec false D body) to brk con (suc k) from lo i (exec_comes body from lo to lo (lo + 1) plain.0
          (at_left g blocks _ at))
          (tested e lo (Node from) (Node to) i plain.1 (at_right g blocks _ at)) s σ w m vals K k (lt_self k) le h
      exec_comes break from to brk con lo plain at s σ w m vals K k le h = (
        goes w (broken s),
        refl,
        skip_stands K k from brk s σ w at.0 m
            vals le h,
      )
      exec_comes continue from to brk con lo plain at s σ w m vals K k le h = (
        goes w (continued s),
        refl,
        skip_stands K k from con s σ w
            at.0 m vals le h,
      )
      exec_comes (return None) from to brk con lo plain at s σ w m vals K k le h = (
        goes w (returned (pos 0)),
        refl,
        subst (λ z. Came z w) (sym (cond_same gives (pos 0))) (zero_returned k from s σ w m at.0 h),
      )
      exec_comes (return (Some e)) from to brk con lo plain at s σ w m vals K k le h = return_comes e from to brk con lo plain at s σ w m
          vals K k le h

      pub execs_come : (ss : Statements) (from to brk con lo : ℕ) → Begins ss from to → AllPlain P L slots ss →
          At g (statements_blocks L gives t ss from to brk con lo) → RunComes (Execs false D ss) from to brk con
      execs_come no_statements from to brk con lo begins plain at s σ w m vals K k le h =
          (goes w (normal s), refl, (σ, m, vals, (k, le, subst (λ n. EndsIn C g k (inside n σ) w.inputs rest end) begins h)))
      execs_come (statement a ss) from to brk con lo begins plain at s σ w m vals K k le h =
          let n = between ss to lo in
          let l = lo + nodes_between ss in
          let blocks = statement_blocks L gives t a from n brk con l in
          sequence_comes (Exec false D a) (Execs false D ss) from n to brk con
          (exec_comes a from n brk con l plain.0 (at_left g blocks _ at))
          (execs_come ss n to brk con (l + nodes_of_statement L a) (begins_between ss to lo) plain.1 (at_right g blocks _ at)) s σ w m vals
          K
          k le h

-- From the end of the source's step to an end of the graph: statements.
use Rattle.std.proofs.Common.{◌≡◌, ℕ, zero, suc, ◌+◌, ◌≤◌, List, [], ◌∷◌, ◌++◌, length, map, ap, Bool, true, false, cond, Some, None, ℤ, pos, IsTrue, refl, sym, ◌∙◌, subst, arith}
use Rattle.c_tree.specs.Syntax.{Expression, Statement, block, set, set_global, ignore, assume, assert, if_else, loop, do_while, break, continue, return, Statements, no_statements, statement, PureProgram}
use Rattle.c_tree.specs.Meaning.{State, with_slot, values_from, SetsGlobal, World, Progress, ends, Ending, stopped as source_stopped, failed as source_failed, Flow, normal, broken, continued, returned, Relation, Gives, Ends, Then, Choice, is_value, is_zero, Callee, Eval, AfterNormal, AfterBody, Turns, DoTurns, Exec, Execs}
use Rattle.flow_graph.specs.declared.graph.Edge.{Edge}
use Rattle.flow_graph.specs.declared.graph.Edge.TheVariants.{Assign, Guard, Return}
use Rattle.flow_graph.specs.Runs.{lin_value, End, came, inside, Called}
use Rattle.flow_graph.specs.Columns.{AreValues, AreAllValues}
use Rattle.flow_graph.proofs.Values.{values_with}
use Rattle.flow_build.specs.declared.layout.Layout.{Layout}
use Rattle.flow_build.specs.steps.Layouts.{variable_slot, global_slot, global_slots, seen}
use Rattle.flow_build.specs.declared.target.Target.{Target}
use Rattle.flow_build.specs.declared.target.Target.TheVariants.{Node, Fails, Nowhere}
use Rattle.flow_build.specs.steps.Translation.{value_of, test_of}
use Rattle.flow_build.specs.steps.Operands.{constant_lin, operand_lin}
use Rattle.flow_build.specs.steps.Blocks.{one, exit_node, return_node}
use Rattle.flow_build.specs.steps.Lowering.{operand_at, landing, nodes_of_test, argument_slot, value_blocks, test_blocks, between, nodes_between, result_of, nodes_of_statement, return_edge, statement_blocks, statements_blocks}
use Rattle.flow_build.proofs.Translated.{IsPlain, RunsPlain, AllPlain, value_fits, result_fits, result_in_slot, test_fits, by_test, by_value, by_result}
use Rattle.flow_build.proofs.Outgoing.{out, At}
use Rattle.flow_build.proofs.Seen.{seen_set, seen_set_global}
use Rattle.flow_build.proofs.FormMeaning.{tests_call, IsCallable}
use Rattle.flow_build.proofs.Slots.{slot_there, Matches, matches_temp, matches_same, matches_with, globals_hold, operand_is, operand_has, constant_is, argument_is}
use Rattle.flow_build.proofs.Reaching.{Told, Reach, Covers, then_covers, goes_on, Meets, passed, assigned, returns}
use Rattle.flow_build.proofs.ForwardValues.{at_two, at_three, chosen, AfterValue, AfterTest, value_reaches, test_reaches}

either_zero : (b : Bool) → cond b (pos 0) (pos 0) ≡ pos 0
either_zero true = refl
either_zero false = refl

-- the slots from t on are free, and the node that returns stands in the graph
module _ (C : Called) (g : List Edge) (rest : List ℤ) (end : End) (P : PureProgram) (L : Layout) (slots : ℕ) (low : L.params ≤ slots)
    (at_return : out return_node g ≡ Return return_node exit_node ((slots + L.globals) ∷ global_slots L) ∷ []) where
  -- the first free slot
  abbrev t : ℕ
  t = slots + L.globals

  fit : L.params + L.globals ≤ t
  fit = omega (arith, low)

  -- what the program's state is in a world
  abbrev pub Sees : State → World → State
  Sees s w = seen L s w.globals

  abbrev Cov : {A : Type 0} → (World → A → Type 0) → Progress A → Type 0
  Cov K r = Covers C g rest end K r

  abbrev Comes : ℕ → State → List ℤ → Type 0
  Comes n σ ins = Reach C g rest end (inside n σ) ins

  abbrev Met : Target → State → List ℤ → Type 0
  Met target σ ins = Meets C g rest end target σ ins

  -- the frame returns this, and the globals
  abbrev pub Came : ℤ → World → Type 0
  Came z w = (end ≡ came (z ∷ values_from w.globals 0 L.globals)) × (rest ≡ w.inputs)

  abbrev pub Here : ℕ → World → State → Type 0
  Here n w s = (σ : State) → Matches t σ (Sees s w) → AreValues σ → Comes n σ w.inputs

  ended : {A : Type 0} (K : World → A → Type 0) (w : World) (e : Ending) (r : Progress A) → r ≡ ends w e → Cov K r → Cov K (ends w e)
  ended K w e r h cov = subst (Cov K) h cov

  -- a slot and the globals' slots
  pub slots_return : (n slot : ℕ) (z : ℤ) (s σ : State) (w : World) → Matches t σ (Sees s w) →
      out n g ≡ Return n exit_node (slot ∷ global_slots L) ∷ [] → σ slot ≡ z → Came z w → Comes n σ w.inputs
  slots_return n slot z s σ w ms h e c =
      returns C g rest end n (slot ∷ global_slots L) (z ∷ values_from w.globals 0 L.globals) σ w.inputs h
      (ap (λ y. y ∷ map σ (global_slots L)) e ∙ ap (λ ys. z ∷ ys) (globals_hold L t σ s w.globals fit ms)) c

  pub zero_returned : (n : ℕ) (s σ : State) (w : World) → Matches t σ (Sees s w) →
      out n g ≡ Assign n return_node t (constant_lin (pos 0)) ∷ [] → Came (pos 0) w → Comes n σ w.inputs
  zero_returned n s σ w ms h c =
      let l = constant_lin (pos 0) in
      let z = lin_value σ l in
      let is : z ≡ pos 0 = constant_is σ (pos 0) in
      let ok : IsTrue (is_value z) = subst (λ y. IsTrue (is_value y)) (sym is) refl in
      assigned C g rest end n return_node t l σ w.inputs h ok
      (slots_return return_node t (pos 0) s (with_slot σ t z) w (matches_temp t t z σ (Sees s w) (omega arith) ms) at_return
      (slot_there σ t z ∙ is) c)

  return_after : (b : Bool) (n slot : ℕ) (z : ℤ) (s σ : State) (w : World) → Matches t σ (Sees s w) →
      out n g ≡ return_edge L b n slot t ∷ [] → σ slot ≡ z → Came (cond b z (pos 0)) w → Comes n σ w.inputs
  return_after true n slot z s σ w ms h e c = slots_return n slot z s σ w ms h e c
  return_after false n slot z s σ w ms h e c = zero_returned n s σ w ms h c

  module _ (gives : Bool) where
    -- what follows a statement
    abbrev pub AfterFlow : ℕ → ℕ → ℕ → World → Flow → Type 0
    AfterFlow to brk con w (normal s) = Here to w s
    AfterFlow to brk con w (broken s) = Here brk w s
    AfterFlow to brk con w (continued s) = Here con w s
    AfterFlow to brk con w (returned v) = Came (cond gives v (pos 0)) w

    next_covers : (to brk con lo : ℕ) (Q : State → Relation Flow) (w : World) (r : Progress Flow) → ((s : State) → Q s w r → Here lo w s) →
        Cov (AfterFlow to brk con) r → (f : Flow) → AfterNormal f Q w r → AfterFlow lo brk con w f
    next_covers to brk con lo Q w r on cov (normal s) h = on s h
    next_covers to brk con lo Q w r on cov (broken s) h = goes_on C g rest end (AfterFlow to brk con) w (broken s) r h cov
    next_covers to brk con lo Q w r on cov (continued s) h = goes_on C g rest end (AfterFlow to brk con) w (continued s) r h cov
    next_covers to brk con lo Q w r on cov (returned v) h = goes_on C g rest end (AfterFlow to brk con) w (returned v) r h cov

    body_covers : (to brk con next : ℕ) (Q : State → Relation Flow) (w : World) (r : Progress Flow) →
        ((s : State) → Q s w r → Here next w s) →
        Cov (AfterFlow to brk con) r → (f : Flow) → AfterBody f Q w r → AfterFlow next to next w f
    body_covers to brk con next Q w r on cov (normal s) h = on s h
    body_covers to brk con next Q w r on cov (broken s) h = goes_on C g rest end (AfterFlow to brk con) w (normal s) r h cov
    body_covers to brk con next Q w r on cov (continued s) h = on s h
    body_covers to brk con next Q w r on cov (returned v) h = goes_on C g rest end (AfterFlow to brk con) w (returned v) r h cov

    -- a statement's part of the graph
    abbrev pub Forth : (State → Relation Flow) → ℕ → ℕ → ℕ → ℕ → Type 0
    Forth S from to brk con =
        (s σ : State) (w : World) → Matches t σ (Sees s w) → AreValues σ → (r : Progress Flow) → S s w r → Cov (AfterFlow to brk con) r →
        Comes from σ w.inputs

    -- a condition's part: P follows where it's 0, and Q elsewhere
    abbrev pub TestForth : (State → Relation ℤ) → ℕ → Target → Target → Type 1
    TestForth T from met unmet =
        (F Q : Relation Flow) (K : World → Flow → Type 0) (s σ : State) (w : World) → Matches t σ (Sees s w) → AreValues σ →
        (r : Progress Flow) →
        Then (T s) (λ v. Choice (is_zero v) F Q) w r → Cov K r
        → ((w' : World) (σ' : State) → Matches t σ' (Sees s w') → AreValues σ' → Q w' r → Met met σ' w'.inputs)
        → ((w' : World) (σ' : State) → Matches t σ' (Sees s w') → AreValues σ' → F w' r → Met unmet σ' w'.inputs) → Comes from σ w.inputs

    module _ (D : Callee) (told : (p : ℕ) (args : List ℤ) (w : World) (r : Progress ℤ) → IsCallable P p (length args) →
        AreAllValues (args ++ values_from w.globals 0 L.globals) → D p args w r →
        Told L.globals (C p (args ++ values_from w.globals 0 L.globals) w.inputs) r) where
      abbrev Next : ℕ → (State → Relation ℤ) → (S B : State → Relation Flow) → State → Relation Flow
      Next n T S B s = Then (B s) (λ f. AfterBody f (λ s1. Then (S s1) (λ g. AfterBody g (Turns false D n T S B))))

      loop_reaches : (n from to brk con lo : ℕ) (T : State → Relation ℤ) (S B : State → Relation Flow) → TestForth T from (Node lo)
          (Node to) →
          Forth B lo (lo + 1) to (lo + 1) → Forth S (lo + 1) from to from → Forth (Turns false D n T S B) from to brk con
      loop_reaches zero from to brk con lo T S B tf bf sf s σ w ms vals r h cov = absurd h
      loop_reaches (suc n) from to brk con lo T S B tf bf sf s σ w ms vals r h cov =
          tf (Gives (normal s)) (Next n T S B s) (AfterFlow to brk con) s σ w ms vals r h cov
          (λ w1 σ1 m1 vals1 q1.
          bf s σ1 w1 m1 vals1 q1.0 q1.1
          (then_covers C g rest end (λ f. AfterBody f (λ s1. Then (S s1) (λ g. AfterBody g (Turns false D n T S B)))) (AfterFlow to brk con)
          (AfterFlow (lo + 1) to (lo + 1)) r
          (λ w2 f. body_covers to brk con (lo + 1) (λ s1. Then (S s1) (λ g. AfterBody g (Turns false D n T S B))) w2 r (λ s2 q2 σ2 m2 vals2.
          sf s2 σ2 w2 m2 vals2 q2.0 q2.1
          (then_covers C g rest end (λ g. AfterBody g (Turns false D n T S B)) (AfterFlow to brk con) (AfterFlow from to from) r
          (λ w3 f3. body_covers to brk con from (Turns false D n T S B) w3 r (λ s3 q3 σ3 m3 vals3.
          loop_reaches n from to brk con lo T S B tf bf sf s3 σ3 w3 m3 vals3 r q3 cov) cov f3) q2.0 q2.2 cov)) cov f) q1.0 q1.2 cov))
          (λ w1 σ1 m1 vals1 q1. goes_on C g rest end (AfterFlow to brk con) w1 (normal s) r q1 cov σ1 m1 vals1)

      do_reaches : (n from to brk con lo : ℕ) (B : State → Relation Flow) (T : State → Relation ℤ) → Forth B from lo to lo →
          TestForth T lo (Node from) (Node to) → Forth (DoTurns false D n B T) from to brk con
      do_reaches zero from to brk con lo B T bf tf s σ w ms vals r h cov = absurd h
      do_reaches (suc n) from to brk con lo B T bf tf s σ w ms vals r h cov =
          bf s σ w ms vals h.0 h.1
          (then_covers C g rest end
          (λ f. AfterBody f (λ s1. Then (T s1) (λ v. Choice (is_zero v) (Gives (normal s1)) (DoTurns false D n B T s1))))
          (AfterFlow to brk con) (AfterFlow lo to lo) r
          (λ w1 f. body_covers to brk con lo (λ s1. Then (T s1) (λ v. Choice (is_zero v) (Gives (normal s1)) (DoTurns false D n B T s1))) w1
          r (λ s1 q1 σ1 m1 vals1.
          tf (Gives (normal s1)) (DoTurns false D n B T s1) (AfterFlow to brk con) s1 σ1 w1 m1 vals1 r q1 cov
          (λ w2 σ2 m2 vals2 q2. do_reaches n from to brk con lo B T bf tf s1 σ2 w2 m2 vals2 r q2 cov)
          (λ w2 σ2 m2 vals2 q2. goes_on C g rest end (AfterFlow to brk con) w2 (normal s1) r q2 cov σ2 m2 vals2)) cov f) h.0 h.2 cov)

      pub condition_reaches : (e : Expression) (from : ℕ) (met unmet : Target) (lo : ℕ) → IsPlain P L slots e →
          At g (test_blocks (test_of L e) from met unmet t lo) → TestForth (Eval false D e) from met unmet
      condition_reaches e from met unmet lo plain at F Q K s σ w ms vals r h cov yes_case no_case =
          let h' = (by_test P L slots D e s F Q plain).there w r h in
          test_reaches C g rest end P L D told t fit (test_of L e) from met unmet t lo (test_fits P L slots low e plain) (omega arith) at s
          σ w
          ms vals h'.0 h'.1
          (then_covers C g rest end (λ b. Choice b Q F) K
          (AfterTest C g rest end P L D told t fit (tests_call (test_of L e)) s met unmet t σ) r (λ w1 b q σ1 m1 keep1 vals1.
          chosen C g rest end b Q F w1 r met unmet σ1 w1.inputs q (yes_case w1 σ1 m1 vals1) (no_case w1 σ1 m1 vals1)) h'.0 h'.2 cov)

      mutual
        pub exec_reaches : (a : Statement) (from to brk con lo : ℕ) → RunsPlain P L slots a →
            At g (statement_blocks L gives t a from to brk con lo) →
            Forth (Exec false D a) from to brk con
        exec_reaches (block no_statements) from to brk con lo plain at s σ w ms vals r h cov =
            passed C g rest end from to σ w.inputs at.0 (goes_on C g rest end (AfterFlow to brk con) w (normal s) r h cov σ ms vals)
        exec_reaches (block (statement a ss)) from to brk con lo plain at s σ w ms vals r h cov =
            execs_reach (statement a ss) from to brk con lo plain at s σ w ms vals r h cov
        exec_reaches (set x e) from to brk con lo plain at s σ w ms vals r h cov =
            let v = value_of L e in
            let n = landing v from lo in
            let a = operand_at v t in
            let l = operand_lin a in
            let fits = value_fits P L slots low e plain.1 in
            let h' = (by_value P L slots D e s (λ z. Gives (normal (with_slot s x z))) plain.1).there w r h in
            let parts = at_two g (value_blocks v from t lo) (one n (Assign n to (variable_slot L x) l) ∷ []) at in
            value_reaches C g rest end P L D told t fit v from t lo fits (omega arith) parts.0 s σ w ms vals h'.0 h'.1
            (then_covers C g rest end (λ z. Gives (normal (with_slot s x z))) (AfterFlow to brk con)
            (AfterValue C g rest end P L D told t fit v s n t σ)
            r (λ w1 z q σ1 m1 keep1 vals1 z_is.
            let ok = subst (λ y. IsTrue (is_value y)) (sym (operand_is σ1 a)) (operand_has P L t t v σ1 fits vals1) in
            let σ2 = with_slot σ1 (variable_slot L x) (lin_value σ1 l) in
            assigned C g rest end n to (variable_slot L x) l σ1 w1.inputs parts.1.0 ok
            (goes_on C g rest end (AfterFlow to brk con) w1 (normal (with_slot s x z)) r q cov σ2
            (matches_same t σ2 (with_slot (Sees s w1) (variable_slot L x) z) (Sees (with_slot s x z) w1)
            (λ y. sym (seen_set L s w1.globals x z y))
            (matches_with t (variable_slot L x) z (lin_value σ1 l) σ1 (Sees s w1) (operand_is σ1 a ∙ z_is) m1))
            (values_with σ1 (variable_slot L x) (lin_value σ1 l) vals1 ok))) h'.0 h'.2 cov)
        exec_reaches (set_global y e) from to brk con lo plain at s σ w ms vals r h cov =
            let v = value_of L e in
            let n = landing v from lo in
            let a = operand_at v t in
            let l = operand_lin a in
            let fits = value_fits P L slots low e plain.1 in
            let h' = (by_value P L slots D e s (λ z. SetsGlobal y z s) plain.1).there w r h in
            let parts = at_two g (value_blocks v from t lo) (one n (Assign n to (global_slot L y) l) ∷ []) at in
            value_reaches C g rest end P L D told t fit v from t lo fits (omega arith) parts.0 s σ w ms vals h'.0 h'.1
            (then_covers C g rest end (λ z. SetsGlobal y z s) (AfterFlow to brk con)
            (AfterValue C g rest end P L D told t fit v s n t σ)
            r (λ w1 z q σ1 m1 keep1 vals1 z_is.
            let ok = subst (λ y. IsTrue (is_value y)) (sym (operand_is σ1 a)) (operand_has P L t t v σ1 fits vals1) in
            let σ2 = with_slot σ1 (global_slot L y) (lin_value σ1 l) in
            assigned C g rest end n to (global_slot L y) l σ1 w1.inputs parts.1.0 ok
            (goes_on C g rest end (AfterFlow to brk con) (record w1 { globals = with_slot w1.globals y z }) (normal s) r q cov σ2
            (matches_same t σ2 (with_slot (Sees s w1) (global_slot L y) z) (seen L s (with_slot w1.globals y z))
            (λ u. sym (seen_set_global L s w1.globals y z plain.0 u))
            (matches_with t (global_slot L y) z (lin_value σ1 l) σ1 (Sees s w1) (operand_is σ1 a ∙ z_is) m1))
            (values_with σ1 (global_slot L y) (lin_value σ1 l) vals1 ok))) h'.0 h'.2 cov)
        exec_reaches (ignore e) from to brk con lo plain at s σ w ms vals r h cov =
            let v = value_of L e in
            let n = landing v from lo in
            let h' = (by_value P L slots D e s (λ z. Gives (normal s)) plain).there w r h in
            let parts = at_two g (value_blocks v from t lo) (one n (Guard n to (record { atoms = [] })) ∷ []) at in
            value_reaches C g rest end P L D told t fit v from t lo (value_fits P L slots low e plain) (omega arith) parts.0 s σ w ms vals
            h'.0 h'.1
            (then_covers C g rest end (λ z. Gives (normal s)) (AfterFlow to brk con) (AfterValue C g rest end P L D told t fit v s n t σ) r
            (λ w1 z q σ1 m1 keep1 vals1 z_is.
            passed C g rest end n to σ1 w1.inputs parts.1.0 (goes_on C g rest end (AfterFlow to brk con) w1 (normal s) r q cov σ1
            m1 vals1)) h'.0 h'.2 cov)
        exec_reaches (assume e) from to brk con lo plain at s σ w ms vals r h cov =
            condition_reaches e from (Node to) Nowhere lo plain at (Ends source_stopped) (Gives (normal s)) (AfterFlow to brk con) s σ w
            ms vals r h cov
            (λ w1 σ1 m1 vals1 q. goes_on C g rest end (AfterFlow to brk con) w1 (normal s) r q cov σ1 m1 vals1)
            (λ w1 σ1 m1 vals1 q. ended (AfterFlow to brk con) w1 source_stopped r q cov)
        exec_reaches (assert id e) from to brk con lo plain at s σ w ms vals r h cov =
            condition_reaches e from (Node to) (Fails id) lo plain at (Ends (source_failed id)) (Gives (normal s)) (AfterFlow to brk con) s
            σ w ms vals r h cov
            (λ w1 σ1 m1 vals1 q. goes_on C g rest end (AfterFlow to brk con) w1 (normal s) r q cov σ1 m1 vals1)
            (λ w1 σ1 m1 vals1 q. ended (AfterFlow to brk con) w1 (source_failed id) r q cov)
        exec_reaches (if_else e a b) from to brk con lo plain at s σ w ms vals r h cov =
            let i = lo + 2 + nodes_of_test (test_of L e) in
            let j = i + nodes_of_statement L a in
            let parts = at_three g (test_blocks (test_of L e) from (Node lo) (Node (lo + 1)) t (lo + 2))
            (statement_blocks L gives t a lo to brk con i) (statement_blocks L gives t b (lo + 1) to brk con j) at in
            condition_reaches e from (Node lo) (Node (lo + 1)) (lo + 2) plain.0 parts.0 (Exec false D b s) (Exec false D a s)
            (AfterFlow to brk con) s σ w ms vals r h cov
            (λ w1 σ1 m1 vals1 q. exec_reaches a lo to brk con i plain.1 parts.1 s σ1 w1 m1 vals1 r q cov)
            (λ w1 σ1 m1 vals1 q. exec_reaches b (lo + 1) to brk con j plain.2 parts.2 s σ1 w1 m1 vals1 r q cov)
        exec_reaches (loop e step body) from to brk con lo plain at s σ w ms vals r h cov =
            let i = lo + 2 + nodes_of_test (test_of L e) in
            let j = i + nodes_of_statement L body in
            let parts = at_three g (test_blocks (test_of L e) from (Node lo) (Node to) t (lo + 2))
            (statement_blocks L gives t body lo (lo + 1) to (lo + 1) i) (statement_blocks L gives t step (lo + 1) from to from j) at in
            loop_reaches h.0 from to brk con lo (Eval false D e) (Exec false D step) (Exec false D body)
            (condition_reaches e from (Node lo) (Node to) (lo + 2) plain.0 parts.0)
            (exec_reaches body lo (lo + 1) to (lo + 1) i plain.2 parts.1)
            (exec_reaches step (lo + 1) from to from j plain.1 parts.2)
            s σ w ms vals r h.1 cov
        exec_reaches (do_while body e) from to brk con lo plain at s σ w ms vals r h cov =
            let i = lo + 1 + nodes_of_statement L body in
            let parts = at_two g (statement_blocks L gives t body from lo to lo (lo + 1))
            (test_blocks (test_of L e) lo (Node from) (Node to) t
            i)
            at in
            do_reaches h.0 from to brk con lo (Exec false D body) (Eval false D e)
            (exec_reaches body from lo to lo (lo + 1) plain.0 parts.0)
            (condition_reaches e lo (Node from) (Node to) i plain.1 parts.1)
            s σ w ms vals r h.1 cov
        exec_reaches break from to brk con lo plain at s σ w ms vals r h cov =
            passed C g rest end from brk σ w.inputs at.0 (goes_on C g rest end (AfterFlow to brk con) w (broken s) r h cov σ ms vals)
        exec_reaches continue from to brk con lo plain at s σ w ms vals r h cov =
            passed C g rest end from con σ w.inputs at.0 (goes_on C g rest end (AfterFlow to brk con) w (continued s) r h cov σ ms vals)
        exec_reaches (return None) from to brk con lo plain at s σ w ms vals r h cov =
            zero_returned from s σ w ms at.0 (subst (λ z. Came z w) (either_zero gives)
            (goes_on C g rest end (AfterFlow to brk con) w (returned (pos 0)) r h cov))
        exec_reaches (return (Some e)) from to brk con lo plain at s σ w ms vals r h cov =
            let v = result_of L e in
            let n = landing v from lo in
            let h' = (by_result P L slots D e s (λ z. Gives (returned z)) plain).there w r h in
            let parts = at_two g (value_blocks v from t lo) (one n (return_edge L gives n (argument_slot v t) t) ∷ []) at in
            value_reaches C g rest end P L D told t fit v from t lo (result_fits P L slots low e plain) (omega arith) parts.0 s σ w ms vals
            h'.0 h'.1
            (then_covers C g rest end (λ z. Gives (returned z)) (AfterFlow to brk con) (AfterValue C g rest end P L D told t fit v s n t σ)
            r
            (λ w1 z q σ1 m1 keep1 vals1 z_is.
            return_after gives n (argument_slot v t) z s σ1 w1 m1 parts.1.0 (argument_is t v σ1 (result_in_slot P L slots e) ∙ z_is)
            (goes_on C g rest end (AfterFlow to brk con) w1 (returned z) r q cov)) h'.0 h'.2 cov)

        -- from the node before the statements: without one it is `to` itself
        pub execs_reach : (ss : Statements) (from to brk con lo : ℕ) → AllPlain P L slots ss →
            At g (statements_blocks L gives t ss (between ss to from) to brk con lo) → Forth (Execs false D ss) (between ss to from) to brk
            con
        execs_reach no_statements from to brk con lo plain at s σ w ms vals r h cov =
            goes_on C g rest end (AfterFlow to brk con) w (normal s) r h cov σ ms vals
        execs_reach (statement a ss) from to brk con lo plain at s σ w ms vals r h cov =
            let m = between ss to lo in
            let l = lo + nodes_between ss in
            let parts = at_two g (statement_blocks L gives t a from m brk con l)
            (statements_blocks L gives t ss m to brk con (l + nodes_of_statement L a)) at in
            exec_reaches a from m brk con l plain.0 parts.0 s σ w ms vals h.0 h.1
            (then_covers C g rest end (λ f. AfterNormal f (Execs false D ss)) (AfterFlow to brk con) (AfterFlow m brk con) r
            (λ w1 f. next_covers to brk con m (Execs false D ss) w1 r (λ s1 q σ1 m1 vals1.
            execs_reach ss lo to brk con (l + nodes_of_statement L a) plain.1 parts.1 s1 σ1 w1 m1 vals1 r q cov) cov f) h.0 h.2 cov)

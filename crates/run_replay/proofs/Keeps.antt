-- Each result of a machine after a step is one before it.
use Rattle.std.proofs.Common.{int_div, ◌≡◌, ℕ, zero, suc, ◌+◌, ◌-◌, ◌<◌, ◌≤◌, List, [], ◌∷◌, ◌++◌, length, take, drop, get_or, Bool, true, false, cond, ◌==◌, ◌&&◌, not as not_bool, Option, Some, None, ℤ, pos, neg_ℤ, IsTrue, refl, sym, ap, ◌∙◌, subst, arith, append_assoc, append-nil}
use Rattle.std.proofs.lemmas.Bool.{eqb-true}
use Rattle.std.specs.Prelude.{nat_lt, if◌then◌else◌}
use Rattle.std.proofs.Math.Seq.{drop-cons}
use Rattle.std.proofs.lemmas.List.{drop_all}
use Rattle.std.proofs.lemmas.Bool.{ltb-true, ltb-false}
use Rattle.std.proofs.Common.{add-one}
use Rattle.std.proofs.Math.Dec.{eqb-suc-zero, eqb-zero-suc, eqb-suc-suc}
use Rattle.std.proofs.Math.Seq.{take-append_seam, drop-append_seam}
use Rattle.std.proofs.lemmas.List.{length-append, length-take-le, take-append-drop}
use Rattle.c_tree.proofs.Deep.{any_enters}
use Rattle.c_tree.specs.WellFormed.{count, takes, is_well_scoped, are_well_scoped}
use Rattle.run_replay.specs.steps.Results.{arity}
use Rattle.run_replay.specs.steps.Machine.{enters_procedure}
use Rattle.std.specs.Prelude.{slice_get, ◌+ℤ◌, ◌-ℤ◌, ◌*ℤ◌}
use Rattle.std.proofs.Math.Path.{fun_ext}
use Rattle.c_tree.specs.declared.tree.Op.{Op}
use Rattle.c_tree.specs.declared.tree.Op.TheVariants.{Add, Subtract, Multiply, Divide, Remainder, Less, LessEqual, Greater, GreaterEqual, Equal, Unequal, And, Or}
use Rattle.c_tree.specs.Syntax.{Expression, literal, read, read_global, input, call, negate, not, binary, Expressions, no_expressions, expression, Statement, block, set, set_global, ignore, assume, assert, if_else, loop, do_while, break, continue, return, Statements, no_statements, statement, PureProcedure, PureProgram}
use Rattle.c_tree.specs.Operators.{exact}
use Rattle.c_tree.specs.Meaning.{State, with_slot, World, Progress, goes, ends, Flow, normal, broken, continued, returned, stopped, failed, starved, spent, Relation, Gives, Ends, Then, Counted, Choice, is_value, has_quotient, ReadsGlobal, SetsGlobal, ExactOrStopped, is_zero, bit, decided, Applied, RightSide, TakesInput, AfterNormal, AfterBody, UnlessZero, Eval, Evals, Exec, Execs, Returns, entered, returned_value, Enters, Comes, Starved, Fuel, Stopped, Failed}
use Rattle.run_replay.specs.steps.Machine.{Waiting, to_negate, to_invert, left_of, right_of, next_argument, to_set, to_set_global, to_ignore, to_assume, to_assert, to_return, to_choose, to_test, to_test_again, rest_of, body_of, step_of, turn_of, back_to, Exit, normally, by_break, by_continue, by_return, Control, begins, gives_value, runs, leaves, over, Snapshot, Moment, world, with_wait, counted, stored, applied, value_or_stop, enters, goes_through, begun, turned, ran, decides, given, valued, goes_on, after_normal, loop_exit, after_body, value_of, back, left, past_rests, without_rests, reached, exited, stepped}
use Rattle.run_replay.specs.steps.Results.{flow_of, AnyRun, Loops, LoopsAgain, AfterStep, AfterTurn, AfterTest, AfterTestAgain, TestsAgain, Resume, Leave, Results}
use Rattle.run_replay.specs.steps.Standing.{IsSound, TakesValue, TakesExit, TakesValues, StepsOnValues, Stands, HasParameters}
use Rattle.run_replay.proofs.Reached.{reached_takes}
use Rattle.run_replay.proofs.Relations.{then_assoc, then_gives, then_first, inside_then, loops_fold, loops_again_fold}

cond_is : {A : Type 0} (b c : Bool) (x y : A) → b ≡ c → cond c x y ≡ cond b x y
cond_is b c x y e = ap (λ z. cond z x y) (sym e)

-- a frame after a write has the value in its slot, and the others as before
stored_at : (l : List ℤ) (x : ℕ) (v : ℤ) (y : ℕ) → entered (stored l x v) y ≡ with_slot (entered l) x v y
stored_at [] zero v zero = refl
stored_at [] zero v (suc y) = cond_is (suc y == 0) false v (pos 0) (eqb-suc-zero y)
stored_at [] (suc x) v zero = cond_is (0 == suc x) false v (pos 0) (eqb-zero-suc x)
stored_at [] (suc x) v (suc y) = stored_at [] x v y ∙ cond_is (suc y == suc x) (y == x) v (pos 0) (eqb-suc-suc y x)
stored_at (z ∷ zs) zero v zero = refl
stored_at (z ∷ zs) zero v (suc y) = cond_is (suc y == 0) false v (get_or zs y (pos 0)) (eqb-suc-zero y)
stored_at (z ∷ zs) (suc x) v zero = cond_is (0 == suc x) false v z (eqb-zero-suc x)
stored_at (z ∷ zs) (suc x) v (suc y) = stored_at zs x v y ∙ cond_is (suc y == suc x) (y == x) v (get_or zs y (pos 0)) (eqb-suc-suc y x)

pub stored_is : (l : List ℤ) (x : ℕ) (v : ℤ) → entered (stored l x v) ≡ with_slot (entered l) x v
stored_is l x v = fun_ext (stored_at l x v)

pub and_left : (a b : Bool) → IsTrue (a && b) → IsTrue a
and_left true b h = refl
and_left false b h = cc

pub and_right : (a b : Bool) → IsTrue (a && b) → IsTrue b
and_right true b h = h
and_right false b h = cc

taken : (f : Option PureProcedure) (n : ℕ) → IsTrue (takes f n) → (q : PureProcedure) × (f ≡ Some q) × (q.params ≡ n)
taken None n h = cc
taken (Some q) n h = (q, refl, eqb-true q.params n h)

-- a call that is sound names a procedure with as many parameters
pub called : (P : PureProgram) (slots p : ℕ) (es : Expressions) → IsTrue (is_well_scoped P slots (call p es)) → (q : PureProcedure)
    × (slice_get P.procedures p ≡ Some q) × (q.params ≡ count es)
called P slots p es h =
    taken (slice_get P.procedures p) (count es) (and_left _ (not_bool (p == P.main)) (and_left _ (are_well_scoped P slots es) h))

pub still_takes : (e : Expression) (m : Snapshot) (n : ℕ) → TakesValues e m → TakesValues e (record m { steps_left = n })
still_takes (literal x) m n h = h
still_takes (read x) m n h = h
still_takes (read_global x) m n h = h
still_takes input m n h = h
still_takes (call p es) m n h = h
still_takes (negate e) m n h = h
still_takes (not e) m n h = h
still_takes (binary op a b) m n h = h

pub took : (e : Expression) (m : Snapshot) (n : ℕ) → TakesValues e (record m { steps_left = n }) → TakesValues e m
took (literal x) m n h = h
took (read x) m n h = h
took (read_global x) m n h = h
took input m n h = h
took (call p es) m n h = h
took (negate e) m n h = h
took (not e) m n h = h
took (binary op a b) m n h = h

module _ (P : PureProgram) where
  abbrev ResultsOf : Moment → Progress ℤ → Type 0
  ResultsOf r o = Results P r.0 r.1 (world r.1) o

  abbrev Leaving : Snapshot → Flow → Relation ℤ
  Leaving m = Leave P m.waits m.arguments m.under

  abbrev Resuming : Snapshot → State → ℤ → Relation ℤ
  Resuming m s = Resume P m.waits m.arguments m.under s

  counted_at : {A : Type 0} (Q : Relation A) (R : A → Relation ℤ) (F : Snapshot → Moment) (m : Snapshot) (l : ℕ) (o : Progress ℤ) →
      (0 < l → ResultsOf (F (record m { steps_left = l - 1 })) o →
      Then Q R (record { inputs = drop m.used m.inputs; globals = entered m.globals; steps_left = l - 1 })
      o) →
      ResultsOf (counted (record m { steps_left = l }) F) o →
      Then (Counted true Q) R (record { inputs = drop m.used m.inputs; globals = entered m.globals; steps_left = l })
      o
  counted_at Q R F m zero o f h = (
    ends (record { inputs = drop m.used m.inputs; globals = entered m.globals; steps_left = 0 }) spent,
    refl,
    h,
  )
  counted_at Q R F m (suc n) o f h =
      let e : suc n - 1 ≡ n = omega arith in
      let g = subst (λ b. ResultsOf (cond b (over Fuel, record m { steps_left = suc n }) (F (record m { steps_left = suc n - 1 }))) o)
      (eqb-suc-zero n) h in
      subst (λ k. Then Q R (record { inputs = drop m.used m.inputs; globals = entered m.globals; steps_left = k }) o) e (f (omega arith) g)

  -- where a step is counted
  pub counted_keeps : {A : Type 0} (Q : Relation A) (R : A → Relation ℤ) (F : Snapshot → Moment) (m : Snapshot) (o : Progress ℤ) →
      (0 < m.steps_left → ResultsOf (F (record m { steps_left = m.steps_left - 1 })) o →
      Then Q R (record { inputs = drop m.used m.inputs; globals = entered m.globals; steps_left = m.steps_left - 1 }) o) →
      ResultsOf (counted m F) o →
      Then (Counted true Q) R (world m) o
  counted_keeps Q R F m o f h = counted_at Q R F m m.steps_left o f h

  choice_stop : (b : Bool) (z : ℤ) (m : Snapshot) (o : Progress ℤ) → ResultsOf (value_or_stop (if b then Some z else None), m) o →
      Then (Choice b (Gives z) (Ends stopped)) (Resuming m (entered m.frame)) (world m) o
  choice_stop true z m o h = (goes (world m) z, refl, h)
  choice_stop false z m o h = (ends (world m) stopped, refl, h)

  divided_keeps : (b : Bool) (u : Option ℤ) (Q : Relation ℤ) (m : Snapshot) (o : Progress ℤ) →
      (ResultsOf (value_or_stop u, m) o → Then Q (Resuming m (entered m.frame)) (world m) o) →
      ResultsOf (value_or_stop (cond b u None), m) o → Then (Choice b Q (Ends stopped)) (Resuming m (entered m.frame)) (world m) o
  divided_keeps true u Q m o f h = f h
  divided_keeps false u Q m o f h = (ends (world m) stopped, refl, h)

  applied_keeps : (op : Op) (x y : ℤ) (m : Snapshot) (o : Progress ℤ) → ResultsOf (value_or_stop (applied op x y), m) o →
      Then (Applied op x y) (Resuming m (entered m.frame)) (world m) o
  applied_keeps Add x y m o h = choice_stop (is_value (x +ℤ y)) (x +ℤ y) m o h
  applied_keeps Subtract x y m o h = choice_stop (is_value (x -ℤ y)) (x -ℤ y) m o h
  applied_keeps Multiply x y m o h = choice_stop (is_value (x *ℤ y)) (x *ℤ y) m o h
  applied_keeps Divide x y m o h = divided_keeps (has_quotient x y) (exact (int_div x y)) (ExactOrStopped (int_div x y)) m o
      (choice_stop (is_value (int_div x y)) (int_div x y) m o) h
  applied_keeps Remainder x y m o h = divided_keeps (has_quotient x y) (Some (x -ℤ y *ℤ int_div x y)) (Gives (x -ℤ y *ℤ int_div x y)) m o
      (λ k. (goes (world m) _, refl, k)) h
  applied_keeps Less x y m o h = (goes (world m) _, refl, h)
  applied_keeps LessEqual x y m o h = (goes (world m) _, refl, h)
  applied_keeps Greater x y m o h = (goes (world m) _, refl, h)
  applied_keeps GreaterEqual x y m o h = (goes (world m) _, refl, h)
  applied_keeps Equal x y m o h = (goes (world m) _, refl, h)
  applied_keeps Unequal x y m o h = (goes (world m) _, refl, h)
  applied_keeps And x y m o h = (goes (world m) _, refl, h)
  applied_keeps Or x y m o h = (goes (world m) _, refl, h)

  decides_keeps : (d : Option ℤ) (op : Op) (v : ℤ) (b : Expression) (m : Snapshot) (o : Progress ℤ) → ResultsOf (decides d op v b m) o →
      Then (RightSide d (Applied op v) (Eval true (AnyRun P) b (entered m.frame))) (Resuming m (entered m.frame)) (world m) o
  decides_keeps (Some u) op v b m o h = (goes (world m) u, refl, h)
  decides_keeps None op v b m o h =
      then_assoc (Eval true (AnyRun P) b (entered m.frame)) (Applied op v) (Resuming m (entered m.frame)) (world m) o h

  assume_keeps : (z : Bool) (m : Snapshot) (o : Progress ℤ) → ResultsOf (cond z (over (Comes Stopped)) (leaves normally), m) o →
      Then (Choice z (Ends stopped) (Gives (normal (entered m.frame)))) (Leaving m) (world m) o
  assume_keeps true m o h = (ends (world m) stopped, refl, h)
  assume_keeps false m o h = (goes (world m) _, refl, h)

  assert_keeps : (z : Bool) (id : ℕ) (m : Snapshot) (o : Progress ℤ) → ResultsOf (cond z (over (Comes (Failed id))) (leaves normally), m)
      o →
      Then (Choice z (Ends (failed id)) (Gives (normal (entered m.frame)))) (Leaving m) (world m) o
  assert_keeps true id m o h = (ends (world m) (failed id), refl, h)
  assert_keeps false id m o h = (goes (world m) _, refl, h)

  choose_keeps : (z : Bool) (a b : Statement) (m : Snapshot) (o : Progress ℤ) → ResultsOf (runs (cond z b a), m) o →
      Then (Choice z (Exec true (AnyRun P) b (entered m.frame)) (Exec true (AnyRun P) a (entered m.frame))) (Leaving m) (world m) o
  choose_keeps true a b m o h = h
  choose_keeps false a b m o h = h

  test_keeps : (z : Bool) (t : Expression) (a b : Statement) (m : Snapshot) (o : Progress ℤ) →
      ResultsOf (cond z (leaves normally, m) (runs b, with_wait (body_of t a b) m)) o →
      Then (Choice z (Gives (normal (entered m.frame))) (Then (Exec true (AnyRun P) b (entered m.frame)) (AfterTurn P t a b))) (Leaving m)
      (world m) o
  test_keeps true t a b m o h = (goes (world m) _, refl, h)
  test_keeps false t a b m o h =
      then_assoc (Exec true (AnyRun P) b (entered m.frame)) (AfterTurn P t a b) (Leaving m) (world m) o h

  -- a loop that tests after its body begins its body
  pub again_keeps : (b : Statement) (t : Expression) (m : Snapshot) (o : Progress ℤ) → ResultsOf (runs b, with_wait (turn_of b t) m) o →
      Then (LoopsAgain P b t (entered m.frame)) (Leaving m) (world m) o
  again_keeps b t m o h =
      then_first (Then (Exec true (AnyRun P) b (entered m.frame)) (λ f. AfterBody f (TestsAgain P b t)))
      (LoopsAgain P b t (entered m.frame))
      (Leaving m) (world m) o
      (λ r k. loops_again_fold (AnyRun P) (Exec true (AnyRun P) b) (Eval true (AnyRun P) t) (entered m.frame) (world m) r k)
      (then_assoc (Exec true (AnyRun P) b (entered m.frame)) (λ f. AfterBody f (TestsAgain P b t)) (Leaving m) (world m) o h)

  test_again_keeps : (z : Bool) (b : Statement) (t : Expression) (m : Snapshot) (o : Progress ℤ) →
      ResultsOf (cond z (leaves normally, m) (runs b, with_wait (turn_of b t) m)) o →
      Then (Choice z (Gives (normal (entered m.frame))) (LoopsAgain P b t (entered m.frame))) (Leaving m) (world m) o
  test_again_keeps true b t m o h = (goes (world m) _, refl, h)
  test_again_keeps false b t m o h = again_keeps b t m o h

  -- a loop begins its test
  pub turned_keeps : (t : Expression) (a b : Statement) (m : Snapshot) (o : Progress ℤ) → ResultsOf (turned t a b m) o →
      Then (Loops P t a b (entered m.frame)) (Leaving m) (world m) o
  turned_keeps t a b m o h =
      then_first (Counted true (Then (Eval true (AnyRun P) t (entered m.frame)) (AfterTest P t a b (entered m.frame))))
      (Loops P t a b (entered m.frame)) (Leaving m) (world m) o
      (λ r k. loops_fold (AnyRun P) (Eval true (AnyRun P) t) (Exec true (AnyRun P) a) (Exec true (AnyRun P) b) (entered m.frame) (world m) r
      k)
      (counted_keeps (Then (Eval true (AnyRun P) t (entered m.frame)) (AfterTest P t a b (entered m.frame))) (Leaving m)
      (λ n. (begins t, with_wait (to_test t a b) n)) m o
      (λ p k. then_assoc (Eval true (AnyRun P) t (entered m.frame)) (AfterTest P t a b (entered m.frame)) (Leaving m) _ o k) h)

  -- a block of which nothing is left ends as its last statement
  nothing_left : (f : Flow) (m : Snapshot) (w : World) (o : Progress ℤ) → Leaving m f w o →
      Then (AfterNormal f (Execs true (AnyRun P) no_statements)) (Leaving m) w o
  nothing_left (normal s) m w o h = (goes w (normal s), refl, h)
  nothing_left (broken s) m w o h = (goes w (broken s), refl, h)
  nothing_left (continued s) m w o h = (goes w (continued s), refl, h)
  nothing_left (returned v) m w o h = (goes w (returned v), refl, h)

  goes_on_keeps : (ss : Statements) (m : Snapshot) (o : Progress ℤ) → ResultsOf (goes_on ss m) o →
      Then (Execs true (AnyRun P) ss (entered m.frame)) (Leaving m) (world m) o
  goes_on_keeps no_statements m o h = (goes (world m) _, refl, h)
  goes_on_keeps (statement a no_statements) m o h =
      then_assoc (Exec true (AnyRun P) a (entered m.frame)) (λ f. AfterNormal f (Execs true (AnyRun P) no_statements)) (Leaving m) (world m)
      o
      (inside_then (Exec true (AnyRun P) a (entered m.frame)) (Leaving m) (λ f. Then (AfterNormal f (Execs true (AnyRun P) no_statements))
      (Leaving m)) (world m) o (λ f w1 k. nothing_left f m w1 o k) h)
  goes_on_keeps (statement a (statement b rest)) m o h =
      let ss = statement b rest in
      then_assoc (Exec true (AnyRun P) a (entered m.frame)) (λ f. AfterNormal f (Execs true (AnyRun P) ss)) (Leaving m) (world m) o h

  rest_keeps : (f : Exit) (ss : Statements) (m : Snapshot) (o : Progress ℤ) → ResultsOf (after_normal f (goes_on ss) m) o →
      Then (AfterNormal (flow_of f (entered m.frame)) (Execs true (AnyRun P) ss)) (Leaving m) (world m) o
  rest_keeps normally ss m o h = goes_on_keeps ss m o h
  rest_keeps by_break ss m o h = (goes (world m) _, refl, h)
  rest_keeps by_continue ss m o h = (goes (world m) _, refl, h)
  rest_keeps (by_return v) ss m o h = (goes (world m) _, refl, h)

  after_body_keeps : (f : Exit) (Q : State → Relation Flow) (F : Snapshot → Moment) (m : Snapshot) (o : Progress ℤ) →
      (ResultsOf (F m) o → Then (Q (entered m.frame)) (Leaving m) (world m) o) → ResultsOf (after_body (loop_exit f) F m) o →
      Then (AfterBody (flow_of f (entered m.frame)) Q) (Leaving m) (world m) o
  after_body_keeps normally Q F m o f h = f h
  after_body_keeps by_break Q F m o f h = (goes (world m) _, refl, h)
  after_body_keeps by_continue Q F m o f h = f h
  after_body_keeps (by_return v) Q F m o f h = (goes (world m) _, refl, h)

  back_keeps : (f : Exit) (gives : Bool) (s : State) (m : Snapshot) (o : Progress ℤ) →
      ResultsOf (gives_value (cond gives (value_of f) (pos 0)), m) o → Resuming m (entered m.frame) (returned_value gives (flow_of f s))
      (world m) o
  back_keeps normally true s m o h = h
  back_keeps normally false s m o h = h
  back_keeps by_break true s m o h = h
  back_keeps by_break false s m o h = h
  back_keeps by_continue true s m o h = h
  back_keeps by_continue false s m o h = h
  back_keeps (by_return v) gives s m o h = h

  -- what waited sees a statement end
  left_keeps : (f : Exit) (x : Waiting) (m : Snapshot) (o : Progress ℤ) → TakesExit P (x ∷ m.waits) → ResultsOf (left f x m) o →
      Leave P (x ∷ m.waits) m.arguments m.under (flow_of f (entered m.frame)) (world m) o
  left_keeps f (rest_of ss) m o k h = rest_keeps f ss m o h
  left_keeps f (body_of t a b) m o k h =
      after_body_keeps f (λ s. Then (Exec true (AnyRun P) a s) (AfterStep P t a b)) (λ n. (runs a, with_wait (step_of t a b) n)) m o
      (then_assoc (Exec true (AnyRun P) a (entered m.frame)) (AfterStep P t a b) (Leaving m) (world m) o) h
  left_keeps f (step_of t a b) m o k h = after_body_keeps f (Loops P t a b) (turned t a b) m o (turned_keeps t a b m o) h
  left_keeps f (turn_of b t) m o k h =
      after_body_keeps f (TestsAgain P b t) (λ n. counted n (λ l. (begins t, with_wait (to_test_again b t) l))) m o
      (counted_keeps (Then (Eval true (AnyRun P) t (entered m.frame)) (AfterTestAgain P b t (entered m.frame))) (Leaving m)
      (λ l. (begins t, with_wait (to_test_again b t) l)) m o
      (λ p. then_assoc (Eval true (AnyRun P) t (entered m.frame)) (AfterTestAgain P b t (entered m.frame)) (Leaving m) _ o)) h
  left_keeps f (back_to size gives) m o k h = back_keeps f gives (entered m.frame) (back size m) o h
  left_keeps f to_negate m o k h = absurd k
  left_keeps f to_invert m o k h = absurd k
  left_keeps f (left_of op b) m o k h = absurd k
  left_keeps f (right_of op x) m o k h = absurd k
  left_keeps f (next_argument p es) m o k h = absurd k
  left_keeps f (to_set x) m o k h = absurd k
  left_keeps f (to_set_global x) m o k h = absurd k
  left_keeps f to_ignore m o k h = absurd k
  left_keeps f to_assume m o k h = absurd k
  left_keeps f (to_assert id) m o k h = absurd k
  left_keeps f to_return m o k h = absurd k
  left_keeps f (to_choose a b) m o k h = absurd k
  left_keeps f (to_test t s b) m o k h = absurd k
  left_keeps f (to_test_again b t) m o k h = absurd k

  exited_keeps : (f : Exit) (k : List Waiting) (m : Snapshot) (o : Progress ℤ) → TakesExit P k → ResultsOf (exited f k m) o →
      Leave P k m.arguments m.under (flow_of f (entered m.frame)) (world m) o
  exited_keeps f [] m o t h = absurd t
  exited_keeps f (x ∷ k) m o t h = left_keeps f x (record m { waits = k }) o t h

  -- the rest of a block sees no break, continue or return
  past_keeps : (f : Flow) → ((Q : State → Relation Flow) (w : World) → AfterNormal f Q w (goes w f)) →
      (k : List Waiting) (args under : List ℤ) (w : World) (o : Progress ℤ) → Leave P (past_rests k) args under f w o →
      Leave P k args under f w o
  past_keeps f g [] args under w o h = h
  past_keeps f g (rest_of ss ∷ k) args under w o h = (goes w f, g (Execs true (AnyRun P) ss) w, past_keeps f g k args under w o h)
  past_keeps f g (to_negate ∷ k) args under w o h = h
  past_keeps f g (to_invert ∷ k) args under w o h = h
  past_keeps f g (left_of op b ∷ k) args under w o h = h
  past_keeps f g (right_of op x ∷ k) args under w o h = h
  past_keeps f g (next_argument p es ∷ k) args under w o h = h
  past_keeps f g (to_set x ∷ k) args under w o h = h
  past_keeps f g (to_set_global x ∷ k) args under w o h = h
  past_keeps f g (to_ignore ∷ k) args under w o h = h
  past_keeps f g (to_assume ∷ k) args under w o h = h
  past_keeps f g (to_assert id ∷ k) args under w o h = h
  past_keeps f g (to_return ∷ k) args under w o h = h
  past_keeps f g (to_choose a b ∷ k) args under w o h = h
  past_keeps f g (to_test t s b ∷ k) args under w o h = h
  past_keeps f g (to_test_again b t ∷ k) args under w o h = h
  past_keeps f g (body_of t s b ∷ k) args under w o h = h
  past_keeps f g (step_of t s b ∷ k) args under w o h = h
  past_keeps f g (turn_of b t ∷ k) args under w o h = h
  past_keeps f g (back_to size gives ∷ k) args under w o h = h

  reached_keeps : (f : Exit) (m : Snapshot) (o : Progress ℤ) → TakesExit P (reached f m).waits →
      ResultsOf (exited f (reached f m).waits (reached f m)) o → Leaving m (flow_of f (entered m.frame)) (world m) o
  reached_keeps normally m o t h = exited_keeps normally m.waits m o t h
  reached_keeps by_break m o t h =
      past_keeps (broken (entered m.frame)) (λ Q w. refl) m.waits m.arguments m.under (world m) o
      (exited_keeps by_break (past_rests m.waits) (without_rests m) o t h)
  reached_keeps by_continue m o t h =
      past_keeps (continued (entered m.frame)) (λ Q w. refl) m.waits m.arguments m.under (world m) o
      (exited_keeps by_continue (past_rests m.waits) (without_rests m) o t h)
  reached_keeps (by_return v) m o t h =
      past_keeps (returned v) (λ Q w. refl) m.waits m.arguments m.under (world m) o (exited_keeps (by_return v) (past_rests m.waits)
      (without_rests m) o t h)

  -- a caller has its slots back
  under_back : (under frame : List ℤ) → take (length (under ++ frame) - length frame) (under ++ frame) ≡ under
  under_back under frame =
      let e : length (under ++ frame) - length frame ≡ length under = omega (arith, length-append under frame) in
      ap (λ i. take i (under ++ frame)) e ∙ take-append_seam under frame

  frame_back : (under frame : List ℤ) → drop (length (under ++ frame) - length frame) (under ++ frame) ≡ frame
  frame_back under frame =
      let e : length (under ++ frame) - length frame ≡ length under = omega (arith, length-append under frame) in
      ap (λ i. drop i (under ++ frame)) e ∙ drop-append_seam under frame

  call_back : (k : List Waiting) (args under frame : List ℤ) (gives : Bool) (f : Flow) (w : World) (o : Progress ℤ) →
      Leave P (back_to (length frame) gives ∷ k) args (under ++ frame) f w o → Resume P k args under (entered frame)
      (returned_value gives f)
      w o
  call_back k args under frame gives f w o h =
      subst (λ fr. Resume P k args under (entered fr) (returned_value gives f) w o) (frame_back under frame)
      (subst (λ u. Resume P k args u (entered (drop (length (under ++ frame) - length frame) (under ++ frame))) (returned_value gives f) w
      o)
      (under_back under frame) h)

  -- a call begins
  pub enters_keeps : (p : ℕ) (q : PureProcedure) (m : Snapshot) (o : Progress ℤ) → slice_get P.procedures p ≡ Some q →
      ResultsOf (enters P p m) o →
      Then (AnyRun P p (drop (length m.arguments - q.params) m.arguments))
      (Resume P m.waits (take (length m.arguments - q.params) m.arguments) m.under (entered m.frame)) (world m) o
  enters_keeps p q m o found h =
      let start = length m.arguments - q.params in
      let args = drop start m.arguments in
      let body = Execs true (AnyRun P) q.body (entered args) in
      let R = Resume P m.waits (take start m.arguments) m.under (entered m.frame) in
      let g : ResultsOf (enters_procedure (Some q) m) o = subst (λ z. ResultsOf (enters_procedure z m) o) found h in
      then_first (Then body (λ f. Gives (returned_value q.gives f))) (AnyRun P p args) R (world m) o
      (λ r k. any_enters P p args (world m) r (subst (λ z. Enters true (AnyRun P) z args (world m) r) (sym found) k))
      (then_gives body (returned_value q.gives) R (world m) o
      (inside_then body (Leave P (back_to (length m.frame) q.gives ∷ m.waits) (take start m.arguments) (m.under ++ m.frame))
      (λ f. R (returned_value q.gives f)) (world m) o
      (λ f w1 k. call_back m.waits (take start m.arguments) m.under m.frame q.gives f w1 o k)
      (goes_on_keeps q.body (record m {
        waits = back_to (length m.frame) q.gives ∷ m.waits;
        arguments = take start m.arguments;
        under = m.under ++ m.frame;
        frame = args;
      }) o g)))

  evals_then : (e : Expression) (es : Expressions) (s : State) (G : List ℤ → Relation ℤ) (w : World) (o : Progress ℤ) →
      Then (Eval true (AnyRun P) e s) (λ v. Then (Evals true (AnyRun P) es s) (λ vs. G (v ∷ vs))) w o →
      Then (Evals true (AnyRun P) (expression e es) s) G w o
  evals_then e es s G w o h =
      then_assoc (Eval true (AnyRun P) e s) (λ v. Then (Evals true (AnyRun P) es s) (λ vs. Gives (v ∷ vs))) G w o
      (inside_then (Eval true (AnyRun P) e s) (λ v. Then (Evals true (AnyRun P) es s) (λ vs. G (v ∷ vs)))
      (λ v. Then (Then (Evals true (AnyRun P) es s) (λ vs. Gives (v ∷ vs))) G) w o
      (λ v w1 k. then_gives (Evals true (AnyRun P) es s) (λ vs. v ∷ vs) G w1 o k) h)

  -- a call with its arguments from here on, where `before` are those that are evaluated
  through_keeps : (p : ℕ) (q : PureProcedure) (es : Expressions) (m : Snapshot) (below before : List ℤ) (o : Progress ℤ) →
      slice_get P.procedures p ≡ Some q → m.arguments ≡ below ++ before → length m.arguments - (q.params - count es) ≡ length below →
      ResultsOf (goes_through P p es m) o →
      Then (Evals true (AnyRun P) es (entered m.frame))
      (λ vs. Then (AnyRun P p (before ++ vs)) (Resume P m.waits below m.under (entered m.frame)))
      (world m) o
  through_keeps p q no_expressions m below before o found split at h =
      let e : length m.arguments - q.params ≡ length below = omega arith in
      let a = ap (λ i. drop i m.arguments) e ∙ ap (drop (length below)) split ∙ drop-append_seam below before in
      let b = ap (λ i. take i m.arguments) e ∙ ap (take (length below)) split ∙ take-append_seam below before in (
        goes (world m) [],
        refl,
        subst (λ args. Then (AnyRun P p args) (Resume P m.waits below m.under (entered m.frame)) (world m) o) (a ∙ sym (append-nil before))
            (subst (λ rest. Then (AnyRun P p (drop (length m.arguments - q.params) m.arguments))
            (Resume P m.waits rest m.under (entered m.frame)) (world m) o) b (enters_keeps p q m o found h)),
      )
  through_keeps p q (expression e es) m below before o found split at h =
      let j = length m.arguments - (arity (slice_get P.procedures p) - (1 + count es)) in
      let j_is : j ≡ length below = ap (λ z. length m.arguments - (arity z - (1 + count es))) found ∙ at in
      let a = ap (λ i. drop i m.arguments) j_is ∙ ap (drop (length below)) split ∙ drop-append_seam below before in
      let b = ap (λ i. take i m.arguments) j_is ∙ ap (take (length below)) split ∙ take-append_seam below before in
      evals_then e es (entered m.frame) (λ vs. Then (AnyRun P p (before ++ vs)) (Resume P m.waits below m.under (entered m.frame)))
      (world m)
      o
      (subst (λ x. Then (Eval true (AnyRun P) e (entered m.frame)) (λ v. Then (Evals true (AnyRun P) es (entered m.frame))
      (λ vs. Then (AnyRun P p (x ++ v ∷ vs)) (Resume P m.waits below m.under (entered m.frame)))) (world m) o) a
      (subst (λ x. Then (Eval true (AnyRun P) e (entered m.frame)) (λ v. Then (Evals true (AnyRun P) es (entered m.frame))
      (λ vs. Then (AnyRun P p (drop j m.arguments ++ v ∷ vs)) (Resume P m.waits x m.under (entered m.frame)))) (world m) o) b h))

  argument_keeps : (p : ℕ) (es : Expressions) (v : ℤ) (m : Snapshot) (o : Progress ℤ) → HasParameters P p (1 + count es) →
      ResultsOf (goes_through P p es (record m { arguments = m.arguments ++ v ∷ [] })) o → Resume P (next_argument p es ∷ m.waits)
      m.arguments m.under (entered m.frame) v (world m) o
  argument_keeps p es v m o has h =
      let q = has.procedure in
      let enough : 1 + count es ≤ q.params = has.enough in
      let args = m.arguments in
      let i = length args - (q.params - (1 + count es)) in
      let i_le : i ≤ length args = omega arith in
      let at : length (args ++ v ∷ []) - (q.params - count es) ≡ length (take i args) = omega (
        arith,
        length-append args (v ∷ []),
        length-take-le i args i_le,
      ) in
      let split = ap (λ x. x ++ v ∷ []) (sym (take-append-drop i args)) ∙ append_assoc (take i args) (drop i args) (v ∷ []) in
      let R = Resume P m.waits (take i args) m.under (entered m.frame) in
      let g = through_keeps p q es (record m { arguments = args ++ v ∷ [] }) (take i args) (drop i args ++ v ∷ []) o has.found split at h in
      subst (λ z. let start = length args - (arity z - (1 + count es)) in Then (Evals true (AnyRun P) es (entered m.frame))
      (λ vs. Then (AnyRun P p (drop start args ++ v ∷ vs)) (Resume P m.waits (take start args) m.under (entered m.frame))) (world m) o) (sym
      has.found)
      (inside_then (Evals true (AnyRun P) es (entered m.frame)) (λ vs. Then (AnyRun P p ((drop i args ++ v ∷ []) ++ vs)) R)
      (λ vs. Then (AnyRun P p (drop i args ++ v ∷ vs)) R) (world m) o
      (λ vs w1 k. subst (λ x. Then (AnyRun P p x) R w1 o) (append_assoc (drop i args) (v ∷ []) vs) k) g)

  -- what waited gets a value
  given_keeps : (v : ℤ) (x : Waiting) (m : Snapshot) (o : Progress ℤ) → TakesValue P (x ∷ m.waits) → ResultsOf (given P v x m) o →
      Resume P (x ∷ m.waits) m.arguments m.under (entered m.frame) v (world m) o
  given_keeps v to_negate m o k h = choice_stop (is_value (neg_ℤ v)) (neg_ℤ v) m o h
  given_keeps v to_invert m o k h = h
  given_keeps v (left_of op b) m o k h = decides_keeps (decided op (is_zero v)) op v b m o h
  given_keeps v (right_of op x) m o k h = applied_keeps op x v m o h
  given_keeps v (next_argument p es) m o k h = argument_keeps p es v m o k.0 h
  given_keeps v (to_set x) m o k h =
      subst (λ s. Leaving m (normal s) (world m) o) (stored_is m.frame x v) h
  given_keeps v (to_set_global y) m o k h =
      subst (λ g. Leaving m (normal (entered m.frame)) (record (world m) { globals = g }) o) (stored_is m.globals y v) h
  given_keeps v to_ignore m o k h = h
  given_keeps v to_assume m o k h = assume_keeps (is_zero v) m o h
  given_keeps v (to_assert id) m o k h = assert_keeps (is_zero v) id m o h
  given_keeps v to_return m o k h = h
  given_keeps v (to_choose a b) m o k h = choose_keeps (is_zero v) a b m o h
  given_keeps v (to_test t a b) m o k h = test_keeps (is_zero v) t a b m o h
  given_keeps v (to_test_again b t) m o k h = test_again_keeps (is_zero v) b t m o h
  given_keeps v (rest_of ss) m o k h = absurd k
  given_keeps v (body_of t a b) m o k h = absurd k
  given_keeps v (step_of t a b) m o k h = absurd k
  given_keeps v (turn_of b t) m o k h = absurd k
  given_keeps v (back_to size gives) m o k h = absurd k

  valued_keeps : (v : ℤ) (k : List Waiting) (m : Snapshot) (o : Progress ℤ) → TakesValue P k → ResultsOf (valued P v k m) o →
      Resume P k m.arguments m.under (entered m.frame) v (world m) o
  valued_keeps v [] m o t h = h
  valued_keeps v (x ∷ k) m o t h = given_keeps v x (record m { waits = k }) o t h

  -- what a statement has after its count
  abbrev Statement_work : Statement → State → Relation Flow
  Statement_work (block ss) s = Execs true (AnyRun P) ss s
  Statement_work (set x e) s = Then (Eval true (AnyRun P) e s) (λ v. Gives (normal (with_slot s x v)))
  Statement_work (set_global y e) s = Then (Eval true (AnyRun P) e s) (λ v. SetsGlobal y v s)
  Statement_work (ignore e) s = Then (Eval true (AnyRun P) e s) (λ v. Gives (normal s))
  Statement_work (assume e) s = Then (Eval true (AnyRun P) e s) (UnlessZero stopped s)
  Statement_work (assert id e) s = Then (Eval true (AnyRun P) e s) (UnlessZero (failed id) s)
  Statement_work (if_else e a b) s = Then (Eval true (AnyRun P) e s) (λ v. Choice (is_zero v) (Exec true (AnyRun P) b s)
      (Exec true (AnyRun P) a s))
  Statement_work (loop t a b) s = Loops P t a b s
  Statement_work (do_while b t) s = LoopsAgain P b t s
  Statement_work break s = Gives (broken s)
  Statement_work continue s = Gives (continued s)
  Statement_work (return e) s = Returns true (AnyRun P) e s

  counted_work : (a : Statement) (s : State) (w : World) (r : Progress Flow) → Counted true (Statement_work a s) w r →
      Exec true (AnyRun P) a s w r
  counted_work (block ss) s w r h = h
  counted_work (set x e) s w r h = h
  counted_work (set_global x e) s w r h = h
  counted_work (ignore e) s w r h = h
  counted_work (assume e) s w r h = h
  counted_work (assert id e) s w r h = h
  counted_work (if_else e a b) s w r h = h
  counted_work (loop t a b) s w r h = h
  counted_work (do_while b t) s w r h = h
  counted_work break s w r h = h
  counted_work continue s w r h = h
  counted_work (return e) s w r h = h

  ran_keeps : (a : Statement) (m : Snapshot) (o : Progress ℤ) → ResultsOf (ran a m) o → Then (Statement_work a (entered m.frame))
      (Leaving m)
      (world m) o
  ran_keeps (block ss) m o h = goes_on_keeps ss m o h
  ran_keeps (set x e) m o h =
      then_gives (Eval true (AnyRun P) e (entered m.frame)) (λ v. normal (with_slot (entered m.frame) x v)) (Leaving m) (world m) o h
  ran_keeps (set_global y e) m o h =
      then_assoc (Eval true (AnyRun P) e (entered m.frame)) (λ v. SetsGlobal y v (entered m.frame)) (Leaving m) (world m) o
      (inside_then (Eval true (AnyRun P) e (entered m.frame)) (Resume P (to_set_global y ∷ m.waits) m.arguments m.under (entered m.frame))
      (λ v. Then (SetsGlobal y v (entered m.frame)) (Leaving m)) (world m) o
      (λ v w1 k. (goes (record w1 { globals = with_slot w1.globals y v }) (normal (entered m.frame)), refl, k)) h)
  ran_keeps (ignore e) m o h =
      then_gives (Eval true (AnyRun P) e (entered m.frame)) (λ v. normal (entered m.frame)) (Leaving m) (world m) o h
  ran_keeps (assume e) m o h =
      then_assoc (Eval true (AnyRun P) e (entered m.frame)) (UnlessZero stopped (entered m.frame)) (Leaving m) (world m) o h
  ran_keeps (assert id e) m o h =
      then_assoc (Eval true (AnyRun P) e (entered m.frame)) (UnlessZero (failed id) (entered m.frame)) (Leaving m) (world m) o h
  ran_keeps (if_else e a b) m o h =
      then_assoc (Eval true (AnyRun P) e (entered m.frame)) (λ v. Choice (is_zero v) (Exec true (AnyRun P) b (entered m.frame))
      (Exec true (AnyRun P) a (entered m.frame))) (Leaving m) (world m) o h
  ran_keeps (loop t a b) m o h = turned_keeps t a b m o h
  ran_keeps (do_while b t) m o h = again_keeps b t m o h
  ran_keeps break m o h = (goes (world m) _, refl, h)
  ran_keeps continue m o h = (goes (world m) _, refl, h)
  ran_keeps (return None) m o h = (goes (world m) _, refl, h)
  ran_keeps (return (Some e)) m o h =
      then_gives (Eval true (AnyRun P) e (entered m.frame)) returned (Leaving m) (world m) o h

  -- what an expression has after its count
  abbrev Expression_work : Expression → State → Relation ℤ
  Expression_work (literal n) s = Gives n
  Expression_work (read x) s = Gives (s x)
  Expression_work (read_global y) s = ReadsGlobal y
  Expression_work input s = λ w o. TakesInput w.inputs w o
  Expression_work (call p es) s = Then (Evals true (AnyRun P) es s) (AnyRun P p)
  Expression_work (negate e) s = Then (Eval true (AnyRun P) e s) (λ v. ExactOrStopped (neg_ℤ v))
  Expression_work (not e) s = Then (Eval true (AnyRun P) e s) (λ v. Gives (bit (is_zero v)))
  Expression_work (binary op a b) s =
      Then (Eval true (AnyRun P) a s) (λ x. RightSide (decided op (is_zero x)) (Applied op x) (Eval true (AnyRun P) b s))

  counted_expression : (e : Expression) (s : State) (w : World) (r : Progress ℤ) → Counted true (Expression_work e s) w r →
      Eval true (AnyRun P) e s w r
  counted_expression (literal n) s w r h = h
  counted_expression (read x) s w r h = h
  counted_expression (read_global x) s w r h = h
  counted_expression input s w r h = h
  counted_expression (call p es) s w r h = h
  counted_expression (negate e) s w r h = h
  counted_expression (not e) s w r h = h
  counted_expression (binary op a b) s w r h = h

  input_keeps : (b : Bool) (m : Snapshot) (o : Progress ℤ) → nat_lt m.used (length m.inputs) ≡ b → TakesValues input m →
      ResultsOf (cond b (gives_value (get_or m.inputs m.used (pos 0)), record m { used = m.used + 1 }) (over Starved, m)) o →
      Then (λ w r. TakesInput w.inputs w r) (Resuming m (entered m.frame)) (world m) o
  input_keeps true m o e a h =
      let v = get_or m.inputs m.used (pos 0) in
      let lt : m.used < length m.inputs = ltb-true _ _ e in
      let R = Resuming m (entered m.frame) in
      let k = subst (λ n. R v (record { inputs = drop n m.inputs; globals = entered m.globals; steps_left = m.steps_left }) o)
      (add-one m.used) h in
      subst (λ i. Then (λ w r. TakesInput w.inputs w r) R (record { inputs = i; globals = entered m.globals; steps_left = m.steps_left }) o)
      (sym (drop-cons m.inputs m.used (pos 0) lt)) (
        goes (record { inputs = drop (suc m.used) m.inputs; globals = entered m.globals; steps_left = m.steps_left }) v,
        (a lt, refl),
        k,
      )
  input_keeps false m o e a h =
      let le : length m.inputs ≤ m.used = ltb-false _ _ e in
      let none = drop_all m.used m.inputs le in
      subst (λ i. o ≡ ends (record { inputs = i; globals = entered m.globals; steps_left = m.steps_left }) starved →
      Then (λ w r. TakesInput w.inputs w r)
      (Resuming m (entered m.frame)) (record { inputs = i; globals = entered m.globals; steps_left = m.steps_left }) o) (sym none) (λ q.
      (ends (record { inputs = []; globals = entered m.globals; steps_left = m.steps_left }) starved, refl, q)) h

  begun_keeps : (e : Expression) (m : Snapshot) (o : Progress ℤ) → IsSound P e → TakesValues e m → ResultsOf (begun P e m) o →
      Then (Expression_work e (entered m.frame)) (Resuming m (entered m.frame)) (world m) o
  begun_keeps (literal n) m o s a h = (goes (world m) n, refl, h)
  begun_keeps (read x) m o s a h = (goes (world m) _, refl, h)
  begun_keeps (read_global x) m o s a h = (goes (world m) _, refl, h)
  begun_keeps input m o s a h = input_keeps (nat_lt m.used (length m.inputs)) m o refl a h
  begun_keeps (call p es) m o s a h =
      let c = called P s.slots p es s.sound in
      let q = c.0 in
      let q_is : q.params ≡ count es = c.2 in
      let at : length m.arguments - (q.params - count es) ≡ length m.arguments = omega arith in
      then_assoc (Evals true (AnyRun P) es (entered m.frame)) (AnyRun P p) (Resuming m (entered m.frame)) (world m) o
      (through_keeps p q es m m.arguments [] o c.1 (sym (append-nil m.arguments)) at h)
  begun_keeps (negate e) m o s a h =
      then_assoc (Eval true (AnyRun P) e (entered m.frame)) (λ v. ExactOrStopped (neg_ℤ v)) (Resuming m (entered m.frame)) (world m) o h
  begun_keeps (not e) m o s a h =
      then_gives (Eval true (AnyRun P) e (entered m.frame)) (λ v. bit (is_zero v)) (Resuming m (entered m.frame)) (world m) o h
  begun_keeps (binary op a b) m o s v h =
      then_assoc (Eval true (AnyRun P) a (entered m.frame)) (λ x. RightSide (decided op (is_zero x)) (Applied op x)
      (Eval true (AnyRun P) b (entered m.frame))) (Resuming m (entered m.frame)) (world m) o h

  -- each result after a step is one before it
  pub stepped_keeps : (c : Control) (m : Snapshot) (o : Progress ℤ) → Stands P c m.waits → StepsOnValues c m → Results P (stepped P c m).0
      (stepped P c m).1 (world (stepped P c m).1) o → Results P c m (world m) o
  stepped_keeps (begins e) m o t a h =
      then_first (Counted true (Expression_work e (entered m.frame))) (Eval true (AnyRun P) e (entered m.frame))
      (Resuming m (entered m.frame))
      (world m) o (counted_expression e (entered m.frame) (world m))
      (counted_keeps (Expression_work e (entered m.frame)) (Resuming m (entered m.frame)) (begun P e) m o
      (λ p. begun_keeps e (record m { steps_left = m.steps_left - 1 }) o t.0 (still_takes e m (m.steps_left - 1) (a p))) h)
  stepped_keeps (gives_value v) m o t a h = valued_keeps v m.waits m o t h
  stepped_keeps (runs a) m o t v h =
      then_first (Counted true (Statement_work a (entered m.frame))) (Exec true (AnyRun P) a (entered m.frame)) (Leaving m) (world m) o
      (counted_work a (entered m.frame) (world m))
      (counted_keeps (Statement_work a (entered m.frame)) (Leaving m) (ran a) m o
      (λ p. ran_keeps a (record m { steps_left = m.steps_left - 1 }) o)
      h)
  stepped_keeps (leaves f) m o t a h = reached_keeps f m o (reached_takes P f m t) h
  stepped_keeps (over r) m o t a h = h

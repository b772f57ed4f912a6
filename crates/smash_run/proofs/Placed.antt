-- An assertion at which a program fails is one of its assertions.
use Rattle.std.proofs.Common.{◌≡◌, ℕ, zero, suc, ◌<◌, List, [], ◌∷◌, length, Bool, true, false, Option, Some, None, ℤ, ◌+ℤ◌, ◌-ℤ◌, ◌*ℤ◌, neg_ℤ, int_div, IsTrue, refl, sym, subst, nat_le, ◌&&◌}
use Rattle.std.specs.Prelude.{slice_get}
use Rattle.std.proofs.lemmas.Bool.{ltb-true}
use Rattle.c_tree.specs.declared.tree.Op.{Op}
use Rattle.c_tree.specs.declared.tree.Op.TheVariants.{Add, Subtract, Multiply, Divide, Remainder, Less, LessEqual, Greater, GreaterEqual, Equal, Unequal, And, Or}
use Rattle.c_tree.specs.Syntax.{Expression, literal, read, read_global, input, call, negate, not as not_of, binary, Expressions, no_expressions, expression, Statement, block, set, set_global, ignore, assume, assert, if_else, loop, do_while, break, continue, return, Statements, no_statements, statement, PureProcedure, PureProgram}
use Rattle.c_tree.specs.Meaning.{State, World, Progress, goes, ends, Ending, stopped, failed, starved, spent, Flow, normal, broken, continued, returned, Relation, Gives, Ends, Onward, Then, Ticked, Counted, Choice, is_value, ExactOrStopped, has_quotient, decided, Applied, is_zero, RightSide, TakesInput, ReadsGlobal, SetsGlobal, Callee, Eval, Evals, Returns, Turns, DoTurns, AfterNormal, AfterBody, Exec, Execs, UnlessZero, entered, returned_value, Enters, Run, Replays, ReplayOutcome, replay_of}
use Rattle.c_tree.specs.WellFormed.{statements_nodes, IsWellFormed, runs_well_scoped, all_well_scoped, is_well_formed_procedure}
use Rattle.run_replay.proofs.Keeps.{and_left, and_right}
use Rattle.report_text.specs.Replay.{HasPlace}

-- where it fails, it is at one of n assertions
abbrev pub FailsBelow : {A : Type 0} → ℕ → Progress A → Type 0
FailsBelow n (goes w v) = Unit {0}
FailsBelow n (ends w stopped) = Unit {0}
FailsBelow n (ends w (failed id)) = id < n
FailsBelow n (ends w starved) = Unit {0}
FailsBelow n (ends w spent) = Unit {0}

pub record IsPlaced {A : Type 0} (n : ℕ) (P : Relation A) : Type 0 where
  pub placed : (w : World) (r : Progress A) → P w r → FailsBelow n r

-- an end fails at one of n assertions, whatever it ends
same_end : (A B : Type 0) (n : ℕ) (w w' : World) (e : Ending) → FailsBelow {A = A} n (ends w e) → FailsBelow {A = B} n (ends w' e)
same_end A B n w w' stopped h = tt
same_end A B n w w' (failed id) h = h
same_end A B n w w' starved h = tt
same_end A B n w w' spent h = tt

gives_placed : {A : Type 0} (n : ℕ) (v : A) → IsPlaced n (Gives v)
gives_placed n v = record { placed = λ w r h. subst (FailsBelow n) (sym h) tt }

stops_placed : {A : Type 0} (n : ℕ) → IsPlaced n (Ends {A = A} stopped)
stops_placed n = record { placed = λ w r h. subst (FailsBelow n) (sym h) tt }

fails_placed : {A : Type 0} (n id : ℕ) → id < n → IsPlaced n (Ends {A = A} (failed id))
fails_placed n id less = record { placed = λ w r h. subst (FailsBelow n) (sym h) less }

then_placed : {A B : Type 0} (n : ℕ) (P : Relation A) (Q : A → Relation B) → IsPlaced n P → ((v : A) → IsPlaced n (Q v)) →
    IsPlaced n (Then P Q)
then_placed {A} {B} n P Q p q = record { placed = λ w r h. on w r h.0 h.1 h.2 }
  where
    on : (w : World) (r : Progress B) (x : Progress A) → P w x → Onward Q x r → FailsBelow n r
    on w r (goes w1 v) h k = (q v).placed w1 r k
    on w r (ends w1 e) h k = subst (FailsBelow n) (sym k) (same_end A B n w1 w1 e (p.placed w (ends w1 e) h))

counted_placed : {A : Type 0} (n : ℕ) (c : Bool) (P : Relation A) → IsPlaced n P → IsPlaced n (Counted c P)
counted_placed n false P p = p
counted_placed {A} n true P p = record { placed = λ w r h. on w r w.steps_left h }
  where
    on : (w : World) (r : Progress A) (l : ℕ) → Ticked P w l r → FailsBelow n r
    on w r zero h = subst (FailsBelow n) (sym h) tt
    on w r (suc l) h = p.placed _ r h

choice_placed : {A : Type 0} (n : ℕ) (b : Bool) (P Q : Relation A) → IsPlaced n P → IsPlaced n Q → IsPlaced n (Choice b P Q)
choice_placed n true P Q p q = p
choice_placed n false P Q p q = q

exact_placed : (n : ℕ) (z : ℤ) → IsPlaced n (ExactOrStopped z)
exact_placed n z = choice_placed n (is_value z) (Gives z) (Ends stopped) (gives_placed n z) (stops_placed n)

applied_placed : (n : ℕ) (op : Op) (x y : ℤ) → IsPlaced n (Applied op x y)
applied_placed n Add x y = exact_placed n (x +ℤ y)
applied_placed n Subtract x y = exact_placed n (x -ℤ y)
applied_placed n Multiply x y = exact_placed n (x *ℤ y)
applied_placed n Divide x y = choice_placed n (has_quotient x y) _ _ (exact_placed n (int_div x y)) (stops_placed n)
applied_placed n Remainder x y = choice_placed n (has_quotient x y) _ _ (gives_placed n _) (stops_placed n)
applied_placed n Less x y = gives_placed n _
applied_placed n LessEqual x y = gives_placed n _
applied_placed n Greater x y = gives_placed n _
applied_placed n GreaterEqual x y = gives_placed n _
applied_placed n Equal x y = gives_placed n _
applied_placed n Unequal x y = gives_placed n _
applied_placed n And x y = gives_placed n _
applied_placed n Or x y = gives_placed n _

right_placed : (n : ℕ) (d : Option ℤ) (F : ℤ → Relation ℤ) (Q : Relation ℤ) → ((y : ℤ) → IsPlaced n (F y)) → IsPlaced n Q →
    IsPlaced n (RightSide d F Q)
right_placed n (Some v) F Q f q = gives_placed n v
right_placed n None F Q f q = then_placed n Q F q f

takes_placed : (n : ℕ) → IsPlaced n (λ w o. TakesInput w.inputs w o)
takes_placed n = record { placed = λ w r h. on w r w.inputs h }
  where
    on : (w : World) (r : Progress ℤ) (vs : List ℤ) → TakesInput vs w r → FailsBelow n r
    on w r [] h = subst (FailsBelow n) (sym h) tt
    on w r (v ∷ vs) h = subst (FailsBelow n) (sym h.1) tt

reads_placed : (n y : ℕ) → IsPlaced n (ReadsGlobal y)
reads_placed n y = record { placed = λ w r h. subst (FailsBelow n) (sym h) tt }

sets_placed : (n y : ℕ) (v : ℤ) (s : State) → IsPlaced n (SetsGlobal y v s)
sets_placed n y v s = record { placed = λ w r h. subst (FailsBelow n) (sym h) tt }

next_placed : (n : ℕ) (f : Flow) (Q : State → Relation Flow) → ((s : State) → IsPlaced n (Q s)) → IsPlaced n (AfterNormal f Q)
next_placed n (normal s) Q q = q s
next_placed n (broken s) Q q = gives_placed n _
next_placed n (continued s) Q q = gives_placed n _
next_placed n (returned v) Q q = gives_placed n _

body_placed : (n : ℕ) (f : Flow) (Q : State → Relation Flow) → ((s : State) → IsPlaced n (Q s)) → IsPlaced n (AfterBody f Q)
body_placed n (normal s) Q q = q s
body_placed n (broken s) Q q = gives_placed n _
body_placed n (continued s) Q q = q s
body_placed n (returned v) Q q = gives_placed n _

unless_placed : (n : ℕ) (e : Ending) (s : State) (v : ℤ) → IsPlaced n (Ends {A = Flow} e) → IsPlaced n (UnlessZero e s v)
unless_placed n e s v p = choice_placed n (is_zero v) (Ends e) (Gives (normal s)) p (gives_placed n _)

turns_placed : (n : ℕ) (c : Bool) (C : Callee) (k : ℕ) (T : State → Relation ℤ) (S B : State → Relation Flow) (s : State) →
    ((s : State) → IsPlaced n (T s)) → ((s : State) → IsPlaced n (S s)) → ((s : State) → IsPlaced n (B s)) →
    IsPlaced n (Turns c C k T S B s)
turns_placed n c C zero T S B s t a b = record { placed = λ w r h. absurd h }
turns_placed n c C (suc k) T S B s t a b =
    counted_placed n c _ (then_placed n _ _ (t s) (λ v. choice_placed n (is_zero v) _ _ (gives_placed n _)
    (then_placed n _ _ (b s)
    (λ f. body_placed n f _ (λ s1. then_placed n _ _ (a s1) (λ g. body_placed n g _ (λ s2. turns_placed n c C k T S B s2 t a b)))))))

do_turns_placed : (n : ℕ) (c : Bool) (C : Callee) (k : ℕ) (B : State → Relation Flow) (T : State → Relation ℤ) (s : State) →
    ((s : State) → IsPlaced n (B s)) → ((s : State) → IsPlaced n (T s)) → IsPlaced n (DoTurns c C k B T s)
do_turns_placed n c C zero B T s b t = record { placed = λ w r h. absurd h }
do_turns_placed n c C (suc k) B T s b t =
    then_placed n _ _ (b s)
    (λ f. body_placed n f _
    (λ s1. counted_placed n c _
    (then_placed n _ _ (t s1) (λ v. choice_placed n (is_zero v) _ _ (gives_placed n _) (do_turns_placed n c C k B T s1 b t)))))

module _ (c : Bool) (C : Callee) (P : PureProgram) (slots : ℕ) (called : (p : ℕ) (args : List ℤ) → IsPlaced (length P.asserts)
    (C p args)) where
  abbrev n : ℕ
  n = length P.asserts

  mutual
    eval_placed : (e : Expression) (s : State) → IsPlaced n (Eval c C e s)
    eval_placed (literal v) s = counted_placed n c _ (gives_placed n v)
    eval_placed (read x) s = counted_placed n c _ (gives_placed n _)
    eval_placed (read_global y) s = counted_placed n c _ (reads_placed n y)
    eval_placed input s = counted_placed n c _ (takes_placed n)
    eval_placed (call p es) s = counted_placed n c _ (then_placed n _ _ (evals_placed es s) (called p))
    eval_placed (negate e) s = counted_placed n c _ (then_placed n _ _ (eval_placed e s) (λ v. exact_placed n (neg_ℤ v)))
    eval_placed (not_of e) s = counted_placed n c _ (then_placed n _ _ (eval_placed e s) (λ v. gives_placed n _))
    eval_placed (binary op a b) s =
        counted_placed n c _ (then_placed n _ _ (eval_placed a s) (λ x. right_placed n (decided op (is_zero x)) (Applied op x) _
        (applied_placed n op x) (eval_placed b s)))

    evals_placed : (es : Expressions) (s : State) → IsPlaced n (Evals c C es s)
    evals_placed no_expressions s = gives_placed n _
    evals_placed (expression e es) s = then_placed n _ _ (eval_placed e s)
        (λ v. then_placed n _ _ (evals_placed es s) (λ vs. gives_placed n _))

  returns_placed : (o : Option Expression) (s : State) → IsPlaced n (Returns c C o s)
  returns_placed None s = gives_placed n _
  returns_placed (Some e) s = then_placed n _ _ (eval_placed e s) (λ v. gives_placed n _)

  mutual
    exec_placed : (l : Bool) (a : Statement) (s : State) → IsTrue (runs_well_scoped P slots l a) → IsPlaced n (Exec c C a s)
    exec_placed l (block ss) s h = counted_placed n c _ (execs_placed l ss s h)
    exec_placed l (set x e) s h = counted_placed n c _ (then_placed n _ _ (eval_placed e s) (λ v. gives_placed n _))
    exec_placed l (set_global y e) s h = counted_placed n c _ (then_placed n _ _ (eval_placed e s) (λ v. sets_placed n y v s))
    exec_placed l (ignore e) s h = counted_placed n c _ (then_placed n _ _ (eval_placed e s) (λ v. gives_placed n _))
    exec_placed l (assume e) s h = counted_placed n c _
        (then_placed n _ _ (eval_placed e s) (λ v. unless_placed n stopped s v (stops_placed n)))
    exec_placed l (assert id e) s h =
        counted_placed n c _
        (then_placed n _ _ (eval_placed e s) (λ v. unless_placed n (failed id) s v (fails_placed n id (ltb-true _ _ (and_left _ _ h)))))
    exec_placed l (if_else e a b) s h =
        counted_placed n c _ (then_placed n _ _ (eval_placed e s)
        (λ v. choice_placed n (is_zero v) _ _ (exec_placed l b s (and_right _ _ h)) (exec_placed l a s (and_right _ _ (and_left _ _ h)))))
    exec_placed l (loop test step body) s h =
        counted_placed n c _ (record {
          placed = λ w r k. (turns_placed n c C k.0 (Eval c C test) (Exec c C step) (Exec c C body) s (eval_placed test)
              (λ s1. exec_placed true step s1 (and_right _ _ (and_left _ _ h))) (λ s1. exec_placed true body s1 (and_right _ _ h))).placed w
              r k.1;
        })
    exec_placed l (do_while body test) s h =
        counted_placed n c _ (record {
          placed = λ w r k. (do_turns_placed n c C k.0 (Exec c C body) (Eval c C test) s
              (λ s1. exec_placed true body s1 (and_left _ _ h)) (eval_placed test)).placed w r k.1;
        })
    exec_placed l break s h = counted_placed n c _ (gives_placed n _)
    exec_placed l continue s h = counted_placed n c _ (gives_placed n _)
    exec_placed l (return o) s h = counted_placed n c _ (returns_placed o s)

    execs_placed : (l : Bool) (ss : Statements) (s : State) → IsTrue (all_well_scoped P slots l ss) → IsPlaced n (Execs c C ss s)
    execs_placed l no_statements s h = gives_placed n _
    execs_placed l (statement a ss) s h =
        then_placed n _ _ (exec_placed l a s (and_left _ _ h)) (λ f. next_placed n f _ (λ s1. execs_placed l ss s1 (and_right _ _ h)))

entered_placed : (c : Bool) (P : PureProgram) → IsWellFormed P → (d p : ℕ) (args : List ℤ) →
    ((p : ℕ) (args : List ℤ) → IsPlaced (length P.asserts) (Run c P d p args)) → (o : Option PureProcedure) → slice_get P.procedures p ≡ o →
    IsPlaced (length P.asserts) (Run c P (suc d) p args)
entered_placed c P fine d p args below None e = record { placed = λ w r h. absurd (subst (λ z. Enters c (Run c P d) z args w r) e h) }
entered_placed c P fine d p args below (Some q) e = record {
  placed = λ w r h. (inside (fine.procedures_well_formed p q e)).placed w r
      (subst (λ z. Enters c (Run c P d) z args w r) e h);
}
  where
    inside : IsTrue (is_well_formed_procedure P q) → IsPlaced (length P.asserts) (Then (Execs c (Run c P d) q.body (entered args))
        (λ f. Gives (returned_value q.gives f)))
    inside sound =
        let sizes : Bool = nat_le q.params 8 && nat_le q.params q.slots && nat_le q.slots 24 in
        let names : Bool = all_well_scoped P q.slots false q.body in
        let scoped : IsTrue names = and_right sizes names (and_left (sizes && names) (nat_le (statements_nodes q.body) 8000) sound) in
        then_placed (length P.asserts) (Execs c (Run c P d) q.body (entered args)) (λ f. Gives (returned_value q.gives f))
        (execs_placed c (Run c P d) P q.slots below false q.body (entered args) scoped)
        (λ f. gives_placed (length P.asserts) (returned_value q.gives f))

module _ (c : Bool) (P : PureProgram) (fine : IsWellFormed P) where
  run_placed : (d p : ℕ) (args : List ℤ) → IsPlaced (length P.asserts) (Run c P d p args)
  run_placed zero p args = record { placed = λ w r h. absurd h }
  run_placed (suc d) p args = entered_placed c P fine d p args (run_placed d) (slice_get P.procedures p) refl

has_place : (n : ℕ) (r : Progress ℤ) → FailsBelow n r → HasPlace n (replay_of r)
has_place n (goes w v) h = tt
has_place n (ends w stopped) h = tt
has_place n (ends w (failed id)) h = h
has_place n (ends w starved) h = tt
has_place n (ends w spent) h = tt

pub replay_placed : (P : PureProgram) → IsWellFormed P → (ins : List ℤ) (fuel : ℕ) (o : ReplayOutcome) (used : ℕ) →
    Replays P ins fuel o used →
    HasPlace (length P.asserts) o
replay_placed P fine ins fuel o used h =
    subst (HasPlace (length P.asserts)) (sym h.3)
    (has_place (length P.asserts) h.1 ((run_placed true P fine h.0 P.main []).placed _ h.1 h.2))

-- A counted run that neither starves nor spends its fuel is a run on the inputs that it uses.
use Rattle.std.proofs.Common.{◌≡◌, ℕ, zero, suc, List, [], ◌∷◌, ◌++◌, Bool, true, false, Option, Some, None, ℤ, ◌+ℤ◌, ◌-ℤ◌, ◌*ℤ◌, neg_ℤ, int_div, refl, sym, ap, ◌∙◌, subst}
use Rattle.std.specs.Prelude.{slice_get}
use Rattle.c_tree.specs.declared.tree.Op.{Op}
use Rattle.c_tree.specs.declared.tree.Op.TheVariants.{Add, Subtract, Multiply, Divide, Remainder, Less, LessEqual, Greater, GreaterEqual, Equal, Unequal, And, Or}
use Rattle.c_tree.specs.Syntax.{Expression, literal, read, read_global, input, call, negate, not as not_of, binary, Expressions, no_expressions, expression, Statement, block, set, set_global, ignore, assume, assert, if_else, loop, do_while, break, continue, return, Statements, no_statements, statement, PureProcedure, PureProgram}
use Rattle.c_tree.specs.Meaning.{State, World, Progress, goes, ends, stopped, failed, starved, spent, Ending, Flow, normal, broken, continued, returned, Relation, Gives, Ends, Onward, Then, Ticked, Counted, Choice, is_value, ExactOrStopped, has_quotient, Divided, ReadsGlobal, SetsGlobal, globals_of, TakesInput, decided, Applied, is_zero, RightSide, Callee, Eval, Evals, AfterNormal, AfterBody, UnlessZero, Turns, DoTurns, Returns, Exec, Execs, entered, Enters, Run, world_of, Outcome, Returned, Stopped, Failed, ComesOut, Runs, Comes, replay_of, Replays, started}
use Rattle.std.proofs.Common.{take, length, length-append, arith}
use Rattle.std.proofs.lemmas.List.{take_at}

-- the world with other inputs, where no steps are counted
abbrev bare : World → List ℤ → World
bare w i = record { inputs = i; globals = w.globals; steps_left = 0 }

-- the result, with other inputs left
abbrev moved : {A : Type 0} → Progress A → List ℤ → Progress A
moved (goes w v) j = goes (bare w j) v
moved (ends w e) j = ends (bare w j) e

abbrev pub IsFineEnd : Ending → Type 0
IsFineEnd stopped = Unit {0}
IsFineEnd (failed id) = Unit {0}
IsFineEnd starved = ⊥
IsFineEnd spent = ⊥

abbrev pub IsFine : {A : Type 0} → Progress A → Type 0
IsFine (goes w v) = Unit {0}
IsFine (ends w e) = IsFineEnd e

-- each fine result of the first is one of the second, without the inputs that it leaves
abbrev CutAt : {A : Type 0} → Relation A → Relation A → Type 0
CutAt {A} P Q = (rest j : List ℤ) (w : World) (r : Progress A) → IsFine r → (world_of r).inputs ≡ j ++ rest → P w r → (i : List ℤ)
    × (w.inputs ≡ i ++ rest) × Q (bare w i) (moved r j)

pub record Cuts {A : Type 0} (P Q : Relation A) : Type 0 where
  pub by : CutAt P Q

abbrev CutsFrom : {A : Type 0} → (State → Relation A) → (State → Relation A) → Type 0
CutsFrom P Q = (s : State) → Cuts (P s) (Q s)

gives_cuts : {A : Type 0} (v : A) → Cuts (Gives v) (Gives v)
gives_cuts v = record { by = λ rest j w r fine e h. (j, subst (λ x. (world_of x).inputs ≡ j ++ rest) h e, ap (λ x. moved x j) h) }

ends_cuts : {A : Type 0} (d : Ending) → Cuts (Ends {A = A} d) (Ends d)
ends_cuts d = record { by = λ rest j w r fine e h. (j, subst (λ x. (world_of x).inputs ≡ j ++ rest) h e, ap (λ x. moved x j) h) }

then_at : {A B : Type 0} (P P' : Relation A) (Q Q' : A → Relation B) → Cuts P P' → ((v : A) → Cuts (Q v) (Q' v)) →
    CutAt (Then P Q) (Then P' Q')
then_at {A} {B} P P' Q Q' p q rest j w r fine e h = on h.0 h.1 h.2
  where
    on : (r1 : Progress A) → P w r1 → Onward Q r1 r → (i : List ℤ) × (w.inputs ≡ i ++ rest) × Then P' Q' (bare w i) (moved r j)
    on (goes w1 v) h1 k =
        let c = (q v).by rest j w1 r fine e k in
        let b = p.by rest c.0 w (goes w1 v) tt c.1 h1 in
        (b.0, b.1, (goes (bare w1 c.0) v, b.2, c.2))
    on (ends w1 d) h1 k =
        let fine' = subst IsFine k fine in
        let b = p.by rest j w (ends w1 d) fine' (subst (λ x. (world_of x).inputs ≡ j ++ rest) k e) h1 in
        (b.0, b.1, (ends (bare w1 j) d, b.2, ap (λ x. moved x j) k))

then_cuts : {A B : Type 0} (P P' : Relation A) (Q Q' : A → Relation B) → Cuts P P' → ((v : A) → Cuts (Q v) (Q' v)) →
    Cuts (Then P Q) (Then P' Q')
then_cuts P P' Q Q' p q = record { by = then_at P P' Q Q' p q }

counted_at : {A : Type 0} (P P' : Relation A) → Cuts P P' → CutAt (Counted true P) P'
counted_at {A} P P' p rest j w r fine e h = on w.steps_left h
  where
    on : (l : ℕ) → Ticked P w l r → (i : List ℤ) × (w.inputs ≡ i ++ rest) × P' (bare w i) (moved r j)
    on zero k = absurd (subst IsFine k fine)
    on (suc n) k = p.by rest j (record w { steps_left = n }) r fine e k

counted_cuts : {A : Type 0} (P P' : Relation A) → Cuts P P' → Cuts (Counted true P) P'
counted_cuts P P' p = record { by = counted_at P P' p }

choice_cuts : {A : Type 0} (b : Bool) (P P' Q Q' : Relation A) → Cuts P P' → Cuts Q Q' → Cuts (Choice b P Q) (Choice b P' Q')
choice_cuts true P P' Q Q' p q = p
choice_cuts false P P' Q Q' p q = q

kept_cuts : (z : ℤ) → Cuts (ExactOrStopped z) (ExactOrStopped z)
kept_cuts z = choice_cuts (is_value z) (Gives z) (Gives z) (Ends stopped) (Ends stopped) (gives_cuts z) (ends_cuts stopped)

divided_cuts : (x y : ℤ) (P : Relation ℤ) → Cuts P P → Cuts (Divided x y P) (Divided x y P)
divided_cuts x y P p = choice_cuts (has_quotient x y) P P (Ends stopped) (Ends stopped) p (ends_cuts stopped)

reads_cuts : (y : ℕ) → Cuts (ReadsGlobal y) (ReadsGlobal y)
reads_cuts y = record { by = λ rest j w r fine e h. (j, subst (λ x. (world_of x).inputs ≡ j ++ rest) h e, ap (λ x. moved x j) h) }

sets_cuts : (y : ℕ) (v : ℤ) (s : State) → Cuts (SetsGlobal y v s) (SetsGlobal y v s)
sets_cuts y v s = record { by = λ rest j w r fine e h. (j, subst (λ x. (world_of x).inputs ≡ j ++ rest) h e, ap (λ x. moved x j) h) }

takes_at : CutAt (λ w o. TakesInput w.inputs w o) (λ w o. TakesInput w.inputs w o)
takes_at rest j w r fine e h = on w.inputs refl h
  where
    on : (is : List ℤ) → w.inputs ≡ is → TakesInput is w r → (i : List ℤ) × (w.inputs ≡ i ++ rest) × TakesInput i (bare w i)
        (moved r j)
    on [] same k = absurd (subst IsFine k fine)
    on (v ∷ vs) same k =
        (v ∷ j, same ∙ ap (λ l. v ∷ l) (subst (λ x. (world_of x).inputs ≡ j ++ rest) k.1 e), (k.0, ap (λ x. moved x j) k.1))

takes_cuts : Cuts (λ w o. TakesInput w.inputs w o) (λ w o. TakesInput w.inputs w o)
takes_cuts = record { by = takes_at }

applied_cuts : (op : Op) (x y : ℤ) → Cuts (Applied op x y) (Applied op x y)
applied_cuts Add x y = kept_cuts (x +ℤ y)
applied_cuts Subtract x y = kept_cuts (x -ℤ y)
applied_cuts Multiply x y = kept_cuts (x *ℤ y)
applied_cuts Divide x y = divided_cuts x y (ExactOrStopped (int_div x y)) (kept_cuts (int_div x y))
applied_cuts Remainder x y = divided_cuts x y (Gives (x -ℤ y *ℤ int_div x y)) (gives_cuts _)
applied_cuts Less x y = gives_cuts _
applied_cuts LessEqual x y = gives_cuts _
applied_cuts Greater x y = gives_cuts _
applied_cuts GreaterEqual x y = gives_cuts _
applied_cuts Equal x y = gives_cuts _
applied_cuts Unequal x y = gives_cuts _
applied_cuts And x y = gives_cuts _
applied_cuts Or x y = gives_cuts _

right_cuts : (d : Option ℤ) (F : ℤ → Relation ℤ) (Q Q' : Relation ℤ) → ((y : ℤ) → Cuts (F y) (F y)) → Cuts Q Q' →
    Cuts (RightSide d F Q) (RightSide d F Q')
right_cuts (Some v) F Q Q' f q = gives_cuts v
right_cuts None F Q Q' f q = then_cuts Q Q' F F q f

next_cuts : (f : Flow) (Q Q' : State → Relation Flow) → CutsFrom Q Q' → Cuts (AfterNormal f Q) (AfterNormal f Q')
next_cuts (normal s) Q Q' q = q s
next_cuts (broken s) Q Q' q = gives_cuts (broken s)
next_cuts (continued s) Q Q' q = gives_cuts (continued s)
next_cuts (returned v) Q Q' q = gives_cuts (returned v)

turned_cuts : (f : Flow) (Q Q' : State → Relation Flow) → CutsFrom Q Q' → Cuts (AfterBody f Q) (AfterBody f Q')
turned_cuts (normal s) Q Q' q = q s
turned_cuts (broken s) Q Q' q = gives_cuts (normal s)
turned_cuts (continued s) Q Q' q = q s
turned_cuts (returned v) Q Q' q = gives_cuts (returned v)

unless_cuts : (d : Ending) (s : State) (v : ℤ) → Cuts (UnlessZero d s v) (UnlessZero d s v)
unless_cuts d s v = choice_cuts (is_zero v) (Ends d) (Ends d) (Gives (normal s)) (Gives (normal s)) (ends_cuts d) (gives_cuts (normal s))

module _ (C C' : Callee) (call_cuts : (p : ℕ) (args : List ℤ) → Cuts (C p args) (C' p args)) where
  mutual
    pub eval_cuts : (e : Expression) → CutsFrom (Eval true C e) (Eval false C' e)
    eval_cuts (literal n) s = counted_cuts _ _ (gives_cuts n)
    eval_cuts (read x) s = counted_cuts _ _ (gives_cuts (s x))
    eval_cuts (read_global y) s = counted_cuts _ _ (reads_cuts y)
    eval_cuts input s = counted_cuts _ _ takes_cuts
    eval_cuts (call p es) s = counted_cuts _ _ (then_cuts (Evals true C es s) (Evals false C' es s) _ _ (evals_cuts es s) (call_cuts p))
    eval_cuts (negate e) s = counted_cuts _ _ (then_cuts (Eval true C e s) (Eval false C' e s) _ _ (eval_cuts e s)
        (λ v. kept_cuts (neg_ℤ v)))
    eval_cuts (not_of e) s = counted_cuts _ _ (then_cuts (Eval true C e s) (Eval false C' e s) _ _ (eval_cuts e s) (λ v. gives_cuts _))
    eval_cuts (binary op a b) s = counted_cuts _ _ (then_cuts (Eval true C a s) (Eval false C' a s) _ _ (eval_cuts a s)
        (λ x. right_cuts (decided op (is_zero x)) (Applied op x) _ _ (applied_cuts op x) (eval_cuts b s)))

    pub evals_cuts : (es : Expressions) → CutsFrom (Evals true C es) (Evals false C' es)
    evals_cuts no_expressions s = gives_cuts []
    evals_cuts (expression e es) s = then_cuts (Eval true C e s) (Eval false C' e s) _ _ (eval_cuts e s)
        (λ v. then_cuts (Evals true C es s) (Evals false C' es s) _ _ (evals_cuts es s) (λ vs. gives_cuts _))

  returns_cuts : (o : Option Expression) → CutsFrom (Returns true C o) (Returns false C' o)
  returns_cuts None s = gives_cuts _
  returns_cuts (Some e) s = then_cuts (Eval true C e s) (Eval false C' e s) _ _ (eval_cuts e s) (λ v. gives_cuts _)

  turns_cuts : (n : ℕ) (T T' : State → Relation ℤ) (S S' B B' : State → Relation Flow) → CutsFrom T T' → CutsFrom S S' → CutsFrom B B' →
      CutsFrom (Turns true C n T S B) (Turns false C' n T' S' B')
  turns_cuts zero T T' S S' B B' t p b s = record { by = λ rest j w r fine e h. absurd h }
  turns_cuts (suc n) T T' S S' B B' t p b s =
      counted_cuts _ _ (then_cuts (T s) (T' s) _ _ (t s) (λ v. choice_cuts (is_zero v) _ _ _ _ (gives_cuts (normal s))
      (then_cuts (B s) (B' s) _ _ (b s)
      (λ f. turned_cuts f _ _ (λ s1. then_cuts (S s1) (S' s1) _ _ (p s1) (λ g. turned_cuts g _ _ (turns_cuts n T T' S S' B B' t p b)))))))

  does_cuts : (n : ℕ) (B B' : State → Relation Flow) (T T' : State → Relation ℤ) → CutsFrom B B' → CutsFrom T T' →
      CutsFrom (DoTurns true C n B T) (DoTurns false C' n B' T')
  does_cuts zero B B' T T' b t s = record { by = λ rest j w r fine e h. absurd h }
  does_cuts (suc n) B B' T T' b t s =
      then_cuts (B s) (B' s) _ _ (b s)
      (λ f. turned_cuts f _ _
      (λ s1. counted_cuts _ _ (then_cuts (T s1) (T' s1) _ _ (t s1) (λ v. choice_cuts (is_zero v) _ _ _ _ (gives_cuts (normal s1))
      (does_cuts n B B' T T' b t s1)))))

  many_cuts : (P P' : ℕ → Relation Flow) → ((n : ℕ) → Cuts (P n) (P' n)) → Cuts (λ w o. (n : ℕ) × P n w o) (λ w o. (n : ℕ) × P' n w o)
  many_cuts P P' p = record { by = λ rest j w r fine e h. let b = (p h.0).by rest j w r fine e h.1 in (b.0, b.1, (h.0, b.2)) }

  mutual
    pub exec_cuts : (a : Statement) → CutsFrom (Exec true C a) (Exec false C' a)
    exec_cuts (block ss) s = counted_cuts _ _ (execs_cuts ss s)
    exec_cuts (set x e) s = counted_cuts _ _ (then_cuts (Eval true C e s) (Eval false C' e s) _ _ (eval_cuts e s) (λ v. gives_cuts _))
    exec_cuts (set_global y e) s = counted_cuts _ _ (then_cuts (Eval true C e s) (Eval false C' e s) _ _ (eval_cuts e s)
        (λ v. sets_cuts y v s))
    exec_cuts (ignore e) s = counted_cuts _ _ (then_cuts (Eval true C e s) (Eval false C' e s) _ _ (eval_cuts e s) (λ v. gives_cuts _))
    exec_cuts (assume e) s = counted_cuts _ _ (then_cuts (Eval true C e s) (Eval false C' e s) _ _ (eval_cuts e s) (unless_cuts stopped s))
    exec_cuts (assert id e) s = counted_cuts _ _ (then_cuts (Eval true C e s) (Eval false C' e s) _ _ (eval_cuts e s)
        (unless_cuts (failed id) s))
    exec_cuts (if_else e a b) s = counted_cuts _ _ (then_cuts (Eval true C e s) (Eval false C' e s) _ _ (eval_cuts e s)
        (λ v. choice_cuts (is_zero v) _ _ _ _ (exec_cuts b s) (exec_cuts a s)))
    exec_cuts (loop test step body) s = counted_cuts _ _
        (many_cuts _ _ (λ n. turns_cuts n _ _ _ _ _ _ (eval_cuts test) (exec_cuts step) (exec_cuts body) s))
    exec_cuts (do_while body test) s = counted_cuts _ _ (many_cuts _ _ (λ n. does_cuts n _ _ _ _ (exec_cuts body) (eval_cuts test) s))
    exec_cuts break s = counted_cuts _ _ (gives_cuts _)
    exec_cuts continue s = counted_cuts _ _ (gives_cuts _)
    exec_cuts (return o) s = counted_cuts _ _ (returns_cuts o s)

    pub execs_cuts : (ss : Statements) → CutsFrom (Execs true C ss) (Execs false C' ss)
    execs_cuts no_statements s = gives_cuts _
    execs_cuts (statement a ss) s = then_cuts (Exec true C a s) (Exec false C' a s) _ _ (exec_cuts a s)
        (λ f. next_cuts f _ _ (execs_cuts ss))

  pub enters_cuts : (p : Option PureProcedure) (args : List ℤ) → Cuts (Enters true C p args) (Enters false C' p args)
  enters_cuts None args = record { by = λ rest j w r fine e h. absurd h }
  enters_cuts (Some p) args = then_cuts (Execs true C p.body (entered args)) (Execs false C' p.body (entered args)) _ _
      (execs_cuts p.body (entered args)) (λ f. gives_cuts _)

pub run_cuts : (P : PureProgram) (d p : ℕ) (args : List ℤ) → Cuts (Run true P d p args) (Run false P d p args)
run_cuts P zero p args = record { by = λ rest j w r fine e h. absurd h }
run_cuts P (suc d) p args = enters_cuts (Run true P d) (Run false P d) (run_cuts P d) (slice_get P.procedures p) args

outs_of : (out : Outcome) (r : Progress ℤ) → Comes out ≡ replay_of r → IsFine r × ComesOut out (moved r [])
outs_of out (goes w v) e = (tt, (let same : out ≡ Returned v = cc in same, refl))
outs_of out (ends w stopped) e = (tt, (let same : out ≡ Stopped = cc in same, refl))
outs_of out (ends w (failed id)) e = (tt, (let same : out ≡ Failed id = cc in same, refl))
outs_of out (ends w starved) e = absurd cc
outs_of out (ends w spent) e = absurd cc

-- the same globals are left
globals_moved : (P : PureProgram) (r : Progress ℤ) (j : List ℤ) → globals_of P r ≡ globals_of P (moved r j)
globals_moved P (goes w v) j = refl
globals_moved P (ends w e) j = refl

-- an outcome of a counted run is one on the inputs that it used
pub comes_on_used : (P : PureProgram) (ins : List ℤ) (fuel : ℕ) (out : Outcome) (used : ℕ) → Replays P ins fuel (Comes out) used →
    (d : ℕ) × (after : List ℤ) × Runs P d P.main [] P.globals (take used ins) out after
comes_on_used P ins fuel out used h =
    let o = outs_of out h.1 h.3 in
    let c = (run_cuts P h.0 P.main []).by (world_of h.1).inputs [] (started P.globals ins fuel) h.1 o.0 refl h.2 in
    let n : length c.0 ≡ used = omega (arith, length-append c.0 (world_of h.1).inputs, ap length c.1, h.4) in
    let same : c.0 ≡ take used ins = sym (ap (take used) c.1 ∙ take_at c.0 (world_of h.1).inputs used n) in
    let r = moved h.1 [] in (
      h.0,
      globals_of P r,
      (
        r,
        subst (λ i. Run false P h.0 P.main [] (started P.globals i 0) r) same c.2,
        o.1,
        refl,
        record { count = refl; opening = λ e. refl },
      ),
    )

-- Bodies that are the same have the same results.
use Rattle.std.proofs.Common.{◌≡◌, ◌+ℤ◌, ◌-ℤ◌, ◌*ℤ◌, neg_ℤ, int_div, ℕ, zero, suc, List, [], ◌∷◌, Bool, true, false, Option, Some, None, ℤ, refl, sym, subst, IsTrue}
use Rattle.c_tree.specs.declared.tree.Op.{Op}
use Rattle.c_tree.specs.declared.tree.Op.TheVariants.{Add, Subtract, Multiply, Divide, Remainder, Less, LessEqual, Greater, GreaterEqual, Equal, Unequal, And, Or}
use Rattle.c_tree.specs.Syntax.{Expression, literal, read, read_global, input, call, negate, not as not_of, binary, Expressions, no_expressions, expression, Statement, block, set, set_global, ignore, assume, assert, if_else, loop, do_while, break, continue, return, Statements, no_statements, statement}
use Rattle.c_tree.specs.Meaning.{State, with_slot, World, Progress, goes, ends, Ending, stopped, failed, starved, spent, Flow, normal, broken, continued, returned, Relation, Gives, Ends, Onward, Then, Ticked, Counted, Choice, decided, Applied, is_zero, is_value, has_quotient, ExactOrStopped, Divided, ReadsGlobal, SetsGlobal, UnlessZero, RightSide, Callee, Eval, Evals, AfterNormal, AfterBody, Turns, DoTurns, Returns, Exec, Execs, TakesInput}
use Rattle.summary_keep.specs.Bodies.{SameExpression, SameExpressions, SameOptional, SameStatement, SameStatements}

module _ (A : ℕ → ℕ → Type 0) where
  abbrev pub SameEnding : Ending → Ending → Type 0
  SameEnding stopped y = y ≡ stopped
  SameEnding (failed a) y = (b : ℕ) × A a b × (y ≡ failed b)
  SameEnding starved y = y ≡ starved
  SameEnding spent y = y ≡ spent

  -- the same result, where assertions are related
  abbrev pub SameResult : {X : Type 0} → Progress X → Progress X → Type 0
  SameResult (goes w v) y = y ≡ goes w v
  SameResult (ends w e) y = (f : Ending) × SameEnding e f × (y ≡ ends w f)

  -- each result of the first is one of the second
  pub record Carries {X : Type 0} (P Q : Relation X) : Type 0 where
    pub by : (w : World) (o : Progress X) → P w o → (u : Progress X) × SameResult o u × Q w u

  pub gives : {X : Type 0} (v : X) → Carries (Gives v) (Gives v)
  gives {X} v = record { by = λ w o h. (goes w v, subst (λ (z : Progress X). SameResult z (goes w v)) (sym h) refl, refl) }

  end : {X : Type 0} (e f : Ending) → SameEnding e f → Carries {X = X} (Ends e) (Ends f)
  end {X} e f s = record { by = λ w o h. (ends w f, subst (λ (z : Progress X). SameResult z (ends w f)) (sym h) (f, s, refl), refl) }

  pub chain : {X Y : Type 0} (P P' : Relation X) (Q Q' : X → Relation Y) → Carries P P' → ((v : X) → Carries (Q v) (Q' v)) →
      Carries (Then P Q) (Then P' Q')
  chain {X} {Y} P P' Q Q' p q = record { by = λ w o h. on w o h.0 h.1 h.2 } where
    on : (w : World) (o : Progress Y) (r : Progress X) → P w r → Onward Q r o → (u : Progress Y) × SameResult o u × Then P' Q' w u
    on w o (goes x v) h k =
        let a = p.by w (goes x v) h in
        let b = (q v).by x o k in
        (b.0, b.1, (goes x v, subst (P' w) a.1 a.2, b.2))
    on w o (ends x e) h k =
        let a = p.by w (ends x e) h in (
          ends x a.1.0,
          subst (λ (z : Progress Y). SameResult z (ends x a.1.0)) (sym k) (a.1.0, a.1.1, refl),
          (ends x a.1.0, subst (P' w) a.1.2 a.2, refl),
        )

  ticked : {X : Type 0} (P Q : Relation X) → Carries P Q → (w : World) (l : ℕ) (o : Progress X) → Ticked P w l o →
      (u : Progress X) × SameResult o u × Ticked Q w l u
  ticked {X} P Q p w zero o h = (ends w spent, subst (λ (z : Progress X). SameResult z (ends w spent)) (sym h) (spent, refl, refl), refl)
  ticked P Q p w (suc n) o h = p.by (record w { steps_left = n }) o h

  counts : {X : Type 0} (c : Bool) (P Q : Relation X) → Carries P Q → Carries (Counted c P) (Counted c Q)
  counts false P Q p = p
  counts true P Q p = record { by = λ w o h. ticked P Q p w w.steps_left o h }

  chooses : {X : Type 0} (b : Bool) (P P' Q Q' : Relation X) → Carries P P' → Carries Q Q' → Carries (Choice b P Q) (Choice b P' Q')
  chooses true P P' Q Q' p q = p
  chooses false P P' Q Q' p q = q

  takes_input : (ins : List ℤ) (w : World) (o : Progress ℤ) → TakesInput ins w o → (u : Progress ℤ) × SameResult o u × TakesInput ins w u
  takes_input [] w o h = (ends w starved, subst (λ (z : Progress ℤ). SameResult z (ends w starved)) (sym h) (starved, refl, refl), refl)
  takes_input (v ∷ vs) w o h =
      let x : Progress ℤ = goes (record w { inputs = vs }) v in
      (x, subst (λ (z : Progress ℤ). SameResult z x) (sym h.1) refl, (h.0, refl))

  inputs : Carries (λ w o. TakesInput w.inputs w o) (λ w o. TakesInput w.inputs w o)
  inputs = record { by = λ w o h. takes_input w.inputs w o h }

  reads : (y : ℕ) → Carries (ReadsGlobal y) (ReadsGlobal y)
  reads y = record {
    by = λ w o h.
        let x : Progress ℤ = goes w (w.globals y) in (x, subst (λ (z : Progress ℤ). SameResult z x) (sym h) refl, refl);
  }

  sets : (y : ℕ) (v : ℤ) (s : State) → Carries (SetsGlobal y v s) (SetsGlobal y v s)
  sets y v s = record {
    by = λ w o h.
        let x : Progress Flow = goes (record w { globals = with_slot w.globals y v }) (normal s) in
        (x, subst (λ (z : Progress Flow). SameResult z x) (sym h) refl, refl);
  }

  exact : (z : ℤ) → Carries (ExactOrStopped z) (ExactOrStopped z)
  exact z = chooses (is_value z) (Gives z) (Gives z) (Ends stopped) (Ends stopped) (gives z) (end stopped stopped refl)

  divided : (x y : ℤ) (P : Relation ℤ) → Carries P P → Carries (Divided x y P) (Divided x y P)
  divided x y P p = chooses (has_quotient x y) P P (Ends stopped) (Ends stopped) p (end stopped stopped refl)

  applies : (op : Op) (x y : ℤ) → Carries (Applied op x y) (Applied op x y)
  applies Add x y = exact (x +ℤ y)
  applies Subtract x y = exact (x -ℤ y)
  applies Multiply x y = exact (x *ℤ y)
  applies Divide x y = divided x y _ (exact (int_div x y))
  applies Remainder x y = divided x y _ (gives _)
  applies Less x y = gives _
  applies LessEqual x y = gives _
  applies Greater x y = gives _
  applies GreaterEqual x y = gives _
  applies Equal x y = gives _
  applies Unequal x y = gives _
  applies And x y = gives _
  applies Or x y = gives _

  right : (d : Option ℤ) (op : Op) (x : ℤ) (Q Q' : Relation ℤ) → Carries Q Q' → Carries (RightSide d (Applied op x) Q)
      (RightSide d (Applied op x) Q')
  right (Some v) op x Q Q' q = gives v
  right None op x Q Q' q = chain Q Q' (Applied op x) (Applied op x) q (λ y. applies op x y)

  next : (f : Flow) (Q Q' : State → Relation Flow) → ((s : State) → Carries (Q s) (Q' s)) → Carries (AfterNormal f Q) (AfterNormal f Q')
  next (normal s) Q Q' q = q s
  next (broken s) Q Q' q = gives _
  next (continued s) Q Q' q = gives _
  next (returned v) Q Q' q = gives _

  turned : (f : Flow) (Q Q' : State → Relation Flow) → ((s : State) → Carries (Q s) (Q' s)) → Carries (AfterBody f Q) (AfterBody f Q')
  turned (normal s) Q Q' q = q s
  turned (broken s) Q Q' q = gives _
  turned (continued s) Q Q' q = q s
  turned (returned v) Q Q' q = gives _

  unless_zero : (e f : Ending) (s : State) (v : ℤ) → SameEnding e f → Carries (UnlessZero e s v) (UnlessZero f s v)
  unless_zero e f s v h = chooses (is_zero v) (Ends e) (Ends f) (Gives (normal s)) (Gives (normal s)) (end e f h) (gives _)

  module _ (R : ℕ → ℕ → Bool) (c : Bool) (C D : Callee) (calls : (p q : ℕ) → IsTrue (R p q) → (args : List ℤ) →
      Carries (C p args) (D q args))
    where
      mutual
        pub evaluates : (e y : Expression) → SameExpression R A e y → (s : State) → Carries (Eval c C e s) (Eval c D y s)
        evaluates (literal n) y h s = subst (λ z. Carries (Eval c C (literal n) s) (Eval c D z s)) (sym h) (counts c _ _ (gives n))
        evaluates (read x) y h s = subst (λ z. Carries (Eval c C (read x) s) (Eval c D z s)) (sym h) (counts c _ _ (gives (s x)))
        evaluates (read_global x) y h s = subst (λ z. Carries (Eval c C (read_global x) s) (Eval c D z s)) (sym h) (counts c _ _ (reads x))
        evaluates input y h s = subst (λ z. Carries (Eval c C input s) (Eval c D z s)) (sym h) (counts c _ _ inputs)
        evaluates (call p es) y h s = subst (λ z. Carries (Eval c C (call p es) s) (Eval c D z s)) (sym h.4)
            (counts c _ _ (chain (Evals c C es s) (Evals c D h.1 s) (C p) (D h.0) (evaluates_all es h.1 h.3 s) (calls p h.0 h.2)))
        evaluates (negate e) y h s = subst (λ z. Carries (Eval c C (negate e) s) (Eval c D z s)) (sym h.2)
            (counts c _ _ (chain (Eval c C e s) (Eval c D h.0 s) _ _ (evaluates e h.0 h.1 s) (λ v. exact (neg_ℤ v))))
        evaluates (not_of e) y h s = subst (λ z. Carries (Eval c C (not_of e) s) (Eval c D z s)) (sym h.2)
            (counts c _ _ (chain (Eval c C e s) (Eval c D h.0 s) _ _ (evaluates e h.0 h.1 s) (λ v. gives _)))
        evaluates (binary op a b) y h s = subst (λ z. Carries (Eval c C (binary op a b) s) (Eval c D z s)) (sym h.4)
            (counts c _ _ (chain (Eval c C a s) (Eval c D h.0 s) _ _ (evaluates a h.0 h.2 s)
            (λ x. right (decided op (is_zero x)) op x (Eval c C b s) (Eval c D h.1 s) (evaluates b h.1 h.3 s))))

        pub evaluates_all : (es ys : Expressions) → SameExpressions R A es ys → (s : State) → Carries (Evals c C es s) (Evals c D ys s)
        evaluates_all no_expressions ys h s = subst (λ z. Carries (Evals c C no_expressions s) (Evals c D z s)) (sym h) (gives [])
        evaluates_all (expression e es) ys h s = subst (λ z. Carries (Evals c C (expression e es) s) (Evals c D z s)) (sym h.4)
            (chain (Eval c C e s) (Eval c D h.0 s) _ _ (evaluates e h.0 h.2 s)
            (λ v. chain (Evals c C es s) (Evals c D h.1 s) _ _ (evaluates_all es h.1 h.3 s) (λ vs. gives _)))

      returns : (o y : Option Expression) → SameOptional R A o y → (s : State) → Carries (Returns c C o s) (Returns c D y s)
      returns None y h s = subst (λ z. Carries (Returns c C None s) (Returns c D z s)) (sym h) (gives _)
      returns (Some e) y h s = subst (λ z. Carries (Returns c C (Some e) s) (Returns c D z s)) (sym h.2)
          (chain (Eval c C e s) (Eval c D h.0 s) _ _ (evaluates e h.0 h.1 s) (λ v. gives _))

      loops : (n : ℕ) (T T' : State → Relation ℤ) (S S' B B' : State → Relation Flow) → ((s : State) → Carries (T s) (T' s)) →
          ((s : State) → Carries (S s) (S' s)) → ((s : State) → Carries (B s) (B' s)) → (s : State) →
          Carries (Turns c C n T S B s) (Turns c D n T' S' B' s)
      loops zero T T' S S' B B' t p b s = record { by = λ w o h. absurd h }
      loops (suc n) T T' S S' B B' t p b s =
          counts c _ _ (chain (T s) (T' s) _ _ (t s) (λ v. chooses (is_zero v) _ _ _ _ (gives _)
          (chain (B s) (B' s) _ _ (b s) (λ f. turned f _ _ (λ s1. chain (S s1) (S' s1) _ _ (p s1)
          (λ g. turned g _ _ (loops n T T' S S' B B' t p b)))))))

      do_loops : (n : ℕ) (T T' : State → Relation ℤ) (B B' : State → Relation Flow) → ((s : State) → Carries (T s) (T' s)) →
          ((s : State) → Carries (B s) (B' s)) → (s : State) → Carries (DoTurns c C n B T s) (DoTurns c D n B' T' s)
      do_loops zero T T' B B' t b s = record { by = λ w o h. absurd h }
      do_loops (suc n) T T' B B' t b s =
          chain (B s) (B' s) _ _ (b s) (λ f. turned f _ _ (λ s1. counts c _ _ (chain (T s1) (T' s1) _ _ (t s1)
          (λ v. chooses (is_zero v) _ _ _ _ (gives _) (do_loops n T T' B B' t b s1)))))

      mutual
        pub executes : (a y : Statement) → SameStatement R A a y → (s : State) → Carries (Exec c C a s) (Exec c D y s)
        executes (block ss) y h s = subst (λ z. Carries (Exec c C (block ss) s) (Exec c D z s)) (sym h.2)
            (counts c _ _ (executes_all ss h.0 h.1 s))
        executes (set x e) y h s = subst (λ z. Carries (Exec c C (set x e) s) (Exec c D z s)) (sym h.2)
            (counts c _ _ (chain (Eval c C e s) (Eval c D h.0 s) _ _ (evaluates e h.0 h.1 s) (λ v. gives _)))
        executes (set_global x e) y h s = subst (λ z. Carries (Exec c C (set_global x e) s) (Exec c D z s)) (sym h.2)
            (counts c _ _ (chain (Eval c C e s) (Eval c D h.0 s) _ _ (evaluates e h.0 h.1 s) (λ v. sets x v s)))
        executes (ignore e) y h s = subst (λ z. Carries (Exec c C (ignore e) s) (Exec c D z s)) (sym h.2)
            (counts c _ _ (chain (Eval c C e s) (Eval c D h.0 s) _ _ (evaluates e h.0 h.1 s) (λ v. gives _)))
        executes (assume e) y h s = subst (λ z. Carries (Exec c C (assume e) s) (Exec c D z s)) (sym h.2)
            (counts c _ _ (chain (Eval c C e s) (Eval c D h.0 s) _ _ (evaluates e h.0 h.1 s) (λ v. unless_zero stopped stopped s v refl)))
        executes (assert i e) y h s = subst (λ z. Carries (Exec c C (assert i e) s) (Exec c D z s)) (sym h.4)
            (counts c _ _ (chain (Eval c C e s) (Eval c D h.1 s) _ _ (evaluates e h.1 h.3 s)
            (λ v. unless_zero (failed i) (failed h.0) s v (h.0, h.2, refl))))
        executes (if_else e a b) y h s = subst (λ z. Carries (Exec c C (if_else e a b) s) (Exec c D z s)) (sym h.6)
            (counts c _ _ (chain (Eval c C e s) (Eval c D h.0 s) _ _ (evaluates e h.0 h.3 s)
            (λ v. chooses (is_zero v) _ _ _ _ (executes b h.2 h.5 s) (executes a h.1 h.4 s))))
        executes (loop e p b) y h s = subst (λ z. Carries (Exec c C (loop e p b) s) (Exec c D z s)) (sym h.6)
            (counts c _ _ (record {
              by = λ w o k.
                  let r = (loops k.0 (Eval c C e) (Eval c D h.0) (Exec c C p) (Exec c D h.1) (Exec c C b) (Exec c D h.2)
                  (evaluates e h.0 h.3)
                  (executes p h.1 h.4) (executes b h.2 h.5) s).by w o k.1 in (r.0, r.1, (k.0, r.2));
            }))
        executes (do_while a e) y h s = subst (λ z. Carries (Exec c C (do_while a e) s) (Exec c D z s)) (sym h.4)
            (counts c _ _ (record {
              by = λ w o k.
                  let r = (do_loops k.0 (Eval c C e) (Eval c D h.1) (Exec c C a) (Exec c D h.0) (evaluates e h.1 h.3) (executes a h.0 h.2)
                  s).by w o k.1 in (r.0, r.1, (k.0, r.2));
            }))
        executes break y h s = subst (λ z. Carries (Exec c C break s) (Exec c D z s)) (sym h) (counts c _ _ (gives _))
        executes continue y h s = subst (λ z. Carries (Exec c C continue s) (Exec c D z s)) (sym h) (counts c _ _ (gives _))
        executes (return o) y h s = subst (λ z. Carries (Exec c C (return o) s) (Exec c D z s)) (sym h.2)
            (counts c _ _ (returns o h.0 h.1 s))

        pub executes_all : (ss ys : Statements) → SameStatements R A ss ys → (s : State) → Carries (Execs c C ss s) (Execs c D ys s)
        executes_all no_statements ys h s = subst (λ z. Carries (Execs c C no_statements s) (Execs c D z s)) (sym h) (gives _)
        executes_all (statement a ss) ys h s = subst (λ z. Carries (Execs c C (statement a ss) s) (Execs c D z s)) (sym h.4)
            (chain (Exec c C a s) (Exec c D h.0 s) _ _ (executes a h.0 h.2 s) (λ f. next f _ _ (executes_all ss h.1 h.3)))

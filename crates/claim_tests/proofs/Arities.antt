-- The graphs that are built have the numbers of values of the program's procedures.
use Rattle.std.proofs.Common.{◌≡◌, ℕ, zero, suc, ◌+◌, List, [], ◌∷◌, length, Option, Some, None, Bool, true, false, cond, ◌==◌, refl, sym, ap, ◌∙◌}
use Rattle.std.specs.Prelude.{slice_get, if◌then◌else◌}
use Rattle.c_tree.specs.Syntax.{PureProcedure, PureProgram}
use Rattle.flow_build.specs.Promises.{AreBounded}
use Rattle.flow_graph.specs.declared.graph.Graph.{Graph}
use Rattle.summary_form.specs.Instances.{arity_of, arity_of_procedure}
use Rattle.summary_form.specs.ProgramGraphs.{SameArities}
use Rattle.summary_form.specs.Runs.{Arity}

-- in lists of one length the same places are there
one_length : {A B : Type 0} (xs : List A) (ys : List B) → length xs ≡ length ys → (i : ℕ) (y : B) → slice_get xs i ≡ None →
    slice_get ys i ≡ Some y → ⊥
one_length [] [] e i y h k = absurd (let none : None ≡ Some y = k in cc)
one_length [] (z ∷ ys) e i y h k = absurd (let none : 0 ≡ suc (length ys) = e in cc)
one_length (x ∷ xs) [] e i y h k = absurd (let none : suc (length xs) ≡ 0 = e in cc)
one_length (x ∷ xs) (z ∷ ys) e zero y h k = absurd (let none : Some x ≡ None = h in cc)
one_length (x ∷ xs) (z ∷ ys) e (suc i) y h k = one_length xs ys (let q : suc (length xs) ≡ suc (length ys) = e in cc) i y h k

chosen : (m : Bool) (a b : ℕ) → cond m a b ≡ (if m then a else b)
chosen true a b = refl
chosen false a b = refl

pub same_arities : (P : PureProgram) (gs : List Graph) → AreBounded P gs → SameArities P gs
same_arities P gs are = record { each_procedure = are.each_procedure; arities = arities } where
  arities : (p : ℕ) → arity_of (slice_get gs p) ≡ arity_of_procedure (p == P.main) (length P.globals) (slice_get P.procedures p)
  arities p = by_places (slice_get gs p) (slice_get P.procedures p) refl refl where
    by_places : (y : Option Graph) (x : Option PureProcedure) → slice_get gs p ≡ y → slice_get P.procedures p ≡ x →
        arity_of y ≡ arity_of_procedure (p == P.main) (length P.globals) x
    by_places None None k h = refl
    by_places (Some g) None k h = absurd (one_length P.procedures gs (sym are.each_procedure) p g h k)
    by_places None (Some q) k h = absurd (one_length gs P.procedures are.each_procedure p q k h)
    by_places (Some g) (Some q) k h =
        let b = are.bounded p q g h k in
        let of : ℕ → ℕ → Arity = λ n m. record { entries = n; exits = m } in
        ap (λ n. of n g.exits) (b.params ∙ chosen (p == P.main) 0 (q.params + length P.globals))
        ∙ ap (λ m. of (if p == P.main then 0 else q.params + length P.globals) m) b.exits

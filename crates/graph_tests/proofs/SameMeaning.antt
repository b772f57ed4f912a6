-- The graphs of a program are such as the laws of meaning want.
use Rattle.std.proofs.Common.{◌≡◌, ℕ, zero, suc, ◌+◌, ◌==◌, List, [], ◌∷◌, length, Option, Some, None, refl, sym, ap, ◌∙◌}
use Rattle.std.specs.Prelude.{slice_get, if◌then◌else◌}
use Rattle.c_tree.specs.Syntax.{PureProcedure, PureProgram}
use Rattle.flow_graph.specs.declared.graph.Graph.{Graph}
use Rattle.summary_form.specs.Runs.{Arity}
use Rattle.summary_form.specs.Instances.{arity_of, arity_in, arity_of_procedure, arity_of_program}
use Rattle.summary_keep.specs.Laws.{HasGraphs}
use Rattle.summary_keep.proofs.SameMeaning.{choice}
use Rattle.graph_tests.specs.Laws.{AreGraphsOf}

-- a list as long as another one has an element where that has one
same_place : {A : Type 0} {B : Type 0} → (xs : List A) (ys : List B) → length xs ≡ length ys → (i : ℕ) (y : B) → slice_get xs i ≡ None →
    slice_get ys i ≡ Some y → ⊥
same_place [] [] e i y h k = cc
same_place [] (z ∷ ys) e i y h k = absurd (let no : 0 ≡ suc (length ys) = e in cc)
same_place (x ∷ xs) [] e i y h k = absurd (let no : suc (length xs) ≡ 0 = e in cc)
same_place (x ∷ xs) (z ∷ ys) e zero y h k = cc
same_place (x ∷ xs) (z ∷ ys) e (suc i) y h k = same_place xs ys (let q : suc (length xs) ≡ suc (length ys) = e in cc) i y h k

module _ (P : PureProgram) (gs : List Graph) (are : AreGraphsOf P gs) where
  abbrev globals : ℕ
  globals = length P.globals

  same_arity : (p : ℕ) → arity_of_program P p ≡ arity_in gs p
  same_arity p = by_places (slice_get P.procedures p) (slice_get gs p) refl refl where
    by_places : (x : Option PureProcedure) (y : Option Graph) → slice_get P.procedures p ≡ x → slice_get gs p ≡ y →
        arity_of_procedure (p == P.main) globals x ≡ arity_of y
    by_places None None h k = refl
    by_places None (Some g) h k = absurd (same_place P.procedures gs (sym are.bounds.each_procedure) p g h k)
    by_places (Some q) None h k = absurd (same_place gs P.procedures are.bounds.each_procedure p q k h)
    by_places (Some q) (Some g) h k =
        let b = are.bounds.bounded p q g h k in
        let entries : (if p == P.main then 0 else q.params + globals) ≡ g.params =
        choice (p == P.main) 0 (q.params + globals) ∙ sym b.params in
        let of : ℕ → ℕ → Arity = λ n m. record { entries = n; exits = m } in
        ap (λ n. of n (1 + globals)) entries ∙ ap (λ m. of g.params m) (sym b.exits)

  pub has_graphs : HasGraphs P gs
  has_graphs = record {
    runs = are.runs;
    arities = record { each_procedure = are.bounds.each_procedure; arities = λ p. sym (same_arity p) };
    main_takes_none = are.main_takes_none;
    opening = are.opening;
  }

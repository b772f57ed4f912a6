-- The graph of a number is that of its procedure.
use Rattle.std.proofs.Common.{◌≡◌, ℕ, zero, suc, ◌+◌, List, [], ◌∷◌, Some, refl, subst, arith}
use Rattle.std.specs.Prelude.{slice_get}
use Rattle.c_tree.specs.Syntax.{PureProcedure, PureProgram}
use Rattle.flow_graph.specs.declared.graph.Graph.{Graph}
use Rattle.flow_build.specs.steps.Procedures.{IsGraphOf, AreGraphsOf}

module _ (P : PureProgram) where
  renumbered : (i j : ℕ) (p : PureProcedure) (g : Graph) → i ≡ j → IsGraphOf P i p g → IsGraphOf P j p g
  renumbered i j p g e h = let F : ℕ → Type 0 = λ k. IsGraphOf P k p g in subst F e h

  graph_from : (k : ℕ) (ps : List PureProcedure) (gs : List Graph) → AreGraphsOf P k ps gs → (i : ℕ) (p : PureProcedure) →
      slice_get ps i ≡ Some p → (g : Graph) × (slice_get gs i ≡ Some g) × IsGraphOf P (k + i) p g
  graph_from k [] [] are i p h = absurd cc
  graph_from k [] (x ∷ gs) are i p h = absurd are
  graph_from k (y ∷ ps) [] are i p h = absurd are
  graph_from k (y ∷ ps) (g ∷ gs) are zero p h =
      let q : y ≡ p = cc in
      let G : PureProcedure → Type 0 = λ z. IsGraphOf P k z g in
      (g, refl, renumbered k (k + 0) p g (omega arith) (subst G q are.0))
  graph_from k (y ∷ ps) (g ∷ gs) are (suc i) p h =
      let r = graph_from (suc k) ps gs are.1 i p h in
      (r.0, r.1, renumbered (suc k + i) (k + suc i) p r.0 (omega arith) r.2)

  pub graph_of : (gs : List Graph) → AreGraphsOf P 0 P.procedures gs → (i : ℕ) (p : PureProcedure) → slice_get P.procedures i ≡ Some p →
      (g : Graph) × (slice_get gs i ≡ Some g) × IsGraphOf P i p g
  graph_of gs are i p h =
      let r = graph_from 0 P.procedures gs are i p h in
      (r.0, r.1, renumbered (0 + i) i p r.0 (omega arith) r.2)

  procedure_from : (k : ℕ) (ps : List PureProcedure) (gs : List Graph) → AreGraphsOf P k ps gs → (i : ℕ) (g : Graph) →
      slice_get gs i ≡ Some g → (p : PureProcedure) × (slice_get ps i ≡ Some p) × IsGraphOf P (k + i) p g
  procedure_from k [] [] are i g h = absurd cc
  procedure_from k [] (x ∷ gs) are i g h = absurd are
  procedure_from k (y ∷ ps) [] are i g h = absurd are
  procedure_from k (y ∷ ps) (x ∷ gs) are zero g h =
      let q : x ≡ g = cc in
      let G : Graph → Type 0 = λ z. IsGraphOf P k y z in
      (y, refl, renumbered k (k + 0) y g (omega arith) (subst G q are.0))
  procedure_from k (y ∷ ps) (x ∷ gs) are (suc i) g h =
      let r = procedure_from (suc k) ps gs are.1 i g h in
      (r.0, r.1, renumbered (suc k + i) (k + suc i) r.0 g (omega arith) r.2)

  pub procedure_of : (gs : List Graph) → AreGraphsOf P 0 P.procedures gs → (i : ℕ) (g : Graph) → slice_get gs i ≡ Some g →
      (p : PureProcedure) × (slice_get P.procedures i ≡ Some p) × IsGraphOf P i p g
  procedure_of gs are i g h =
      let r = procedure_from 0 P.procedures gs are i g h in
      (r.0, r.1, renumbered (0 + i) i r.0 g (omega arith) r.2)

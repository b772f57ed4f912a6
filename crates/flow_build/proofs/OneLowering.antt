-- A program is lowered to one list of graphs.
use mathlib.Core.HLevel.{is_prop→PathP}
use Rattle.std.proofs.Common.{◌≡◌, ℕ, suc, List, [], ◌∷◌, ℤ, refl, sym, ap₂, ◌∙◌}
use Rattle.std.proofs.Props.{props}
use Rattle.c_tree.specs.Syntax.{PureProcedure, PureProgram}
use Rattle.flow_graph.specs.WellFormed.{IsGraph}
use Rattle.flow_graph.specs.declared.graph.Edge.{Edge}
use Rattle.flow_graph.specs.declared.graph.Graph.{Graph}
use Rattle.flow_build.specs.Lowered.{OneLowering}
use Rattle.flow_build.specs.steps.Procedures.{IsGraphWith, AreGraphsOf}

graph_prop : (nodes exit fail params exits slots : ℕ) (edges : List Edge) → IsProp (IsGraph nodes exit fail params exits slots edges)
graph_prop nodes exit fail params exits slots edges = hlevel props

-- what a graph keeps has one proof, so its parts determine it
same_graph : (g h : Graph) → g.nodes ≡ h.nodes → g.exit ≡ h.exit → g.fail ≡ h.fail → g.params ≡ h.params → g.exits ≡ h.exits →
    g.slots ≡ h.slots → g.edges ≡ h.edges → g ≡ h
same_graph g h n x f p k s e =
    λ i. record {
      nodes = n i;
      exit = x i;
      fail = f i;
      params = p i;
      exits = k i;
      slots = s i;
      edges = e i;
      well_formed =
          is_prop→PathP (λ j. IsGraph (n j) (x j) (f j) (p j) (k j) (s j) (e j)) (λ j. graph_prop (n j) (x j) (f j) (p j) (k j) (s j) (e j))
          g.well_formed h.well_formed i;
    }

one_graph : (n : ℕ) (opening : List ℤ) (entries : ℕ) (p : PureProcedure) (g h : Graph) → IsGraphWith n opening entries p g →
    IsGraphWith n opening entries p h → g ≡ h
one_graph n opening entries p g h a b =
    same_graph g h (a.nodes ∙ sym b.nodes) (a.exit ∙ sym b.exit) (a.fail ∙ sym b.fail) (a.params ∙ sym b.params) (a.exits ∙ sym b.exits)
    (a.slots ∙ sym b.slots) (a.edges ∙ sym b.edges)

same_graphs : (P : PureProgram) (i : ℕ) (ps : List PureProcedure) (gs hs : List Graph) → AreGraphsOf P i ps gs → AreGraphsOf P i ps hs →
    gs ≡ hs
same_graphs P i [] [] [] a b = refl
same_graphs P i [] [] (h ∷ hs) a b = absurd b
same_graphs P i [] (g ∷ gs) hs a b = absurd a
same_graphs P i (p ∷ ps) [] hs a b = absurd a
same_graphs P i (p ∷ ps) (g ∷ gs) [] a b = absurd b
same_graphs P i (p ∷ ps) (g ∷ gs) (h ∷ hs) a b =
    ap₂ (λ x xs. x ∷ xs) (one_graph _ _ _ p g h a.0 b.0) (same_graphs P (suc i) ps gs hs a.1 b.1)

pub one_lowering : OneLowering
one_lowering P gs hs a b = same_graphs P 0 P.procedures gs hs a b

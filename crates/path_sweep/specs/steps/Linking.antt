-- The first edges from a number on that leave a node.
use Rattle.std.specs.Prelude.{◌≡◌, ℕ, ◌+◌, ◌<◌, ◌≤◌, List, Option, None, Some, slice_get, slice_index_or}
use Rattle.flow_graph.specs.declared.graph.Edge.{Edge}
use Rattle.flow_graph.specs.declared.graph.Graph.{Graph}
use Rattle.flow_graph.specs.Shapes.{source}
use Rattle.path_sweep.specs.declared.links.Links.{Links}
use Rattle.path_sweep.specs.declared.links.Following.{Following}

-- the edge of this number leaves the node
abbrev pub Leaves : List Edge → (node k : ℕ) → Type 0
Leaves edges node k = (e : Edge) × (slice_get edges k ≡ Some e) × (source e ≡ Some node)

-- the first number from there on of which it holds, or none
abbrev pub IsFirst : (ℕ → Type 0) → (from : ℕ) → Option ℕ → Type 0
IsFirst P from None = (k : ℕ) → from ≤ k → P k → ⊥
IsFirst P from (Some j) = (from ≤ j) × P j × ((k : ℕ) → from ≤ k → k < j → P k → ⊥)

-- of each node the first edge, and of each edge the next one that leaves the same node
pub record AreLinks (g : Graph) (l : Links) : Type 0 where
  pub first : (node : ℕ) →
      IsFirst (Leaves g.edges node) 0 (slice_index_or l.first.items node None)
  pub next : (node k : ℕ) → Leaves g.edges node k →
      IsFirst (Leaves g.edges node) (k + 1) (slice_index_or l.next.items k None)

pub record AreAllLinks (gs : List Graph) (f : Following) : Type 0 where
  pub each : (p : ℕ) (g : Graph) → slice_get gs p ≡ Some g →
      (l : Links) × (slice_get f.graphs.items p ≡ Some l) × AreLinks g l

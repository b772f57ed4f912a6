-- Edges that are listed by the region that they leave, and by the region that they lead to.
use Rattle.std.specs.Prelude.{◌≡◌, ◌≤◌, ◌<◌, ◌==◌, ◌&&◌, ℕ, IsTrue, List, [], ◌∷◌, ◌++◌, length, slice_index_or}
use Rattle.std.specs.List.{filter}
use Rattle.may_partition.specs.declared.region.RegionEdge.{RegionEdge}
use Rattle.may_partition.specs.Parted.{has_regions}
use Rattle.may_partition.specs.Shown.{is_live}

-- a number of regions, and the edges between them
pub record Sides : Type 0 where
  pub count : ℕ
  pub edges : List RegionEdge

abbrev pub joined : List (List RegionEdge) → List RegionEdge
joined [] = []
joined (l ∷ lists) = l ++ joined lists

abbrev pub at_region : List (List RegionEdge) → ℕ → List RegionEdge
at_region lists region = slice_index_or lists region []

-- each edge stands at its first region, and also at its second one
pub record AreListed (leaving entering : List (List RegionEdge)) : Type 0 where
  pub many : length leaving ≤ length entering
  pub from : (r : ℕ) (e : RegionEdge) → IsTrue (is_live (at_region leaving r) e) → e.from ≡ r
  pub to : (r : ℕ) (e : RegionEdge) → IsTrue (is_live (at_region leaving r) e) →
      e.to < length leaving
  pub enters : (r : ℕ) (e : RegionEdge) →
      is_live (at_region entering r) e ≡ (is_live (at_region leaving e.from) e && e.to == r)

-- nothing is added between the first n regions
pub record KeepsWithin (n : ℕ) (old new : Sides) : Type 0 where
  pub count : new.count ≡ old.count
  pub edges : filter (has_regions n) new.edges ≡ filter (has_regions n) old.edges

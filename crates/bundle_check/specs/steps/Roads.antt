-- Paths over a list of edges.
use Rattle.std.specs.Prelude.{◌≡◌, ℕ, IsTrue, List, [], ◌∷◌}
use Rattle.may_partition.specs.declared.region.RegionEdge.{RegionEdge}
use Rattle.may_partition.specs.Shown.{is_live}

abbrev pub ends_of : RegionEdge → ℕ × ℕ
ends_of e = (e.from, e.to)

-- listed edges, one after the other
abbrev pub IsRoad : List RegionEdge → ℕ → List RegionEdge → ℕ → Type 0
IsRoad edges a [] b = b ≡ a
IsRoad edges a (e ∷ es) b = IsTrue (is_live edges e) × (e.from ≡ a) × IsRoad edges e.to es b

abbrev pub IsJoined : List RegionEdge → (from to : ℕ) → Type 0
IsJoined edges a b = (es : List RegionEdge) × IsRoad edges a es b

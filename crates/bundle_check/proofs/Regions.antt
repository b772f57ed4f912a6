-- A region is split in one of the two ways.
use Rattle.std.proofs.Common.{◌⊎◌, inl, ⊎_elim, List, Bool, false}
use Rattle.linear_formula.specs.declared.formula.Atom.{Atom}
use Rattle.flow_graph.specs.declared.graph.Graph.{Graph}
use Rattle.may_partition.specs.declared.region.RegionEdge.{RegionEdge}
use Rattle.may_partition.specs.Shown.{Shown}
use Rattle.bundle_check.specs.RightClaims.{SplitsByPreimage, SplitsRegion}
use Rattle.bundle_check.specs.steps.Checks.{Decides}
use Rattle.bundle_check.proofs.Deciding.{untrue}

-- where it isn't in the second, it is in the first
pub either_no : (g : Graph) (s : Shown) (k : RegionEdge) (atoms : List Atom) (r : Bool) → Decides s (λ p. SplitsRegion g p k atoms) false →
    Decides s (λ p. SplitsByPreimage g p k atoms) r → Decides s (λ p. SplitsByPreimage g p k atoms ⊎ SplitsRegion g p k atoms) r
either_no g s k atoms r none d p sh = (
  λ t. inl ((d p sh).0 t),
  λ h. ⊎_elim (λ w. (d p sh).1 w) (λ w. absurd (untrue ((none p sh).1 w))) h,
)

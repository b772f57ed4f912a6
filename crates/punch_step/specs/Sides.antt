-- Edges off the shortest path, over which a trail may be carried on.
use Rattle.std.specs.Prelude.{◌≡◌, ℕ, false, IsTrue, List, None, Some, slice_get}
use Rattle.linear_formula.specs.LinearSum.{valuation}
use Rattle.linear_formula.specs.Formula.{HoldsAll}
use Rattle.shadow_elim.specs.Sums.{first_wide}
use Rattle.may_partition.specs.declared.region.Region.{Region}
use Rattle.may_partition.specs.declared.region.RegionEdge.{RegionEdge}
use Rattle.must_region.specs.Paths.{read_sums}
use Rattle.must_region.specs.Traces.{Trace}
use Rattle.query_rules.specs.declared.step.Mark.{Mark}
use Rattle.query_rules.specs.declared.step.Step.{Step}
use Rattle.query_rules.specs.declared.step.Step.TheVariants as step
use Rattle.query_rules.specs.Paths.{IsOpenPath, is_shut, leaves_marked}
use Rattle.query_rules.specs.Rows.{seen_at}
use Rattle.query_rules.specs.Seen.{Seen}
use Rattle.query_rules.specs.Steps.{Model, Point}

-- the edge is live and not shut, it leads from a marked region to one that isn't, and open edges
-- lead on from there to the target
pub record IsSide (m : Model) (target : ℕ) (k : RegionEdge) : Type 0 where
  pub lives : IsTrue (m.parted.live k)
  pub free : is_shut m k ≡ false
  pub frontier : IsTrue (leaves_marked m.marks k)
  pub rest : List RegionEdge
  pub leads_on : IsOpenPath m k.to rest target

-- the rows of the trail at the edge's target are read, and hold at the point
pub record LandsAt (s : Seen) (t : Trace) (k : RegionEdge) (point : Point) : Type 0 where
  pub target : Region
  pub at_target : slice_get s.partition.regions k.to ≡ Some target
  pub read : first_wide (read_sums t s.query.start.atoms target.cube.atoms) ≡ None
  pub met : HoldsAll (valuation point) (seen_at s.query t target.cube.atoms)

-- the mark's trail marks the edge's target by the mark's own point, at which the trail that was
-- carried over the edge comes into it
abbrev pub IsLanded : Seen → Trace → Mark → RegionEdge → Step → Type 0
IsLanded s t mark k (step.Extend over n point) =
    (over ≡ k) × (n ≡ mark.trail) × (point ≡ mark.point) × LandsAt s t k point
IsLanded s t mark k _ = ⊥

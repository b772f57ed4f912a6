-- Where kept ways lead.
use Rattle.std.specs.Prelude.{List}
use Rattle.may_partition.specs.Shown.{Shown}
use Rattle.may_partition.specs.declared.region.RegionEdge.{RegionEdge}
use Rattle.punch_step.specs.declared.distances.Distances.{Distances}
use Rattle.punch_step.specs.declared.distances.Walk.{Walk}
use Rattle.punch_step.specs.declared.distances.Walk.TheVariants as walk
use Rattle.punch_step.specs.steps.Far.{IsLastCrossing, IsOpenWay, LeadOn}

abbrev pub IsWalk : Shown → Distances → Walk → Type 0
IsWalk p d (walk.To k) = IsLastCrossing p.edges d.shut d.marked.items d.target k
IsWalk p d walk.Closed = (es : List RegionEdge) → IsOpenWay p.edges d.shut 0 es d.target → ⊥
IsWalk p d walk.Lost = LeadOn p.edges d.shut d.target d.reach.far.items d.reach.way.items → ⊥

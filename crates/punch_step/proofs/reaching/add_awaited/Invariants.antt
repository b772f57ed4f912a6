use Rattle.std.proofs.Common.{◌≡◌, ◌||◌, take}
use Rattle.may_partition.specs.Shown.{is_live}
use Rattle.may_partition.specs.declared.region.RegionEdge.{RegionEdge}
use Rattle.query_rules.specs.Paths.{is_awaited}
use Rattle.punch_step.proofs.reaching.add_awaited.Given as goal

abbrev pub invariant-loop-entry : goal.invariant-loop-entry
invariant-loop-entry l =
    (e : RegionEdge) → is_live l.edges e ≡ (is_live l.fn.edges e || is_awaited (take l.entry-index l.asked) e)

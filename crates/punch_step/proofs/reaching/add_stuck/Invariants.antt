use Rattle.std.proofs.Common.{◌≡◌, ◌||◌, take}
use Rattle.may_partition.specs.Shown.{is_live}
use Rattle.may_partition.specs.declared.region.RegionEdge.{RegionEdge}
use Rattle.query_rules.specs.Paths.{is_stuck}
use Rattle.punch_step.proofs.reaching.add_stuck.Given as goal

abbrev pub invariant-loop-step : goal.invariant-loop-step
invariant-loop-step l =
    (e : RegionEdge) → is_live l.edges e ≡ (is_live l.fn.edges e || is_stuck (take l.step-index l.steps) e)

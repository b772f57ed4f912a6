use Rattle.std.proofs.Common.{ℕ, length, take}
use Rattle.flow_graph.specs.declared.graph.Graph.{Graph}
use Rattle.query_rules.specs.Steps.{Model}
use Rattle.punch_step.specs.steps.Far.{AreMeasured}
use Rattle.punch_step.specs.steps.Reaching.{IsGround, NoneStops}
use Rattle.punch_step.proofs.reaching.first_stop.Given as goal

abbrev pub invariant-loop-step : goal.invariant-loop-step
invariant-loop-step l =
    (g : Graph) (m : Model) (target : ℕ) → AreMeasured (length l.partition.regions) l.partition.edges l.none target l.reach.far.items
    l.reach.way.items → IsGround l.partition.edges target g m → NoneStops g m (take l.step-index l.steps)

use Rattle.std.proofs.Common.{◌≡◌, ◌≤◌, ◌-◌, suc}
use Rattle.may_partition.specs.Parted.{end_node}
use Rattle.punch_step.specs.steps.Following.{IsFollowed}
use Rattle.query_rules.specs.Steps.{Model}
use Rattle.query_rules.specs.Answered.{AreAnswered}
use Rattle.punch_step.specs.Analysed.{IsAnalysed}
use Rattle.punch_step.specs.steps.Going.{IsUnderWay}
use Rattle.punch_step.proofs.slice.slice_along.Given as goal

abbrev pub invariant-steps : goal.invariant-steps
invariant-steps l = record {
  way : (m : Model) → IsAnalysed l.graphs.graphs l.table.summaries l.graph l.initial.state m →
      IsUnderWay l.graphs.graphs l.graph l.table.summaries m l.state l.steps;
  answered : AreAnswered l.table.summaries l.state.asked;
  followed : IsFollowed l.state l.distances;
  target : l.distances.target ≡ suc (end_node l.graph l.state.query.exit);
  low : l.steps ≤ l.left;
  few : l.steps ≤ l.at_most;
}

abbrev pub decreases-steps : goal.decreases-steps
decreases-steps l = l.left - l.steps

use Rattle.std.proofs.Common.{◌≡◌}
use Rattle.punch_step.specs.steps.Following.{IsFollowed}
use Rattle.punch_step.proofs.own_points.from_mark.Given as goal

abbrev pub invariant-loop-edge : goal.invariant-loop-edge
invariant-loop-edge l = record {
  followed : IsFollowed l.state l.distances;
  target : l.distances.target ≡ l.initial.distances.target;
}

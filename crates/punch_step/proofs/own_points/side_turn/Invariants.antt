use Rattle.std.proofs.Common.{◌≡◌}
use Rattle.punch_step.specs.steps.Following.{IsFollowed}
use Rattle.punch_step.proofs.own_points.side_turn.Given as goal

abbrev pub invariant-loop-back : goal.invariant-loop-back
invariant-loop-back l = record {
  followed : IsFollowed l.state l.distances;
  target : l.distances.target ≡ l.initial.distances.target;
}

use Rattle.punch_step.proofs.Near.{IsNearestOf}
use Rattle.punch_step.proofs.distances.Distances.nearest.Given as goal

abbrev pub invariant-loop-edge : goal.invariant-loop-edge
invariant-loop-edge l = IsNearestOf l.yielded l.self.shut l.self.reach.far.items l.near

use Rattle.std.specs.Prelude.{slice_index}
use Rattle.punch_step.specs.steps.Following.{AreNoted}
use Rattle.punch_step.proofs.FarAway.{IsWalked}
use Rattle.punch_step.proofs.distances.Distances.walk.Given as goal

abbrev pub invariant-loop-here : goal.invariant-loop-here
invariant-loop-here l = record {
  walked : IsWalked l.partition.edges l.self.shut l.self.marked.items l.self.reach.far.items l.here l.last;
  noted : AreNoted l.partition l.noted.items;
}

abbrev pub decreases-loop-here : goal.decreases-loop-here
decreases-loop-here l = slice_index l.self.reach.far.items l.here

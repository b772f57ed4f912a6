use Rattle.std.specs.Prelude.{List, slice_index}
use Rattle.may_partition.specs.declared.region.RegionEdge.{RegionEdge}
use Rattle.punch_step.specs.steps.Far.{IsOpenWay}
use Rattle.punch_step.specs.steps.Following.{AreNoted}
use Rattle.punch_step.proofs.distances.Distances.leads.Given as goal

abbrev pub invariant-loop-here : goal.invariant-loop-here
invariant-loop-here l = record {
  walked : (es : List RegionEdge) × IsOpenWay l.partition.edges l.self.shut l.from es l.here;
  noted : AreNoted l.partition l.noted.items;
}

abbrev pub decreases-loop-here : goal.decreases-loop-here
decreases-loop-here l = slice_index l.self.reach.far.items l.here

use Rattle.may_partition.specs.steps.Listed.{KeepsWithin}
use Rattle.may_partition.proofs.Dividing.{ReachesTo}
use Rattle.may_partition.proofs.division.Division.add_to_new.Given as goal

abbrev pub invariant-loop-to : goal.invariant-loop-to
invariant-loop-to l = record {
  live : ReachesTo l.self l.initial.edges.edges l.edges.edges l.edge l.to;
  kept : KeepsWithin l.self.first l.initial.edges l.edges;
}

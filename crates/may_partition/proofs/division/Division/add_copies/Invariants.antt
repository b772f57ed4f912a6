use Rattle.may_partition.specs.steps.Listed.{KeepsWithin}
use Rattle.may_partition.proofs.Dividing.{ReachesFrom}
use Rattle.may_partition.proofs.division.Division.add_copies.Given as goal

abbrev pub invariant-loop-from : goal.invariant-loop-from
invariant-loop-from l = record {
  live : ReachesFrom l.self l.fn.edges.edges l.edges.edges l.edge l.from;
  kept : KeepsWithin l.self.first l.fn.edges l.edges;
}

use Rattle.std.proofs.Common.{take}
use Rattle.may_partition.specs.steps.Listed.{KeepsWithin}
use Rattle.may_partition.proofs.Dividing.{AddsCopies}
use Rattle.may_partition.proofs.division.Division.add_all_copies.Given as goal

abbrev pub invariant-loop-edge : goal.invariant-loop-edge
invariant-loop-edge l = record {
  live : AddsCopies l.self l.fn.edges.edges l.edges.edges (take l.edge-index l.divided);
  kept : KeepsWithin l.self.first l.fn.edges l.edges;
}

use Rattle.std.proofs.Common.{◌≡◌, ◌≤◌, ◌-◌}
use Rattle.may_partition.proofs.edges.Edges.extend.Given as goal

abbrev pub invariant-loop-alloc : goal.invariant-loop-alloc
invariant-loop-alloc l = record {
  low : l.initial.self.count ≤ l.self.count;
  high : l.self.count ≤ l.regions;
  edges : l.self.edges ≡ l.initial.self.edges;
}

abbrev pub decreases-loop-alloc : goal.decreases-loop-alloc
decreases-loop-alloc l = l.regions - l.self.count

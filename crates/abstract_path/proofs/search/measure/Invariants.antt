use Rattle.std.proofs.Common.{◌≡◌, ◌+◌, ◌-◌, []}
use Rattle.abstract_path.specs.steps.Searching.{IsInLayer}
use Rattle.abstract_path.proofs.search.measure.Given as goal

abbrev pub invariant-loop-alloc : goal.invariant-loop-alloc
invariant-loop-alloc l = record {
  layer : IsInLayer l.search;
  alone : l.search.met.items ≡ [];
  network : l.search.network ≡ l.fn.network;
  target : l.search.target ≡ l.fn.target;
}

abbrev pub decreases-loop-alloc : goal.decreases-loop-alloc
decreases-loop-alloc l = l.search.network.regions + 1 - l.search.depth

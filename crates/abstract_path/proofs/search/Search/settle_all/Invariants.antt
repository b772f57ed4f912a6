use Rattle.std.proofs.Common.{◌<◌, ℕ, slice_index}
use Rattle.abstract_path.specs.steps.Layers.{IsSettled}
use Rattle.abstract_path.specs.steps.Searching.{IsInLayer, KeepsLayer}
use Rattle.abstract_path.proofs.search.Search.settle_all.Given as goal

abbrev pub invariant-loop-place : goal.invariant-loop-place
invariant-loop-place l = record {
  layer : IsInLayer l.self;
  keeps : KeepsLayer l.initial.self l.self;
  settled : (k : ℕ) → k < l.place → IsSettled l.self.network.edges.now l.self.network.shut.now l.self.far.items
      (slice_index l.self.current.items k);
}

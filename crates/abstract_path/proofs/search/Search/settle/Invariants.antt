use Rattle.std.proofs.Common.{◌≡◌, ◌≢◌, ◌≤◌, ◌<◌, ℕ, suc, slice_index}
use Rattle.abstract_path.specs.steps.Arrivals.{arrival}
use Rattle.abstract_path.specs.steps.Layers.{Extends}
use Rattle.abstract_path.specs.steps.Searching.{IsInLayer, KeepsLayer}
use Rattle.abstract_path.proofs.search.Search.settle.Given as goal

-- where the region's edges lie, and that those before this place lead from regions that were met
abbrev pub invariant-loop-at : goal.invariant-loop-at
invariant-loop-at l = record {
  layer : IsInLayer l.self;
  keeps : KeepsLayer l.initial.self l.self;
  same : Extends l.initial.self.far.items l.self.far.items;
  place : l.region ≡ slice_index l.self.current.items l.place;
  begin : l.begin ≡ slice_index l.self.network.arrivals.begins.items l.region;
  end : l.end ≡ slice_index l.self.network.arrivals.begins.items (suc l.region);
  met : (k : ℕ) → l.begin ≤ k → k < l.at →
      slice_index l.self.far.items (arrival l.self.network.arrivals.entries.items k).source ≢ 0;
}

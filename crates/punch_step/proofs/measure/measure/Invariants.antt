use Rattle.std.proofs.Common.{◌≡◌, ◌-◌, ◌+◌, length}
use Rattle.abstract_path.specs.steps.Layers.{unmet}
use Rattle.punch_step.specs.steps.Searching.{IsSearching}
use Rattle.punch_step.proofs.measure.measure.Given as goal

abbrev pub invariant-loop-place : goal.invariant-loop-place
invariant-loop-place l = record {
  searching : IsSearching l.target l.place l.search;
  partition : l.search.partition.now ≡ l.partition;
  shut : l.search.shut.now ≡ l.shut;
}

abbrev pub decreases-loop-place : goal.decreases-loop-place
decreases-loop-place l = (unmet l.search.reach.far.items + length l.search.met.items) - l.place

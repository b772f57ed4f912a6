use Rattle.std.proofs.Common.{◌≡◌, ◌≢◌, ℕ, false}
use Rattle.std.specs.Prelude.{IsTrue}
use Rattle.may_partition.specs.declared.region.RegionEdge.{RegionEdge}
use Rattle.may_partition.specs.Shown.{is_live}
use Rattle.punch_step.specs.steps.Searching.{IsSearching, MeetsMore, far_in}
use Rattle.punch_step.proofs.measure.Search.meet_all.Given as goal

abbrev pub invariant-loop-edge : goal.invariant-loop-edge
invariant-loop-edge l = record {
  searching : (target : ℕ) → IsSearching target l.place l.fn.self → IsSearching target l.place l.self;
  more : MeetsMore l.fn.self l.self;
  passed : (e : RegionEdge) → IsTrue (is_live l.yielded e) → is_live l.fn.self.shut.now e ≡ false → far_in l.self e.from ≢ 0;
}

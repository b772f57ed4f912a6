use Rattle.std.proofs.Common.{◌≡◌, ◌&&◌, IsTrue, nat_lt}
use Rattle.may_partition.specs.Shown.{have_regions, is_live}
use Rattle.may_partition.specs.declared.region.RegionEdge.{RegionEdge}
use Rattle.bundle_check.proofs.paths.live_edges.Given as goal

-- those of the regions that are passed
abbrev pub invariant-loop-region : goal.invariant-loop-region
invariant-loop-region l = record {
  live : (e : RegionEdge) → is_live l.edges.items e ≡ (is_live l.partition.edges e && nat_lt e.from l.region);
  within : IsTrue (have_regions l.regions l.edges.items);
}

use Rattle.std.proofs.Common.{◌≡◌, ◌++◌, drop, map, take}
use Rattle.may_partition.specs.steps.Grouped.{kept_within}
use Rattle.may_partition.proofs.edges.keep_first.Given as goal

abbrev pub invariant-loop-place : goal.invariant-loop-place
invariant-loop-place l = l.lists.items ≡ map (map (kept_within l.regions)) (take l.place l.initial.lists.items)
    ++ drop l.place l.initial.lists.items

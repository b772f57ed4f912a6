use Rattle.std.proofs.Common.{◌≡◌, take}
use Rattle.shadow_elim.proofs.limit.Cubes.copy.Given as goal

abbrev pub invariant-loop-cube : goal.invariant-loop-cube
invariant-loop-cube l = l.items.items ≡ take l.cube-index l.cube-items

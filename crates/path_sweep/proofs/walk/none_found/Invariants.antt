use Rattle.std.proofs.Common.{◌≡◌, None, replicate}
use Rattle.path_sweep.proofs.walk.none_found.Given as goal

abbrev pub invariant-loop : goal.invariant-loop
invariant-loop l = l.found.items ≡ replicate l.counter None

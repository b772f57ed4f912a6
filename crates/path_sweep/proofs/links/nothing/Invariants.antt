use Rattle.std.proofs.Common.{◌≡◌, None, replicate}
use Rattle.path_sweep.proofs.links.nothing.Given as goal

abbrev pub invariant-loop : goal.invariant-loop
invariant-loop l = l.items.items ≡ replicate l.counter None

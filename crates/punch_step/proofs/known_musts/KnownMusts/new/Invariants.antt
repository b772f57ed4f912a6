use Rattle.std.proofs.Common.{◌≡◌, length}
use Rattle.punch_step.proofs.known_musts.KnownMusts.new.Given as goal

abbrev pub invariant-loop : goal.invariant-loop
invariant-loop l = length l.slots.items ≡ l.counter

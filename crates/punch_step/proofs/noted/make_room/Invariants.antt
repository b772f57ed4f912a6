use Rattle.punch_step.proofs.Noting.{Keeps}
use Rattle.punch_step.proofs.noted.make_room.Given as goal

abbrev pub invariant-loop : goal.invariant-loop
invariant-loop l = Keeps l.initial.noted.items l.noted.items

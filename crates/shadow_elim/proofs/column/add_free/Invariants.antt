use Rattle.std.proofs.Common.{map}
use Rattle.shadow_elim.specs.steps.Making.{known}
use Rattle.shadow_elim.specs.steps.Lists.{AreAdded}
use Rattle.shadow_elim.proofs.column.add_free.Given as goal

abbrev pub invariant-loop-row : goal.invariant-loop-row
invariant-loop-row l = AreAdded l.others (map known l.yielded) l.initial.lists.items l.lists.items

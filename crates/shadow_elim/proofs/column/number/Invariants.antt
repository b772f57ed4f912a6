use Rattle.shadow_elim.proofs.Numbering.{IsNumbered}
use Rattle.shadow_elim.proofs.column.number.Given as goal

abbrev pub invariant-loop-candidate : goal.invariant-loop-candidate
invariant-loop-candidate l = IsNumbered l.first l.initial.steps.items l.yielded l.rows.items l.steps.items

use Rattle.std.proofs.Common.{◌≡◌, ◌+◌, ◌*◌, ◌≤◌, List}
use Rattle.std.specs.Prelude.{vec_capacity}
use Rattle.summary_form.specs.declared.summary.Summary.{Summary}
use Rattle.bolt_core.specs.steps.Begun.{AreBegun}
use Rattle.bolt_core.proofs.board.roots_of.Given as goal

abbrev pub invariant-loop-id : goal.invariant-loop-id
invariant-loop-id l =
    ((known : List Summary) → AreBegun l.graphs.graphs l.main l.budget l.id known l.forest.entries l.slots.items)
    × (l.forest.room ≡ l.asserts * l.budget + l.asserts)
    × (l.asserts * l.budget + l.asserts ≤ vec_capacity l.slots)

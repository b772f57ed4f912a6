use Rattle.std.proofs.Common.{ap, get_or, sym, ◌∙◌, ◌++◌}
use Rattle.std.proofs.lemmas.Option.{get_or_from_slice_get, slice_get-get_or}
use Rattle.query_tree.proofs.Lists.{set_changed}
use Rattle.bolt_core.specs.declared.slot.Slot.{Slot}
use Rattle.bolt_core.specs.steps.Closes.{shown_slot, summaries_in, value_of}
use Rattle.bolt_core.proofs.closing.show.Goals as goal

pub add-requires-clause-numbers : goal.add-requires-clause-numbers
add-requires-clause-numbers c = λ s e.
    c.requires.numbers (get_or c.args.slots.now c.args.id c.index-slots-id.result)
    (slice_get-get_or c.args.slots.now c.args.id c.index-slots-id.result c.requires.here) s
    (ap value_of (sym c.take-summary.ensures.value) ∙ e)

pub returns-clause-slots : goal.returns-clause-slots
returns-clause-slots c = rw c.take-summary.ensures.after
    (set_changed (shown_slot c.args.place) c.args.slots.now c.args.id c.index-slots-id.result c.requires.here)

pub returns-clause-table : goal.returns-clause-table
returns-clause-table c s a = c.add.ensures.table
    ∙ ap (λ o. c.args.table.now.summaries ++ summaries_in (value_of o)) (c.take-summary.ensures.value
    ∙ ap (λ (z : Slot). z.summary) (get_or_from_slice_get c.args.slots.now c.args.id s c.index-slots-id.result a))

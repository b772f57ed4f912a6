use Rattle.std.proofs.Common.{◌≡◌, ◌++◌, drop}
use Rattle.std.specs.Prelude.{flat_map, string_bytes}
use Rattle.graph_text.specs.Text.{number}
use Rattle.graph_text.proofs.row.write_slots.Given as goal

abbrev pub invariant-loop-slot : goal.invariant-loop-slot
invariant-loop-slot l =
    string_bytes l.out ++ flat_map number (drop l.slot-index l.slots) ≡ string_bytes l.initial.out ++ flat_map number l.slots

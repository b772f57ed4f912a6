use Rattle.std.proofs.Common.{◌≡◌, ◌++◌, drop}
use Rattle.std.specs.Prelude.{flat_map, string_bytes}
use Rattle.graph_text.specs.Text.{part_text}
use Rattle.graph_text.proofs.row.write_parts.Given as goal

abbrev pub invariant-loop-coefficient : goal.invariant-loop-coefficient
invariant-loop-coefficient l =
    string_bytes l.out ++ flat_map part_text (drop l.coefficient-index l.parts) ≡ string_bytes l.initial.out ++ flat_map part_text l.parts

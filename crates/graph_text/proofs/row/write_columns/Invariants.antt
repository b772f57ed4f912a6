use Rattle.std.proofs.Common.{◌≡◌, ◌++◌, drop}
use Rattle.std.specs.Prelude.{flat_map, string_bytes}
use Rattle.graph_text.specs.Text.{column_text}
use Rattle.graph_text.proofs.row.write_columns.Given as goal

abbrev pub invariant-loop-column : goal.invariant-loop-column
invariant-loop-column l =
    string_bytes l.out ++ flat_map column_text (drop l.column-index l.parts) ≡ string_bytes l.initial.out ++ flat_map column_text l.parts

use Rattle.std.proofs.Common.{◌≡◌, ◌++◌, drop}
use Rattle.std.specs.Prelude.{flat_map, string_bytes}
use Rattle.graph_text.specs.Text.{row_text}
use Rattle.graph_text.proofs.row.write_rows.Given as goal

abbrev pub invariant-loop-row : goal.invariant-loop-row
invariant-loop-row l =
    string_bytes l.out ++ flat_map row_text (drop l.row-index l.rows) ≡ string_bytes l.initial.out ++ flat_map row_text l.rows

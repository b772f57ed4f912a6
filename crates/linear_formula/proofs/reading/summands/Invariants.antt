use Rattle.std.proofs.Common.{◌≡◌, ◌++◌, drop}
use Rattle.linear_formula.specs.Replaced.{summands_of_parts}
use Rattle.linear_formula.proofs.reading.summands.Given as goal

abbrev pub invariant-loop-column : goal.invariant-loop-column
invariant-loop-column g l =
    l.items.items ++ summands_of_parts (g.R.Reading.term_at l.reading) (drop l.column-index l.column-items) ≡ summands_of_parts
    (g.R.Reading.term_at l.reading) l.column-items

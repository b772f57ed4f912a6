-- The bounds of a column with one more row.
use Rattle.std.specs.Prelude.{ℕ, ℤ, List, if◌then◌else◌}
use Rattle.std.specs.Int.{int_max, int_min}
use Rattle.linear_formula.specs.LinearSum.{LinearSum}
use Rattle.lia_solver.specs.declared.bounds.Bounds.{Bounds}
use Rattle.lia_solver.specs.steps.Entries.{bounds_above, bounds_below}
use Rattle.lia_solver.specs.steps.Solved.{upper_of, lower_of, floor_of}

abbrev pub with_row : ℕ → List (ℕ × ℤ) → LinearSum → Bounds → Bounds
with_row x values t b =
    if bounds_above x t.parts
    then record b { high = int_min b.high (upper_of x values t) }
    else (if bounds_below x t.parts
    then record b {
      low = int_max b.low (lower_of x values t);
      floor = int_max b.floor (floor_of x values t);
    }
    else b)

use Rattle.std.proofs.Common.{◌≡◌, take}
use Rattle.std.specs.Prelude.{flat_map}
use Rattle.linear_formula.specs.steps.Outlines.{older_of, numbers_of, rows_of}
use Rattle.linear_formula.proofs.extremes.Outline.rows.Given as goal

abbrev pub invariant-loop-list : goal.invariant-loop-list
invariant-loop-list l =
    (l.all.numbers.items ≡ numbers_of (flat_map (λ ps. ps) (take l.list-index (older_of l.self))))
    × (l.all.cube.atoms ≡ rows_of (flat_map (λ ps. ps) (take l.list-index (older_of l.self))))

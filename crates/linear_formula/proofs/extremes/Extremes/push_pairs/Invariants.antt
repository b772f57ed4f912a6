use Rattle.std.proofs.Common.{◌≡◌, ◌++◌, take}
use Rattle.linear_formula.specs.steps.Outlines.{numbers_of, rows_of}
use Rattle.linear_formula.proofs.extremes.Extremes.push_pairs.Given as goal

abbrev pub invariant-loop-pair : goal.invariant-loop-pair
invariant-loop-pair l =
    (l.self.numbers.items ≡ l.initial.self.numbers.items ++ numbers_of (take l.pair-index l.pairs))
    × (l.self.cube.atoms ≡ l.initial.self.cube.atoms ++ rows_of (take l.pair-index l.pairs))

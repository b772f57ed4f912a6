use Rattle.std.proofs.Common.{◌≡◌, ◌++◌, List, length, take}
use Rattle.std.specs.Prelude.{flat_map}
use Rattle.linear_formula.specs.declared.formula.Atom.{Atom}
use Rattle.linear_formula.specs.steps.Outlines.{older_of, Outlines, ArePairs}
use Rattle.linear_formula.proofs.extremes.Outline.with.Given as goal

abbrev pub invariant-loop-atom : goal.invariant-loop-atom
invariant-loop-atom l = (all : List Atom) → Outlines l.self all →
    (l.count ≡ length (all ++ take l.atom-index l.more))
    × ArePairs (flat_map (λ ps. ps) (older_of l.self) ++ l.pairs.items) (all ++ take l.atom-index l.more)

use Rattle.std.proofs.Common.{◌++◌, List, take}
use Rattle.linear_formula.specs.Extremes.{IsOutline}
use Rattle.linear_formula.specs.declared.formula.Atom.{Atom}
use Rattle.linear_formula.proofs.extremes.Extremes.push_copies.Given as goal

abbrev pub invariant-loop-atom : goal.invariant-loop-atom
invariant-loop-atom l = (all : List Atom) → IsOutline l.initial.self all → IsOutline l.self (all ++ take l.atom-index l.atoms)

use Rattle.std.proofs.Common.{◌≡◌, ◌++◌, take}
use Rattle.linear_formula.proofs.shared.unshared_onto.Given as goal

abbrev pub invariant-loop-atom : goal.invariant-loop-atom
invariant-loop-atom l = l.out ≡ l.initial.out ++ take l.atom-index l.atoms

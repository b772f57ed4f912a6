use Rattle.std.proofs.Common.{◌≡◌, take}
use Rattle.linear_formula.proofs.shared.shared_atoms.Given as goal

abbrev pub invariant-loop-atom : goal.invariant-loop-atom
invariant-loop-atom l = l.all.items ≡ take l.atom-index l.atoms

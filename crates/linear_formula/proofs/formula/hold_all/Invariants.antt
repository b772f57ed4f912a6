use Rattle.std.proofs.Common.{drop}
use Rattle.std.specs.Prelude.{◌↔◌}
use Rattle.linear_formula.specs.LinearSum.{valuation}
use Rattle.linear_formula.specs.Formula.{HoldsAll}
use Rattle.linear_formula.proofs.formula.hold_all.Given as goal

abbrev pub invariant-loop-atom : goal.invariant-loop-atom
invariant-loop-atom l =
    HoldsAll (valuation l.at) (drop l.atom-index l.atoms) ↔ HoldsAll (valuation l.at) l.atoms

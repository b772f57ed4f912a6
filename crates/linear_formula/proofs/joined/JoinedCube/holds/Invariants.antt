use Rattle.std.proofs.Common.{take}
use Rattle.std.specs.Prelude.{flat_map}
use Rattle.linear_formula.specs.LinearSum.{valuation}
use Rattle.linear_formula.specs.Formula.{HoldsAll}
use Rattle.linear_formula.proofs.joined.JoinedCube.holds.Given as goal

abbrev pub invariant-loop-block : goal.invariant-loop-block
invariant-loop-block l =
    HoldsAll (valuation l.at) (flat_map (λ b. b) (take l.block-index l.block-items))

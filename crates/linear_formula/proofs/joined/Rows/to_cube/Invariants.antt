use Rattle.std.proofs.Common.{◌≡◌, take}
use Rattle.std.specs.Prelude.{flat_map}
use Rattle.linear_formula.proofs.joined.Rows.to_cube.Given as goal

abbrev pub invariant-loop-block : goal.invariant-loop-block
invariant-loop-block l = l.atoms ≡ flat_map (λ b. b) (take l.block-index l.block-items)

use Rattle.std.proofs.Common.{◌≡◌, ◌+◌, length, take}
use Rattle.std.specs.Prelude.{flat_map}
use Rattle.linear_formula.proofs.joined.Rows.count.Given as goal

abbrev pub invariant-loop-block : goal.invariant-loop-block
invariant-loop-block l =
    l.count ≡ length (flat_map (λ b. b) (take l.block-index l.block-items)) + length l.self.own.now

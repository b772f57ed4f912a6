use Rattle.std.proofs.Common.{◌≡◌, take}
use Rattle.linear_formula.proofs.shared.Blocks.with.Given as goal

abbrev pub invariant-loop-block : goal.invariant-loop-block
invariant-loop-block l = l.all.items ≡ take l.block-index l.old

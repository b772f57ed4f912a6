use Rattle.std.proofs.Common.{arith}
use Rattle.shadow_elim.proofs.Needless.{skipped}
use Rattle.shadow_elim.proofs.skipping.is_skipped.Goals as goal

pub returns-then-are_small : goal.returns-then-are_small
returns-then-are_small c = λ r e. (
  c.if-are_small.true,
  skipped c.args.rows.now c.args.place c.min.result c.index-rows-place.result r c.requires (omega (arith, c.min.ensures))
      (c.is_needless.ensures e),
)

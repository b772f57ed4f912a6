use Rattle.std.proofs.Common.{arith}
use Rattle.linear_formula.proofs.Merging.{at}
use Rattle.linear_formula.proofs.Finishing.{AllWithin-at, AllWithin-set, negate-step, cast_sign, fits_sign, sign_small}
use Rattle.linear_formula.proofs.column.negate_all.Goals as goal

pub overflow_sub-part : goal.overflow_sub-part
overflow_sub-part c =
    fits_sign (at c.loop-part.parts c.loop-part.part-index).1 (AllWithin-at c.loop-part.parts c.loop-part.part-index (omega arith)
    c.loop-part.invariant.1)

pub loop-part-preserved : goal.loop-part-preserved
loop-part-preserved c =
    let small = AllWithin-at c.loop-part.parts c.loop-part.part-index (omega arith) c.loop-part.invariant.1 in (
      negate-step c.args.parts.now c.loop-part.parts c.loop-part.part-index _ (omega arith) (omega arith) c.loop-part.invariant.0
          (cast_sign (at c.loop-part.parts c.loop-part.part-index).1 small),
      AllWithin-set c.loop-part.parts c.loop-part.part-index _ (sign_small (at c.loop-part.parts c.loop-part.part-index).1 small)
          c.loop-part.invariant.1,
    )

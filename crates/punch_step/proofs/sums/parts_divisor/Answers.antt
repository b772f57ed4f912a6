use Rattle.std.proofs.Common.{◌≡◌, ◌-◌, arith, ap, sym, ◌∙◌}
use Rattle.std.specs.Prelude.{unsigned_abs}
use Rattle.linear_formula.proofs.Merging.{at, cast_same}
use Rattle.linear_formula.proofs.Finishing.{AllWithin-at}
use Rattle.shadow_elim.proofs.Dividing.{parts_divisor-one}
use Rattle.punch_step.proofs.sums.parts_divisor.Goals as goal

pub overflow_cast-unsigned_abs : goal.overflow_cast-unsigned_abs
overflow_cast-unsigned_abs c =
    let small = AllWithin-at c.args.parts.now (c.loop-left.left - 1) (omega arith) c.requires in
    omega (
      arith,
      small,
      c.unsigned_abs.ensures.value,
      ap unsigned_abs (cast_same (at c.args.parts.now (c.loop-left.left - 1)).1
          (omega (arith, small))),
    )

pub returns-else-divisor-ne1 : goal.returns-else-divisor-ne1
returns-else-divisor-ne1 c =
    let e : c.loop-left.divisor ≡ 1 = omega arith in
    e ∙ sym (parts_divisor-one c.loop-left.left c.args.parts.now (sym c.loop-left.invariant.1 ∙ e))

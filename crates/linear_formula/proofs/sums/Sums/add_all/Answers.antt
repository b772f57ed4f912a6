use Rattle.std.proofs.Common.{◌≤◌, ◌^◌, ◌-◌, arith, unsigned_abs}
use Rattle.linear_formula.proofs.Merging.{at, cast_limit}
use Rattle.linear_formula.proofs.Finishing.{AllWithin-at}
use Rattle.linear_formula.proofs.sums.Sums.add_all.Goals as goal

pub add-requires-clause-limit : goal.add-requires-clause-limit
add-requires-clause-limit c =
    let a = (at c.args.parts.now (c.loop-left.left - 1)).1 in
    let h : unsigned_abs a ≤ 2 ^ 40 = AllWithin-at c.args.parts.now (c.loop-left.left - 1) (omega arith) c.requires.limits in
    omega (arith, cast_limit a h)

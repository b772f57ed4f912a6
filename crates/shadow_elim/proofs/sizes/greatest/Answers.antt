use Rattle.std.proofs.Common.{ℕ, ◌≤◌, below_more, arith, ap}
use Rattle.std.specs.Prelude.{unsigned_abs}
use Rattle.linear_formula.proofs.Finishing.{AllWithin-at}
use Rattle.linear_formula.proofs.Merging.{at, cast_same}
use Rattle.shadow_elim.proofs.sizes.greatest.Goals as goal

pub loop-part-preserved : goal.loop-part-preserved
loop-part-preserved c =
    let ps = c.args.parts.now in
    let k = c.loop-part.part-index in
    let small = AllWithin-at ps k (omega arith) c.requires in
    let same = ap unsigned_abs (cast_same (at ps k).1 (omega (arith, small))) in
    record {
      sizes = below_more (λ (j : ℕ). unsigned_abs (at ps j).1 ≤ c.max-greatest.result) k
          (λ j h. omega (arith, c.loop-part.invariant.sizes j h, c.max-greatest.ensures))
          (omega (arith, same, c.unsigned_abs.ensures, c.max-greatest.ensures));
      limit = omega (arith, small, same, c.unsigned_abs.ensures, c.max-greatest.ensures, c.loop-part.invariant.limit);
      least = λ n h. omega (
        arith,
        same,
        h k (omega arith),
        c.unsigned_abs.ensures,
        c.max-greatest.ensures,
        c.loop-part.invariant.least n h,
      );
    }

use Rattle.std.proofs.Common.{◌≡◌, ◌≤◌, ◌<◌, ◌+◌, ◌-◌, ◌^◌, ℕ, length, arith, sym, subst}
use Rattle.std.specs.Prelude.{unsigned_abs}
use Rattle.linear_formula.specs.steps.Order.{AllWithin}
use Rattle.linear_formula.proofs.Finishing.{AllWithin-at}
use Rattle.linear_formula.proofs.Limits.{IsTerm-from_test}
use Rattle.linear_formula.proofs.Merging.{at}
use Rattle.linear_formula.proofs.Replacing.{fits_multiplier, cast_multiplier}
use Rattle.shadow_elim.proofs.Reading.{read_from, read_more}
use Rattle.shadow_elim.proofs.sum.read_short.Goals as goal

pub overflow_cast-coefficient : goal.overflow_cast-coefficient
overflow_cast-coefficient g c =
    let ps = c.parts-parts.result.now in
    let w : AllWithin ps = subst (λ l. AllWithin l) (sym c.parts-parts.ensures.value)
    (IsTerm-from_test c.args.term.now c.parts-parts.ensures.kept).within.coefficients in
    let k = c.loop-left.left - 1 in
    fits_multiplier (at ps k).1 (AllWithin-at ps k (omega (arith, c.loop-left.invariant.bound, c.loop-left-test.true)) w)

pub add_multiples-requires-clause-first_limit : goal.add_multiples-requires-clause-first_limit
add_multiples-requires-clause-first_limit g c =
    let ps = c.parts-parts.result.now in
    let w : AllWithin ps = subst (λ l. AllWithin l) (sym c.parts-parts.ensures.value)
    (IsTerm-from_test c.args.term.now c.parts-parts.ensures.kept).within.coefficients in
    let k = c.loop-left.left - 1 in
    let h : unsigned_abs (at ps k).1 ≤ 2 ^ 40 = AllWithin-at ps k (omega (arith, c.loop-left.invariant.bound, c.loop-left-test.true)) w in
    subst (λ z. unsigned_abs z ≤ 2 ^ 40) (sym (cast_multiplier (at ps k).1 h)) h

pub loop-left-preserved : goal.loop-left-preserved
loop-left-preserved g c =
    let ps = c.parts-parts.result.now in
    let w : AllWithin ps = subst (λ l. AllWithin l) (sym c.parts-parts.ensures.value)
    (IsTerm-from_test c.args.term.now c.parts-parts.ensures.kept).within.coefficients in
    let k = c.loop-left.left - 1 in
    let b : k < length ps = omega (arith, c.loop-left.invariant.bound, c.loop-left-test.true) in
    let h : unsigned_abs (at ps k).1 ≤ 2 ^ 40 = AllWithin-at ps k b w in
    let by = g.R.Reading.term_at c.args.reading.now in
    let n : c.loop-left.left ≡ k + 1 = omega (arith, c.loop-left-test.true) in
    record {
      bound = omega (arith, b);
      value = read_more by ps c.args.term.now.constant _ k _ c.loop-left.total _ b
          (subst (λ (i : ℕ). c.loop-left.total ≡ read_from by ps c.args.term.now.constant i) n c.loop-left.invariant.value)
          c.loop-left.invariant.kept (cast_multiplier (at ps k).1 h) c.in_ok-by.ensures c.in_ok-total.ensures.value;
      kept = c.in_ok-total.ensures.kept;
    }

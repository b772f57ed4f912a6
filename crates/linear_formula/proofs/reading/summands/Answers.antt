use Rattle.std.proofs.Common.{◌≤◌, ◌^◌, arith, sym, subst}
use Rattle.std.specs.Prelude.{unsigned_abs}
use Rattle.linear_formula.specs.steps.Order.{AllWithin}
use Rattle.linear_formula.proofs.Finishing.{AllWithin-at}
use Rattle.linear_formula.proofs.Limits.{IsTerm-from_test}
use Rattle.linear_formula.proofs.Merging.{at}
use Rattle.linear_formula.proofs.Replacing.{fits_multiplier, cast_multiplier, summands-step}
use Rattle.linear_formula.specs.Replaced.{summands_of_parts}
use Rattle.linear_formula.proofs.reading.summands.Goals as goal

pub overflow_cast-multiplier : goal.overflow_cast-multiplier
overflow_cast-multiplier g c =
    let w : AllWithin c.parts-column-items.result.now = subst (λ l. AllWithin l) (sym c.parts-column-items.ensures.value)
    (IsTerm-from_test c.args.term.now c.parts-column-items.ensures.kept).within.coefficients in
    fits_multiplier (at c.parts-column-items.result.now c.loop-column.column-index).1 (AllWithin-at c.parts-column-items.result.now
    c.loop-column.column-index (omega arith) w)

pub loop-column-preserved : goal.loop-column-preserved
loop-column-preserved g c =
    let w : AllWithin c.parts-column-items.result.now = subst (λ l. AllWithin l) (sym c.parts-column-items.ensures.value)
    (IsTerm-from_test c.args.term.now c.parts-column-items.ensures.kept).within.coefficients in
    let a = (at c.parts-column-items.result.now c.loop-column.column-index).1 in
    let h : unsigned_abs a ≤ 2 ^ 40 = AllWithin-at c.parts-column-items.result.now c.loop-column.column-index (omega arith) w in
    summands-step (g.R.Reading.term_at c.args.reading.now) c.parts-column-items.result.now c.loop-column.items.items c.push.new.self.items
    (summands_of_parts (g.R.Reading.term_at c.args.reading.now) c.parts-column-items.result.now) c.loop-column.column-index _
    c.in_ok-term.field-0 c.loop-column.invariant (omega arith) (cast_multiplier a h) c.in_ok-term.ensures c.in_ok-push.ensures.items

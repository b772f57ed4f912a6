use Rattle.std.proofs.Common.{◌≡◌, List, ℕ, ℤ, length, pos, to_z, w64, arith, sym, ap, subst, ◌∙◌}
use Rattle.std.specs.Prelude.{unsigned_abs, slice_index_or}
use Rattle.std.proofs.lemmas.Int.{ints}
use Rattle.linear_formula.specs.steps.Order.{AllWithin}
use Rattle.linear_formula.proofs.Finishing.{cast_wide}
use Rattle.shadow_elim.proofs.Pairs.{cast_divisor}
use Rattle.shadow_elim.specs.Elimination.{size_of}
use Rattle.lia_solver.specs.steps.Entries.{no_entry, sum_at}
use Rattle.lia_solver.proofs.FirstColumns.{above-first, below-first}
use Rattle.lia_solver.proofs.ConstantSums.{constant-sum}
use Rattle.lia_solver.proofs.TwoColumns.{row-term, part-small, sum-cast, size-cast}
use Rattle.lia_solver.proofs.one_column.always_holds.Goals as goal

pub first_size-requires-clause-limits : goal.first_size-requires-clause-limits
first_size-requires-clause-limits c =
    subst (λ (ps : List (ℕ × ℤ)). AllWithin ps) (sym (c.parts-below.ensures no_entry)) (row-term c.args.table.now c.args.lower
    c.requires.terms c.requires.lower_place).within.coefficients

pub first_size-requires-2-clause-limits : goal.first_size-requires-2-clause-limits
first_size-requires-2-clause-limits c =
    subst (λ (ps : List (ℕ × ℤ)). AllWithin ps) (sym (c.parts-above.ensures no_entry)) (row-term c.args.table.now c.args.upper
    c.requires.terms c.requires.upper_place).within.coefficients

pub sum_of-requires-clause-first_limit : goal.sum_of-requires-clause-first_limit
sum_of-requires-clause-first_limit c =
    let small = part-small c.args.table.now c.args.lower 0 c.parts-below.result.now c.requires.terms c.requires.lower_place
    (c.parts-below.ensures no_entry) (omega (arith, c.if-below-ne1.false)) in
    size-cast c.first_size.result (omega (arith, small, c.first_size.ensures))

pub sum_of-requires-clause-second_limit : goal.sum_of-requires-clause-second_limit
sum_of-requires-clause-second_limit c =
    let small = part-small c.args.table.now c.args.upper 0 c.parts-above.result.now c.requires.terms c.requires.upper_place
    (c.parts-above.ensures no_entry) (omega (arith, c.if-above-ne1.false)) in
    size-cast c.first_size-2.result (omega (arith, small, c.first_size-2.ensures))

pub returns-in-Some : goal.returns-in-Some
returns-in-Some c = λ e.
    let x = c.args.column in
    let es = c.args.table.now in
    let p = c.requires in
    let u = sum_at es c.args.upper in
    let l = sum_at es c.args.lower in
    let above = c.parts-above.ensures no_entry in
    let below = c.parts-below.ensures no_entry in
    let one-above : length u.parts ≡ 1 = omega (arith, c.if-above-ne1.false, ap (λ (ps : List (ℕ × ℤ)). length ps) above) in
    let one-below : length l.parts ≡ 1 = omega (arith, c.if-below-ne1.false, ap (λ (ps : List (ℕ × ℤ)). length ps) below) in
    let small = part-small es c.args.upper 0 c.parts-above.result.now p.terms p.upper_place above
    (omega (arith, c.if-above-ne1.false)) in
    let low-small = part-small es c.args.lower 0 c.parts-below.result.now p.terms p.lower_place below
    (omega (arith, c.if-below-ne1.false)) in
    let size : c.first_size-2.result ≡ size_of x u = c.first_size-2.ensures
    ∙ ap (λ (ps : List (ℕ × ℤ)). unsigned_abs (slice_index_or ps 0 (0, pos 0)).1) above
    ∙ ap unsigned_abs (above-first x u.parts p.above).first in
    let low : c.first_size.result ≡ size_of x l = c.first_size.ensures
    ∙ ap (λ (ps : List (ℕ × ℤ)). unsigned_abs (slice_index_or ps 0 (0, pos 0)).1) below
    ∙ ap unsigned_abs (below-first x l.parts p.below).first in
    let a : to_z w64 c.first_size-2.result ≡ pos (size_of x u) = cast_divisor c.first_size-2.result
    (omega (arith, small, c.first_size-2.ensures))
    ∙ ap pos size in
    let b : to_z w64 c.first_size.result ≡ pos (size_of x l) = cast_divisor c.first_size.result
    (omega (arith, low-small, c.first_size.ensures))
    ∙ ap pos low in
    let h = cast_wide c.constant.result (omega (
      arith,
      ap unsigned_abs (c.constant.ensures no_entry),
      (row-term es c.args.upper p.terms
          p.upper_place).within.constant_limit,
    ))
    ∙ c.constant.ensures no_entry in
    let k = cast_wide c.constant-2.result (omega (
      arith,
      ap unsigned_abs (c.constant-2.ensures no_entry),
      (row-term es c.args.lower p.terms
          p.lower_place).within.constant_limit,
    ))
    ∙ c.constant-2.ensures no_entry in
    let sum = cast_wide c.in-Some.sum (omega (arith, c.in-Some.ensures.1)) in
    constant-sum x es c.args.upper c.args.lower c.in-Some.sum p one-above one-below
    (c.in-Some.ensures.0 ∙ sum-cast (pos (size_of x l)) _ u.constant _ (pos (size_of x u)) _ l.constant _ b h a k) c.in-Some.ensures.1
    (omega (arith, ints, e, sum))

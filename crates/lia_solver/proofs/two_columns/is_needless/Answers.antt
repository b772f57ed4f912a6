use Rattle.std.proofs.Common.{◌≡◌, ◌^◌, true, Option, List, ℕ, ℤ, pos, to_z, w64, arith, sym, ap, subst, ◌∙◌}
use Rattle.std.specs.Prelude.{IfSome, unsigned_abs, slice_index_or}
use Rattle.std.proofs.lemmas.Int.{ints, fits_signed_from_abs}
use Rattle.linear_formula.specs.LinearSum.{coefficient}
use Rattle.linear_formula.specs.steps.Order.{AllWithin}
use Rattle.linear_formula.proofs.Finishing.{cast_wide}
use Rattle.shadow_elim.proofs.Pairs.{cast_divisor}
use Rattle.shadow_elim.specs.Elimination.{size_of}
use Rattle.lia_solver.specs.declared.two_columns.Sides.{Sides}
use Rattle.lia_solver.specs.steps.Entries.{no_entry, sum_at}
use Rattle.lia_solver.specs.steps.TwoColumns.{AreSides, names_two}
use Rattle.lia_solver.proofs.FirstColumns.{above-first, below-first}
use Rattle.lia_solver.proofs.TwoColumns.{above-two, below-two, names-length, row-term, part-small, sum-cast, size-cast, wide-cast, outdone-cast, needless-sum}
use Rattle.lia_solver.proofs.two_columns.is_needless.Goals as goal

pub first_size-requires-clause-limits : goal.first_size-requires-clause-limits
first_size-requires-clause-limits c =
    subst (λ (ps : List (ℕ × ℤ)). AllWithin ps) (sym (c.parts-below.ensures no_entry)) (row-term c.args.table.now c.args.lower
    c.requires.paired.terms c.requires.paired.lower_place).within.coefficients

pub overflow_cast-first : goal.overflow_cast-first
overflow_cast-first c =
    let two = names-length c.in-Some.sides.column c.parts-below.result.now (sym c.names_two-else-not-names_two.ensures
    ∙ c.if-not-names_two-2.false)
    in
    fits_signed_from_abs w64 (pos c.first_size.result) (omega (
      arith,
      c.first_size.ensures,
      part-small c.args.table.now c.args.lower 0 c.parts-below.result.now c.requires.paired.terms c.requires.paired.lower_place
          (c.parts-below.ensures no_entry) (omega (arith, two)),
    ))

pub first_size-requires-2-clause-limits : goal.first_size-requires-2-clause-limits
first_size-requires-2-clause-limits c =
    subst (λ (ps : List (ℕ × ℤ)). AllWithin ps) (sym (c.parts-above.ensures no_entry)) (row-term c.args.table.now c.args.upper
    c.requires.paired.terms c.requires.paired.upper_place).within.coefficients

pub overflow_cast-second : goal.overflow_cast-second
overflow_cast-second c =
    let two = names-length c.in-Some.sides.column c.parts-above.result.now (sym c.names_two.ensures ∙ c.if-not-names_two.false) in
    fits_signed_from_abs w64 (pos c.first_size-2.result) (omega (
      arith,
      c.first_size-2.ensures,
      part-small c.args.table.now c.args.upper 0 c.parts-above.result.now c.requires.paired.terms c.requires.paired.upper_place
          (c.parts-above.ensures no_entry) (omega (arith, two)),
    ))

pub sum_of-requires-clause-first_limit : goal.sum_of-requires-clause-first_limit
sum_of-requires-clause-first_limit c =
    let lower = names-length c.in-Some.sides.column c.parts-below.result.now (sym c.names_two-else-not-names_two.ensures
    ∙ c.if-not-names_two-2.false) in
    let small = part-small c.args.table.now c.args.lower 0 c.parts-below.result.now c.requires.paired.terms c.requires.paired.lower_place
    (c.parts-below.ensures no_entry) (omega (arith, lower)) in
    size-cast c.first_size.result (omega (arith, small, c.first_size.ensures))

pub sum_of-requires-clause-second_limit : goal.sum_of-requires-clause-second_limit
sum_of-requires-clause-second_limit c =
    let upper = names-length c.in-Some.sides.column c.parts-above.result.now (sym c.names_two.ensures ∙ c.if-not-names_two.false) in
    let small = part-small c.args.table.now c.args.upper 0 c.parts-above.result.now c.requires.paired.terms c.requires.paired.upper_place
    (c.parts-above.ensures no_entry) (omega (arith, upper)) in
    size-cast c.first_size-2.result (omega (arith, small, c.first_size-2.ensures))

pub sum_of-requires-2-clause-first_limit : goal.sum_of-requires-2-clause-first_limit
sum_of-requires-2-clause-first_limit c =
    let lower = names-length c.in-Some.sides.column c.parts-below.result.now (sym c.names_two-else-not-names_two.ensures
    ∙ c.if-not-names_two-2.false) in
    let small = part-small c.args.table.now c.args.lower 0 c.parts-below.result.now c.requires.paired.terms c.requires.paired.lower_place
    (c.parts-below.ensures no_entry) (omega (arith, lower)) in
    size-cast c.first_size.result (omega (arith, small, c.first_size.ensures))

pub sum_of-requires-2-clause-second_limit : goal.sum_of-requires-2-clause-second_limit
sum_of-requires-2-clause-second_limit c =
    let upper = names-length c.in-Some.sides.column c.parts-above.result.now (sym c.names_two.ensures ∙ c.if-not-names_two.false) in
    let small = part-small c.args.table.now c.args.upper 0 c.parts-above.result.now c.requires.paired.terms c.requires.paired.upper_place
    (c.parts-above.ensures no_entry) (omega (arith, upper)) in
    size-cast c.first_size-2.result (omega (arith, small, c.first_size-2.ensures))

pub sum_of-requires-clause-left_limit : goal.sum_of-requires-clause-left_limit
sum_of-requires-clause-left_limit c =
    let upper = names-length c.in-Some.sides.column c.parts-above.result.now (sym c.names_two.ensures ∙ c.if-not-names_two.false) in
    let small = part-small c.args.table.now c.args.upper 1 c.parts-above.result.now c.requires.paired.terms c.requires.paired.upper_place
    (c.parts-above.ensures no_entry) (omega (arith, upper)) in
    wide-cast (slice_index_or c.parts-above.result.now 1 (0, pos 0)).1 (2 ^ 84) (omega (arith, small)) (omega arith)

pub sum_of-requires-clause-right_limit : goal.sum_of-requires-clause-right_limit
sum_of-requires-clause-right_limit c =
    let lower = names-length c.in-Some.sides.column c.parts-below.result.now (sym c.names_two-else-not-names_two.ensures
    ∙ c.if-not-names_two-2.false) in
    let small = part-small c.args.table.now c.args.lower 1 c.parts-below.result.now c.requires.paired.terms c.requires.paired.lower_place
    (c.parts-below.ensures no_entry) (omega (arith, lower)) in
    wide-cast (slice_index_or c.parts-below.result.now 1 (0, pos 0)).1 (2 ^ 84) (omega (arith, small)) (omega arith)

pub sum_of-requires-2-clause-left_limit : goal.sum_of-requires-2-clause-left_limit
sum_of-requires-2-clause-left_limit c =
    wide-cast c.constant.result (2 ^ 84) (omega (
      arith,
      ap unsigned_abs (c.constant.ensures no_entry),
      (row-term c.args.table.now c.args.upper c.requires.paired.terms c.requires.paired.upper_place).within.constant_limit,
    )) (omega arith)

pub sum_of-requires-2-clause-right_limit : goal.sum_of-requires-2-clause-right_limit
sum_of-requires-2-clause-right_limit c =
    wide-cast c.constant-2.result (2 ^ 84) (omega (
      arith,
      ap unsigned_abs (c.constant-2.ensures no_entry),
      (row-term c.args.table.now c.args.lower c.requires.paired.terms c.requires.paired.lower_place).within.constant_limit,
    )) (omega arith)

pub returns : goal.returns
returns c = λ e.
    let x = c.args.column in
    let es = c.args.table.now in
    let y = c.in-Some.sides.column in
    let p = c.requires.paired in
    let u = sum_at es c.args.upper in
    let l = sum_at es c.args.lower in
    let above = c.parts-above.ensures no_entry in
    let below = c.parts-below.ensures no_entry in
    let nu : names_two y u.parts ≡ true = sym (c.names_two.ensures ∙ ap (names_two y) above) ∙ c.if-not-names_two.false in
    let nl : names_two y l.parts ≡ true = sym (c.names_two-else-not-names_two.ensures ∙ ap (names_two y) below)
    ∙ c.if-not-names_two-2.false in
    let tu = row-term es c.args.upper p.terms p.upper_place in
    let tl = row-term es c.args.lower p.terms p.lower_place in
    let sides = subst (λ (o : Option Sides). IfSome o (λ s. AreSides s es)) c.in-Some.is c.requires.sides in
    let small = part-small es c.args.upper 0 c.parts-above.result.now p.terms p.upper_place above
    (omega (arith, names-length y c.parts-above.result.now (sym c.names_two.ensures ∙ c.if-not-names_two.false))) in
    let size : c.first_size-2.result ≡ size_of x u = c.first_size-2.ensures
    ∙ ap (λ (ps : List (ℕ × ℤ)). unsigned_abs (slice_index_or ps 0 (0, pos 0)).1) above
    ∙ ap unsigned_abs (above-first x u.parts p.above).first in
    let low : c.first_size.result ≡ size_of x l = c.first_size.ensures
    ∙ ap (λ (ps : List (ℕ × ℤ)). unsigned_abs (slice_index_or ps 0 (0, pos 0)).1) below
    ∙ ap unsigned_abs (below-first x l.parts p.below).first in
    let low-small = part-small es c.args.lower 0 c.parts-below.result.now p.terms p.lower_place below
    (omega (arith, names-length y c.parts-below.result.now (sym c.names_two-else-not-names_two.ensures ∙ c.if-not-names_two-2.false))) in
    let a : to_z w64 c.first_size-2.result ≡ pos (size_of x u) = cast_divisor c.first_size-2.result
    (omega (arith, small, c.first_size-2.ensures))
    ∙ ap pos size in
    let b : to_z w64 c.first_size.result ≡ pos (size_of x l) = cast_divisor c.first_size.result
    (omega (arith, low-small, c.first_size.ensures))
    ∙ ap pos low in
    let above-part = part-small es c.args.upper 1 c.parts-above.result.now p.terms p.upper_place above
    (omega (arith, names-length y c.parts-above.result.now (sym c.names_two.ensures ∙ c.if-not-names_two.false))) in
    let below-part = part-small es c.args.lower 1 c.parts-below.result.now p.terms p.lower_place below
    (omega (arith, names-length y c.parts-below.result.now (sym c.names_two-else-not-names_two.ensures ∙ c.if-not-names_two-2.false))) in
    let f = cast_wide (slice_index_or c.parts-above.result.now 1 (0, pos 0)).1 (omega (arith, above-part))
    ∙ ap (λ (ps : List (ℕ × ℤ)). (slice_index_or ps 1 (0, pos 0)).1) above ∙ (above-two x y u.parts p.above nu tu.order).second in
    let g = cast_wide (slice_index_or c.parts-below.result.now 1 (0, pos 0)).1 (omega (arith, below-part))
    ∙ ap (λ (ps : List (ℕ × ℤ)). (slice_index_or ps 1 (0, pos 0)).1) below ∙ (below-two x y l.parts p.below nl tl.order).second in
    let h = cast_wide c.constant.result (omega (arith, ap unsigned_abs (c.constant.ensures no_entry), tu.within.constant_limit))
    ∙ c.constant.ensures no_entry in
    let k = cast_wide c.constant-2.result (omega (arith, ap unsigned_abs (c.constant-2.ensures no_entry), tl.within.constant_limit))
    ∙ c.constant-2.ensures no_entry in
    let first = cast_wide c.in-Some-sum_of.coefficient (omega (arith, c.in-Some-sum_of.ensures.1)) in
    let second = cast_wide c.in-Some-sum_of-2.constant (omega (arith, c.in-Some-sum_of-2.ensures.1)) in
    needless-sum x es c.args.upper c.args.lower c.in-Some.sides c.in-Some-sum_of.coefficient c.in-Some-sum_of-2.constant p sides nu nl
    (c.in-Some-sum_of.ensures.0 ∙ sum-cast (pos (size_of x l)) _ (coefficient y u) _ (pos (size_of x u)) _ (coefficient y l) _ b f a g)
    (c.in-Some-sum_of-2.ensures.0 ∙ sum-cast (pos (size_of x l)) _ u.constant _ (pos (size_of x u)) _ l.constant _ b h a k)
    (omega (arith, ints, first, c.if-coefficient-gt-MAX_COEFFICIENT.false, c.if-coefficient.false)) c.in-Some-sum_of-2.ensures.1
    (outdone-cast c.in-Some.sides c.in-Some-sum_of.coefficient c.in-Some-sum_of-2.constant _ _ first second (c.is_outdone.ensures e))

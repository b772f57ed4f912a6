use Rattle.std.proofs.Common.{◌≡◌, ◌≤◌, ◌^◌, ◌+ℤ◌, ◌*ℤ◌, ℕ, ℤ, List, [], length, to_z, of_z, FitsSigned, w64, arith, rules, sym, ap, subst, ◌∙◌}
use Rattle.std.specs.Int.{w128}
use Rattle.std.specs.Prelude.{IsTrue, unsigned_abs}
use Rattle.std.proofs.lemmas.Int.{ints}
use Rattle.std.proofs.lemmas.Result.{err_from_is_err_and}
use Rattle.linear_formula.specs.LinearSum.{is_term}
use Rattle.linear_formula.specs.steps.Order.{AllWithin}
use Rattle.linear_formula.specs.Results.{plus_parts}
use Rattle.linear_formula.proofs.Exits.{was_wide}
use Rattle.linear_formula.proofs.Finishing.{cast_wide, first_is}
use Rattle.linear_formula.proofs.Limits.{IsTerm-from_test, Within-from_test}
use Rattle.lia_solver.proofs.PairSumsInCode.{row_of, sum_of_two, parts-cast, cast-sum, IsSumInCode, code-row, code-term}
use Rattle.lia_solver.proofs.pairing.sum_into.Goals as goal

pub merge_into-requires-clause-left_order : goal.merge_into-requires-clause-left_order
merge_into-requires-clause-left_order c = (IsTerm-from_test (row_of c.args.left.now c.args.left_constant) c.requires.left_term).order

pub merge_into-requires-clause-right_order : goal.merge_into-requires-clause-right_order
merge_into-requires-clause-right_order c = (IsTerm-from_test (row_of c.args.right.now c.args.right_constant) c.requires.right_term).order

pub merge_into-requires-clause-left_limits : goal.merge_into-requires-clause-left_limits
merge_into-requires-clause-left_limits c =
    (IsTerm-from_test (row_of c.args.left.now c.args.left_constant) c.requires.left_term).within.coefficients

pub merge_into-requires-clause-right_limits : goal.merge_into-requires-clause-right_limits
merge_into-requires-clause-right_limits c =
    (IsTerm-from_test (row_of c.args.right.now c.args.right_constant) c.requires.right_term).within.coefficients

pub returns-in_err-merge_into-clause-wide : goal.returns-in_err-merge_into-clause-wide
returns-in_err-merge_into-clause-wide c = λ w h.
    let p = err_from_is_err_and c.from_residual.result c.from_residual.ensures.1 in
    let was = was_wide c.merge_into.result c.from_residual.result c.in_err-merge_into.field-0.0 p.0 c.in_err-merge_into.was p.1 p.2 w in
    let f : FitsSigned w64 c.args.first = search rules in
    let g : FitsSigned w64 c.args.second = search rules in
    let same = parts-cast c.args.first (to_z w128 (of_z w128 c.from.result)) c.args.left.now c.args.second
    (to_z w128 (of_z w128 c.from-2.result)) c.args.right.now (first_is c.args.first c.from.result f c.from.ensures)
    (first_is c.args.second c.from-2.result g c.from-2.ensures) in
    c.merge_into.ensures.wide was (subst (λ (ps : List (ℕ × ℤ)). AllWithin ps) (sym same) (Within-from_test (sum_of_two c.args.first
    (row_of c.args.left.now c.args.left_constant) c.args.second (row_of c.args.right.now c.args.right_constant)) h).coefficients)

pub returns-then-len-gt-MAX_PARTS-clause-wide : goal.returns-then-len-gt-MAX_PARTS-clause-wide
returns-then-len-gt-MAX_PARTS-clause-wide c = λ w h.
    let f : FitsSigned w64 c.args.first = search rules in
    let g : FitsSigned w64 c.args.second = search rules in
    let same = parts-cast c.args.first (to_z w128 (of_z w128 c.from.result)) c.args.left.now c.args.second
    (to_z w128 (of_z w128 c.from-2.result)) c.args.right.now (first_is c.args.first c.from.result f c.from.ensures)
    (first_is c.args.second c.from-2.result g c.from-2.ensures) in
    let count = (Within-from_test (sum_of_two c.args.first (row_of c.args.left.now c.args.left_constant) c.args.second
    (row_of c.args.right.now c.args.right_constant)) h).count in
    omega (
      arith,
      c.if-len-gt-MAX_PARTS.true,
      c.len.ensures,
      c.merge_into.new.out.ok.0,
      count,
      ap (λ (ps : List (ℕ × ℤ)). length ps) (c.in_ok-merge_into.ensures.items ∙ same),
    )

pub sum_of-requires-clause-right_limit : goal.sum_of-requires-clause-right_limit
sum_of-requires-clause-right_limit c =
    let limit = (IsTerm-from_test (row_of c.args.right.now c.args.right_constant) c.requires.right_term).within.constant_limit in
    subst (λ (z : ℤ). unsigned_abs z ≤ 2 ^ 84) (sym (cast_wide c.args.right_constant (omega (arith, limit)))) limit

-- what is summed up, as the code has it
whole : (left right out : List (ℕ × ℤ)) (first second left_constant right_constant from from' : ℤ) → FitsSigned w64 first →
    FitsSigned w64 second → from ≡ to_z w64 (of_z w64 first) → from' ≡ to_z w64 (of_z w64 second) →
    out ≡ plus_parts (to_z w128 (of_z w128 from)) left (plus_parts (to_z w128 (of_z w128 from')) right []) → out
    ≡ plus_parts first left (plus_parts second right [])
whole left right out first second left_constant right_constant from from' f g e d i =
    i ∙ parts-cast first (to_z w128 (of_z w128 from)) left second (to_z w128 (of_z w128 from')) right (first_is first from f e)
    (first_is second from' g d)

in-code : (left right out : List (ℕ × ℤ)) (first second left_constant right_constant from from' c : ℤ) → FitsSigned w64 first →
    FitsSigned w64 second → from ≡ to_z w64 (of_z w64 first) → from' ≡ to_z w64 (of_z w64 second) →
    out ≡ plus_parts (to_z w128 (of_z w128 from)) left (plus_parts (to_z w128 (of_z w128 from')) right []) → AllWithin out →
    length out ≤ 1024 → IsTrue (is_term (row_of left left_constant)) → IsTrue (is_term (row_of right right_constant)) →
    (c ≡ (to_z w64 (of_z w64 first) *ℤ to_z w128 (of_z w128 left_constant)) +ℤ (to_z w64 (of_z w64 second)
    *ℤ to_z w128 (of_z w128 right_constant))) × (unsigned_abs c ≤ 2 ^ 84) → IsSumInCode first (row_of left left_constant) second
    (row_of right right_constant) out c
in-code left right out first second left_constant right_constant from from' c f g e d i w n t u h = record {
  parts = whole left right out first second left_constant right_constant from from' f g e d i;
  within = w;
  count = n;
  constant = h.0 ∙ cast-sum first left_constant second right_constant f g
      (IsTerm-from_test (row_of left left_constant) t).within.constant_limit
      (IsTerm-from_test (row_of right right_constant) u).within.constant_limit;
  limit = h.1;
}

pub returns-in-Some-clause-value : goal.returns-in-Some-clause-value
returns-in-Some-clause-value c =
    let f : FitsSigned w64 c.args.first = search rules in
    let g : FitsSigned w64 c.args.second = search rules in
    code-row c.args.first (row_of c.args.left.now c.args.left_constant) c.args.second (row_of c.args.right.now c.args.right_constant)
    c.merge_into.new.out.items c.in-Some.constant (in-code c.args.left.now c.args.right.now c.merge_into.new.out.items c.args.first
    c.args.second c.args.left_constant c.args.right_constant c.from.result c.from-2.result c.in-Some.constant f g c.from.ensures
    c.from-2.ensures c.in_ok-merge_into.ensures.items c.in_ok-merge_into.ensures.limit
    (omega (arith, c.if-len-gt-MAX_PARTS.false, c.len.ensures, c.merge_into.new.out.ok.0)) c.requires.left_term c.requires.right_term
    c.in-Some.ensures)

pub returns-in-Some-clause-kept : goal.returns-in-Some-clause-kept
returns-in-Some-clause-kept c =
    let f : FitsSigned w64 c.args.first = search rules in
    let g : FitsSigned w64 c.args.second = search rules in
    code-term c.args.first (row_of c.args.left.now c.args.left_constant) c.args.second (row_of c.args.right.now c.args.right_constant)
    c.merge_into.new.out.items c.in-Some.constant c.requires.left_term c.requires.right_term (in-code c.args.left.now c.args.right.now
    c.merge_into.new.out.items c.args.first
    c.args.second c.args.left_constant c.args.right_constant c.from.result c.from-2.result c.in-Some.constant f g c.from.ensures
    c.from-2.ensures c.in_ok-merge_into.ensures.items c.in_ok-merge_into.ensures.limit
    (omega (arith, c.if-len-gt-MAX_PARTS.false, c.len.ensures, c.merge_into.new.out.ok.0)) c.requires.left_term c.requires.right_term
    c.in-Some.ensures)

pub returns-in-None-clause-wide : goal.returns-in-None-clause-wide
returns-in-None-clause-wide c = λ w h.
    let f : FitsSigned w64 c.args.first = search rules in
    let g : FitsSigned w64 c.args.second = search rules in
    let t = row_of c.args.left.now c.args.left_constant in
    let u = row_of c.args.right.now c.args.right_constant in
    let e = cast-sum c.args.first c.args.left_constant c.args.second c.args.right_constant f g
    (IsTerm-from_test t c.requires.left_term).within.constant_limit (IsTerm-from_test u c.requires.right_term).within.constant_limit in
    let limit = (Within-from_test (sum_of_two c.args.first t c.args.second u) h).constant_limit in
    omega (arith, ints, e, limit, c.in-None.ensures)

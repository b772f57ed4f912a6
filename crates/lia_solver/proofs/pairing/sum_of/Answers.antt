use Rattle.std.proofs.Common.{◌≡◌, ◌≤◌, ◌^◌, FitsSigned, w64, to_z-of_z, arith, rules, sym, subst, ◌∙◌, ℤ}
use Rattle.std.specs.Prelude.{unsigned_abs}
use Rattle.linear_formula.proofs.Finishing.{fits_both_constants}
use Rattle.std.proofs.lemmas.Int.{ints}
use Rattle.lia_solver.proofs.PairSumsInCode.{constants-sum}
use Rattle.lia_solver.proofs.pairing.sum_of.Goals as goal
use Rattle.lia_solver.proofs.pairing.sum_of.Goals.{then-sum-gt-MAX_CONSTANT-via-then-sum-gt-MAX_CONSTANT, then-sum-gt-MAX_CONSTANT-via-else-sum-gt-MAX_CONSTANT+then-sum}

pub overflow_add-sum : goal.overflow_add-sum
overflow_add-sum c =
    let f : FitsSigned w64 c.args.first = search rules in
    let g : FitsSigned w64 c.args.second = search rules in
    let m : c.from.result ≡ c.args.first = c.from.ensures ∙ to_z-of_z f in
    let n : c.from-2.result ≡ c.args.second = c.from-2.ensures ∙ to_z-of_z g in
    fits_both_constants c.from.result c.args.left c.from-2.result c.args.right
    (subst (λ (z : ℤ). unsigned_abs z ≤ 2 ^ 40) (sym m) c.requires.first_limit) c.requires.left_limit
    (subst (λ (z : ℤ). unsigned_abs z ≤ 2 ^ 40) (sym n) c.requires.second_limit) c.requires.right_limit

pub returns-then-sum-gt-MAX_CONSTANT : goal.returns-then-sum-gt-MAX_CONSTANT
returns-then-sum-gt-MAX_CONSTANT c =
    let f : FitsSigned w64 c.args.first = search rules in
    let g : FitsSigned w64 c.args.second = search rules in
    let e = constants-sum c.args.first c.from.result c.args.left c.args.second c.from-2.result c.args.right (c.from.ensures ∙ to_z-of_z f)
    (c.from-2.ensures ∙ to_z-of_z g) c.requires.first_limit c.requires.left_limit c.requires.second_limit c.requires.right_limit in
    elim c.then-sum-gt-MAX_CONSTANT.branch [
      | then-sum-gt-MAX_CONSTANT-via-then-sum-gt-MAX_CONSTANT w ↦ omega (arith, ints, e, w.if-sum-gt-MAX_CONSTANT.true)
      | then-sum-gt-MAX_CONSTANT-via-else-sum-gt-MAX_CONSTANT+then-sum w ↦ omega (arith, ints, e, w.if-sum.true)
    ]

pub returns : goal.returns
returns c =
    let f : FitsSigned w64 c.args.first = search rules in
    let g : FitsSigned w64 c.args.second = search rules in
    let e = constants-sum c.args.first c.from.result c.args.left c.args.second c.from-2.result c.args.right (c.from.ensures ∙ to_z-of_z f)
    (c.from-2.ensures ∙ to_z-of_z g) c.requires.first_limit c.requires.left_limit c.requires.second_limit c.requires.right_limit in
    (e, omega (arith, ints, e, c.if-sum-gt-MAX_CONSTANT.false, c.if-sum.false))

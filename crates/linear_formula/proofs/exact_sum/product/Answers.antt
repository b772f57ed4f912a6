use Rattle.std.proofs.Common.{◌≡◌, to_z, of_z, arith, subst, unsigned_abs, ◌≤◌, ◌*◌, ◌^◌, sym}
use Rattle.std.specs.Int.{w128}
use Rattle.std.proofs.lemmas.Int.{ints}
use Rattle.linear_formula.proofs.ExactSums.{product_limit, product_cast}
use Rattle.linear_formula.proofs.exact_sum.product.Goals as goal

pub returns-clause-limit : goal.returns-clause-limit
returns-clause-limit c =
    let e : to_z w128 (of_z w128 c.from.result) ≡ c.args.a = omega (arith, ints) in
    let d : to_z w128 (of_z w128 c.args.b) ≡ c.args.b = omega (arith, ints) in
    subst (λ z. unsigned_abs z ≤ 2 ^ 63 * unsigned_abs c.args.b) (sym (product_cast c.args.a c.args.b _ _ e d c.ranges.a c.requires))
    (product_limit c.args.a c.args.b c.ranges.a)

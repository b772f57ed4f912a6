use Rattle.std.proofs.Common.{◌+◌, ◌+ℤ◌, ◌*ℤ◌, arith, subst, sym, ap, ◌∙◌}
use Rattle.linear_formula.specs.steps.Exact.{HasRoom, AreSums, exact_value, exact_parts}
use Rattle.linear_formula.specs.steps.Gathered.{Gathered}
use Rattle.linear_formula.specs.Results.{with_part}
use Rattle.linear_formula.proofs.Gathering.{found-room, AreSums-more, AreSums-insert, exact-insert, factors_passed}
use Rattle.linear_formula.proofs.sums.Sums.add.Goals as goal

pub plus_product-sum-requires-clause-high_limit : goal.plus_product-sum-requires-clause-high_limit
plus_product-sum-requires-clause-high_limit c =
    let r : HasRoom c.self.inside.adds c.sum_at.result = subst (λ s. HasRoom c.self.inside.adds s) (sym c.sum_at.ensures)
    (found-room c.self.inside.adds 0 c.args.column c.self.inside.sums.entries c.self.invariant) in
    omega (arith, r.0, ap (λ (g : Gathered). g.adds) c.self.view_is, c.requires.room)

pub plus_product-sum-requires-clause-low_limit : goal.plus_product-sum-requires-clause-low_limit
plus_product-sum-requires-clause-low_limit c =
    let r : HasRoom c.self.inside.adds c.sum_at.result = subst (λ s. HasRoom c.self.inside.adds s) (sym c.sum_at.ensures)
    (found-room c.self.inside.adds 0 c.args.column c.self.inside.sums.entries c.self.invariant) in
    r.1

pub invariant_of-self : goal.invariant_of-self
invariant_of-self c =
    subst (λ l. AreSums (c.self.inside.adds + 1) 0 l) (sym c.in_err-insert.ensures.err)
    (AreSums-more c.self.inside.adds (c.self.inside.adds + 1) 0 c.self.inside.sums.entries (omega arith) c.self.invariant)

pub invariant_of-self-2 : goal.invariant_of-self-2
invariant_of-self-2 c =
    let r : HasRoom c.self.inside.adds c.sum_at.result = subst (λ s. HasRoom c.self.inside.adds s) (sym c.sum_at.ensures)
    (found-room c.self.inside.adds 0 c.args.column c.self.inside.sums.entries c.self.invariant) in
    let room : HasRoom (c.self.inside.adds + 1) c.plus_product-sum.result = (
      omega (arith, r.0, c.plus_product-sum.ensures.high),
      c.plus_product-sum.ensures.low,
    ) in
    subst (λ l. AreSums (c.self.inside.adds + 1) 0 l) (sym c.in_ok-insert.ensures.entries)
    (AreSums-insert (c.self.inside.adds + 1) 0 c.args.column c.plus_product-sum.result c.self.inside.sums.entries (omega arith)
    (omega arith)
    room (AreSums-more c.self.inside.adds (c.self.inside.adds + 1) 0 c.self.inside.sums.entries (omega arith) c.self.invariant))

pub returns-clause-parts : goal.returns-clause-parts
returns-clause-parts c =
    ap exact_parts c.in_ok-insert.ensures.entries ∙ exact-insert c.self.inside.adds 0 c.args.column c.plus_product-sum.result
    (c.args.multiplier *ℤ c.args.coefficient) c.self.inside.sums.entries c.self.invariant (c.plus_product-sum.ensures.value
    ∙ ap (λ z. exact_value c.sum_at.result +ℤ z) (factors_passed c.args.multiplier c.args.coefficient c.ranges.multiplier
    c.ranges.coefficient)
    ∙ ap (λ s. exact_value s +ℤ (c.args.multiplier *ℤ c.args.coefficient)) c.sum_at.ensures) ∙ ap (λ (g : Gathered). with_part c.args.column
    (c.args.multiplier *ℤ c.args.coefficient) g.parts) c.self.view_is

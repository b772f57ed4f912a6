use Rattle.std.proofs.Common.{◌≡◌, ◌+◌, IsTrue, arith, rules, sym, ap, subst, ◌∙◌, to_z, of_z, to_z-of_z, FitsSigned}
use Rattle.std.specs.Prelude.{int_lt}
use Rattle.std.specs.Int.{w64, w128}
use Rattle.std.proofs.lemmas.Int.{ints}
use Rattle.linear_formula.specs.LinearSum.{listed_at}
use Rattle.shadow_elim.specs.Points.{split}
use Rattle.lia_solver.specs.steps.Solved.{high_in, low_in, floor_in}
use Rattle.lia_solver.proofs.Bounded.{unlisted}
use Rattle.lia_solver.proofs.Ranges.{ascending-lower, fits-between}
use Rattle.lia_solver.proofs.Extending.{extended-crossed, low-between, floor-between, high-between}
use Rattle.lia_solver.proofs.columnwise.extend.Goals as goal

pub new-at-requires : goal.new-at-requires
new-at-requires c = ascending-lower (c.args.column + 1) 0 c.args.values (omega arith) c.requires.ascending

pub bounds_of-low-requires-clause-zero : goal.bounds_of-low-requires-clause-zero
bounds_of-low-requires-clause-zero c =
    ap (listed_at c.args.column) c.new-at.ensures.value
    ∙ unlisted c.args.column (c.args.column + 1) c.args.values (omega arith) c.requires.ascending

pub overflow_cast-result : goal.overflow_cast-result
overflow_cast-result c =
    let x = c.args.column in
    let es = c.args.table.now in
    let values = c.args.values in
    let b = c.bounds_of-low.result in
    let same = c.new-at.ensures.value in
    let low_fits : FitsSigned w128 b.low = search rules in
    let high_fits : FitsSigned w128 b.high = search rules in
    let floor_fits : FitsSigned w128 b.floor = search rules in
    let low : to_z w128 (of_z w128 b.low) ≡ low_in x values es = to_z-of_z low_fits ∙ c.bounds_of-low.ensures.low
    ∙ ap (λ at. low_in x at es) same in
    let high : to_z w128 (of_z w128 b.high) ≡ high_in x values es = to_z-of_z high_fits ∙ c.bounds_of-low.ensures.high
    ∙ ap (λ at. high_in x at es) same in
    let floor : to_z w128 (of_z w128 b.floor) ≡ floor_in x values es = to_z-of_z floor_fits ∙ c.bounds_of-low.ensures.floor
    ∙ ap (λ at. floor_in x at es) same in
    let crossed : IsTrue (int_lt (high_in x values es) (low_in x values es)) = sym (λ i. int_lt (high i) (low i)) ∙ c.if-low-high.true in
    let less = c.requires.sides crossed in
    let most = floor-between x values es in
    subst (FitsSigned w64) (sym floor) (fits-between (floor_in x values es) most (omega (arith, ints, less)))

pub returns-then-low-high : goal.returns-then-low-high
returns-then-low-high c =
    let x = c.args.column in
    let es = c.args.table.now in
    let values = c.args.values in
    let b = c.bounds_of-low.result in
    let same = c.new-at.ensures.value in
    let low_fits : FitsSigned w128 b.low = search rules in
    let high_fits : FitsSigned w128 b.high = search rules in
    let floor_fits : FitsSigned w128 b.floor = search rules in
    let low : to_z w128 (of_z w128 b.low) ≡ low_in x values es = to_z-of_z low_fits ∙ c.bounds_of-low.ensures.low
    ∙ ap (λ at. low_in x at es) same in
    let high : to_z w128 (of_z w128 b.high) ≡ high_in x values es = to_z-of_z high_fits ∙ c.bounds_of-low.ensures.high
    ∙ ap (λ at. high_in x at es) same in
    let floor : to_z w128 (of_z w128 b.floor) ≡ floor_in x values es = to_z-of_z floor_fits ∙ c.bounds_of-low.ensures.floor
    ∙ ap (λ at. floor_in x at es) same in
    let crossed : IsTrue (int_lt (high_in x values es) (low_in x values es)) = sym (λ i. int_lt (high i) (low i)) ∙ c.if-low-high.true in
    let less = c.requires.sides crossed in
    let most = floor-between x values es in
    let fits : FitsSigned w64 (to_z w128 (of_z w128 b.floor)) = subst (FitsSigned w64) (sym floor)
    (fits-between (floor_in x values es) most (omega (arith, ints, less))) in
    ap (split x) (to_z-of_z fits ∙ floor) ∙ sym (extended-crossed x es values crossed)

pub nearest-requires-clause-least : goal.nearest-requires-clause-least
nearest-requires-clause-least c =
    let fits : FitsSigned w128 c.bounds_of-low.result.low = search rules in
    let least = low-between c.args.column c.new-at.result c.args.table.now in
    omega (arith, ints, to_z-of_z fits, c.bounds_of-low.ensures.low, least)

pub nearest-requires-clause-greatest : goal.nearest-requires-clause-greatest
nearest-requires-clause-greatest c =
    let fits : FitsSigned w128 c.bounds_of-low.result.high = search rules in
    let most = high-between c.args.column c.new-at.result c.args.table.now in
    omega (arith, ints, to_z-of_z fits, c.bounds_of-low.ensures.high, most)

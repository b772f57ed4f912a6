use Rattle.std.proofs.Common.{arith, ap, ◌∙◌, pos}
use Rattle.std.proofs.lemmas.Int.{ints}
use Rattle.shadow_elim.specs.Division.{tightened, row_divisor}
use Rattle.shadow_elim.proofs.Pairs.{row_divisor-small, cast_multiple, cast_divisor, sum_is, made_is}
use Rattle.shadow_elim.proofs.pairing.combine.Goals as goal

pub overflow_cast-making : goal.overflow_cast-making
overflow_cast-making c =
    omega (arith, ints, c.in_ok-term.ensures.divisor, row_divisor-small c.in_ok-sum.sum c.in_ok-sum.ensures.kept)

pub returns-clause-made : goal.returns-clause-made
returns-clause-made c =
    let m = c.multiples-upper_multiple.ensures in
    let f = cast_multiple c.multiples-upper_multiple.result.0 m.upper_limit in
    let g = cast_multiple c.multiples-upper_multiple.result.1 m.lower_limit in
    let s = sum_is c.args.column c.args.upper.now.term c.args.lower.now.term _ _ _ _ c.in_ok-sum.sum m.upper m.lower f g
    c.in_ok-sum.ensures.value in
    let small = row_divisor-small c.in_ok-sum.sum c.in_ok-sum.ensures.kept in
    let d = cast_divisor c.in_ok-term.divisor (omega (arith, c.in_ok-term.ensures.divisor, small)) in
    made_is c.args.column c.args.upper.now c.args.lower.now _ _ _ c.in_ok-term.term (f ∙ m.upper) (g ∙ m.lower)
    (c.in_ok-term.ensures.row ∙ ap tightened s) (d ∙ ap pos (c.in_ok-term.ensures.divisor ∙ ap row_divisor s))

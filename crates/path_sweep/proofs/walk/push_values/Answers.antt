use Rattle.std.proofs.Common.{FitsSigned, w64, to_z, of_z, rules, subst, sym}
use Rattle.linear_formula.specs.LinearSum.{valuation, value_of}
use mir.Syntax.{w128}
use Rattle.path_sweep.proofs.TermValues.{value_fits, value_here, values_more}
use Rattle.path_sweep.proofs.walk.push_values.Goals as goal

pub overflow_cast-value : goal.overflow_cast-value
overflow_cast-value c =
    let v = valuation c.args.at.now in let t = c.term-item.result in
    subst (λ z. FitsSigned w64 (to_z w128 (of_z w128 z))) (sym c.value.ensures.value)
    (value_fits (value_of v t) (value_here v c.args.terms.now c.requires c.loop-term.term-index t c.term-item.is c.loop-term-test.true))

pub loop-term-preserved : goal.loop-term-preserved
loop-term-preserved c =
    values_more (valuation c.args.at.now) c.args.terms.now c.requires c.loop-term.term-index c.term-item.result c.term-item.is
    c.loop-term-test.true c.args.values.now.items c.loop-term.values.items _ c.value.result c.value.ensures.value c.loop-term.invariant
    (search rules)

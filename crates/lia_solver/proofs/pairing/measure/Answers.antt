use Rattle.std.proofs.Common.{sym, subst, ◌∙◌}
use Rattle.std.specs.Prelude.{IsTrue}
use Rattle.std.proofs.lemmas.Result.{err_from_is_err_and}
use Rattle.linear_formula.specs.LinearSum.{LinearSum, is_within}
use Rattle.linear_formula.proofs.Exits.{was_wide}
use Rattle.shadow_elim.specs.Elimination.{pair_sum}
use Rattle.lia_solver.specs.steps.Entries.{sum_at, no_entry}
use Rattle.lia_solver.proofs.PairSumsInCode.{row_of, paired-sum, term-within}
use Rattle.lia_solver.proofs.pairing.measure.Goals as goal

pub returns-in_err-_sum-clause-wide : goal.returns-in_err-_sum-clause-wide
returns-in_err-_sum-clause-wide c = λ w.
    let p = err_from_is_err_and c.from_residual.result c.from_residual.ensures.1 in
    let was = was_wide c.sum_into.result c.from_residual.result c.in_err-_sum.field-0.0 p.0 c.in_err-_sum.was p.1 p.2 w in
    let same = paired-sum c.args.column c.args.table.now c.args.upper c.args.lower c.multiples_of-first.result.0
    c.multiples_of-first.result.1 c.parts.result.now c.parts-2.result.now c.constant.result c.constant-2.result c.requires
    c.multiples_of-first.ensures.upper c.multiples_of-first.ensures.lower c.multiples_of-first.ensures.upper_bound
    c.multiples_of-first.ensures.lower_bound (c.parts.ensures no_entry) (c.constant.ensures no_entry) (c.parts-2.ensures no_entry)
    (c.constant-2.ensures no_entry) in
    λ h. c.sum_into.ensures.wide was (subst (λ (r : LinearSum). IsTrue (is_within r)) (sym same) h)

pub returns-clause-within : goal.returns-clause-within
returns-clause-within c =
    let same = paired-sum c.args.column c.args.table.now c.args.upper c.args.lower c.multiples_of-first.result.0
    c.multiples_of-first.result.1 c.parts.result.now c.parts-2.result.now c.constant.result c.constant-2.result c.requires
    c.multiples_of-first.ensures.upper c.multiples_of-first.ensures.lower c.multiples_of-first.ensures.upper_bound
    c.multiples_of-first.ensures.lower_bound (c.parts.ensures no_entry) (c.constant.ensures no_entry) (c.parts-2.ensures no_entry)
    (c.constant-2.ensures no_entry) in
    term-within (row_of c.sum_into.new.out.items c.in_ok-_sum._sum)
    (pair_sum c.args.column (sum_at c.args.table.now c.args.upper, sum_at c.args.table.now c.args.lower))
    (c.in_ok-_sum.ensures.value ∙ same)
    c.in_ok-_sum.ensures.kept

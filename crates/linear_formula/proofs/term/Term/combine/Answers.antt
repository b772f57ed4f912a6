use Rattle.std.proofs.Common.{to_z-of_z, ap, ◌∙◌}
use Rattle.std.proofs.lemmas.Result.{IfOk-weaker}
use Rattle.linear_formula.specs.Results.{combination}
use Rattle.linear_formula.proofs.Values.{combined-value}
use Rattle.linear_formula.proofs.term.Term.combine.Goals as goal

pub returns-in_default-2-clause-law : goal.returns-in_default-2-clause-law
returns-in_default-2-clause-law c =
    IfOk-weaker c.combine_in_turn.result _ _
    (λ t e. combined-value c.args.parts.now c.args.constant t (e ∙ ap (combination c.args.parts.now) (to_z-of_z c.ranges.constant)))
    c.combine_in_turn.ensures.value

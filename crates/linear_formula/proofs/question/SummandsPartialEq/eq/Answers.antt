use Rattle.std.proofs.Common.{rules, ◌≡◌}
use Rattle.linear_formula.specs.Equality.{same_summands}
use Rattle.linear_formula.specs.steps.SameValues.{summands-same, says}
use Rattle.linear_formula.proofs.question.SummandsPartialEq.eq.Goals as goal

pub returns-clause-same : goal.returns-clause-same
returns-clause-same c =
    let x = c.args.self.now in
    let y = c.args.other.now in
    let e : c.eq.result ≡ same_summands x y = search rules in
    says c.eq.result (same_summands x y) e (summands-same x y)

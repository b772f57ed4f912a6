use Rattle.std.proofs.Common.{subst}
use Rattle.linear_formula.specs.LinearSum.{valuation}
use Rattle.punch_step.specs.Sights.{IsDecision}
use Rattle.punch_step.proofs.confirm.is_met.Goals as goal

pub returns-in-Met : goal.returns-in-Met
returns-in-Met c = λ t.
    let d = subst (IsDecision c.args.rows.atoms) c.in-Met.is c.in_ok-decided.ensures in
    record { point = valuation c.in-Met.field-0.now; values = d.1; holds = d.2 }

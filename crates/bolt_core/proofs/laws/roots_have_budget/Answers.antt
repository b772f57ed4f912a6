use Rattle.bolt_core.proofs.Roots.{roots_have_budget}
use Rattle.bolt_core.proofs.laws.roots_have_budget.Goals as goal

pub returns : goal.returns
returns c = λ b h root lt. roots_have_budget b h root lt

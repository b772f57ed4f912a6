use Rattle.bolt_core.proofs.Leading.{closed_grounded}
use Rattle.bolt_core.proofs.laws.closed_are_grounded.Goals as goal

pub returns : goal.returns
returns c = λ b h i s closed. closed_grounded b h i s closed

use Rattle.bolt_core.proofs.Roots.{over_by_roots}
use Rattle.bolt_core.proofs.laws.over_by_roots.Goals as goal

pub returns : goal.returns
returns c = λ b h. over_by_roots b h

use Rattle.bolt_core.proofs.Leading.{root_anchored}
use Rattle.bolt_core.proofs.laws.roots_are_anchored.Goals as goal

pub returns : goal.returns
returns c = λ b h root lt p. root_anchored b h root lt p

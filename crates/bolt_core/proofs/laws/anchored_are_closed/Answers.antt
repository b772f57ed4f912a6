use Rattle.bolt_core.proofs.Leading.{anchored_closed}
use Rattle.bolt_core.proofs.laws.anchored_are_closed.Goals as goal

pub returns : goal.returns
returns c = λ b h i l a. anchored_closed b h i l a

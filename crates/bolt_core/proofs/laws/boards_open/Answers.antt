use Rattle.bolt_core.specs.States.{reads}
use Rattle.bolt_core.proofs.BoardKeeps.{opening_keeps}
use Rattle.bolt_core.proofs.laws.boards_open.Goals as goal

pub returns : goal.returns
returns c = λ gs grant ss ks lawful some fits roots holds. opening_keeps (reads gs) lawful grant some fits ss roots ks holds

use Rattle.bolt_core.specs.States.{reads}
use Rattle.bolt_core.proofs.BoardKeeps.{event_keeps}
use Rattle.bolt_core.proofs.laws.boards_keep.Goals as goal

pub returns : goal.returns
returns c = λ gs roots old new e lawful k t. event_keeps (reads gs) lawful roots old new e k t

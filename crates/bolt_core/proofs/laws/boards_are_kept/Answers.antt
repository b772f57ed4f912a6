use Rattle.bolt_core.proofs.BoardKeeps.{board_keeps}
use Rattle.bolt_core.proofs.laws.boards_are_kept.Goals as goal

pub returns : goal.returns
returns c = λ b h. board_keeps b h

use Rattle.bolt_core.proofs.Anchored.{board_origins}
use Rattle.bolt_core.proofs.laws.boards_have_origins.Goals as goal

pub returns : goal.returns
returns c = λ b h. board_origins b h

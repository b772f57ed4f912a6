use Rattle.bolt_rounds.proofs.Shown.{moves_keep}
use Rattle.bolt_rounds.proofs.moves.moves_keep.Goals as goal

pub returns : goal.returns
returns c = moves_keep

use Rattle.bolt_core.proofs.Staying.{moves_stay}
use Rattle.bolt_core.proofs.laws.moves_stay.Goals as goal

pub returns : goal.returns
returns c = moves_stay

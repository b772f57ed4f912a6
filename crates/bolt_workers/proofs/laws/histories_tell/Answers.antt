use Rattle.bolt_workers.proofs.Alike.{histories_tell}
use Rattle.bolt_workers.proofs.laws.histories_tell.Goals as goal

pub returns : goal.returns
returns c = histories_tell

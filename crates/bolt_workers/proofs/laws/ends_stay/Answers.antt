use Rattle.bolt_workers.proofs.Later.{ends_stay}
use Rattle.bolt_workers.proofs.laws.ends_stay.Goals as goal

pub returns : goal.returns
returns c = ends_stay

use Rattle.abstract_path.proofs.Crossing.{crossing}
use Rattle.abstract_path.proofs.laws.crosses.Goals as goal

pub returns : goal.returns
returns c = λ edges shut marked start target path s t r. crossing edges shut marked start target path s t r

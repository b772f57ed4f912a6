use Rattle.bolt_core.proofs.StatesLawful.{states_lawful}
use Rattle.bolt_core.proofs.laws.states_are_lawful.Goals as goal

pub returns : goal.returns
returns c = λ gs graphs. states_lawful gs graphs

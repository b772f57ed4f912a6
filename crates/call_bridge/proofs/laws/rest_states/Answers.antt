use Rattle.call_bridge.proofs.Resting.{rest_holds, rest_region}
use Rattle.call_bridge.proofs.laws.rest_states.Goals as goal

pub returns-clause-holds : goal.returns-clause-holds
returns-clause-holds c = λ exit site target atom rows pair f e. rest_holds exit site target atom f rows pair e

pub returns-clause-region : goal.returns-clause-region
returns-clause-region c = λ exit site target atom rows pair f e. rest_region exit site target atom f rows pair e

use Rattle.query_rules.proofs.Killed.{kills_stay}
use Rattle.query_rules.proofs.laws.kills_stay.Goals as goal

pub returns : goal.returns
returns c = λ gs g table q ancestors m s. kills_stay gs g table q ancestors m s

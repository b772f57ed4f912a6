use Rattle.linear_formula.proofs.Values.{value-renamed_by}
use Rattle.linear_formula.proofs.Renamed.{renamed_by-holds}
use Rattle.linear_formula.proofs.laws.renamed.Goals as goal

pub returns-clause-values : goal.returns-clause-values
returns-clause-values c = value-renamed_by

pub returns-clause-holding : goal.returns-clause-holding
returns-clause-holding c = renamed_by-holds

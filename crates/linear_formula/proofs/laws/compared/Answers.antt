use Rattle.linear_formula.specs.steps.SameValues.{sum-same, atoms-same}
use Rattle.linear_formula.proofs.laws.compared.Goals as goal

pub returns-clause-sums : goal.returns-clause-sums
returns-clause-sums c = sum-same

pub returns-clause-atoms : goal.returns-clause-atoms
returns-clause-atoms c = atoms-same

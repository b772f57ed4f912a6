use Rattle.must_region.proofs.Extending.{takes_step}
use Rattle.must_region.proofs.laws.steps_are_taken.Goals as goal

pub returns : goal.returns
returns c = λ g t i e kept l. takes_step g g.well_formed t kept i e l.at l.leaves l.no_call

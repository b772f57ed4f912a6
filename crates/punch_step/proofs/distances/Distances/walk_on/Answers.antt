use Rattle.punch_step.proofs.distances.Distances.walk_on.Goals as goal

pub walk-walk-requires-clause-noted : goal.walk-walk-requires-clause-noted
walk-walk-requires-clause-noted c = rw c.replace-noted.ensures.value c.requires.noted

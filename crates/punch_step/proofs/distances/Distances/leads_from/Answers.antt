use Rattle.punch_step.proofs.distances.Distances.leads_from.Goals as goal

pub leads-leads-requires-clause-noted : goal.leads-leads-requires-clause-noted
leads-leads-requires-clause-noted c = rw c.replace-noted.ensures.value c.requires.noted

use Rattle.punch_step.proofs.over_call.asked.Goals as goal

pub returns-in-Ok : goal.returns-in-Ok
returns-in-Ok c = c.in-Ok.ensures.rows

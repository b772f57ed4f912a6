use Rattle.bolt_rounds.proofs.alone.do_job.Given as goal

abbrev pub ghost-work_on : goal.ghost-work_on
ghost-work_on g a = g.shown

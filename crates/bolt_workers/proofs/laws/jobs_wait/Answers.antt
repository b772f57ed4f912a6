use Rattle.bolt_workers.proofs.Later.{jobs_wait}
use Rattle.bolt_workers.proofs.laws.jobs_wait.Goals as goal

pub returns : goal.returns
returns c = jobs_wait

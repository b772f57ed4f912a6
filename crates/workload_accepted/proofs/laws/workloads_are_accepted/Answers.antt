use Rattle.workload_accepted.proofs.WorkloadAccepted.{workload_accepted}
use Rattle.workload_accepted.proofs.laws.workloads_are_accepted.Goals as goal

pub returns : goal.returns
returns c = workload_accepted

use Rattle.flow_build.proofs.OneLowering.{one_lowering}
use Rattle.flow_build.proofs.laws.one_lowering.Goals as goal

pub returns : goal.returns
returns c = one_lowering

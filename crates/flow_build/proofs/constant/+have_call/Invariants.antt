use Rattle.std.proofs.Common.{length}
use Rattle.flow_build.proofs.constant.+have_call.Given as goal

abbrev pub decreases-have_call : goal.decreases-have_call
decreases-have_call l = length l.es.now

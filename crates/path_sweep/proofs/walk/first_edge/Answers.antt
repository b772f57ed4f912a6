use Rattle.path_sweep.proofs.Adding.{first_may}
use Rattle.path_sweep.proofs.walk.first_edge.Goals as goal

pub returns-in-At : goal.returns-in-At
returns-in-At c = λ gs levels stage links is.
    first_may gs levels c.args.following.now c.args.frame.now c.in-At.node stage c.first.result links c.in-At.is is c.first.ensures

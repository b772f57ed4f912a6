use Rattle.path_sweep.proofs.Adding.{next_may}
use Rattle.path_sweep.proofs.walk.next_edge.Goals as goal

pub returns-in-At-clause-first : goal.returns-in-At-clause-first
returns-in-At-clause-first c = λ gs levels stage links is can.
    next_may gs levels c.args.following.now c.args.frame.now c.in-At.field-0 c.args.edge stage c.next.result links c.in-At.is is can
    c.next.ensures

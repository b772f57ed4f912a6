use Rattle.infeasible_cert.proofs.walk.+is_right.Given as goal

abbrev pub decreases-is_right : goal.decreases-is_right
decreases-is_right l = l.depth

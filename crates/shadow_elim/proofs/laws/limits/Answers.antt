use Rattle.shadow_elim.proofs.SplitLimit.{right_limits}
use Rattle.shadow_elim.proofs.SplitTree.{trees-have-sides}
use Rattle.shadow_elim.proofs.laws.limits.Goals as goal

pub returns-clause-splits : goal.returns-clause-splits
returns-clause-splits c = right_limits

pub returns-clause-sides : goal.returns-clause-sides
returns-clause-sides c = trees-have-sides

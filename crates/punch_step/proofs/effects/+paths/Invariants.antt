use Rattle.std.proofs.Common.{◌+◌, ◌*◌}
use Rattle.punch_step.proofs.effects.+paths.Given as goal

abbrev pub decreases-paths_of : goal.decreases-paths_of
decreases-paths_of l = 8 * l.depth + 1

abbrev pub decreases-found : goal.decreases-found
decreases-found l = 8 * l.depth

abbrev pub decreases-walked : goal.decreases-walked
decreases-walked l = 8 * l.walk.now.depth + 5

abbrev pub decreases-push_all : goal.decreases-push_all
decreases-push_all l = 8 * l.walk.now.depth + 4

abbrev pub decreases-push_over : goal.decreases-push_over
decreases-push_over l = 8 * l.walk.now.depth + 3

abbrev pub decreases-push_called : goal.decreases-push_called
decreases-push_called l = 8 * l.walk.now.depth + 2

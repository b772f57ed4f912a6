use Rattle.bundle_make.proofs.Pushing.{ArePushed}
use Rattle.bundle_make.proofs.moving.push_cuts.Given as goal

abbrev pub invariant-loop-by : goal.invariant-loop-by
invariant-loop-by l =
    ArePushed l.edge l.first l.follows l.fn.moves.items l.fn.partition l.by-index l.from l.moves.items l.partition

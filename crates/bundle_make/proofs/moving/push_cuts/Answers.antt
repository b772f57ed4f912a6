use Rattle.bundle_make.proofs.Pushing.{next_pushed}
use Rattle.bundle_make.proofs.moving.push_cuts.Goals as goal

pub loop-by-preserved : goal.loop-by-preserved
loop-by-preserved c =
    next_pushed c.args.edge.now c.args.first c.args.follows.now c.args.moves.now.items c.args.partition.now c.loop-by.by-index
    c.loop-by.from c.loop-by.moves.items c.loop-by.partition c.loop-by.invariant c.loop-by-test.true c.by-item.result c.by-item.is
    c.in_ok-made.made c.in_ok-made.ensures.made c.kill_move.new.partition c.in_ok-made.ensures.regions c.in_ok-made.ensures.shows
    c.push.new.self.items c.in_ok-push.ensures.items c.in_ok-from.from c.in_ok-from.ensures

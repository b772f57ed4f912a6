use Rattle.bundle_make.proofs.Targets.{entry_within, state_held, state_missing}
use Rattle.bundle_make.proofs.making.closed_state.Goals as goal

pub payload-requires : goal.payload-requires
payload-requires c =
    entry_within c.args.board.now c.requires.board c.args.id c.requires.anchored c.forest.result.now.entries c.forest.ensures

pub unreachable-requires : goal.unreachable-requires
unreachable-requires c =
    state_missing c.args.board.now c.requires.board c.args.id c.requires.anchored c.forest.result.now.entries c.forest.ensures
    c.in-None.ensures

pub returns : goal.returns
returns c =
    state_held c.args.board.now c.requires.board c.args.id c.requires.anchored c.forest.result.now.entries c.forest.ensures
    c.in-Some.state.now c.in-Some.ensures

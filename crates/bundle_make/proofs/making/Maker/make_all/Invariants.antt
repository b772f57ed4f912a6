use Rattle.std.proofs.Common.{map}
use Rattle.proof_bundle.specs.Claims.{move_of}
use Rattle.bundle_make.proofs.Going.{Going}
use Rattle.bundle_make.proofs.making.Maker.make_all.Given as goal

abbrev pub invariant-loop-step : goal.invariant-loop-step
invariant-loop-step l =
    Going l.self.board.now l.self.listing.now.ids.items l.self.state.now l.self.graph.now l.self.killed.now l.step-index l.entry
    (map move_of l.moves.items) l.partition

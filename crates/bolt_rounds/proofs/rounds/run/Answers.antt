use Rattle.std.proofs.Common.{refl}
use Rattle.bolt_rounds.proofs.Rounding.{begun_rest}
use Rattle.bolt_rounds.proofs.rounds.run.Goals as goal

pub loop-crew-init : goal.loop-crew-init
loop-crew-init g c = record {
  same = record { graphs = refl; main = refl; asserts = refl; budget = refl; kept = refl };
  rest = begun_rest c.args.board.now c.in_ok-crew.crew c.args.workers c.room.result c.reached.ensures c.requires.fresh c.requires.some
      c.room.ensures.room c.in_ok-crew.ensures;
}

use Rattle.std.proofs.Common.{Some}
use Rattle.board_tests.proofs.Plays.{kept_play}
use Rattle.board_tests.proofs.play.Play.keep.Goals as goal

pub returns-then-place-len-clause-stands : goal.returns-then-place-len-clause-stands
returns-then-place-len-clause-stands c =
    let s = c.args.self.now in
    kept_play s.board s.asserts s.known s.jobs.items c.requires.stands c.args.worker (Some c.args.worked) c.requires.job

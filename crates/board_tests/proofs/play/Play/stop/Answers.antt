use Rattle.board_tests.proofs.Plays.{play_stopped}
use Rattle.board_tests.proofs.play.Play.stop.Goals as goal

pub returns : goal.returns
returns c =
    let s = c.args.self.now in
    play_stopped s.board c.stop.new.self c.args.worker c.reached.ensures c.stop.ensures.same s.asserts s.known s.jobs.items c.requires
    c.stop.ensures.stopped

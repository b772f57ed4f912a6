use Rattle.std.proofs.Common.{◌∙◌, subst, sym}
use Rattle.board_tests.specs.Plays.{AreOut}
use Rattle.board_tests.proofs.Plays.{begun_play}
use Rattle.board_tests.proofs.play.Play.at.Goals as goal

pub returns : goal.returns
returns c =
    begun_play c.args.board c.args.asserts c.in_ok-known.known c.in_ok-jobs.jobs.items c.requires
    (c.in_ok-known.ensures.room ∙ c.room.ensures.room) c.in_ok-known.ensures.none
    (subst (AreOut c.args.board) (sym c.in_ok-jobs.ensures.items) (tt, (tt, (tt, (tt, tt)))))

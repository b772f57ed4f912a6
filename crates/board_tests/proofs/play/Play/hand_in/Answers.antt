use Rattle.std.proofs.Common.{subst, sym}
use Rattle.board_lock.specs.Views.{StartsWith}
use Rattle.bolt_core.specs.Boards.{Shown}
use Rattle.bolt_rounds.specs.Moves.{MayMove}
use Rattle.board_tests.proofs.Plays.{play_goes}
use Rattle.board_tests.proofs.Staying.{more_by, more_none, moved_by}
use Rattle.board_tests.proofs.play.Play.hand_in.Goals as goal

pub hand_in-requires : goal.hand_in-requires
hand_in-requires c =
    let w = c.in-Some.worked in
    subst (λ (b : Shown). MayMove b w.job w.next) (sym c.in-Some.ensures.board) c.in-Some.ensures.may

pub returns-in-Ok-clause-more : goal.returns-in-Ok-clause-more
returns-in-Ok-clause-more c =
    let s = c.fetch.new.self in
    let w = c.in-Some.worked in
    let v = moved_by s.board c.hand_in.new.board c.args.worker w.job w.next c.in-Ok.ensures.moved in
    subst (λ (b : Shown). StartsWith c.hand_in.new.board.core.history b.core.history) c.in-Some.ensures.board
    (more_by s.board c.hand_in.new.board v.0 v.1)

pub returns-in-Ok-clause-stands : goal.returns-in-Ok-clause-stands
returns-in-Ok-clause-stands c =
    let s = c.fetch.new.self in
    let w = c.in-Some.worked in
    let v = moved_by s.board c.hand_in.new.board c.args.worker w.job w.next c.in-Ok.ensures.moved in
    play_goes s.board c.hand_in.new.board v.0 c.reached.ensures c.in-Ok.ensures.same v.1 s.asserts s.known s.jobs.items
    c.in-Some.ensures.stands

pub returns-in-Err-clause-more : goal.returns-in-Err-clause-more
returns-in-Err-clause-more c =
    let s = c.fetch.new.self in
    subst (λ (b : Shown). StartsWith c.hand_in.new.board.core.history b.core.history) c.in-Some.ensures.board
    (more_none s.board c.hand_in.new.board c.in-Err.ensures.moved.same)

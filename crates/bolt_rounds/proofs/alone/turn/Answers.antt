use Rattle.std.proofs.Common.{refl, subst}
use Rattle.bolt_core.specs.Boards.{Gives, IsDone, IsIdle, IsTaken}
use Rattle.bolt_rounds.proofs.Turning.{has_turned, just_taken, never_idle, over_turned, taken_now}
use Rattle.bolt_rounds.proofs.alone.turn.Goals as goal

pub unreachable-requires : goal.unreachable-requires
unreachable-requires c =
    let old = c.args.board.now in
    let f = c.in_ok-fetch.ensures in
    let i : IsIdle old c.fetch.new.board = subst (Gives old 0 c.fetch.new.board) c.in-Idle.is f.taken in
    never_idle old f.board c.requires.back i.busy

pub do_job-requires : goal.do_job-requires
do_job-requires c =
    let old = c.args.board.now in
    let mid = c.fetch.new.board in
    let j = c.in-Job.job in
    let f = c.in_ok-fetch.ensures in
    let t : IsTaken old 0 mid j = subst (Gives old 0 mid) c.in-Job.is f.taken in
    (refl, (f.known, (just_taken old mid 0 j f.board t, taken_now old mid 0 j f.board t)))

pub returns-in_ok-do_job-in-Job-clause-turned : goal.returns-in_ok-do_job-in-Job-clause-turned
returns-in_ok-do_job-in-Job-clause-turned c =
    let old = c.args.board.now in
    let mid = c.fetch.new.board in
    let j = c.in-Job.job in
    let f = c.in_ok-fetch.ensures in
    let d = c.in_ok-do_job-in-Job.ensures in
    let t : IsTaken old 0 mid j = subst (Gives old 0 mid) c.in-Job.is f.taken in
    has_turned old mid c.do_job.new.board 0 j c.fetch.new.known.summaries f.board t d.back c.requires.back c.requires.going d.same f.known

pub returns-in-Over-clause-turned : goal.returns-in-Over-clause-turned
returns-in-Over-clause-turned c =
    let old = c.args.board.now in
    let d : IsDone old c.fetch.new.board = subst (Gives old 0 c.fetch.new.board) c.in-Over.is c.in_ok-fetch.ensures.taken in
    over_turned old c.fetch.new.board c.fetch.new.known.summaries d c.requires.going

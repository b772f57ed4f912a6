use Rattle.c_tree.specs.Whole.{program_of}
use Rattle.run_replay.specs.Outcome.{replay_outcome}
use Rattle.smash_run.proofs.Placed.{replay_placed}
use Rattle.smash_run.proofs.reply.replay_program.Goals as goal

pub replayed-requires : goal.replayed-requires
replayed-requires c =
    let program = c.args.program.now in
    replay_placed (program_of program) program.well_formed c.args.list.now c.args.fuel (replay_outcome c.in_ok-answer.answer.outcome)
    c.in_ok-answer.answer.used c.in_ok-answer.ensures.replays

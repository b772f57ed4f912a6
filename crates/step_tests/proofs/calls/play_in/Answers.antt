use Rattle.step_tests.proofs.calls.play_in.Goals as goal

pub play_with-requires : goal.play_with-requires
play_with-requires c = c.in_ok-table.ensures.holds _

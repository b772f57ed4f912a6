use Rattle.std.proofs.Common.{length, refl, sym, ap, ◌∙◌, subst}
use Rattle.std.proofs.lemmas.Option.{slice_get_read}
use Rattle.std.proofs.lemmas.Result.{IfOk-weaker}
use Rattle.c_tree.specs.Whole.{program_of}
use Rattle.run_replay.specs.Outcome.{replay_outcome}
use Rattle.report_text.specs.Replay.{HasPlace, failed_text, replay_text}
use Rattle.report_text.proofs.replays.replay_text.Goals as goal

pub returns-in-Failed : goal.returns-in-Failed
returns-in-Failed c =
    let asserts = c.args.program.now.asserts.items in
    let P = program_of c.args.program.now in
    let used = c.args.replayed.used in
    let below = subst (λ o. HasPlace (length asserts) (replay_outcome o)) c.in-Failed.is c.requires in
    let there = slice_get_read asserts (length asserts) c.in-Failed.id c.index.result.now refl below c.index.ensures in
    IfOk-weaker c.failed_text.result _ _
    (λ text h. h ∙ sym (ap (λ a. failed_text a used) there) ∙ sym (ap (λ o. replay_text P c.args.fuel (replay_outcome o) used)
    c.in-Failed.is))
    c.failed_text.ensures

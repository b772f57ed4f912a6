use Rattle.std.proofs.Common.{◌≡◌, ◌∙◌, ap, ap₂}
use Rattle.std.proofs.lemmas.Result.{IfOk-weaker}
use Rattle.clap.specs.Simple.{App, app_of, with_subcommand}
use Rattle.command_words.specs.steps.WordsLine.{bundle_app, check_app, recheck_app, replay_app, sweep_app, top_app, workload_app}
use Rattle.command_words.proofs.words.line.Goals as goal

-- the line of the first three commands
abbrev short_app : App
short_app = with_subcommand (with_subcommand (with_subcommand top_app check_app.top) replay_app.top) workload_app.top

pub returns : goal.returns
returns c =
    let one : app_of c.in_ok-subcommand.field-0 ≡ with_subcommand short_app bundle_app.top =
    c.in_ok-subcommand.ensures.shape (c.in_ok-bundle_line.ensures.1)
    ∙ ap₂ with_subcommand c.in_ok-short_line.ensures (ap (λ (a : App). a.top) c.in_ok-bundle_line.ensures.0) in
    let two : app_of c.in_ok-subcommand-2.field-0 ≡ with_subcommand (with_subcommand short_app bundle_app.top) recheck_app.top =
    c.in_ok-subcommand-2.ensures.shape (c.recheck_line.ensures.1)
    ∙ ap₂ with_subcommand one (ap (λ (a : App). a.top) c.recheck_line.ensures.0) in
    let three : app_of c.in_ok-subcommand-3.field-0
    ≡ with_subcommand (with_subcommand (with_subcommand short_app bundle_app.top) recheck_app.top) sweep_app.top =
    c.in_ok-subcommand-3.ensures.shape (c.in_ok-sweep_line.ensures.1)
    ∙ ap₂ with_subcommand two (ap (λ (a : App). a.top) c.in_ok-sweep_line.ensures.0) in
    IfOk-weaker c.subcommand-4.result _ _
    (λ l a. a.shape (c.in_ok-edit_line.ensures.1) ∙ ap₂ with_subcommand three (ap (λ (a : App). a.top) c.in_ok-edit_line.ensures.0))
    c.subcommand-4.ensures

use Rattle.std.proofs.Common.{◌≡◌, ◌∙◌, ap, ap₂}
use Rattle.std.proofs.lemmas.Result.{IfOk-weaker}
use Rattle.clap.specs.Simple.{App, app_of, with_subcommand}
use Rattle.command_words.specs.steps.WordsLine.{check_app, replay_app, top_app}
use Rattle.command_words.proofs.words.short_line.Goals as goal

pub returns : goal.returns
returns c =
    let one : app_of c.in_ok-subcommand.field-0 ≡ with_subcommand top_app check_app.top =
    c.in_ok-subcommand.ensures.shape (c.in_ok-check_line.ensures.1)
    ∙ ap₂ with_subcommand c.bare_line.ensures (ap (λ (a : App). a.top) c.in_ok-check_line.ensures.0) in
    let two : app_of c.in_ok-subcommand-2.field-0 ≡ with_subcommand (with_subcommand top_app check_app.top) replay_app.top =
    c.in_ok-subcommand-2.ensures.shape (c.in_ok-replay_line.ensures.1)
    ∙ ap₂ with_subcommand one (ap (λ (a : App). a.top) c.in_ok-replay_line.ensures.0) in
    IfOk-weaker c.subcommand-3.result _ _
    (λ l a. a.shape (c.in_ok-workload_line.ensures.1) ∙ ap₂ with_subcommand two (ap (λ (a : App). a.top) c.in_ok-workload_line.ensures.0))
    c.subcommand-3.ensures

use Rattle.std.proofs.Common.{ℕ}
use Rattle.std.specs.Prelude.{IfSome}
use Rattle.std.proofs.lemmas.Result.{IfOk-weaker}
use Rattle.punch_step.specs.Frontiers.{MadeAt}
use Rattle.punch_step.proofs.Arriving.{made_of_any}
use Rattle.punch_step.proofs.by_extremes.step_by_extremes.Goals as goal

pub returns-in-Never : goal.returns-in-Never
returns-in-Never c =
    let f = c.args.frontier.now in
    IfOk-weaker c.behind.result (λ s. IfSome s (λ x. (n : ℕ) → MadeAt f n x)) (λ s. IfSome s (MadeAt f c.args.number))
    (made_of_any f c.args.number) c.behind.ensures

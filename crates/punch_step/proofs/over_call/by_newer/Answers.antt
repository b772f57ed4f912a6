use Rattle.std.proofs.Common.{◌≡◌, subst}
use Rattle.std.specs.Prelude.{IfSome}
use Rattle.punch_step.specs.declared.over_call.Served.TheVariants as serves
use Rattle.punch_step.specs.steps.Serving.{AreServedFrom}
use Rattle.punch_step.proofs.over_call.by_newer.Goals as goal

pub returns-in-Some : goal.returns-in-Some
returns-in-Some c =
    let f = c.args.frontier.now in
    let served = subst (λ o. IfSome o (λ s. c.in_ok-by_musts_from.field-0 ≡ serves.By s)) c.in-Some.is c.step_in.ensures in
    subst (AreServedFrom f c.args.newer) served c.in_ok-by_musts_from.ensures

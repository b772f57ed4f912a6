use Rattle.std.proofs.Common.{refl, sym, subst}
use Rattle.punch_step.specs.CallFrontiers.{IsGivenUpHere}
use Rattle.punch_step.proofs.over_call.given_up.Goals as goal

pub returns : goal.returns
returns c = (refl, c.in_ok-seen.ensures, subst (IsGivenUpHere c.args.frontier.now) (sym c.in_ok-copy.ensures) c.requires)

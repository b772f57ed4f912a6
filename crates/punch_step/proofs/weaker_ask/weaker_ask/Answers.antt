use Rattle.std.proofs.Common.{◌≡◌, subst}
use Rattle.query_rules.specs.Rows.{Entails}
use Rattle.punch_step.specs.CallFrontiers.{table_at}
use Rattle.punch_step.specs.Entailing.{IsEntailing, IsHeld, IsNotMayAt, NotBefore}
use Rattle.punch_step.specs.steps.Serving.{HasRepeated}
use Rattle.punch_step.proofs.CallConfirmed.{weaker}
use Rattle.punch_step.proofs.weaker_ask.weaker_ask.Goals as goal

pub returns : goal.returns
returns c =
    let f = c.args.frontier.now in let asked = c.args.asked.now in let q = c.args.query.now in
    let same : c.in-Yes.follows ≡ c.follows.inside.items.items = cc in
    weaker f asked q c.in_ok-copy.field-0 c.follows.inside.items.items c.in_ok-seen.field-0 c.in_ok-copy.ensures c.requires.may
    (subst (Entails asked q) same (subst (IsEntailing asked q) c.in-Yes.is c.in_ok-follows.ensures))
    (c.fits_callee.ensures c.if-not-fits_callee.false)
    (subst (IsHeld (NotBefore 0 (IsNotMayAt (table_at f))) q) c.in-None.is c.in_ok-not_may_of.ensures)
    (subst (HasRepeated f q) c.if-is_asked.false c.is_asked.ensures) c.in_ok-seen.ensures

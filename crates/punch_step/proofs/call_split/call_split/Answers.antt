use Rattle.std.proofs.Common.{Option, subst}
use Rattle.std.specs.Prelude.{IfSome}
use Rattle.linear_formula.specs.declared.formula.Cube.{Cube}
use Rattle.punch_step.specs.Confirming.{HasMustPreimage, IsConfirmed}
use Rattle.punch_step.specs.declared.confirm.Confirmation.{Confirmation}
use Rattle.punch_step.proofs.CallConfirmed.{marked_at, split_cut}
use Rattle.punch_step.proofs.call_split.call_split.Goals as goal

pub returns-in-Some-3 : goal.returns-in-Some-3
returns-in-Some-3 c =
    let f = c.args.frontier.now in let pre = c.in-Some.pre.atoms in
    split_cut f c.args.place pre c.in-Some-3.cut
    (subst (λ (o : Option Cube). IfSome o (λ x. HasMustPreimage f c.args.place x.atoms)) c.in-Some.is c.in_ok-pre.ensures)
    (subst (λ (o : Option Confirmation). IfSome o (IsConfirmed (marked_at f) pre)) c.in-Some-3.is c.in_ok-cut.ensures)

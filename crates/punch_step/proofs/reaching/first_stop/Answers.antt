use Rattle.std.proofs.Common.{◌∙◌, subst, sym, arith}
use Rattle.std.proofs.lemmas.List.{take_all}
use Rattle.punch_step.specs.steps.Reaching.{NoneStops}
use Rattle.punch_step.proofs.Closings.{first_is, none_more}
use Rattle.punch_step.proofs.reaching.first_stop.Goals as goal

pub returns-then-branch : goal.returns-then-branch
returns-then-branch c = λ g m t far h at_steps at_asked kinds.
    let steps = c.args.steps.now in let i = c.loop-step.step-index in let s = c.step-item.result in
    first_is g m steps c.args.asked.now i s c.kind_of.result (omega (arith, c.loop-step-test.true)) c.step-item.is
    (c.loop-step.invariant g m t far h)
    ((c.in_ok-is_stopped.ensures g m t far h).0 c.if-branch.true) c.kind_of.ensures at_steps at_asked kinds

pub loop-step-preserved : goal.loop-step-preserved
loop-step-preserved c = λ g m t far h.
    let steps = c.args.steps.now in let i = c.loop-step.step-index in let s = c.step-item.result in
    none_more g m steps i s (omega (arith, c.loop-step-test.true)) c.step-item.is (c.loop-step.invariant g m t far h)
    (λ w. let t = (c.in_ok-is_stopped.ensures g m t far h).1 w in let f = c.if-branch.false in cc)

pub returns : goal.returns
returns c = λ g m t far h at_steps at_asked kinds.
    subst (NoneStops g m) (take_all c.loop-step.step-index c.args.steps.now (omega (arith, c.loop-step-test.false)) ∙ sym at_steps)
    (c.loop-step.invariant g m t far h)

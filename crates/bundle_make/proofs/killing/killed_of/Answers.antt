use Rattle.std.proofs.Common.{◌≡◌, ◌<◌, ◌≤◌, ◌+◌, List, Bool, Vec, Global, get_or, length, subst, sym, ap, ◌∙◌}
use Rattle.query_rules.specs.declared.step.Step.{Step}
use Rattle.bundle_make.proofs.KilledBelow.{AreKilledBelow, killed_all, killed_by, killed_other}
use Rattle.bundle_make.proofs.killing.killed_of.Goals as goal
use Rattle.bundle_make.proofs.killing.killed_of.Goals.{in-Some, in_default}

pub loop-step-preserved : goal.loop-step-preserved
loop-step-preserved c =
    let s = c.args.state.now in
    let i = c.loop-step.step-index in
    let ks = c.loop-step.killed.items in
    let t = c.step-item.result in
    let low : i < length s.steps = subst (λ (xs : List Step). i < length xs) c.steps-step-items.ensures c.loop-step-test.true in
    let at : t ≡ get_or s.steps i t = c.step-item.is ∙ ap (λ (xs : List Step). get_or xs i t) c.steps-step-items.ensures in
    elim c.match-child_of.branch [
      | in-Some w ↦
          subst (λ (v : Vec Bool Global). AreKilledBelow s v.items (i + 1)) (sym w.killed-is)
          (killed_by s ks i t t low at c.loop-step.invariant w.in-Some.ensures.some.0 w.in-Some.child w.in-Some.ensures.some.1 c.requires)
      | in_default w ↦
          subst (λ (v : Vec Bool Global). AreKilledBelow s v.items (i + 1)) (sym w.killed-is)
          (killed_other s ks i t t low at c.loop-step.invariant w.in_default.ensures.none)
    ]

pub returns : goal.returns
returns c =
    killed_all c.args.state.now c.loop-step.killed.items c.loop-step.step-index
    (subst (λ (xs : List Step). length xs ≤ c.loop-step.step-index) c.steps-step-items.ensures c.loop-step-test.false) c.loop-step.invariant

use Rattle.std.proofs.Common.{◌+◌, drop, subst}
use Rattle.shadow_elim.specs.Shadows.{pair_rows}
use Rattle.shadow_elim.proofs.FirstInexact.{IsFirstIn, continues-at, continues-later, continues-here, continues-never}
use Rattle.shadow_elim.proofs.eliminate.first_inexact.Goals as goal

pub returns-in-Some : goal.returns-in-Some
returns-in-Some c =
    let all = c.args.stages.now in
    let i = c.loop-stage.stage-index in
    let s = c.stage-item.result in
    continues-here all (drop (i + 1) all) s _ (subst (λ o. IsFirstIn (pair_rows o) s) c.in-Some.is c.in_ok-pair.ensures)
    (continues-at all i s c.loop-stage-test.true c.stage-item.is c.loop-stage.invariant)

pub loop-stage-preserved : goal.loop-stage-preserved
loop-stage-preserved c =
    let all = c.args.stages.now in
    let i = c.loop-stage.stage-index in
    let s = c.stage-item.result in
    continues-later all (drop (i + 1) all) s (subst (λ o. IsFirstIn (pair_rows o) s) c.in_default.is c.in_ok-pair.ensures)
    (continues-at all i s c.loop-stage-test.true c.stage-item.is c.loop-stage.invariant)

pub returns : goal.returns
returns c = continues-never c.args.stages.now c.loop-stage.stage-index c.loop-stage-test.false c.loop-stage.invariant

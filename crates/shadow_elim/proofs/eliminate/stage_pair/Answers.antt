use Rattle.std.proofs.Common.{◌∙◌}
use Rattle.shadow_elim.proofs.FirstInexact.{no-upper, no-lower, first-of_both}
use Rattle.shadow_elim.proofs.eliminate.stage_pair.Goals as goal

pub returns-in_default : goal.returns-in_default
returns-in_default c =
    no-upper c.args.stage.now c.deref.result.now c.deref.ensures.value c.in_default.ensures

pub returns-in_default-first_other : goal.returns-in_default-first_other
returns-in_default-first_other c =
    no-lower c.args.stage.now c.deref-2.result.now c.deref-2.ensures.value c.in_default-first_other.ensures

pub returns : goal.returns
returns c =
    let first = first-of_both c.args.stage.now c.in-Some.upper.now c.in-Some-first_other.lower.now c.deref.result.now c.deref-2.result.now
    c.deref.ensures.value c.deref-2.ensures.value c.in-Some.ensures c.in-Some-first_other.ensures in
    λ x rows h. c.in_ok-pair.ensures ∙ first x rows h

use Rattle.std.proofs.Common.{inl, inr, subst}
use Rattle.linear_formula.specs.declared.formula.Cube.{Cube}
use Rattle.shadow_elim.specs.Questions.{IsNever}
use Rattle.punch_step.specs.Sights.{IsDecision}
use Rattle.punch_step.proofs.by_known_must.is_whole_with.Goals as goal

pub returns-in-Never : goal.returns-in-Never
returns-in-Never c = λ _.
    let both = c.in_ok-both.both.atoms in
    let decision = subst (λ (q : Cube). IsDecision q.atoms c.in_ok-decided.field-0) c.of.ensures c.in_ok-decided.ensures in
    let never = subst (IsDecision both) c.in-Never.is decision in
    inr (inl (subst IsNever c.in_ok-both.ensures never.0))

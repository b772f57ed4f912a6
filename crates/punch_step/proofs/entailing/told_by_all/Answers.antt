use Rattle.std.proofs.Common.{List, sym, subst, ◌∙◌}
use Rattle.std.specs.Prelude.{All}
use Rattle.linear_formula.specs.LinearSum.{Is64, valuation}
use Rattle.linear_formula.specs.Formula.{HoldsAll}
use Rattle.infeasible_cert.specs.declared.certificate.Certificate.{Certificate}
use Rattle.infeasible_cert.specs.Refutation.{refutation_of}
use Rattle.infeasible_cert.specs.Terms.{HasTerms}
use Rattle.shadow_elim.specs.Entailment.{IsLimitOf, IsPointOf, StopsAt}
use Rattle.lia_solver.specs.Entailment.{IfLimit, IfNo, IfYes, RefuteEach}
use Rattle.lia_solver.specs.declared.solved.Entailed.{Entailed}
use Rattle.query_rules.specs.Rows.{Entails}
use Rattle.punch_step.proofs.Entailed.{apart_is, entails_is, limited_is}
use Rattle.punch_step.proofs.entailing.told_by_all.Goals as goal

pub returns-in-Yes : goal.returns-in-Yes
returns-in-Yes c = λ s is procedure exit.
    let q = c.args.asked.now in let left = c.in_ok-left.left.atoms in let right = c.args.right.now.atoms in
    let e = c.in_ok-proofs.ensures in
    let refuted = subst (λ (x : Entailed). IfYes x (λ cs. RefuteEach left right cs)) c.in-Yes.is e.yes in
    let terms = subst (λ (x : Entailed). IfYes x (All (λ d. HasTerms (refutation_of d)))) c.in-Yes.is e.terms in
    subst (λ (cs : List Certificate). Entails q s cs) (sym (c.from_vec-proofs.ensures ∙ c.into_vec.ensures))
    (entails_is q s left right c.in-Yes.proofs procedure exit c.in_ok-left.ensures.value is c.in_ok-left.ensures.terms
    c.as_slice.ensures.terms refuted terms)

pub returns-in-No : goal.returns-in-No
returns-in-No c = λ s is procedure exit.
    let q = c.args.asked.now in let left = c.in_ok-left.left.atoms in let right = c.args.right.now.atoms in
    let e = c.in_ok-proofs.ensures in
    let at = c.in-No.field-0 in
    apart_is q s left right at c.in_ok-left.ensures.value is
    (subst (λ (x : Entailed). IfNo x (λ p. StopsAt left right (IsPointOf left p))) c.in-No.is e.first_no)
    (subst (λ (x : Entailed). IfNo x (λ p. Is64 (valuation p))) c.in-No.is e.values)
    (subst (λ (x : Entailed). IfNo x (λ p. HoldsAll (valuation p) left)) c.in-No.is e.left)
    (subst (λ (x : Entailed). IfNo x (λ p. ¬ HoldsAll (valuation p) right)) c.in-No.is e.right)

pub returns : goal.returns
returns c = λ s is procedure exit.
    let q = c.args.asked.now in let left = c.in_ok-left.left.atoms in let right = c.args.right.now.atoms in
    let p = subst (λ (x : Entailed). IfLimit x (λ k. StopsAt left right (IsLimitOf left k))) c.in-Limit.is
    c.in_ok-proofs.ensures.first_limit
    in
    limited_is q s left right c.in-Limit.kept procedure exit c.in_ok-left.ensures.value is p

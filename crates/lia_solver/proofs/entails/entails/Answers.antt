use Rattle.std.proofs.Common.{List, sym, subst}
use Rattle.linear_formula.specs.LinearSum.{valuation}
use Rattle.linear_formula.specs.Formula.{Holds, HoldsAll}
use Rattle.linear_formula.specs.declared.formula.Atom.{Atom}
use Rattle.lia_solver.specs.steps.Asked.{IsAnswerTo}
use Rattle.shadow_elim.specs.Entailment.{IsPointOf, IsLimitOf}
use Rattle.lia_solver.specs.steps.Further.{IsMeant}
use Rattle.shadow_elim.specs.Questions.{with_negation}
use Rattle.shadow_elim.proofs.PlanValues.{solution_64}
use Rattle.lia_solver.proofs.Asking.{holds-at, so-far-more, stops}
use Rattle.lia_solver.proofs.entails.entails.Goals as goal

pub returns-in-Point-clause-right : goal.returns-in-Point-clause-right
returns-in-Point-clause-right c = λ h.
    let atom = c.atom-item.result in let at = c.in-Point.at in let items = c.as_slice-atom-items.result.now in
    let meant = subst (IsMeant c.args.left.now.atoms atom) c.in-Point.is (subst (λ (as_ : List Atom). IsMeant as_ atom
    c.in_ok-certificate.field-0) c.loop-atom.invariant.1.atoms_are c.in_ok-certificate.ensures.meant) in
    let all = subst (HoldsAll (valuation at)) (sym c.as_slice-atom-items.ensures.value) h in
    meant.1 (subst (Holds (valuation at)) (sym c.atom-item.is) (holds-at (valuation at) items c.loop-atom.atom-index atom
    c.loop-atom-test.true all))

pub returns-in-Point-clause-first_no : goal.returns-in-Point-clause-first_no
returns-in-Point-clause-first_no c =
    let left = c.args.left.now.atoms in let atom = c.atom-item.result in
    let answer = subst (IsAnswerTo left atom) c.in-Point.is (subst (λ (as_ : List Atom). IsAnswerTo as_ atom c.in_ok-certificate.field-0)
    c.loop-atom.invariant.1.atoms_are c.in_ok-certificate.ensures.answer) in
    stops left c.as_slice-atom-items.result.now c.args.right.now.atoms c.loop-atom.atom-index c.loop-atom.certificates.items atom
    (IsPointOf left c.in-Point.at) c.as_slice-atom-items.ensures.value c.loop-atom.invariant.0 c.loop-atom-test.true c.atom-item.is answer.0

pub returns-in-Limit-clause-first_limit : goal.returns-in-Limit-clause-first_limit
returns-in-Limit-clause-first_limit c =
    let left = c.args.left.now.atoms in let atom = c.atom-item.result in
    let answer = subst (IsAnswerTo left atom) c.in-Limit.is (subst (λ (as_ : List Atom). IsAnswerTo as_ atom c.in_ok-certificate.field-0)
    c.loop-atom.invariant.1.atoms_are c.in_ok-certificate.ensures.answer) in
    stops left c.as_slice-atom-items.result.now c.args.right.now.atoms c.loop-atom.atom-index c.loop-atom.certificates.items atom
    (IsLimitOf left c.in-Limit.kept) c.as_slice-atom-items.ensures.value c.loop-atom.invariant.0 c.loop-atom-test.true c.atom-item.is answer

pub loop-atom-preserved : goal.loop-atom-preserved
loop-atom-preserved c =
    let left = c.args.left.now.atoms in let atom = c.atom-item.result in
    let answer = subst (IsAnswerTo left atom) c.in-Never.is (subst (λ (as_ : List Atom). IsAnswerTo as_ atom c.in_ok-certificate.field-0)
    c.loop-atom.invariant.1.atoms_are c.in_ok-certificate.ensures.answer) in
    let meant = subst (IsMeant left atom) c.in-Never.is (subst (λ (as_ : List Atom). IsMeant as_ atom c.in_ok-certificate.field-0)
    c.loop-atom.invariant.1.atoms_are c.in_ok-certificate.ensures.meant) in (
      so-far-more left c.as_slice-atom-items.result.now c.loop-atom.atom-index c.loop-atom.certificates.items c.push.new.self.items atom
          c.in-Never.certificate c.loop-atom.invariant.0 c.loop-atom-test.true c.atom-item.is c.in_ok-push-in-Never.ensures.items answer.0
          answer.1 answer.2 meant,
      answer.3,
    )

pub returns-in-Point-clause-values : goal.returns-in-Point-clause-values
returns-in-Point-clause-values c =
    let left = c.args.left.now.atoms in let atom = c.atom-item.result in
    let answer = subst (IsAnswerTo left atom) c.in-Point.is (subst (λ (as_ : List Atom). IsAnswerTo as_ atom c.in_ok-certificate.field-0)
    c.loop-atom.invariant.1.atoms_are c.in_ok-certificate.ensures.answer) in
    solution_64 (with_negation left atom) c.in-Point.at answer.0.1

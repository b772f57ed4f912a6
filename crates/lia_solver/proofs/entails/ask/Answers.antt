use Rattle.std.proofs.Common.{◌≡◌, List, [], ◌∷◌, ◌++◌, refl, sym, subst}
use Rattle.std.specs.Prelude.{IfSome, Option}
use Rattle.std.proofs.lemmas.Result.{IfOk-weaker}
use Rattle.linear_formula.specs.declared.formula.Atom.{Atom}
use Rattle.linear_formula.proofs.TermAtoms.{are_terms-push}
use Rattle.infeasible_cert.specs.declared.certificate.Certificate.{Certificate}
use Rattle.infeasible_cert.specs.Refutation.{refutation_of}
use Rattle.infeasible_cert.specs.Right.{Refutes}
use Rattle.infeasible_cert.proofs.Sound.{right-sound}
use Rattle.shadow_elim.specs.Questions.{with_negation}
use Rattle.lia_solver.specs.steps.Implied.{IsImplied}
use Rattle.lia_solver.proofs.Asking.{negation-is, can-negate, asked-is, follows}
use Rattle.lia_solver.proofs.entails.ask.Goals as goal

pub returns-clause-answer : goal.returns-clause-answer
returns-clause-answer c =
    let n = negation-is c.args.atom.now c.in_ok-negation.negation c.negate.new.self c.negate.result c.is_err.result c.in_ok-negation.ensures
    c.is_err.ensures.value c.if-is_err.false c.negate.ensures.value c.negate.ensures.kept c.negate.ensures.law in
    IfOk-weaker c.search.result _ _ (λ a h. (h c.args.atom.now n).0) c.search.ensures

pub returns-clause-meant : goal.returns-clause-meant
returns-clause-meant c =
    let n = negation-is c.args.atom.now c.in_ok-negation.negation c.negate.new.self c.negate.result c.is_err.result c.in_ok-negation.ensures
    c.is_err.ensures.value c.if-is_err.false c.negate.ensures.value c.negate.ensures.kept c.negate.ensures.law in
    IfOk-weaker c.search.result _ _ (λ a h. (h c.args.atom.now n).1) c.search.ensures

pub returns-in-Some-clause-answer : goal.returns-in-Some-clause-answer
returns-in-Some-clause-answer c =
    let atom = c.args.atom.now in let other = c.negate.new.self in
    let n = negation-is atom c.in_ok-negation.negation other c.negate.result c.is_err.result c.in_ok-negation.ensures c.is_err.ensures.value
    c.if-is_err.false c.negate.ensures.value c.negate.ensures.kept c.negate.ensures.law in
    let found = subst (λ (o : Option Certificate). IfSome o (λ d. IsImplied c.as_slice-rows.result.now atom d)) c.in-Some.is
    c.in_ok-certificate.ensures in
    let i = subst (λ (as_ : List Atom). IsImplied as_ atom c.in-Some.certificate) c.as_slice-rows.ensures.value found in
    ((can-negate atom other.term n.value n.term, i.never), i.refutes, i.terms, c.requires)

pub returns-in-Some-clause-meant : goal.returns-in-Some-clause-meant
returns-in-Some-clause-meant c =
    let left = c.args.left.cube.atoms in let atom = c.args.atom.now in let other = c.negate.new.self in
    let n = negation-is atom c.in_ok-negation.negation other c.negate.result c.is_err.result c.in_ok-negation.ensures c.is_err.ensures.value
    c.if-is_err.false c.negate.ensures.value c.negate.ensures.kept c.negate.ensures.law in
    let found = subst (λ (o : Option Certificate). IfSome o (λ d. IsImplied c.as_slice-rows.result.now atom d)) c.in-Some.is
    c.in_ok-certificate.ensures in
    let i = subst (λ (as_ : List Atom). IsImplied as_ atom c.in-Some.certificate) c.as_slice-rows.ensures.value found in
    let asked = left ++ other ∷ [] in
    let is : asked ≡ with_negation left atom = asked-is left asked atom other refl n.value in
    let terms = are_terms-push left other c.as_slice-rows.ensures.terms n.term in
    let r = refutation_of c.in-Some.certificate in
    follows left asked atom other refl n.law (λ v w h. right-sound asked r v terms i.terms (subst (λ (as_ : List Atom). Refutes as_ r)
    (sym is) i.refutes) w h)

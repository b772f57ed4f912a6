use Rattle.std.proofs.Common.{◌≡◌, ◌∷◌, [], length, get_or, ◌+ℤ◌, sym, subst, ◌∙◌}
use Rattle.std.proofs.lemmas.List.{get_or_default}
use Rattle.linear_formula.specs.Results.{negated}
use Rattle.infeasible_cert.specs.Refutation.{refutation_of, close}
use Rattle.infeasible_cert.specs.Right.{Refutes}
use Rattle.infeasible_cert.specs.Terms.{HasTerms}
use Rattle.shadow_elim.specs.Questions.{with_negation}
use Rattle.lia_solver.specs.steps.Implied.{IsShort, sum_of_two}
use Rattle.lia_solver.proofs.Implying.{IsFound, found-never, found-refutes, found-terms}
use Rattle.lia_solver.proofs.implied.implied.Goals as goal

pub returns-in_ok-certificate-in-Some : goal.returns-in_ok-certificate-in-Some
returns-in_ok-certificate-in-Some c =
    let left = c.args.atoms.now in let atom = c.args.atom.now in let place = c.in-Some.place in
    let f : IsFound left c.args.columns.now atom place = record {
      simple = c.requires.simple;
      columns_are = c.requires.columns;
      inside = c.in-Some.ensures.0;
      strong = c.in-Some.ensures.1;
      short = subst IsShort c.requires.negation (c.is_short.ensures c.if-not-is_short.false);
    } in
    let first : get_or left place c.index-atoms-place.result ≡ get_or left place atom = get_or_default left place
    c.index-atoms-place.result atom c.in-Some.ensures.0 in
    let made : refutation_of c.in_ok-certificate-in-Some.certificate
    ≡ close (sum_of_two place (length left) ((get_or left place atom).term.constant +ℤ (negated atom.term).constant) ∷ [])
    = c.in_ok-certificate-in-Some.ensures
    ∙ (λ i. close (sum_of_two place (length left) ((first i).term.constant +ℤ (c.requires.negation i).constant) ∷ [])) in
    record {
      never = found-never left c.args.columns.now atom place f;
      refutes = subst (Refutes (with_negation left atom)) (sym made) (found-refutes left c.args.columns.now atom place f);
      terms = subst HasTerms (sym made) (found-terms left c.args.columns.now atom place f);
    }

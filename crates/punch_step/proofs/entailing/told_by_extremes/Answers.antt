use Rattle.std.proofs.Common.{List, sym, subst}
use Rattle.std.specs.Prelude.{All}
use Rattle.linear_formula.specs.LinearSum.{Is64, valuation}
use Rattle.linear_formula.specs.Formula.{HoldsAll}
use Rattle.infeasible_cert.specs.declared.certificate.Certificate.{Certificate}
use Rattle.infeasible_cert.specs.Refutation.{refutation_of}
use Rattle.infeasible_cert.specs.Terms.{HasTerms}
use Rattle.linear_formula.specs.declared.formula.Atom.{Atom}
use Rattle.shadow_elim.specs.Entailment.{IsPointOf, StopsAt}
use Rattle.shadow_elim.specs.Questions.{with_negation}
use Rattle.lia_solver.specs.Entailment.{IfNo, IfYes, RefuteEach}
use Rattle.lia_solver.specs.declared.solved.Entailed.{Entailed}
use Rattle.query_rules.specs.Rows.{AreRefuted, rows_of_query}
use Rattle.punch_step.proofs.Entailed.{are_refuted}
use Rattle.punch_step.proofs.EntailedByExtremes.{apart_by_extremes}
use Rattle.punch_step.proofs.entailing.told_by_extremes.Goals as goal

pub returns-in-Yes : goal.returns-in-Yes
returns-in-Yes c = λ q s outlines is procedure exit.
    let rows = c.args.outline.now.cube.atoms in let right = c.args.right.now.atoms in
    let e = c.in_ok-proofs.ensures in
    let refuted = subst (λ (x : Entailed). IfYes x (λ cs. RefuteEach rows right cs)) c.in-Yes.is e.yes in
    let terms = subst (λ (x : Entailed). IfYes x (All (λ d. HasTerms (refutation_of d)))) c.in-Yes.is e.terms in
    let by_rows = are_refuted rows right c.in-Yes.proofs c.as_slice.ensures.terms c.as_slice-2.ensures.terms refuted terms in
    let by_all = c.in_ok-proofs-in-Yes.ensures (rows_of_query q) right outlines
    (subst (λ (cs : List Certificate). AreRefuted (with_negation rows) right cs) (sym c.as_slice-in-Yes.ensures) by_rows) in
    record {
      same_procedure = procedure;
      same_exit = exit;
      shown = subst (λ (cs : List Certificate). AreRefuted (with_negation (rows_of_query q)) (rows_of_query s) cs) (sym c.from_vec.ensures)
          (subst (λ (xs : List Atom). AreRefuted (with_negation (rows_of_query q)) xs c.in_ok-proofs-in-Yes.proofs.items) is by_all);
    }

pub returns-in-No : goal.returns-in-No
returns-in-No c = λ q s outlines is procedure exit.
    let rows = c.args.outline.now.cube.atoms in let right = c.args.right.now.atoms in
    let e = c.in_ok-proofs.ensures in
    apart_by_extremes q s c.args.outline.now right c.in-No.field-0 outlines is c.as_slice.ensures.terms c.as_slice-2.ensures.terms
    (subst (λ (x : Entailed). IfNo x (λ p. StopsAt rows right (IsPointOf rows p))) c.in-No.is e.first_no)
    (subst (λ (x : Entailed). IfNo x (λ p. Is64 (valuation p))) c.in-No.is e.values)
    (subst (λ (x : Entailed). IfNo x (λ p. HoldsAll (valuation p) rows)) c.in-No.is e.left)
    (subst (λ (x : Entailed). IfNo x (λ p. ¬ HoldsAll (valuation p) right)) c.in-No.is e.right)

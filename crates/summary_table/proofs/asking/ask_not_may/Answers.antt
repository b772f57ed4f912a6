use Rattle.std.proofs.Common.{sym, subst}
use Rattle.linear_formula.specs.LinearSum.{Is64, valuation}
use Rattle.linear_formula.specs.Formula.{HoldsAll}
use Rattle.shadow_elim.specs.Entailment.{StopsAt, IsPointOf}
use Rattle.shadow_elim.specs.Questions.{IsShownNotToEntail}
use Rattle.lia_solver.specs.Entailment.{IfNo}
use Rattle.summary_table.specs.Asked.{rows_of_query}
use Rattle.summary_table.proofs.Questions.{shown_not_to_entail}
use Rattle.summary_table.proofs.asking.ask_not_may.Goals as goal

pub returns-in-No-clause-outcome : goal.returns-in-No-clause-outcome
returns-in-No-clause-outcome c =
    let rows = c.args.rows.now.atoms in let right = c.in_ok-right.right.atoms in
    let stops = subst (λ e. IfNo e (λ at. StopsAt rows right (IsPointOf rows at))) c.in-No.is c.in_ok-certificates.ensures.first_no in
    λ _ _. subst (λ left. IsShownNotToEntail left (rows_of_query c.args.not_may.now)) c.requires.rows
    (subst (IsShownNotToEntail rows) c.in_ok-right.ensures (shown_not_to_entail rows right c.in-No._at stops))

pub returns-in-No-clause-meant : goal.returns-in-No-clause-meant
returns-in-No-clause-meant c =
    let rows = c.args.rows.now.atoms in let right = c.in_ok-right.right.atoms in let at = c.in-No._at in
    let values = subst (λ e. IfNo e (λ p. Is64 (valuation p))) c.in-No.is c.in_ok-certificates.ensures.values in
    let meets = subst (λ e. IfNo e (λ p. HoldsAll (valuation p) rows)) c.in-No.is c.in_ok-certificates.ensures.left in
    let breaks = subst (λ e. IfNo e (λ p. ¬ HoldsAll (valuation p) right)) c.in-No.is c.in_ok-certificates.ensures.right in
    λ a. breaks (subst (HoldsAll (valuation at)) (sym c.in_ok-right.ensures)
    (a.entails (valuation at) values (subst (HoldsAll (valuation at)) c.requires.rows meets)))

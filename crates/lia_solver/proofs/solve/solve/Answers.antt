use Rattle.std.proofs.Common.{List, subst}
use Rattle.std.specs.Prelude.{IfOk}
use Rattle.linear_formula.specs.LinearSum.{Valuation, Is64}
use Rattle.linear_formula.specs.Formula.{HoldsAll}
use Rattle.linear_formula.specs.declared.formula.Atom.{Atom}
use Rattle.shadow_elim.specs.Plan.{solution}
use Rattle.lia_solver.specs.Answers.{IsAnswer, IfNever}
use Rattle.lia_solver.proofs.solve.solve.Goals as goal

pub returns-clause-plan : goal.returns-clause-plan
returns-clause-plan c =
    subst (λ (as_ : List Atom). IfOk c.solve_rows.result (λ s. IsAnswer (solution as_) s)) c.of-rows.ensures.rows
    c.solve_rows.ensures.plan

pub returns-clause-sound : goal.returns-clause-sound
returns-clause-sound c =
    subst (λ (as_ : List Atom). IfOk c.solve_rows.result (λ s. IfNever s (λ d. (v : Valuation) → Is64 v → HoldsAll v as_ → ⊥)))
    c.of-rows.ensures.rows c.solve_rows.ensures.sound

use Rattle.std.proofs.Common.{◌≡◌, None, inr, sym, subst, ap}
use Rattle.linear_formula.specs.LinearSum.{Valuation, Is64, valuation}
use Rattle.linear_formula.specs.Formula.{HoldsAll}
use Rattle.linear_formula.specs.declared.question.Question.TheVariants as asks
use Rattle.shadow_elim.specs.Plan.{solution, cube_of}
use Rattle.shadow_elim.specs.Questions.{IsMet, IsNever}
use Rattle.shadow_elim.specs.Sums.{first_wide, row_sums}
use Rattle.lia_solver.specs.Answers.{IsAnswer, IfPoint, IfNever}
use Rattle.summary_table.specs.Asked.{path_reading}
use Rattle.summary_table.proofs.Musts.{guarded_and_met, must_rows_hold, made_rows}
use Rattle.summary_table.proofs.asking.ask_path.Goals as goal

pub returns-in-Point-clause-outcome : goal.returns-in-Point-clause-outcome
returns-in-Point-clause-outcome c =
    let q = c.args.query.now in let p = c.args.path.now in let cube = c.in_ok-cube.cube.atoms in let at = c.in-Point.at in
    let made = made_rows q p c.args.rows.now.atoms c.in-Ok.read.atoms cube c.requires.rows c.in-Ok.ensures.rows c.in_ok-cube.ensures in
    let plan = subst (IsAnswer (solution cube)) c.in-Point.is c.in_ok-at.ensures.plan in
    let values = subst (λ s. IfPoint s (λ x. Is64 (valuation x))) c.in-Point.is c.in_ok-at.ensures.values in
    let holds = subst (λ s. IfPoint s (λ x. HoldsAll (valuation x) cube)) c.in-Point.is c.in_ok-at.ensures.point in (
      (
        c.requires.procedure,
        c.requires.exit,
        subst (λ rows. first_wide (row_sums (path_reading p) rows) ≡ None) c.requires.rows c.in-Ok.ensures.decided,
        subst IsMet made (at, plan),
      ),
      (values, subst (HoldsAll (valuation at)) made holds),
    )

pub returns-in-Point-clause-meant : goal.returns-in-Point-clause-meant
returns-in-Point-clause-meant c =
    let q = c.args.query.now in let p = c.args.path.now in let cube = c.in_ok-cube.cube.atoms in let at = c.in-Point.at in
    let made = made_rows q p c.args.rows.now.atoms c.in-Ok.read.atoms cube c.requires.rows c.in-Ok.ensures.rows c.in_ok-cube.ensures in
    let holds = subst (λ s. IfPoint s (λ x. HoldsAll (valuation x) cube)) c.in-Point.is c.in_ok-at.ensures.point in
    let met = guarded_and_met q p (valuation at) (subst (HoldsAll (valuation at)) made holds) in
    record {
      same_procedure = c.requires.procedure;
      same_exit = c.requires.exit;
      at = valuation at;
      values = subst (λ s. IfPoint s (λ x. Is64 (valuation x))) c.in-Point.is c.in_ok-at.ensures.values;
      guarded = met.0;
      met = met.1;
    }

pub returns-in-Never-clause-outcome : goal.returns-in-Never-clause-outcome
returns-in-Never-clause-outcome c =
    let q = c.args.query.now in let p = c.args.path.now in let cube = c.in_ok-cube.cube.atoms in
    let made = made_rows q p c.args.rows.now.atoms c.in-Ok.read.atoms cube c.requires.rows c.in-Ok.ensures.rows c.in_ok-cube.ensures in
    let plan = subst (IsAnswer (solution cube)) c.in-Never.is c.in_ok-at.ensures.plan in
    λ _ _. (
      subst (λ rows. first_wide (row_sums (path_reading p) rows) ≡ None) c.requires.rows c.in-Ok.ensures.decided,
      subst IsNever made plan,
    )

pub returns-in-Never-clause-meant : goal.returns-in-Never-clause-meant
returns-in-Never-clause-meant c =
    let q = c.args.query.now in let p = c.args.path.now in let cube = c.in_ok-cube.cube.atoms in
    let made = made_rows q p c.args.rows.now.atoms c.in-Ok.read.atoms cube c.requires.rows c.in-Ok.ensures.rows c.in_ok-cube.ensures in
    let sound = subst (λ s. IfNever s (λ _. (v : Valuation) → Is64 v → HoldsAll v cube → ⊥)) c.in-Never.is c.in_ok-at.ensures.sound in
    λ a. sound a.at a.values (subst (HoldsAll a.at) (sym made) (must_rows_hold q p a.at a.guarded a.met))

pub returns-clause-outcome : goal.returns-clause-outcome
returns-clause-outcome c =
    let q = c.args.query.now in let p = c.args.path.now in let cube = c.in_ok-cube.cube.atoms in
    let made = made_rows q p c.args.rows.now.atoms c.in-Ok.read.atoms cube c.requires.rows c.in-Ok.ensures.rows c.in_ok-cube.ensures in
    let plan = subst (IsAnswer (solution cube)) c.in-Limit.is c.in_ok-at.ensures.plan in (
      (
        c.requires.procedure,
        c.requires.exit,
        inr (
          subst (λ rows. first_wide (row_sums (path_reading p) rows) ≡ None) c.requires.rows c.in-Ok.ensures.decided,
          record { asked = ap (λ atoms. asks.Cube (cube_of atoms)) made; right = plan },
        ),
      ),
      plan,
    )

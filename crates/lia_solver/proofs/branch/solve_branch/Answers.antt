use Rattle.std.proofs.Common.{◌≡◌, ◌∙◌, ◌++◌, length, FitsSigned, w64, to_z-of_z, arith, rules, sym, ap, subst}
use Rattle.linear_formula.specs.LinearSum.{valuation}
use Rattle.linear_formula.specs.Formula.{HoldsAll}
use Rattle.linear_formula.specs.Rows.{all_rows}
use Rattle.linear_formula.proofs.TermAtoms.{are_terms-parts}
use Rattle.shadow_elim.specs.Points.{chosen, split}
use Rattle.lia_solver.specs.steps.Branches.{branch_rows}
use Rattle.lia_solver.specs.steps.Solved.{outcome_by, IsRefuted, IsChosenIn}
use Rattle.lia_solver.proofs.BranchTable.{IsAsked, IsTabled, tabled-are_ready, tabled-plan, tabled-wide, tabled-origins, asked-ascending, asked-met, branch-count}
use Rattle.lia_solver.proofs.branch.solve_branch.Goals as goal

pub gather-requires-clause-question : goal.gather-requires-clause-question
gather-requires-clause-question c = (are_terms-parts (all_rows c.args.question.now) c.args.splits.now c.requires.terms).0

pub gather-requires-clause-splits : goal.gather-requires-clause-splits
gather-requires-clause-splits c = (are_terms-parts (all_rows c.args.question.now) c.args.splits.now c.requires.terms).1

pub returns-then-not-is_narrow-clause-plan : goal.returns-then-not-is_narrow-clause-plan
returns-then-not-is_narrow-clause-plan c =
    let question = all_rows c.args.question.now in
    let splits = c.args.splits.now in
    let columns = c.args.columns.now in
    let table = c.gather.new.table in
    let asked : IsAsked question splits columns = record {
      columns_are = c.requires.columns;
      branch = c.requires.branch;
      terms = c.requires.terms;
    } in
    let tabled : IsTabled question splits columns table = record { asked = asked; gathered = c.in_ok-gather.ensures } in
    tabled-wide question splits columns table tabled (c.is_narrow.ensures.wide c.if-not-is_narrow.true)

pub solve_columns-requires : goal.solve_columns-requires
solve_columns-requires c =
    let question = all_rows c.args.question.now in
    let splits = c.args.splits.now in
    let columns = c.args.columns.now in
    let table = c.gather.new.table in
    let asked : IsAsked question splits columns = record {
      columns_are = c.requires.columns;
      branch = c.requires.branch;
      terms = c.requires.terms;
    } in
    let tabled : IsTabled question splits columns table = record { asked = asked; gathered = c.in_ok-gather.ensures } in
    (0, tabled-are_ready question splits columns table tabled)

pub new-requires : goal.new-requires
new-requires c =
    let question = all_rows c.args.question.now in
    let splits = c.args.splits.now in
    let columns = c.args.columns.now in
    let table = c.gather.new.table in
    let asked : IsAsked question splits columns = record {
      columns_are = c.requires.columns;
      branch = c.requires.branch;
      terms = c.requires.terms;
    } in
    let tabled : IsTabled question splits columns table = record { asked = asked; gathered = c.in_ok-gather.ensures } in
    let narrow = c.is_narrow.ensures.narrow c.if-not-is_narrow.false in
    let plan = tabled-plan question splits columns table c.in_ok-values.field-0 tabled narrow c.in_ok-values.ensures.plan
    ∙ ap outcome_by c.in-Values.is in
    asked-ascending question splits columns c.in-Values.values asked plan

pub derived_contradiction-requires-clause-founded : goal.derived_contradiction-requires-clause-founded
derived_contradiction-requires-clause-founded c =
    let question = all_rows c.args.question.now in
    let splits = c.args.splits.now in
    let columns = c.args.columns.now in
    let table = c.gather.new.table in
    let asked : IsAsked question splits columns = record {
      columns_are = c.requires.columns;
      branch = c.requires.branch;
      terms = c.requires.terms;
    } in
    let tabled : IsTabled question splits columns table = record { asked = asked; gathered = c.in_ok-gather.ensures } in
    let new = c.solve_columns.new.table in
    let refuted : IsRefuted columns table new c.in-Contradiction.place =
    subst (IsChosenIn columns table new) c.in-Contradiction.is c.in_ok-values.ensures.found in
    let base = branch_rows question splits in
    let count : length base ≡ c.in-Ok.first = omega (arith, c.in-Ok.ensures, branch-count question splits columns c.requires.columns) in
    let origins = refuted.origins base 0 (tabled-are_ready question splits columns table tabled)
    (tabled-origins question splits columns table tabled) in
    (base, count, origins)

pub returns-in-Values-clause-plan : goal.returns-in-Values-clause-plan
returns-in-Values-clause-plan c =
    let question = all_rows c.args.question.now in
    let splits = c.args.splits.now in
    let columns = c.args.columns.now in
    let table = c.gather.new.table in
    let asked : IsAsked question splits columns = record {
      columns_are = c.requires.columns;
      branch = c.requires.branch;
      terms = c.requires.terms;
    } in
    let tabled : IsTabled question splits columns table = record { asked = asked; gathered = c.in_ok-gather.ensures } in
    let narrow = c.is_narrow.ensures.narrow c.if-not-is_narrow.false in
    let plan = tabled-plan question splits columns table c.in_ok-values.field-0 tabled narrow c.in_ok-values.ensures.plan
    ∙ ap outcome_by c.in-Values.is in
    plan ∙ ap chosen (sym c.new.ensures.value)

pub returns-in-Values-clause-right : goal.returns-in-Values-clause-right
returns-in-Values-clause-right c =
    let question = all_rows c.args.question.now in
    let splits = c.args.splits.now in
    let columns = c.args.columns.now in
    let table = c.gather.new.table in
    let asked : IsAsked question splits columns = record {
      columns_are = c.requires.columns;
      branch = c.requires.branch;
      terms = c.requires.terms;
    } in
    let tabled : IsTabled question splits columns table = record { asked = asked; gathered = c.in_ok-gather.ensures } in
    let narrow = c.is_narrow.ensures.narrow c.if-not-is_narrow.false in
    let plan = tabled-plan question splits columns table c.in_ok-values.field-0 tabled narrow c.in_ok-values.ensures.plan
    ∙ ap outcome_by c.in-Values.is in
    subst (λ at. HoldsAll (valuation at) (question ++ splits)) (sym c.new.ensures.value)
    (asked-met question splits columns c.in-Values.values asked plan)

pub returns-in-Split-clause-plan : goal.returns-in-Split-clause-plan
returns-in-Split-clause-plan c =
    let question = all_rows c.args.question.now in
    let splits = c.args.splits.now in
    let columns = c.args.columns.now in
    let table = c.gather.new.table in
    let asked : IsAsked question splits columns = record {
      columns_are = c.requires.columns;
      branch = c.requires.branch;
      terms = c.requires.terms;
    } in
    let tabled : IsTabled question splits columns table = record { asked = asked; gathered = c.in_ok-gather.ensures } in
    let narrow = c.is_narrow.ensures.narrow c.if-not-is_narrow.false in
    let plan = tabled-plan question splits columns table c.in_ok-values.field-0 tabled narrow c.in_ok-values.ensures.plan
    ∙ ap outcome_by c.in-Split.is in
    let fits : FitsSigned w64 c.in-Split.at = search rules in
    plan ∙ ap (split c.in-Split.column) (sym (to_z-of_z fits))

pub returns-in_ok-steps-in-Contradiction-clause-plan : goal.returns-in_ok-steps-in-Contradiction-clause-plan
returns-in_ok-steps-in-Contradiction-clause-plan c =
    let question = all_rows c.args.question.now in
    let splits = c.args.splits.now in
    let columns = c.args.columns.now in
    let table = c.gather.new.table in
    let asked : IsAsked question splits columns = record {
      columns_are = c.requires.columns;
      branch = c.requires.branch;
      terms = c.requires.terms;
    } in
    let tabled : IsTabled question splits columns table = record { asked = asked; gathered = c.in_ok-gather.ensures } in
    let narrow = c.is_narrow.ensures.narrow c.if-not-is_narrow.false in
    let plan = tabled-plan question splits columns table c.in_ok-values.field-0 tabled narrow c.in_ok-values.ensures.plan
    ∙ ap outcome_by c.in-Contradiction.is in
    plan

pub returns-in_ok-steps-in-Contradiction-clause-right : goal.returns-in_ok-steps-in-Contradiction-clause-right
returns-in_ok-steps-in-Contradiction-clause-right c =
    let question = all_rows c.args.question.now in
    let splits = c.args.splits.now in
    let columns = c.args.columns.now in
    let table = c.gather.new.table in
    let asked : IsAsked question splits columns = record {
      columns_are = c.requires.columns;
      branch = c.requires.branch;
      terms = c.requires.terms;
    } in
    let tabled : IsTabled question splits columns table = record { asked = asked; gathered = c.in_ok-gather.ensures } in
    let new = c.solve_columns.new.table in
    let refuted : IsRefuted columns table new c.in-Contradiction.place =
    subst (IsChosenIn columns table new) c.in-Contradiction.is c.in_ok-values.ensures.found in
    let base = branch_rows question splits in
    let count : length base ≡ c.in-Ok.first = omega (arith, c.in-Ok.ensures, branch-count question splits columns c.requires.columns) in
    let origins = refuted.origins base 0 (tabled-are_ready question splits columns table tabled)
    (tabled-origins question splits columns table tabled) in
    c.in_ok-steps-in-Contradiction.ensures.right base count origins

pub returns-in-Wide-clause-plan : goal.returns-in-Wide-clause-plan
returns-in-Wide-clause-plan c =
    let question = all_rows c.args.question.now in
    let splits = c.args.splits.now in
    let columns = c.args.columns.now in
    let table = c.gather.new.table in
    let asked : IsAsked question splits columns = record {
      columns_are = c.requires.columns;
      branch = c.requires.branch;
      terms = c.requires.terms;
    } in
    let tabled : IsTabled question splits columns table = record { asked = asked; gathered = c.in_ok-gather.ensures } in
    let narrow = c.is_narrow.ensures.narrow c.if-not-is_narrow.false in
    let plan = tabled-plan question splits columns table c.in_ok-values.field-0 tabled narrow c.in_ok-values.ensures.plan
    ∙ ap outcome_by c.in-Wide.is in
    plan

pub returns-in-Rows-clause-plan : goal.returns-in-Rows-clause-plan
returns-in-Rows-clause-plan c =
    let question = all_rows c.args.question.now in
    let splits = c.args.splits.now in
    let columns = c.args.columns.now in
    let table = c.gather.new.table in
    let asked : IsAsked question splits columns = record {
      columns_are = c.requires.columns;
      branch = c.requires.branch;
      terms = c.requires.terms;
    } in
    let tabled : IsTabled question splits columns table = record { asked = asked; gathered = c.in_ok-gather.ensures } in
    let narrow = c.is_narrow.ensures.narrow c.if-not-is_narrow.false in
    let plan = tabled-plan question splits columns table c.in_ok-values.field-0 tabled narrow c.in_ok-values.ensures.plan
    ∙ ap outcome_by c.in-Rows.is in
    plan

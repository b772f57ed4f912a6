use Rattle.std.proofs.Common.{◌≡◌, List, [], arith, sym, ap, subst, ◌∙◌}
use Rattle.std.proofs.lemmas.List.{append-nil}
use Rattle.std.proofs.lemmas.Result.{IfOk-weaker}
use Rattle.linear_formula.specs.LinearSum.{valuation}
use Rattle.linear_formula.specs.Formula.{HoldsAll}
use Rattle.linear_formula.specs.Rows.{all_rows}
use Rattle.linear_formula.specs.declared.formula.Atom.{Atom}
use Rattle.linear_formula.specs.declared.question.Question.TheVariants as asks
use Rattle.shadow_elim.specs.declared.limit.Limit.TheVariants.{Wide, Rows}
use Rattle.shadow_elim.specs.Plan.{search, nothing, limit_met, cube_of}
use Rattle.lia_solver.specs.declared.search.Searched.{Searched}
use Rattle.lia_solver.specs.steps.Branches.{planned, IsRightOutcome, IsSearched}
use Rattle.lia_solver.proofs.Sides.{search-point, search-refuted, search-wide, search-rows}
use Rattle.lia_solver.proofs.Solving.{searched-whole}
use Rattle.lia_solver.proofs.search.Search.question.Goals as goal

pub returns-in_ok-to_cube-in-Wide-clause-searched : goal.returns-in_ok-to_cube-in-Wide-clause-searched
returns-in_ok-to_cube-in-Wide-clause-searched c =
    let rows = all_rows c.args.rows.now in
    let same : c.in_ok-to_cube-in-Wide.field-0.atoms ≡ rows = c.in_ok-to_cube-in-Wide.ensures in
    subst (λ (s : Searched). IsSearched rows [] 512 c.first_outcome.new.self.splits.items
    (search 512 c.args.self.now.splits.items rows) s) (sym c.limited.ensures) (
      search-wide 512 c.args.self.now.splits.items rows (c.in_ok-at.ensures.plan ∙ ap planned c.in-Wide.is)
          ∙ ap (λ (as_ : List Atom). limit_met (Wide (asks.Cube (cube_of as_)))) (sym same),
      tt,
    )

pub returns-in_ok-to_cube-in-Rows-clause-searched : goal.returns-in_ok-to_cube-in-Rows-clause-searched
returns-in_ok-to_cube-in-Rows-clause-searched c =
    let rows = all_rows c.args.rows.now in
    let same : c.in_ok-to_cube-in-Rows.field-0.atoms ≡ rows = c.in_ok-to_cube-in-Rows.ensures in
    subst (λ (s : Searched). IsSearched rows [] 512 c.first_outcome.new.self.splits.items
    (search 512 c.args.self.now.splits.items rows) s) (sym c.limited-in-Rows.ensures) (
      search-rows 512 c.args.self.now.splits.items rows (c.in_ok-at.ensures.plan ∙ ap planned c.in-Rows.is)
          ∙ ap (λ (as_ : List Atom). limit_met (Rows (cube_of as_))) (sym same),
      tt,
    )

pub returns-in_ok-cube-in-Split-clause-searched : goal.returns-in_ok-cube-in-Split-clause-searched
returns-in_ok-cube-in-Split-clause-searched c =
    let mid = c.first_outcome.new.self in
    IfOk-weaker c.split.result _ _ (λ s h. searched-whole (all_rows c.args.rows.now) c.in_ok-cube-in-Split.cube.atoms mid.atoms 512
    mid.splits.items c.args.self.now.splits.items c.split.new.self.splits.items s c.in_ok-cube-in-Split.ensures
    (c.first_outcome.ensures.atoms ∙ c.requires.whole) c.first_outcome.ensures.splits h) c.split.ensures.searched

pub returns-in-Point-clause-searched : goal.returns-in-Point-clause-searched
returns-in-Point-clause-searched c =
    let rows = all_rows c.args.rows.now in
    let right = subst (IsRightOutcome rows []) c.in-Point.is c.in_ok-at.ensures.right in (
      search-point 512 c.args.self.now.splits.items rows c.in-Point.at (c.in_ok-at.ensures.plan ∙ ap planned c.in-Point.is),
      subst (HoldsAll (valuation c.in-Point.at)) (append-nil rows) right,
    )

pub returns-in-Refuted-clause-searched : goal.returns-in-Refuted-clause-searched
returns-in-Refuted-clause-searched c =
    let rows = all_rows c.args.rows.now in
    let right = subst (IsRightOutcome rows []) c.in-Refuted.is c.in_ok-at.ensures.right in (
      search-refuted 512 c.args.self.now.splits.items rows (c.in_ok-at.ensures.plan ∙ ap planned c.in-Refuted.is)
          ∙ ap nothing (sym c.first_outcome.ensures.splits),
      omega arith,
      right,
    )

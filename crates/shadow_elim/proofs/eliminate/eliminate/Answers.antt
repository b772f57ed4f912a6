use Rattle.std.proofs.Common.{◌≡◌, ◌^◌, ◌<◌, List, length, arith, sym, ap, subst, ◌∙◌}
use Rattle.std.specs.Prelude.{All, []}
use Rattle.std.proofs.lemmas.List.{length-map}
use Rattle.std.proofs.lemmas.List.Elements.{All-from_get_or}
use Rattle.linear_formula.specs.LinearSum.{LinearSum}
use Rattle.infeasible_cert.specs.Right.{rows_of, rows_after, AreRightSteps}
use Rattle.infeasible_cert.specs.declared.certificate.Derived.{Derived}
use Rattle.shadow_elim.specs.declared.row.Row.{Row}
use Rattle.shadow_elim.specs.Elimination.{elimination, remains, listed_rows, first_inexact}
use Rattle.shadow_elim.specs.Stages.{terms_of, AreStages, AreNumbered}
use Rattle.shadow_elim.specs.Shadows.{pair_rows, AreDerived}
use Rattle.shadow_elim.proofs.InPlace.{listed-pushed, in-place-numbered, numbered-derived}
use Rattle.shadow_elim.proofs.Keeping.{keeps-all}
use Rattle.shadow_elim.proofs.Naming.{AllTerms, listed-terms, names-none}
use Rattle.shadow_elim.proofs.Exact.{loses-none}
use Rattle.shadow_elim.proofs.Passing.{stages-end}
use Rattle.shadow_elim.proofs.eliminate.eliminate.Goals as goal

listed : (c : goal.After-drop-stages-2) → terms_of c.push_ranges.new.rows.items ≡ listed_rows c.args.cube.now.atoms c.args.columns.now
listed c =
    listed-pushed c.args.columns.now c.as_slice.result.now c.args.cube.now.atoms c.new-rows.result.items c.push_atoms.new.rows.items
    c.push_ranges.new.rows.items c.new-rows.ensures.items c.as_slice.ensures.value c.in_ok-push_atoms.ensures.terms
    c.in_ok-push_ranges.ensures.terms

-- the rows that the cube has are left
left : (c : goal.After-drop-stages-2) → elimination c.args.columns.now (listed_rows c.args.cube.now.atoms c.args.columns.now)
    ≡ remains (rows_of c.in_ok-cube.cube.atoms)
left c =
    let columns = c.args.columns.now in
    let e = c.in_ok-stages.field-0 in
    sym (ap (elimination columns) (listed c)) ∙ stages-end columns (terms_of c.push_ranges.new.rows.items) e.stages.items
    (terms_of e.rows.items) c.in_ok-stages.ensures.stages ∙ ap remains (sym c.in_ok-cube.ensures)

terms : (c : goal.After-drop-stages-2) → AllTerms (listed_rows c.args.cube.now.atoms c.args.columns.now)
terms c =
    let columns = c.args.columns.now in
    let small : All (λ x. x < 2 ^ 32) columns = All-from_get_or (λ x. x < 2 ^ 32) columns 0 (λ k h. (c.type_inv.columns k).fits) in
    listed-terms c.args.cube.now.atoms columns c.as_slice.ensures.terms small

-- the first pair that isn't exact
inexact : (c : goal.After-drop-stages-2) → pair_rows c.in_ok-inexact.inexact ≡ first_inexact c.args.columns.now
    (listed_rows c.args.cube.now.atoms c.args.columns.now)
inexact c =
    let columns = c.args.columns.now in
    let rows = terms_of c.push_ranges.new.rows.items in
    let e = c.in_ok-stages.field-0 in
    let passed : AreStages columns rows c.deref.result.now (terms_of e.rows.items) = subst
    (λ (stages : List _). AreStages columns rows stages (terms_of e.rows.items)) (sym c.deref.ensures.value) c.in_ok-stages.ensures.stages
    in
    c.in_ok-inexact.ensures columns rows (terms_of e.rows.items) passed ∙ ap (first_inexact columns) (listed c)

-- the steps, and the numbers of the rows after them
derived : (c : goal.After-drop-stages-2) → let base = listed_rows c.args.cube.now.atoms c.args.columns.now in let e = c.in_ok-stages.field-0
    in AreRightSteps base e.steps.items × AreNumbered (rows_after base e.steps.items) e.rows.items
derived c =
    let rows = c.push_ranges.new.rows in
    let base = listed_rows c.args.cube.now.atoms c.args.columns.now in
    let count : length base ≡ c.in-Ok.first = omega (
      arith,
      ap length (listed c),
      length-map rows.items (λ (r : Row). r.term),
      rows.ok.0,
      c.in-Ok.ensures,
      c.len.ensures,
    ) in
    let numbered : AreNumbered base rows.items = subst (λ (ts : List LinearSum). AreNumbered ts rows.items) (listed c)
    (in-place-numbered [] rows.items c.in_ok-push_ranges.ensures.numbers) in
    c.in_ok-stages.ensures.steps base count numbered

pub returns-clause-rows : goal.returns-clause-rows
returns-clause-rows c = left c

pub returns-clause-keeps : goal.returns-clause-keeps
returns-clause-keeps c =
    keeps-all c.args.cube.now.atoms c.in_ok-cube.cube.atoms c.args.columns.now (left c)

pub returns-clause-free : goal.returns-clause-free
returns-clause-free c =
    let columns = c.args.columns.now in
    names-none columns (listed_rows c.args.cube.now.atoms columns) c.in_ok-cube.cube.atoms (left c) (terms c)

pub returns-clause-exact : goal.returns-clause-exact
returns-clause-exact c = λ none.
    loses-none c.args.columns.now c.args.cube.now.atoms c.in_ok-cube.cube.atoms (terms c) (sym (inexact c) ∙ ap pair_rows none) (left c)

pub returns-clause-inexact : goal.returns-clause-inexact
returns-clause-inexact c = inexact c

pub returns-clause-steps : goal.returns-clause-steps
returns-clause-steps c =
    let base = listed_rows c.args.cube.now.atoms c.args.columns.now in
    subst (λ (steps : List Derived). AreRightSteps base steps) (sym c.from_vec.ensures) (derived c).0

pub returns-clause-derived : goal.returns-clause-derived
returns-clause-derived c =
    let base = listed_rows c.args.cube.now.atoms c.args.columns.now in
    let e = c.in_ok-stages.field-0 in
    subst (λ (steps : List Derived). AreDerived base steps c.in_ok-cube.cube.atoms) (sym c.from_vec.ensures)
    (numbered-derived base e.steps.items e.rows.items c.in_ok-cube.cube.atoms (derived c).1 c.in_ok-cube.ensures)

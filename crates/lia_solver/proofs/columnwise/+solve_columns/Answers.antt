use Rattle.std.proofs.Common.{◌≡◌, ◌∙◌, ◌+◌, ◌^◌, ◌<◌, ℕ, get_or, Fits, w32, arith, rules, sym, ap, subst}
use Rattle.std.proofs.lemmas.Result.{IfOk-weaker}
use Rattle.shadow_elim.specs.Points.{too_wide, too_many_rows, outcome}
use Rattle.lia_solver.specs.declared.columnwise.Chosen.{Chosen}
use Rattle.lia_solver.specs.steps.Solved.{extended_in, outcome_by, AreReady, IsChosenIn}
use Rattle.lia_solver.specs.steps.Tables.{live, IsBehind, HasWide, IsOverfull, IsLeft}
use Rattle.lia_solver.proofs.Extending.{column-values, values-sides, column-passed, extended-found}
use Rattle.lia_solver.proofs.OneColumn.{wide-is, overfull-is, ready-next, values-above, kept-next, found-passed}
use Rattle.lia_solver.proofs.columnwise.+solve_columns.Goals as goal

pub returns-in-Wide-clause-plan : goal.returns-in-Wide-clause-plan
returns-in-Wide-clause-plan t c = λ low ready.
    let x = c.in-Some.column.now in
    let xs = c.in-Some.rest.now in
    let old = c.args.table.now in
    let new = c.eliminate.new.table in
    let same = c.in-Some.ensures.cases.0 in
    let w : HasWide x old = subst (IsLeft x old new) c.in-Wide.is c.in_ok-eliminate.ensures in
    subst (λ cs. outcome cs (live low old) ≡ too_wide) (sym same)
    (wide-is x xs low old (subst (λ cs. AreReady low cs old) same ready) w)

pub returns-in-Rows-clause-plan : goal.returns-in-Rows-clause-plan
returns-in-Rows-clause-plan t c = λ low ready.
    let x = c.in-Some.column.now in
    let xs = c.in-Some.rest.now in
    let old = c.args.table.now in
    let new = c.eliminate.new.table in
    let same = c.in-Some.ensures.cases.0 in
    let o : IsOverfull x old new = subst (IsLeft x old new) c.in-Rows.is c.in_ok-eliminate.ensures in
    subst (λ cs. outcome cs (live low old) ≡ too_many_rows) (sym same)
    (overfull-is x xs low old new (subst (λ cs. AreReady low cs old) same ready) o)

pub solve_columns-requires : goal.solve_columns-requires
solve_columns-requires t c =
    let x = c.in-Some.column.now in
    let xs = c.in-Some.rest.now in
    let old = c.args.table.now in
    let new = c.eliminate.new.table in
    let same = c.in-Some.ensures.cases.0 in
    let fits : Fits w32 x = subst (λ cs. Fits w32 (get_or cs 0 0)) same (c.type_inv.columns 0) in
    let small : x < 2 ^ 32 = omega (arith, fits) in
    let b : IsBehind x old new = subst (IsLeft x old new) c.in-Done.is c.in_ok-eliminate.ensures in
    let ready = ready-next x xs c.requires.0 old new small (subst (λ cs. AreReady c.requires.0 cs old) same c.requires.1) b in
    (search rules, (x + 1, ready))

pub extend-requires-clause-ascending : goal.extend-requires-clause-ascending
extend-requires-clause-ascending t c =
    let x = c.in-Some.column.now in
    let xs = c.in-Some.rest.now in
    let old = c.args.table.now in
    let mid = c.eliminate.new.table in
    let same = c.in-Some.ensures.cases.0 in
    let fits : Fits w32 x = subst (λ cs. Fits w32 (get_or cs 0 0)) same (c.type_inv.columns 0) in
    let small : x < 2 ^ 32 = omega (arith, fits) in
    let b : IsBehind x old mid = subst (IsLeft x old mid) c.in-Done.is c.in_ok-eliminate.ensures in
    let ready = ready-next x xs c.requires.0 old mid small (subst (λ cs. AreReady c.requires.0 cs old) same c.requires.1) b in
    values-above x xs mid c.in-Values.values ready (c.in_ok-chosen.ensures.plan (x + 1) ready ∙ ap outcome_by c.in-Values.is)

pub extend-requires-clause-sides : goal.extend-requires-clause-sides
extend-requires-clause-sides t c =
    let x = c.in-Some.column.now in
    let xs = c.in-Some.rest.now in
    let old = c.args.table.now in
    let mid = c.eliminate.new.table in
    let new = c.solve_columns.new.table in
    let same = c.in-Some.ensures.cases.0 in
    let fits : Fits w32 x = subst (λ cs. Fits w32 (get_or cs 0 0)) same (c.type_inv.columns 0) in
    let small : x < 2 ^ 32 = omega (arith, fits) in
    let b : IsBehind x old mid = subst (IsLeft x old mid) c.in-Done.is c.in_ok-eliminate.ensures in
    let first = subst (λ cs. AreReady c.requires.0 cs old) same c.requires.1 in
    let ready = ready-next x xs c.requires.0 old mid small first b in
    let kept = subst (IsChosenIn xs mid new) c.in-Values.is c.in_ok-chosen.ensures.found in
    values-sides x xs c.requires.0 old mid new c.in-Values.values first b (kept.same (x + 1) ready)
    (c.in_ok-chosen.ensures.plan (x + 1) ready ∙ ap outcome_by c.in-Values.is)

pub returns-in-Values-clause-plan : goal.returns-in-Values-clause-plan
returns-in-Values-clause-plan t c =
    let x = c.in-Some.column.now in
    let xs = c.in-Some.rest.now in
    let old = c.args.table.now in
    let mid = c.eliminate.new.table in
    let new = c.solve_columns.new.table in
    let values = c.in-Values.values in
    let same = c.in-Some.ensures.cases.0 in
    let fits : Fits w32 x = subst (λ cs. Fits w32 (get_or cs 0 0)) same (c.type_inv.columns 0) in
    let small : x < 2 ^ 32 = omega (arith, fits) in
    let b : IsBehind x old mid = subst (IsLeft x old mid) c.in-Done.is c.in_ok-eliminate.ensures in
    let kept = subst (IsChosenIn xs mid new) c.in-Values.is c.in_ok-chosen.ensures.found in
    IfOk-weaker c.extend.result (λ (d : Chosen). outcome_by d ≡ extended_in x new values)
    (λ (d : Chosen). (low : ℕ) → AreReady low c.args.columns.now old → outcome c.args.columns.now (live low old) ≡ outcome_by d)
    (λ d h low r.
    let first = subst (λ cs. AreReady low cs old) same r in
    let ready = ready-next x xs low old mid small first b in
    subst (λ cs. outcome cs (live low old) ≡ outcome_by d) (sym same)
    (column-values x xs low old mid new values first b (kept.same (x + 1) ready)
    (c.in_ok-chosen.ensures.plan (x + 1) ready ∙ ap outcome_by c.in-Values.is) ∙ sym h)) c.extend.ensures

pub returns-in-Values-clause-found : goal.returns-in-Values-clause-found
returns-in-Values-clause-found t c =
    let x = c.in-Some.column.now in
    let xs = c.in-Some.rest.now in
    let old = c.args.table.now in
    let mid = c.eliminate.new.table in
    let new = c.solve_columns.new.table in
    let values = c.in-Values.values in
    let same = c.in-Some.ensures.cases.0 in
    let fits : Fits w32 x = subst (λ cs. Fits w32 (get_or cs 0 0)) same (c.type_inv.columns 0) in
    let small : x < 2 ^ 32 = omega (arith, fits) in
    let b : IsBehind x old mid = subst (IsLeft x old mid) c.in-Done.is c.in_ok-eliminate.ensures in
    let first = subst (λ cs. AreReady c.requires.0 cs old) same c.requires.1 in
    let ready = ready-next x xs c.requires.0 old mid small first b in
    let kept = subst (IsChosenIn xs mid new) c.in-Values.is c.in_ok-chosen.ensures.found in
    let sides = values-sides x xs c.requires.0 old mid new values first b (kept.same (x + 1) ready)
    (c.in_ok-chosen.ensures.plan (x + 1) ready ∙ ap outcome_by c.in-Values.is) in
    IfOk-weaker c.extend.result (λ (d : Chosen). outcome_by d ≡ extended_in x new values)
    (λ (d : Chosen). IsChosenIn c.args.columns.now old new d) (λ d h. subst (λ cs. IsChosenIn cs old new d) (sym same)
    (extended-found x xs old new values d h (kept-next x xs old mid new b ready kept) sides)) c.extend.ensures

pub returns-in_default-2 : goal.returns-in_default-2
returns-in_default-2 t c =
    let x = c.in-Some.column.now in
    let xs = c.in-Some.rest.now in
    let old = c.args.table.now in
    let mid = c.eliminate.new.table in
    let new = c.solve_columns.new.table in
    let same = c.in-Some.ensures.cases.0 in
    let fits : Fits w32 x = subst (λ cs. Fits w32 (get_or cs 0 0)) same (c.type_inv.columns 0) in
    let small : x < 2 ^ 32 = omega (arith, fits) in
    let b : IsBehind x old mid = subst (IsLeft x old mid) c.in-Done.is c.in_ok-eliminate.ensures in
    let first = subst (λ cs. AreReady c.requires.0 cs old) same c.requires.1 in
    let ready = ready-next x xs c.requires.0 old mid small first b in
    record {
      plan = λ low r.
          let again = subst (λ cs. AreReady low cs old) same r in
          let then = ready-next x xs low old mid small again b in
          subst (λ cs. outcome cs (live low old) ≡ outcome_by c.in_ok-chosen.chosen) (sym same)
          (column-passed x xs low old mid c.in_ok-chosen.chosen again b c.in_default-2.not-Values
          (c.in_ok-chosen.ensures.plan (x + 1) then));
      found = subst (λ cs. IsChosenIn cs old new c.in_ok-chosen.chosen) (sym same)
          (found-passed x xs old mid new c.in_ok-chosen.chosen b ready c.in_default-2.not-Values c.in_ok-chosen.ensures.found);
    }

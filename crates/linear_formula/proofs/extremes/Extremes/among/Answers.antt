use Rattle.std.proofs.Common.{◌++◌, [], List, append-nil, subst}
use Rattle.std.proofs.lemmas.Result.{IfOk-weaker}
use Rattle.linear_formula.specs.Extremes.{IsOutline}
use Rattle.linear_formula.specs.declared.formula.Atom.{Atom}
use Rattle.linear_formula.specs.steps.Outlines.{Outlines}
use Rattle.linear_formula.proofs.extremes.Extremes.among.Goals as goal

pub returns : goal.returns
returns c =
    let o = c.in_ok-outline.outline in
    let rows = c.args.rows.now in
    let h : Outlines o rows = c.in_ok-outline.ensures [] c.new.ensures in
    IfOk-weaker c.extremes.result (λ e. (all : List Atom) → Outlines o all → IsOutline e (all ++ [])) (λ e. IsOutline e rows)
    (λ e k. subst (λ (l : List Atom). IsOutline e l) (append-nil rows) (k rows h)) c.extremes.ensures

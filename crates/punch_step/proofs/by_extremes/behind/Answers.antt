use Rattle.std.proofs.Common.{◌++◌, List, Option, subst}
use Rattle.std.specs.Prelude.{IfSome}
use Rattle.linear_formula.specs.Extremes.{IsOutline}
use Rattle.linear_formula.specs.declared.extremes.Extremes.{Extremes}
use Rattle.linear_formula.specs.declared.formula.Atom.{Atom}
use Rattle.punch_step.specs.ByExtremes.{IsPreOutline, IsToldOf}
use Rattle.punch_step.specs.declared.by_extremes.Told.{Told}
use Rattle.punch_step.proofs.PreOutlines.{possible_by}
use Rattle.punch_step.proofs.by_extremes.behind.Goals as goal

pub split-requires-clause-possible : goal.split-requires-clause-possible
split-requires-clause-possible c =
    let f = c.args.frontier.now in
    let source = c.in_ok-source.source in
    let pre = c.in-Some.pre in
    let rows = source.cube.atoms ++ pre.cube.atoms in
    possible_by f source pre c.in-Met.field-0 rows c.in_ok-source.ensures
    (subst (λ (o : Option Extremes). IfSome o (IsPreOutline f)) c.in-Some.is c.in_ok-pre.ensures)
    (subst (λ (t : Told). (all more : List Atom) → IsOutline source all → IsOutline pre more → IsToldOf rows (all ++ more) t) c.in-Met.is
    c.in_ok-proof.ensures)

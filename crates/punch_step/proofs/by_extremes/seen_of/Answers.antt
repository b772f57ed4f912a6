use Rattle.std.proofs.Common.{◌∙◌, arith, refl, ap, subst, List, Option, IfSome}
use Rattle.linear_formula.specs.Extremes.{IsOutline}
use Rattle.linear_formula.specs.declared.extremes.Extremes.{Extremes}
use Rattle.linear_formula.specs.declared.formula.Atom.{Atom}
use Rattle.linear_formula.specs.declared.formula.Cube.{Cube}
use Rattle.punch_step.specs.ByExtremes.{AreSeen}
use Rattle.punch_step.specs.Frontiers.{trail_at}
use Rattle.punch_step.proofs.CutOff.{sees_by}
use Rattle.punch_step.proofs.by_extremes.seen_of.Goals as goal

pub returns : goal.returns
returns c =
    let f = c.args.frontier.now in let q = f.query.now in let t = trail_at f in
    let seen = subst (λ (o : Option Extremes). IfSome o (λ e. (all : List Atom) → IsOutline c.args.source.now all → AreSeen q t all e))
    c.in-Some.is c.in_ok-all.ensures in
    sees_by q t f.source.now.atoms c.in-Some.all _ (seen f.source.now.atoms c.requires) refl
    (omega (arith, c.in-Some-checked_add.ensures.1))
    c.in_ok-push.ensures.items
    (ap (λ (x : Cube). x.atoms) (c.in_ok-rows.ensures ∙ c.of.ensures))

use Rattle.std.proofs.Common.{List, Option, subst}
use Rattle.std.specs.Prelude.{IfSome}
use Rattle.std.proofs.lemmas.Result.{IfOk-weaker}
use Rattle.linear_formula.specs.LinearSum.{Is64, valuation}
use Rattle.linear_formula.specs.Formula.{HoldsAll}
use Rattle.linear_formula.specs.Extremes.{IsOutline}
use Rattle.linear_formula.specs.declared.formula.Atom.{Atom}
use Rattle.linear_formula.specs.declared.extremes.Extremes.{Extremes}
use Rattle.must_region.specs.Traces.{trace_of}
use Rattle.punch_step.specs.ByExtremes.{AreSeen, ArrivesAt, IfComes}
use Rattle.punch_step.proofs.Arriving.{arrives_by}
use Rattle.punch_step.proofs.by_extremes.arrives.Goals as goal

pub returns-in-Some : goal.returns-in-Some
returns-in-Some c =
    let q = c.args.query.now in let t = trace_of c.args.trail.now in let e = c.in-Some.seen in
    let seen = subst (λ (o : Option Extremes). IfSome o (λ e. (all : List Atom) → IsOutline c.args.target.now all → AreSeen q t all e))
    c.in-Some.is c.in_ok-seen.ensures in
    IfOk-weaker c.arrived.result (IfComes (λ at. Is64 (valuation at) × HoldsAll (valuation at) e.cube.atoms))
    (λ a. (all : List Atom) → IsOutline c.args.target.now all → IfComes (ArrivesAt q t all) a)
    (λ a h all k. arrives_by q t all e (seen all k) a h)
    c.arrived.ensures

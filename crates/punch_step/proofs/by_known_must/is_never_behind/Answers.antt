use Rattle.std.proofs.Common.{List, Option, subst}
use Rattle.std.specs.Prelude.{IfSome}
use Rattle.linear_formula.specs.Extremes.{IsOutline}
use Rattle.linear_formula.specs.declared.extremes.Extremes.{Extremes}
use Rattle.linear_formula.specs.declared.formula.Atom.{Atom}
use Rattle.shadow_elim.specs.Questions.{IsNever}
use Rattle.must_region.specs.Traces.{trace_of}
use Rattle.punch_step.specs.ByExtremes.{AreSeen}
use Rattle.punch_step.specs.Sights.{IsDecision}
use Rattle.punch_step.proofs.by_known_must.is_never_behind.Goals as goal

pub returns-in-Never : goal.returns-in-Never
returns-in-Never c = λ _ all k.
    let q = c.args.query.now in
    let t = trace_of c.args.trail.now in
    let e = c.in-Some.seen in
    let rows = c.in_ok-followed_by.field-0.atoms in
    let seen = subst (λ (o : Option Extremes). IfSome o (λ e. (all : List Atom) → IsOutline c.args.end.now all → AreSeen q t all e))
    c.in-Some.is c.in_ok-seen.ensures all k in
    let never = subst (IsDecision rows) c.in-Never.is c.in_ok-decided.ensures in (
      e.cube.atoms,
      seen.0,
      record { numbers = e.numbers.items; extremes = seen.1.extremes },
      subst IsNever c.in_ok-followed_by.ensures never.0,
    )

use Rattle.std.proofs.Common.{◌≡◌, ◌∙◌, Option, refl, subst}
use Rattle.std.specs.Prelude.{IfSome}
use Rattle.linear_formula.specs.declared.formula.Cube.{Cube}
use Rattle.shadow_elim.specs.Sums.{row_sums, rows_of_sums}
use Rattle.flow_graph.specs.Readings.{reading}
use Rattle.must_region.specs.Traces.{trace_of}
use Rattle.query_rules.specs.Crossings.{IsRead}
use Rattle.punch_step.proofs.Arriving.{outline_read}
use Rattle.punch_step.proofs.by_extremes.read_extremes.Goals as goal

pub returns-in_ok-to_vec-in-Some : goal.returns-in_ok-to_vec-in-Some
returns-in_ok-to_vec-in-Some c =
    let t = trace_of c.args.trail.now in let rows = c.args.rows.now in
    let read = subst (λ (o : Option Cube). IfSome o (λ _. IsRead t rows.cube.atoms)) c.in-Some.is c.in_ok-cube.ensures.read in
    let atoms = subst (λ (o : Option Cube). IfSome o (λ x. x.atoms ≡ rows_of_sums (row_sums (reading t.slots t.entry) rows.cube.atoms)))
    c.in-Some.is c.in_ok-cube.ensures.rows in
    outline_read t rows _ read atoms
    (c.in_ok-to_vec-in-Some.ensures.items_if_clones_equal (λ x y h. h) ∙ c.deref.ensures.value) refl

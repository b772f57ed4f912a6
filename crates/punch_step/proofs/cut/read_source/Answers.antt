use Rattle.std.proofs.Common.{◌≡◌, None, ◌∙◌, ap, subst}
use Rattle.linear_formula.specs.declared.formula.Cube.{Cube}
use Rattle.shadow_elim.specs.Sums.{first_wide}
use Rattle.must_region.specs.Paths.{path_guard, read_sums}
use Rattle.must_region.specs.Traces.{trace_of}
use Rattle.punch_step.proofs.cut.read_source.Goals as goal

pub returns-clause-guard : goal.returns-clause-guard
returns-clause-guard c =
    let t = trace_of c.args.trail.now in
    let start = c.args.query.now.start.atoms in
    ap (λ (q : Cube). q.atoms) c.in_ok-closed.ensures
    ∙ (c.in_ok-rows.ensures.guard ∙ ap (λ (x : Cube). path_guard t start x.atoms) c.in_ok-plain.ensures)

pub returns-clause-decided : goal.returns-clause-decided
returns-clause-decided c =
    subst (λ (x : Cube). first_wide (read_sums (trace_of c.args.trail.now) c.args.query.now.start.atoms x.atoms) ≡ None)
    c.in_ok-plain.ensures c.in_ok-rows.ensures.decided

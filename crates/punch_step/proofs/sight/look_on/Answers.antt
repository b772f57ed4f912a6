use Rattle.std.proofs.Common.{◌++◌, ◌∙◌, ap, sym, subst, List}
use Rattle.std.proofs.lemmas.Result.{IfOk-weaker}
use Rattle.linear_formula.specs.declared.formula.Atom.{Atom}
use Rattle.shadow_elim.specs.RightLimit.{IsRight}
use Rattle.shadow_elim.specs.Sums.{IsFirstWide, row_sums}
use Rattle.shadow_elim.specs.Projection.{IfRefused}
use Rattle.shadow_elim.specs.declared.projection.ProjectionError.{ProjectionError}
use Rattle.flow_graph.specs.Readings.{reading}
use Rattle.must_region.specs.Traces.{trace_of}
use Rattle.query_rules.specs.Rows.{seen_at}
use Rattle.punch_step.specs.Sights.{IsDecision, IsSight}
use Rattle.punch_step.proofs.Deciding.{IsWideSight, behind_start, sight_of_decision}
use Rattle.punch_step.proofs.SeenSource.{more_is_wide, read_more, seen_more}
use Rattle.punch_step.proofs.sight.look_on.Goals as goal

pub returns-in_ok-all-in-Ok : goal.returns-in_ok-all-in-Ok
returns-in_ok-all-in-Ok c =
    let on = c.args.seen.now in let q = on.query.now in let t = trace_of on.trail.now in let source = on.source.now.atoms in
    let atoms = c.args.atoms.now.atoms in
    let read = on.is_seen in
    let all = c.in_ok-all-in-Ok.ensures ∙ (ap (λ (rows : List Atom). rows ++ c.in-Ok.rows.atoms) read.rows
    ∙ (ap (λ (rows : List Atom). seen_at q t source ++ rows) c.in-Ok.ensures.rows ∙ seen_more q t source atoms)) in
    IfOk-weaker c.decided.result (IsDecision c.in_ok-all-in-Ok.all.atoms) (IsSight q t (source ++ atoms))
    (sight_of_decision q t (source ++ atoms) c.in_ok-all-in-Ok.all.atoms all
    (read_more q t source atoms (behind_start q t source read.start read.decided) c.in-Ok.ensures.decided))
    c.decided.ensures

pub returns-in-Err-Limit : goal.returns-in-Err-Limit
returns-in-Err-Limit c =
    let on = c.args.seen.now in let q = on.query.now in let t = trace_of on.trail.now in let source = on.source.now.atoms in
    let atoms = c.args.atoms.now.atoms in
    let e = c.in-Err-Limit.ensures in
    let wide = subst (λ (x : ProjectionError). IfRefused x (IsFirstWide (row_sums (reading t.slots t.entry) atoms)))
    c.in-Err-Limit.field-0-is
    e.limit
    in
    let right = subst (λ (x : ProjectionError). IfRefused x IsRight) c.in-Err-Limit.field-0-is e.right in
    subst (IsWideSight q t (source ++ atoms)) (sym c.in-Err-Limit.kept-is) (more_is_wide q t source atoms c.in-Err-Limit.kept wide right)

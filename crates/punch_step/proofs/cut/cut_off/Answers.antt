use Rattle.std.proofs.Common.{sym, subst}
use Rattle.shadow_elim.specs.RightLimit.{IsRight}
use Rattle.shadow_elim.specs.Sums.{IsFirstWide}
use Rattle.shadow_elim.specs.Projection.{IfRefused}
use Rattle.shadow_elim.specs.declared.limit.Kept.{Kept}
use Rattle.shadow_elim.specs.declared.projection.ProjectionError.{ProjectionError}
use Rattle.must_region.specs.Paths.{read_sums}
use Rattle.must_region.specs.Traces.{trace_of}
use Rattle.punch_step.specs.Cuts.{IsCutting}
use Rattle.punch_step.specs.declared.cut.Cutting.TheVariants as cutting
use Rattle.punch_step.proofs.SeenSource.{source_is_wide}
use Rattle.punch_step.proofs.cut.cut_off.Goals as goal

pub returns-in-Err-Limit : goal.returns-in-Err-Limit
returns-in-Err-Limit c =
    let q = c.args.query.now in let t = trace_of c.args.trail.now in let source = c.args.source.now.atoms in
    let pre = c.args.pre.now.atoms in
    let e = c.in-Err-Limit.ensures in
    let wide = subst (λ (x : ProjectionError). IfRefused x (IsFirstWide (read_sums t q.start.atoms source))) c.in-Err-Limit.field-0-is
    e.limit
    in
    let right = subst (λ (x : ProjectionError). IfRefused x IsRight) c.in-Err-Limit.field-0-is e.right in
    subst (λ (k : Kept). IsCutting q t source pre (cutting.Limit k)) (sym c.in-Err-Limit.kept-is)
    (source_is_wide q t source pre c.in-Err-Limit.kept c.requires.start wide right)

use Rattle.std.proofs.Common.{◌<◌, length, FitsSigned, to_z-of_z, rules, arith, ap, subst, ◌∙◌}
use Rattle.std.specs.Int.{w128}
use Rattle.std.specs.Prelude.{unsigned_abs}
use Rattle.std.proofs.lemmas.List.Elements.{All-more}
use Rattle.linear_formula.proofs.Finishing.{constant_is}
use Rattle.shadow_elim.specs.declared.row.Row.{Row}
use Rattle.shadow_elim.specs.steps.Marks.{IsSmall}
use Rattle.shadow_elim.proofs.skipping.are_small.Goals as goal

pub loop-row-preserved : goal.loop-row-preserved
loop-row-preserved c =
    let h : c.loop-row.row-index < length c.args.rows.now = omega arith in
    let f : FitsSigned w128 c.coefficient.result = search rules in
    let row = c.row-item.result in
    let a = c.unsigned_abs.ensures.value ∙ ap unsigned_abs (to_z-of_z f) ∙ ap unsigned_abs c.coefficient.ensures.value in
    let b = c.unsigned_abs-in-loop-row.ensures.value ∙ ap unsigned_abs (constant_is row.term c.constant.result c.constant.ensures.value
    c.constant.ensures.kept) in
    let s : IsSmall c.args.column row.term = record {
      size = omega (arith, a, c.if-unsigned_abs.false);
      constant = omega (arith, b, c.if-unsigned_abs-2.false);
    } in
    All-more (λ (r : Row). IsSmall c.args.column r.term) c.args.rows.now c.loop-row.row-index row h c.loop-row.invariant
    (subst (λ (r : Row). IsSmall c.args.column r.term) c.row-item.is s)

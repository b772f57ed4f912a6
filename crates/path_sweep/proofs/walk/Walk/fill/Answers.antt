use Rattle.std.proofs.Common.{◌++◌, None, Some, refl, ap, ◌∙◌, arith}
use Rattle.linear_formula.specs.LinearSum.{valuation}
use Rattle.summary_form.specs.Musts.{values_of}
use Rattle.std.proofs.lemmas.Option.{slice_get_within}
use Rattle.path_sweep.proofs.Adding.{same_read}
use Rattle.path_sweep.proofs.Filling.{filled_here, filled_same, not_some, not_none, both_values}
use Rattle.path_sweep.proofs.walk.Walk.fill.Goals.{else-place-len-via-then-place-len+else-is_none, else-place-len-via-else-place-len}
use Rattle.path_sweep.proofs.walk.Walk.fill.Goals as goal

pub returns-in_ok-push_values-2-clause-found : goal.returns-in_ok-push_values-2-clause-found
returns-in_ok-push_values-2-clause-found c =
    filled_here c.args.id _ c.args.self.now.found.items c.push_values-then-is_none.new.values
    (omega (arith, c.if-place-len.true, c.len.ensures))
    (λ x at. not_some c.index.result.now c.is_none.result x
    (same_read c.args.self.now.found.items c.args.self.now.found.items c.args.id c.index.result.now (Some x) refl at c.index.ensures)
    c.is_none.ensures c.if-is_none.true)
    (both_values (valuation c.args.at.now) c.args.self.now.inputs.items c.args.step.now.read c.as_slice.result.now
    c.as_slice-then-is_none.result.now c.push_values.new.values.items c.push_values-then-is_none.new.values.items c.as_slice.ensures.value
    c.as_slice-then-is_none.ensures (c.in_ok-push_values.ensures
    ∙ ap (λ l. l ++ values_of (valuation c.args.at.now) c.as_slice.result.now) c.new-values.ensures.items) c.in_ok-push_values-2.ensures)

pub returns-else-place-len-clause-found : goal.returns-else-place-len-clause-found
returns-else-place-len-clause-found c =
    elim c.else-place-len.branch [
      | else-place-len-via-then-place-len+else-is_none w ↦
          (filled_same c.args.id _ c.args.self.now.found.items (λ at. not_none w.index.result.now w.is_none.result
          (same_read c.args.self.now.found.items c.args.self.now.found.items c.args.id w.index.result.now None refl at w.index.ensures)
          w.is_none.ensures w.if-is_none.false))
      | else-place-len-via-else-place-len w ↦ filled_same c.args.id _ c.args.self.now.found.items
          (λ at. let low = slice_get_within c.args.self.now.found.items c.args.id None at in
          absurd (omega (arith, low, w.if-place-len.false, c.len.ensures)))
    ]

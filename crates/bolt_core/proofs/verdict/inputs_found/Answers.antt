use Rattle.std.proofs.Common.{◌≡◌, ◌∙◌, ap, arith, length, subst, sym, take, take_all, ◌+◌}
use Rattle.std.proofs.lemmas.Option.{slice_get_within}
use Rattle.std.proofs.lemmas.Result.{IfOk-weaker}
use Rattle.flow_graph.specs.Columns.{AreAllValues}
use Rattle.linear_formula.specs.LinearSum.{valuation}
use Rattle.summary_form.specs.Musts.{values_of}
use Rattle.must_region.specs.Traces.{trace_of}
use Rattle.query_rules.specs.Paths.{is_marked}
use Rattle.bolt_core.specs.steps.Targets.{AreInputsAt}
use Rattle.bolt_core.proofs.Targets.{are_values, inputs_there, item_there, read_trail, some_mark, trail_of}
use Rattle.bolt_core.proofs.verdict.inputs_found.Goals as goal

pub bounds-trails-mark : goal.bounds-trails-mark
bounds-trails-mark c =
    let g = c.args.graph.now in let s = c.args.state.now in let i = c.loop-mark.mark-index in let k = c.mark-item.result in
    let there = item_there c.marks-mark-items.result.now s.marks i k c.marks-mark-items.ensures c.loop-mark-test.true c.mark-item.is in
    let u = trail_of g s c.requires i k there c.if-mark-target.true in
    omega (arith, slice_get_within s.trails k.trail u.0 u.1, ap length c.trails.ensures)

pub values_at-requires : goal.values_at-requires
values_at-requires c =
    let g = c.args.graph.now in let s = c.args.state.now in
    let i = c.loop-mark.mark-index in let k = c.mark-item.result in let x = c.index-trails-mark.result in
    let there = item_there c.marks-mark-items.result.now s.marks i k c.marks-mark-items.ensures c.loop-mark-test.true c.mark-item.is in
    let at = read_trail g s c.requires i k there c.if-mark-target.true c.trails.result.now x c.trails.ensures c.index-trails-mark.is in
    subst (λ ts. AreAllValues (values_of (valuation k.point) ts)) (sym c.as_slice.ensures) (are_values g s c.requires k (trace_of x) at)

pub returns-then-mark-target : goal.returns-then-mark-target
returns-then-mark-target c =
    let g = c.args.graph.now in let s = c.args.state.now in
    let i = c.loop-mark.mark-index in let k = c.mark-item.result in let x = c.index-trails-mark.result in
    let there = item_there c.marks-mark-items.result.now s.marks i k c.marks-mark-items.ensures c.loop-mark-test.true c.mark-item.is in
    let at = read_trail g s c.requires i k there c.if-mark-target.true c.trails.result.now x c.trails.ensures c.index-trails-mark.is in
    IfOk-weaker c.values_at.result (λ values. values.items ≡ values_of (valuation k.point) c.as_slice.result.now)
    (λ list. AreInputsAt g s list.items)
    (λ values same. inputs_there g s c.requires k (trace_of x) at values.items
    (same ∙ ap (values_of (valuation k.point)) c.as_slice.ensures))
    c.values_at.ensures

pub unreachable-requires : goal.unreachable-requires
unreachable-requires c =
    let g = c.args.graph.now in let s = c.args.state.now in
    let n = c.loop-mark.mark-index in
    let ks = c.marks-mark-items.result.now in
    let all : take n ks ≡ ks = take_all n ks c.loop-mark-test.false in
    some_mark g s c.requires (ap (λ xs. is_marked xs (g.fail + 1)) (sym (all ∙ c.marks-mark-items.ensures)) ∙ c.loop-mark.invariant)

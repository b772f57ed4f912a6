use Rattle.std.proofs.Common.{◌≡◌, get_or, arith, ap, ◌∙◌}
use Rattle.std.proofs.lemmas.List.Sums.{sum_by_more}
use Rattle.shadow_elim.specs.steps.Lists.{staying}
use Rattle.shadow_elim.proofs.lists.keeps_many.Goals as goal

pub loop-list-preserved : goal.loop-list-preserved
loop-list-preserved c =
    let s = sum_by_more staying c.args.lists.now c.loop-list.list-index c.list-item.result c.loop-list-test.true in
    let k : c.count.result ≡ staying (get_or c.args.lists.now c.loop-list.list-index c.list-item.result) = c.count.ensures
    ∙ ap staying c.list-item.is in
    omega (arith, s, k, c.loop-list.invariant, c.saturating_add-count.ensures)

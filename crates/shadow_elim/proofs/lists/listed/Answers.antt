use Rattle.std.proofs.Common.{◌≡◌, length, get_or, arith, ap, ◌∙◌}
use Rattle.std.proofs.lemmas.List.Sums.{sum_by_more}
use Rattle.shadow_elim.proofs.lists.listed.Goals as goal

pub loop-list-preserved : goal.loop-list-preserved
loop-list-preserved c =
    let s = sum_by_more length c.args.lists.now c.loop-list.list-index c.list-item.result c.loop-list-test.true in
    let k : c.len.result ≡ length (get_or c.args.lists.now c.loop-list.list-index c.list-item.result) = c.len.ensures
    ∙ ap length c.list-item.is in
    omega (arith, s, k, c.loop-list.invariant, c.saturating_add-listed.ensures)

use Rattle.std.proofs.Common.{[], ◌∷◌, ◌++◌, map, take, ap, ◌∙◌}
use Rattle.std.specs.Arc.{arc_value}
use Rattle.std.proofs.lemmas.List.{map_push}
use Rattle.board_tests.proofs.Informed.{next_front}
use Rattle.board_tests.proofs.kept.summaries_of.Goals as goal

pub loop-summary-preserved : goal.loop-summary-preserved
loop-summary-preserved c =
    let l = c.loop-summary in
    let ts = c.args.board.now.core.table in
    let own = c.in_ok-clone.field-0 in
    ap (map arc_value) c.in_ok-push.ensures.items
    ∙ (map_push arc_value l.summaries.items own
    ∙ (ap (λ ys. ys ++ own.value ∷ []) l.invariant
    ∙ (ap (λ s. take l.summary-index ts ++ s ∷ []) c.in_ok-clone.ensures.cases
    ∙ next_front arc_value c.all-summary-items.result.now ts l.summary-index c.summary-item.result
    (c.all-summary-items.ensures ∙ c.table.ensures) c.loop-summary-test.true c.summary-item.is)))

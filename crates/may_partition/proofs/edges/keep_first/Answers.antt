use Rattle.std.proofs.Common.{◌≤◌, ◌++◌, drop, length, map, arith, ap, ◌∙◌}
use Rattle.std.specs.Prelude.{slice_set}
use Rattle.std.proofs.lemmas.List.{append-nil, take_all, drop_all}
use Rattle.std.proofs.lemmas.List.Edits.{map_over_more}
use Rattle.may_partition.specs.steps.Grouped.{kept_within}
use Rattle.may_partition.proofs.edges.keep_first.Goals as goal

pub loop-place-preserved : goal.loop-place-preserved
loop-place-preserved c =
    let keep = map (kept_within c.args.regions) in let i = c.loop-place.place in
    let was = c.index_mut.result.now in
    ap (slice_set c.loop-place.lists.items i) c.keep_within.ensures
    ∙ map_over_more keep c.truncate.new.self.items c.loop-place.lists.items i was
    (omega (arith, c.loop-place-test.true, c.len-place-end.ensures, c.truncate.new.self.ok.0)) c.loop-place.invariant
    c.index_mut.ensures.value

pub returns : goal.returns
returns c =
    let keep = map (kept_within c.args.regions) in let i = c.loop-place.place in let all = c.truncate.new.self.items in
    let far : length all ≤ i = omega (arith, c.loop-place-test.false, c.len-place-end.ensures, c.truncate.new.self.ok.0) in
    c.loop-place.invariant ∙ ap (λ xs. map keep xs ++ drop i all) (take_all i all far) ∙ ap (λ xs. map keep all ++ xs) (drop_all i all far)
    ∙ append-nil (map keep all) ∙ ap (map keep) c.truncate.ensures.items

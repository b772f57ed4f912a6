use Rattle.std.proofs.Common.{◌≡◌, List, length, map, Global, Some, refl, ap, ◌∙◌, subst, arith}
use Rattle.std.specs.Prelude.{slice_get}
use Rattle.std.specs.declared.sync.Arc.{Arc}
use Rattle.std.proofs.lemmas.List.{length-map}
use Rattle.flow_graph.specs.declared.graphs.Graphs.{Graphs}
use Rattle.summary_form.specs.declared.summary.Summary.{Summary}
use Rattle.bolt_core.specs.Boards.{IsOneOf}
use Rattle.bolt_core.specs.steps.Begun.{AreBegun}
use Rattle.bolt_core.proofs.Numbered.{numbered_one}
use Rattle.bolt_core.proofs.Telling.{all_at}
use Rattle.bolt_core.proofs.Beginning.{begun_board, begun_roomy, begun_traced, begun_with}
use Rattle.bolt_core.proofs.board.Board.begin_with.Goals as goal

pub opened-requires-clause-room : goal.opened-requires-clause-room
opened-requires-clause-room c =
    let many = ap (λ (xs : List (Arc Summary Global)). length xs) c.deref.ensures.value in
    grind (arith, many, c.requires.few, c.requires.asserts, c.requires.most)

pub opened-requires-clause-numbers : goal.opened-requires-clause-numbers
opened-requires-clause-numbers c i s at =
    let gs = c.args.graphs.value.graphs in
    numbered_one (length gs) c.args.asserts s c.requires.small c.requires.asserts
    (all_at (IsOneOf (length gs) c.args.asserts) (map (λ a. a.value) c.args.kept.items) i s c.requires.named
    (subst (λ (xs : List (Arc Summary Global)). slice_get (map (λ a. a.value) xs) i ≡ Some s) c.deref.ensures.value at))

pub roots_of-requires-clause-main : goal.roots_of-requires-clause-main
roots_of-requires-clause-main c =
    let g = c.requires.main in
    (g.0, ap (λ (x : Graphs). slice_get x.graphs c.args.main) c.deref-2.ensures ∙ g.1)

pub invariant_of-result : goal.invariant_of-result
invariant_of-result c =
    let gs = c.args.graphs.value.graphs in
    let g = c.requires.main in
    let n = c.args.asserts in
    let ks : List Summary = map (λ a. a.value) c.args.kept.items in
    let es = c.in_ok-roots.roots.forest.entries in let ss = c.in_ok-roots.roots.slots.items in
    let begun = subst (λ (x : Graphs). AreBegun x.graphs c.args.main c.args.budget n ks es ss) c.deref-2.ensures
    (c.in_ok-roots.ensures.begun ks)
    in
    let full : c.in_ok-table.table.summaries ≡ ks =
    c.in_ok-table.ensures.summaries ∙ ap (λ (xs : List (Arc Summary Global)). map (λ a. a.value) xs) c.deref.ensures.value in
    let all = ap (λ (xs : List (Arc Summary Global)). length xs) c.deref.ensures.value in
    let many : length ks ≡ length c.args.kept.items = length-map c.args.kept.items (λ a. a.value) in
    rw (full, c.in_ok-events.ensures.items, c.in_ok-origins.ensures.items) (
      begun_board gs c.args.main n c.args.budget n ks es ss begun refl c.args.graphs.value.well_formed
          c.requires.small g.0 g.1 c.requires.asserts c.requires.some c.requires.most (omega (arith, c.requires.few, many)) c.requires.hold,
      begun_roomy gs c.args.main n c.args.budget n ks es ss begun refl _ _ _ _ c.in_ok-roots.ensures.room c.in_ok-roots.ensures.slots
          (omega (arith, c.in_ok-table.ensures.room, all, many)) c.in_ok-events.ensures.capacity,
      begun_traced gs c.args.main n c.args.budget n ks es ss begun refl _ c.in_ok-origins.ensures.capacity,
    )

pub returns : goal.returns
returns c =
    let gs = c.args.graphs.value.graphs in
    let n = c.args.asserts in
    let ks : List Summary = map (λ a. a.value) c.args.kept.items in
    let es = c.in_ok-roots.roots.forest.entries in let ss = c.in_ok-roots.roots.slots.items in
    let begun = subst (λ (x : Graphs). AreBegun x.graphs c.args.main c.args.budget n ks es ss) c.deref-2.ensures
    (c.in_ok-roots.ensures.begun ks)
    in
    let full : c.in_ok-table.table.summaries ≡ ks =
    c.in_ok-table.ensures.summaries ∙ ap (λ (xs : List (Arc Summary Global)). map (λ a. a.value) xs) c.deref.ensures.value in
    rw (full, c.in_ok-events.ensures.items) (begun_with gs c.args.main n c.args.budget n ks es ss begun refl c.requires.hold)

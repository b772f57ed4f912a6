use Rattle.std.proofs.Common.{◌≡◌, ◌+◌, ◌<◌, ◌≤◌, suc, List, [], ◌∷◌, ◌++◌, length, map, take, Global, Some, sym, ap, ◌∙◌, subst, arith}
use Rattle.std.specs.Prelude.{slice_get}
use Rattle.std.specs.Arc.{arc_value}
use Rattle.std.specs.Option.{option_map}
use Rattle.std.proofs.lemmas.Option.{slice_get-map}
use Rattle.std.specs.declared.sync.Arc.{Arc}
use Rattle.std.proofs.lemmas.List.{length-map, length-take-le, take_all}
use Rattle.query_tree.proofs.Lists.{at_place}
use Rattle.summary_form.specs.declared.summary.Summary.{Summary}
use Rattle.summary_table.specs.Tables.{IsNumbered, exit_of, proc_of}
use Rattle.bolt_core.proofs.Beginning.{map_next}
use Rattle.bolt_core.proofs.board.opened.Goals as goal

pub loop-place-init : goal.loop-place-init
loop-place-init c = (c.in_ok-table.ensures.none, omega (arith, c.in_ok-table.ensures.room))

pub push-requires-clause-room : goal.push-requires-clause-room
push-requires-clause-room c =
    let i = c.loop-place.place in
    let lt : i < length c.args.kept.now = omega (arith, c.loop-place-test.true) in
    omega (
      arith,
      c.loop-place.invariant.1,
      lt,
      ap (λ (ss : List Summary). length ss) c.loop-place.invariant.0,
      length-map (take i c.args.kept.now) (λ a. a.value),
      length-take-le i c.args.kept.now (omega (arith, lt)),
    )

pub push-requires-clause-numbers : goal.push-requires-clause-numbers
push-requires-clause-numbers c =
    let i = c.loop-place.place in
    let items = c.args.kept.now in
    let x : Summary = c.index-kept-place.result.value in
    let lt : i < length items = omega (arith, c.loop-place-test.true) in
    let at : slice_get (map arc_value items) i ≡ Some x =
    slice_get-map arc_value items i ∙ ap (option_map arc_value) (at_place items i c.index-kept-place.result lt
    ∙ ap Some (sym c.index-kept-place.is))
    in
    subst (λ (s : Summary). IsNumbered (proc_of s) (exit_of s)) (sym c.in_ok-clone.ensures.cases) (c.requires.numbers i x at)

pub loop-place-preserved : goal.loop-place-preserved
loop-place-preserved c =
    let i = c.loop-place.place in
    let lt : i < length c.args.kept.now = omega (arith, c.loop-place-test.true) in
    let at = at_place c.args.kept.now i c.index-kept-place.result lt ∙ ap Some (sym c.index-kept-place.is) in
    let next : i + 1 ≡ suc i = omega arith in (
      c.push.ensures.summaries
          ∙ (ap (λ s. c.loop-place.table.summaries ++ s ∷ []) c.in_ok-clone.ensures.cases
          ∙ (ap (λ ts. ts ++ c.index-kept-place.result.value ∷ []) c.loop-place.invariant.0
          ∙ (sym (map_next (λ a. a.value) c.args.kept.now i c.index-kept-place.result at)
          ∙ ap (λ n. map (λ a. a.value) (take n c.args.kept.now)) (sym next)))),
      c.push.ensures.room ∙ c.loop-place.invariant.1,
    )

pub returns-clause-summaries : goal.returns-clause-summaries
returns-clause-summaries c =
    let len : length c.args.kept.now ≤ c.loop-place.place = omega (arith, c.loop-place-test.false) in
    c.loop-place.invariant.0 ∙ ap (λ (xs : List (Arc Summary Global)). map (λ a. a.value) xs)
    (take_all c.loop-place.place c.args.kept.now len)

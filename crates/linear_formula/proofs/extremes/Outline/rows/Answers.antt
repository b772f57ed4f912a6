use Rattle.std.proofs.Common.{◌≡◌, ◌++◌, List, take, sym, ap, subst, ◌∙◌}
use Rattle.std.specs.Prelude.{flat_map}
use Rattle.std.proofs.lemmas.Grind.{flat_map-append}
use Rattle.std.proofs.lemmas.List.{take_all}
use Rattle.linear_formula.specs.declared.extremes.ExtremePair.{ExtremePair}
use Rattle.linear_formula.specs.steps.Outlines.{older_of, newest_of, pairs_of, pair_numbers, pair_rows, numbers_of, rows_of}
use Rattle.linear_formula.proofs.ExtremeRows.{no_extremes}
use Rattle.linear_formula.proofs.ExtremePairs.{pairs_extremes}
use Rattle.linear_formula.proofs.extremes.Outline.rows.Goals as goal

pub loop-list-init : goal.loop-list-init
loop-list-init c =
    let all = c.in_ok-all.all in
    no_extremes all.numbers.items all.cube.atoms c.in_ok-all.ensures.extremes

pub returns : goal.returns
returns c = λ all h.
    let s = c.args.self.now in
    let older = older_of s in
    let joined = flat_map (λ (ps : List ExtremePair). ps) older in
    let newest : c.newest-newest.result.now ≡ newest_of s = c.newest-newest.ensures in
    let lists = c.older-list-items.result.now in
    let taken : take c.loop-list.list-index older ≡ older =
    subst (λ (ls : List (List ExtremePair)). take c.loop-list.list-index ls ≡ ls) c.older-list-items.ensures
    (take_all c.loop-list.list-index lists c.loop-list-test.false) in
    let numbers = c.in_ok-push_pairs-2.ensures.numbers
    ∙ ap (λ l. l ++ numbers_of c.newest-newest.result.now) (c.loop-list.invariant.0
    ∙ ap (λ (ls : List (List ExtremePair)). numbers_of (flat_map (λ ps. ps) ls)) taken)
    ∙ ap (λ (ps : List ExtremePair). numbers_of joined ++ numbers_of ps) newest ∙ sym (flat_map-append pair_numbers joined (newest_of s)) in
    let rows = c.in_ok-push_pairs-2.ensures.rows
    ∙ ap (λ l. l ++ rows_of c.newest-newest.result.now) (c.loop-list.invariant.1
    ∙ ap (λ (ls : List (List ExtremePair)). rows_of (flat_map (λ ps. ps) ls)) taken)
    ∙ ap (λ (ps : List ExtremePair). rows_of joined ++ rows_of ps) newest ∙ sym (flat_map-append pair_rows joined (newest_of s)) in
    record {
      count = h.count;
      extremes = rw (numbers, rows) (pairs_extremes (pairs_of s) all h.pairs);
    }

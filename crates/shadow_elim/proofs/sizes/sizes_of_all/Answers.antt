use Rattle.std.proofs.Common.{◌<◌, ◌≤◌, length, get_or, take, arith, ap, sym, subst, ◌∙◌}
use Rattle.std.specs.Prelude.{IsTrue, unsigned_abs}
use Rattle.std.proofs.lemmas.List.{take_all}
use Rattle.std.proofs.lemmas.List.Elements.{All-nil, All-more, All-weaker}
use Rattle.linear_formula.specs.LinearSum.{is_term}
use Rattle.linear_formula.proofs.Limits.{IsTerm-from_test}
use Rattle.linear_formula.proofs.Merging.{cast_same}
use Rattle.shadow_elim.specs.declared.row.Row.{Row}
use Rattle.shadow_elim.specs.declared.sizes.Sizes.{Sizes}
use Rattle.shadow_elim.specs.RowSizes.{IsSized}
use Rattle.shadow_elim.proofs.FittingSums.{sized-more, sized-same, sized-back}
use Rattle.shadow_elim.proofs.sizes.sizes_of_all.Goals as goal

abbrev IsWithSize : Sizes → Row → Type 0
IsWithSize s r = IsTrue (is_term r.term) × IsSized r.term s

pub loop-row-init : goal.loop-row-init
loop-row-init c = record {
  limited = c.none-sizes.ensures.limited;
  sized = All-nil (IsWithSize c.none-sizes.result);
  least = λ s _. c.none-sizes.ensures.least s;
}

pub loop-row-preserved : goal.loop-row-preserved
loop-row-preserved c =
    let rows = c.args.rows.now in
    let i = c.loop-row.row-index in
    let all = c.larger-sizes.result in
    let t = c.row-item.result.term in
    let small = (IsTerm-from_test t c.parts.ensures.kept).within.constant_limit in
    let same = cast_same c.constant.result (omega (arith, small, ap unsigned_abs c.constant.ensures.value)) ∙ c.constant.ensures.value in
    let own = sized-same t c.parts.result.now _ c.sizes_of.result c.parts.ensures.value same c.sizes_of.ensures.sized in
    let here : IsWithSize all c.row-item.result = (
      c.parts.ensures.kept,
      sized-more t c.sizes_of.result all own c.larger-sizes.ensures.right,
    ) in
    record {
      limited = c.larger-sizes.ensures.limited;
      sized = All-more (IsWithSize all) rows i c.row-item.result c.loop-row-test.true (All-weaker (IsWithSize c.loop-row.sizes)
          (IsWithSize all) (λ r h. (h.0, sized-more r.term c.loop-row.sizes all h.1 c.larger-sizes.ensures.left)) (take i rows)
          c.loop-row.invariant.sized)
          (subst (IsWithSize all) c.row-item.is here);
      least = λ s h. c.larger-sizes.ensures.least s (c.loop-row.invariant.least s h) (c.sizes_of.ensures.least s (sized-back t
          c.parts.result.now _ s c.parts.ensures.value same (subst (λ (r : Row). IsSized r.term s) (sym c.row-item.is)
          (h i c.row-item.result c.loop-row-test.true))));
    }

pub returns-clause-sized : goal.returns-clause-sized
returns-clause-sized c =
    let h : length c.args.rows.now ≤ c.loop-row.row-index = omega (arith, c.loop-row-test.false) in
    subst (λ rs. (k : _) (d : Row) → k < length rs → IsWithSize c.loop-row.sizes (get_or rs k d))
    (take_all c.loop-row.row-index c.args.rows.now h)
    c.loop-row.invariant.sized

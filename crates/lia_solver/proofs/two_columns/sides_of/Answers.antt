use Rattle.std.proofs.Common.{◌≡◌, ◌≤◌, ◌^◌, ℤ, pos, negsuc, neg_ℤ, to_z, of_z, arith, sym, ap, subst, refl, ◌∙◌}
use Rattle.std.specs.Int.{w128}
use Rattle.std.specs.Prelude.{unsigned_abs}
use Rattle.linear_formula.proofs.Finishing.{cast_wide}
use Rattle.lia_solver.specs.steps.Entries.{no_entry}
use Rattle.lia_solver.proofs.TwoColumns.{row-term, held-at, neg-cast, neg-neg, abs-neg}
use Rattle.lia_solver.proofs.two_columns.sides_of.Goals as goal

pub returns : goal.returns
returns c =
    let es = c.args.table.now in
    let high = c.in_ok-above.ensures in
    let low = c.in_ok-below.ensures in
    let above = (row-term es c.in_ok-above.above c.requires.rows.terms high.0).within.constant_limit in
    let below = (row-term es c.in_ok-below.below c.requires.rows.terms low.0).within.constant_limit in
    let above-is = c.constant-2.ensures no_entry in
    let below-is = c.constant.ensures no_entry in
    let above-small : unsigned_abs c.constant-2.result ≤ 2 ^ 84 = omega (arith, above, ap unsigned_abs above-is) in
    let below-small : unsigned_abs c.constant.result ≤ 2 ^ 84 = omega (arith, below, ap unsigned_abs below-is) in
    let greatest = neg-cast c.constant-2.result above-small in
    let least : to_z w128 (of_z w128 c.constant.result) ≡ c.constant.result = cast_wide c.constant.result (omega (arith, below-small)) in
    record {
      above = held-at _ (pos 1) _ es c.in_ok-above.above _ high.0 (high.1 no_entry) refl (ap neg_ℤ greatest ∙ neg-neg c.constant-2.result
          ∙ above-is);
      below = held-at _ (negsuc 0) _ es c.in_ok-below.below _ low.0 (low.1 no_entry) refl (least ∙ below-is);
      greatest_limit = subst (λ (z : ℤ). unsigned_abs z ≤ 2 ^ 84) (sym greatest) (abs-neg c.constant-2.result (2 ^ 84) above-small);
      least_limit = subst (λ (z : ℤ). unsigned_abs z ≤ 2 ^ 84) (sym least) below-small;
    }

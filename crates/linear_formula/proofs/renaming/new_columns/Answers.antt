use Rattle.std.proofs.Common.{◌≡◌, ◌+◌, ◌-◌, ℕ, drop, arith, subst}
use Rattle.std.specs.Prelude.{unwrap_or}
use Rattle.std.specs.BTreeMap.{get}
use Rattle.std.specs.Ordering.{nat_cmp}
use Rattle.linear_formula.specs.Results.{renamed_column}
use Rattle.linear_formula.proofs.Renamed.{column-step}
use Rattle.linear_formula.proofs.renaming.new_columns.Goals as goal

pub loop-left-preserved : goal.loop-left-preserved
loop-left-preserved c =
    let next : c.loop-left.left ≡ (c.loop-left.left - 1) + 1 = omega arith in
    let bound = c.loop-left.invariant.0 in (
      omega (arith, bound),
      λ x. column-step c.args.map.now (c.loop-left.left - 1) x (get nat_cmp c.loop-left.columns x)
          (get nat_cmp c.insert.new.self x) (omega (arith, bound)) (c.in_ok-insert.ensures.updates.0 x)
          (subst (λ (n : ℕ). unwrap_or (get nat_cmp c.loop-left.columns x) x ≡ renamed_column (drop n c.args.map.now) x) next
          (c.loop-left.invariant.1 x)),
    )

use Rattle.std.proofs.Common.{◌≡◌, ◌≤◌, ℕ, drop, length}
use Rattle.std.specs.Prelude.{unwrap_or}
use Rattle.std.specs.BTreeMap.{get}
use Rattle.std.specs.Ordering.{nat_cmp}
use Rattle.linear_formula.specs.Results.{renamed_column}
use Rattle.linear_formula.proofs.renaming.new_columns.Given as goal

abbrev pub invariant-loop-left : goal.invariant-loop-left
invariant-loop-left l =
    (l.left ≤ length l.map) × ((x : ℕ) → unwrap_or (get nat_cmp l.columns x) x ≡ renamed_column (drop l.left l.map) x)

abbrev pub decreases-loop-left : goal.decreases-loop-left
decreases-loop-left l = l.left

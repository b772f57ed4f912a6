use Rattle.std.proofs.Common.{◌≡◌, ◌≤◌, ◌+◌, drop, length}
use Rattle.std.specs.Prelude.{unwrap_or}
use Rattle.std.specs.BTreeMap.{get}
use Rattle.std.specs.Ordering.{nat_cmp}
use Rattle.linear_formula.specs.Results.{renamed_parts}
use Rattle.linear_formula.proofs.renaming.add_renamed.Given as goal

abbrev pub invariant-loop-left : goal.invariant-loop-left
invariant-loop-left l =
    (l.left ≤ length l.parts) × (l.sums.adds + l.left ≡ l.initial.sums.adds + length l.parts)
    × (l.sums.parts ≡ renamed_parts (λ x. unwrap_or (get nat_cmp l.columns x) x) (drop l.left l.parts))

abbrev pub decreases-loop-left : goal.decreases-loop-left
decreases-loop-left l = l.left

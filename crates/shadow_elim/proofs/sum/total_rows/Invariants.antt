use Rattle.std.proofs.Common.{◌≡◌, take, drop}
use Rattle.shadow_elim.specs.Sums.{first_wide, rows_of_sums}
use Rattle.shadow_elim.proofs.sum.total_rows.Given as goal

abbrev pub invariant-loop-sum : goal.invariant-loop-sum
invariant-loop-sum l =
    record { rows : l.rows ≡ rows_of_sums (take l.sum-index l.sums); first : first_wide l.sums ≡ first_wide (drop l.sum-index l.sums) }

use Rattle.std.proofs.Common.{ℕ, ◌<◌, get_or}
use Rattle.lia_solver.specs.steps.Entries.{sum_at}
use Rattle.shadow_elim.specs.RowSizes.{IsSized, AreLimited}
use Rattle.lia_solver.proofs.slight.sizes_of_all.Given as goal

abbrev pub invariant-loop-place : goal.invariant-loop-place
invariant-loop-place l =
    AreLimited l.sizes × ((k : ℕ) → k < l.place-index → IsSized (sum_at l.table (get_or l.places k 0)) l.sizes)

use Rattle.std.proofs.Common.{◌≡◌, ◌+◌, take}
use Rattle.lia_solver.specs.steps.Tables.{passed}
use Rattle.lia_solver.proofs.Lowers.{AreLowersTo}
use Rattle.lia_solver.proofs.eliminate.list_lowers.Given as goal

abbrev pub invariant-loop-place : goal.invariant-loop-place
invariant-loop-place l =
    AreLowersTo l.column l.table l.place l.places × (l.passed ≡ passed (l.column + 1) (take l.place l.table))

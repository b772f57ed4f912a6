use Rattle.std.proofs.Common.{◌≡◌, ◌+◌, length, map, take}
use Rattle.bolt_core.proofs.board.opened.Given as goal

abbrev pub invariant-loop-place : goal.invariant-loop-place
invariant-loop-place l =
    (l.table.summaries ≡ map (λ a. a.value) (take l.place l.kept)) × (l.table.room ≡ length l.kept + l.room)

use Rattle.std.proofs.Common.{ℕ, ◌<◌}
use Rattle.bolt_core.specs.Keeps.{IsEnd}
use Rattle.bolt_core.proofs.board.Board.ended.Given as goal

abbrev pub invariant-loop-place : goal.invariant-loop-place
invariant-loop-place l = (j : ℕ) → l.taken < j → j < l.place → IsEnd l.self.core l.id j → ⊥

use Rattle.std.proofs.Common.{◌≡◌, ℕ, ℤ, List, length}
use Rattle.lia_solver.specs.steps.Lines.{AreInPool}
use Rattle.lia_solver.proofs.Rechaining.{AreChainedTo}
use Rattle.lia_solver.proofs.table.chain.Given as goal

abbrev pub invariant-loop-place : goal.invariant-loop-place
invariant-loop-place l = (length l.heads ≡ length l.initial.heads) × ((pool : List (ℕ × ℤ)) → AreInPool pool l.initial.lines →
    AreChainedTo (length l.heads) pool l.initial.lines l.lines l.heads l.place)

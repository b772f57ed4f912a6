use Rattle.std.proofs.Common.{◌≡◌}
use Rattle.bolt_core.specs.States.{IsStateFor}
use Rattle.bolt_core.proofs.JobsTaken.{told_upto}
use Rattle.bolt_core.proofs.board.Board.hear.Given as goal

abbrev pub invariant-loop-number : goal.invariant-loop-number
invariant-loop-number l = record {
  told : l.state ≡ told_upto l.self.core l.number l.fn.state;
  state : IsStateFor l.self.graphs l.self.core.table l.state;
}

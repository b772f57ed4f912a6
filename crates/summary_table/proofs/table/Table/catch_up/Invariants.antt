use Rattle.std.proofs.Common.{◌≡◌, ◌+◌, take, length}
use Rattle.summary_table.proofs.table.Table.catch_up.Given as goal

abbrev pub invariant-loop-summary : goal.invariant-loop-summary
invariant-loop-summary l =
    record {
      room : l.self.room ≡ l.fn.self.room;
      known : l.known ≡ length l.fn.self.summaries;
      summaries : l.self.summaries ≡ take (l.known + l.summary-index) l.from.summaries;
    }

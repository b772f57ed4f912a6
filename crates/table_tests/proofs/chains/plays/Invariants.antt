use Rattle.std.proofs.Common.{◌≡◌, length}
use Rattle.table_tests.proofs.chains.plays.Given as goal

abbrev pub invariant-loop : goal.invariant-loop
invariant-loop l = (l.table.room ≡ 400) × (length l.table.summaries ≡ l.counter)

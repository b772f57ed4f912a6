use Rattle.std.proofs.Common.{◌≡◌, ◌++◌, drop}
use Rattle.call_bridge.specs.Rests.{entry_columns}
use Rattle.call_bridge.proofs.rest.entry_columns.Given as goal

abbrev pub invariant-loop-place : goal.invariant-loop-place
invariant-loop-place l = l.columns.items ++ entry_columns l.place (drop l.place l.args) ≡ entry_columns 0 l.args

use Rattle.std.proofs.Common.{◌≡◌, ◌<◌, take}
use Rattle.lia_solver.specs.steps.Buckets.{hash_of}
use Rattle.lia_solver.proofs.table.hash_of.Given as goal

abbrev pub invariant-loop-column : goal.invariant-loop-column
invariant-loop-column l = (l.hash ≡ hash_of (take l.column-index l.parts)) × (l.hash < 4294967296)

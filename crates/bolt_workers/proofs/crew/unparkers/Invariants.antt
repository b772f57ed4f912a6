use Rattle.std.proofs.Common.{◌≡◌, ◌≤◌, length, vec_len, vec_capacity}
use Rattle.bolt_workers.proofs.crew.unparkers.Given as goal

abbrev pub invariant-loop-desk : goal.invariant-loop-desk
invariant-loop-desk l = (length l.desks ≤ vec_capacity l.all) × (vec_len l.all ≡ l.desk-index)

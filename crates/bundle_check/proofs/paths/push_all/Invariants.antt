use Rattle.std.proofs.Common.{◌≡◌, ◌++◌}
use Rattle.bundle_check.proofs.paths.push_all.Given as goal

abbrev pub invariant-loop-edge : goal.invariant-loop-edge
invariant-loop-edge l = l.edges.items ≡ l.initial.edges.items ++ l.yielded

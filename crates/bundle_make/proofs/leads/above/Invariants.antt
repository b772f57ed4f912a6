use Rattle.std.proofs.Common.{◌-◌}
use Rattle.bundle_make.specs.steps.Leading.{IsOnWay}
use Rattle.bundle_make.proofs.leads.above.Given as goal

abbrev pub invariant-loop : goal.invariant-loop
invariant-loop l = IsOnWay l.board.core.nodes l.level l.id (l.own - l.counter) l.at

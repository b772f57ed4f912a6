use Rattle.std.proofs.Common.{◌≡◌, take}
use Rattle.abstract_path.specs.Routes.{last_crossing}
use Rattle.abstract_path.proofs.frontier.last_crossing.Given as goal

-- the last one of those that are passed
abbrev pub invariant-loop-place : goal.invariant-loop-place
invariant-loop-place l = last_crossing l.edges l.marked (take l.place l.path) ≡ l.last

use Rattle.std.proofs.Common.{ℕ, ◌+◌, ◌≡◌, length}
use Rattle.path_sweep.specs.steps.Walks.{IsWalk, left_from, left_in}
use Rattle.path_sweep.proofs.walk.Walk.advance.Given as goal

abbrev pub invariant-loop-self : goal.invariant-loop-self
invariant-loop-self l = record {
  walk : (main : ℕ) → IsWalk l.graphs.graphs main l.fn.self → IsWalk l.graphs.graphs main l.self;
  counted : l.self.counted ≡ l.fn.self.counted;
  found : length l.self.found.items ≡ length l.fn.self.found.items;
}

abbrev pub decreases-loop-self : goal.decreases-loop-self
decreases-loop-self l = left_from l.self.next + left_in l.self.levels.items

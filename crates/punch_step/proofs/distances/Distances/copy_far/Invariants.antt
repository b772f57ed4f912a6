use Rattle.std.proofs.Common.{◌≡◌, ◌<◌, ℕ, length}
use Rattle.std.specs.Prelude.{slice_index}
use Rattle.may_partition.specs.Parted.{parent}
use Rattle.punch_step.specs.steps.Following.{KeepsRest}
use Rattle.punch_step.proofs.distances.Distances.copy_far.Given as goal

abbrev pub invariant-loop-piece : goal.invariant-loop-piece
invariant-loop-piece l = record {
  rest : KeepsRest l.fn.self l.self;
  noted : l.self.noted ≡ l.fn.self.noted;
  fars : length l.self.reach.far.items ≡ l.piece;
  ways : length l.self.reach.way.items ≡ l.piece;
  far : (r : ℕ) → r < l.piece → slice_index l.self.reach.far.items r
      ≡ slice_index l.fn.self.reach.far.items (parent (length l.fn.self.reach.far.items) l.from r);
}

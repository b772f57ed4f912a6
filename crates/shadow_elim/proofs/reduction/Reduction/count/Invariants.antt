use Rattle.std.proofs.Common.{◌≡◌, ◌+◌, ◌≤◌, length, take, drop}
use Rattle.shadow_elim.specs.Reduction.{reduced_after}
use Rattle.shadow_elim.specs.steps.Lists.{staying}
use Rattle.shadow_elim.specs.steps.Making.{candidate_terms}
use Rattle.shadow_elim.proofs.reduction.Reduction.count.Given as goal

abbrev pub invariant-loop-place : goal.invariant-loop-place
invariant-loop-place l = record {
  count : l.count
      + length (reduced_after (candidate_terms (take l.place l.self-inside.rows.items))
      (candidate_terms (drop l.place l.self-inside.rows.items)))
      ≡ staying l.self-inside.rows.items;
  below : l.count ≤ l.place;
}

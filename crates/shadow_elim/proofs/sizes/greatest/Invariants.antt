use Rattle.std.proofs.Common.{ℕ, ◌≤◌, length}
use Rattle.linear_formula.specs.LinearSum.{max_coefficient}
use Rattle.shadow_elim.specs.RowSizes.{AreSized}
use Rattle.shadow_elim.proofs.sizes.greatest.Given as goal

abbrev pub invariant-loop-part : goal.invariant-loop-part
invariant-loop-part l = record {
  sizes : AreSized l.parts l.part-index l.greatest;
  limit : l.greatest ≤ max_coefficient;
  least : (n : ℕ) → AreSized l.parts (length l.parts) n → l.greatest ≤ n;
}

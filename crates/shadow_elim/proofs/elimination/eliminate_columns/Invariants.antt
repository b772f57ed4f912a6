use Rattle.std.proofs.Common.{◌≡◌, List, length}
use Rattle.linear_formula.specs.LinearSum.{LinearSum}
use Rattle.shadow_elim.specs.Stages.{terms_of, AreNumbered}
use Rattle.shadow_elim.proofs.Standing.{IsPassing, AreMadeRight}
use Rattle.shadow_elim.proofs.elimination.eliminate_columns.Given as goal

abbrev pub invariant-loop-place : goal.invariant-loop-place
invariant-loop-place l = record {
  passing : IsPassing l.columns l.place (terms_of l.initial.left.items) l.stages.items (terms_of l.left.items) l.lists.items;
  steps : (base : List LinearSum) → length base ≡ l.first → AreNumbered base l.initial.left.items →
      AreMadeRight base l.steps.items l.left.items l.lists.items;
}

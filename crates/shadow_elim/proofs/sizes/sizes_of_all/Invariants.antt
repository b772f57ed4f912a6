use Rattle.std.proofs.Common.{take}
use Rattle.std.specs.Prelude.{All, IsTrue}
use Rattle.linear_formula.specs.LinearSum.{is_term}
use Rattle.shadow_elim.specs.RowSizes.{IsSized, AreLimited, IsUpTo}
use Rattle.shadow_elim.specs.declared.sizes.Sizes.{Sizes}
use Rattle.shadow_elim.proofs.sizes.sizes_of_all.Given as goal

abbrev pub invariant-loop-row : goal.invariant-loop-row
invariant-loop-row l = record {
  limited : AreLimited l.sizes;
  sized : All (λ r. IsTrue (is_term r.term) × IsSized r.term l.sizes) (take l.row-index l.rows);
  least : (s : Sizes) → All (λ r. IsSized r.term s) l.rows → IsUpTo l.sizes s;
}

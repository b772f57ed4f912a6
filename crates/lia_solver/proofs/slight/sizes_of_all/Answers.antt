use Rattle.std.proofs.Common.{ℕ, get_or, below_more, arith, subst}
use Rattle.lia_solver.specs.steps.Entries.{sum_at}
use Rattle.shadow_elim.specs.RowSizes.{IsSized}
use Rattle.shadow_elim.proofs.FittingSums.{sized-more}
use Rattle.lia_solver.proofs.Summing.{listed-there, listed-place}
use Rattle.lia_solver.proofs.slight.sizes_of_all.Goals as goal

pub sizes_at-requires-clause-place : goal.sizes_at-requires-clause-place
sizes_at-requires-clause-place c =
    c.requires.places (get_or c.args.places.now c.loop-place.place-index 0)
    (listed-there c.args.places.now c.loop-place.place-index 0 c.loop-place-test.true)

pub loop-place-preserved : goal.loop-place-preserved
loop-place-preserved c = (
  c.larger-sizes.ensures.limited,
  below_more (λ (k : ℕ). IsSized (sum_at c.args.table.now (get_or c.args.places.now k 0)) c.larger-sizes.result) c.loop-place.place-index
      (λ k h. sized-more (sum_at c.args.table.now (get_or c.args.places.now k 0)) c.loop-place.sizes c.larger-sizes.result
      (c.loop-place.invariant.1 k h) c.larger-sizes.ensures.left)
      (sized-more (sum_at c.args.table.now (get_or c.args.places.now c.loop-place.place-index 0)) c.sizes_at.result c.larger-sizes.result
      c.sizes_at.ensures.sized c.larger-sizes.ensures.right),
)

pub returns-clause-sized : goal.returns-clause-sized
returns-clause-sized c = λ i k.
    let p = listed-place c.args.places.now i k in
    subst (λ (j : ℕ). IsSized (sum_at c.args.table.now j) c.loop-place.sizes) (p.2 0)
    (c.loop-place.invariant.1 p.0 (omega (arith, c.loop-place-test.false, p.1)))

use Rattle.std.proofs.Common.{◌≡◌, map, ap, arith, Option, None, ℕ}
use Rattle.std.proofs.Math.ListN.{replicate}
use Rattle.std.specs.Arc.{arc_value}
use Rattle.summary_table.specs.declared.keys.TheConstants.{KEYS}
use Rattle.summary_table.proofs.Chains.{by_copies, chained_begun}
use Rattle.summary_table.proofs.table.Table.with_room.Goals as goal

pub invariant_of-result : goal.invariant_of-result
invariant_of-result c =
    let s = c.in_ok-with_capacity in
    let n = c.in_ok-with_capacity-2 in
    let first : c.in_ok-vec.field-0.items ≡ replicate {A = Option ℕ} KEYS None =
    by_copies _ _ c.in_ok-vec.ensures.items_if_clones_equal (λ x k. k) in
    let last : c.in_ok-vec-2.field-0.items ≡ replicate {A = Option ℕ} KEYS None =
    by_copies _ _ c.in_ok-vec-2.ensures.items_if_clones_equal (λ x k. k) in (
      omega (arith, s.ensures.len),
      omega (arith, s.ensures.capacity),
      c.ranges.room.fits,
      omega (arith, n.ensures.capacity),
      chained_begun (map arc_value s.field-0.items) c.in_ok-vec.field-0.items c.in_ok-vec-2.field-0.items n.field-0.items
          (ap (map arc_value) s.ensures.items) first last n.ensures.items,
    )

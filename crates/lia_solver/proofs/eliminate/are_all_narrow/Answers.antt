use Rattle.std.proofs.Common.{◌∙◌, sym}
use Rattle.lia_solver.proofs.Summing.{all-narrow-more, not-upper}
use Rattle.lia_solver.proofs.eliminate.are_all_narrow.Goals as goal
use Rattle.lia_solver.proofs.eliminate.are_all_narrow.Goals.{else-is_upper-via-then-is_upper+in_ok-are_narrow+else-not-branch, else-is_upper-via-else-is_upper}

pub loop-upper-preserved : goal.loop-upper-preserved
loop-upper-preserved c =
    let test = c.is_upper.ensures in
    elim c.else-is_upper.branch [
      | else-is_upper-via-then-is_upper+in_ok-are_narrow+else-not-branch w ↦ all-narrow-more c.args.column c.args.table.now
          c.loop-upper.upper c.loop-upper.invariant
          (λ l p. w.in_ok-are_narrow.ensures.sums w.if-not-branch.false l (c.requires.lowers.all l p.lower_place p.below))
      | else-is_upper-via-else-is_upper w ↦ all-narrow-more c.args.column c.args.table.now c.loop-upper.upper
          c.loop-upper.invariant (λ l p. not-upper c.args.column c.args.table.now c.loop-upper.upper l (sym test ∙ w.if-is_upper.false)
          p)
    ]

pub sizes_of_all-sizes-requires-clause-places : goal.sizes_of_all-sizes-requires-clause-places
sizes_of_all-sizes-requires-clause-places c = λ i k. (c.requires.lowers.right i k).0

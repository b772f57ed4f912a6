use Rattle.std.proofs.Common.{FitsSigned, to_z, of_z, to_z-of_z, arith, rules, sym, ◌∙◌}
use Rattle.std.specs.Int.{w128}
use Rattle.lia_solver.specs.steps.Entries.{no_entry, sum_at}
use Rattle.lia_solver.proofs.FirstColumns.{bounding-named}
use Rattle.lia_solver.proofs.Narrowing.{small-more, small-narrow, small-cast}
use Rattle.lia_solver.proofs.narrow.are_small.Goals as goal
use Rattle.lia_solver.proofs.narrow.are_small.Goals.{else-first-from-via-then-first-from+else-not-is_small, else-first-from-via-else-first-from}

pub loop-place-preserved : goal.loop-place-preserved
loop-place-preserved c =
    let x = c.args.column in
    let es = c.args.table.now in
    let n = c.loop-place.place in
    elim c.else-first-from.branch [
      | else-first-from-via-then-first-from+else-not-is_small w ↦
          (let fits : FitsSigned w128 w.least.result = search rules in
          small-more x es n c.loop-place.invariant (small-cast x es n w.parts.result.now (to_z w128 (of_z w128 w.least.result))
          (w.parts.ensures no_entry) (to_z-of_z fits ∙ w.least.ensures no_entry) (w.is_small.ensures w.if-not-is_small.false)))
      | else-first-from-via-else-first-from w ↦ small-more x es n c.loop-place.invariant (λ b. absurd (w.if-first-from.false
          (c.first.ensures no_entry ∙ bounding-named x (sum_at es n).parts b ∙ sym c.from.ensures)))
    ]

pub returns : goal.returns
returns c = λ e.
    small-narrow c.args.column c.requires.0 c.args.table.now c.requires.1
    (λ i h b. c.loop-place.invariant i (omega (arith, h, c.loop-place-test.false, c.len-place-end.ensures)) b)

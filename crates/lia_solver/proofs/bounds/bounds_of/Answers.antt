use Rattle.std.proofs.Common.{◌<◌, ◌+◌, length, FitsSigned, to_z, of_z, to_z-of_z, arith, rules, sym, ap, subst, ◌∙◌}
use Rattle.std.specs.Int.{w128}
use Rattle.linear_formula.specs.LinearSum.{LinearSum}
use Rattle.lia_solver.specs.steps.Bounded.{with_row}
use Rattle.lia_solver.specs.steps.Entries.{no_entry, sum_at}
use Rattle.lia_solver.proofs.PairSumsInCode.{row-same}
use Rattle.lia_solver.proofs.Bounded.{AreBounds, bounds-more, bounds-skip, bounds-low, bounds-floor, bounds-high}
use Rattle.lia_solver.proofs.bounds.bounds_of.Goals as goal
use Rattle.lia_solver.proofs.bounds.bounds_of.Goals.{then-first-from, else-first-from}

pub returns-clause-low : goal.returns-clause-low
returns-clause-low c =
    bounds-low c.args.column c.args.at.now c.args.table.now c.loop-place.place c.loop-place.bounds
    (omega (arith, c.loop-place-test.false, c.len-place-end.ensures)) c.loop-place.invariant

pub returns-clause-floor : goal.returns-clause-floor
returns-clause-floor c =
    bounds-floor c.args.column c.args.at.now c.args.table.now c.loop-place.place c.loop-place.bounds
    (omega (arith, c.loop-place-test.false, c.len-place-end.ensures)) c.loop-place.invariant

pub returns-clause-high : goal.returns-clause-high
returns-clause-high c =
    bounds-high c.args.column c.args.at.now c.args.table.now c.loop-place.place c.loop-place.bounds
    (omega (arith, c.loop-place-test.false, c.len-place-end.ensures)) c.loop-place.invariant

pub loop-place-preserved : goal.loop-place-preserved
loop-place-preserved c =
    let x = c.args.column in
    let es = c.args.table.now in
    let n = c.loop-place.place in
    let inside : n < length es = omega (arith, c.loop-place-test.true, c.len-place-end.ensures) in
    elim c.if-first-from.branch [
      | then-first-from w ↦
          (let fits : FitsSigned w128 w.constant.result = search rules in
          let row = row-same w.parts.result.now (sum_at es n).parts (to_z w128 (of_z w128 w.constant.result)) (sum_at es n).constant
          (w.parts.ensures no_entry) (to_z-of_z fits ∙ w.constant.ensures no_entry) in
          subst (AreBounds x c.args.at.now es (n + 1)) (sym w.bounds-is)
          (bounds-more x c.args.at.now es n c.loop-place.bounds w.with_row-bounds.result inside c.loop-place.invariant
          (w.with_row-bounds.ensures ∙ ap (λ (t : LinearSum). with_row x c.args.at.now t c.loop-place.bounds) row)))
      | else-first-from w ↦ subst (AreBounds x c.args.at.now es (n + 1)) (sym w.bounds-is)
          (bounds-skip x c.args.at.now es n c.loop-place.bounds inside c.loop-place.invariant
          (λ e. w.if-first-from.false (c.first.ensures no_entry ∙ e ∙ sym c.from.ensures)))
    ]

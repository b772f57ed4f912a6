use Rattle.std.proofs.Common.{◌∙◌, ◌+◌, ◌<◌, length, arith, sym, ap, subst}
use Rattle.lia_solver.proofs.Lowers.{AreLowersTo, lowers-push, lowers-skip, below-apart, passed-one, passed-none, passed-limit}
use Rattle.lia_solver.proofs.eliminate.list_lowers.Goals as goal
use Rattle.lia_solver.proofs.eliminate.list_lowers.Goals.{then-not-starts_beyond+then-is_lower+in_ok-push, then-not-starts_beyond+else-is_lower, else-not-starts_beyond}

pub overflow_add-passed : goal.overflow_add-passed
overflow_add-passed c =
    omega (
      arith,
      c.loop-place.invariant.1,
      c.loop-place-test.true,
      c.len-place-end.ensures,
      c.len-place-end.type_inv,
      passed-limit (c.args.column + 1) c.args.table.now c.loop-place.place (omega (arith, c.loop-place-test.true, c.len-place-end.ensures)),
    )

pub loop-place-preserved : goal.loop-place-preserved
loop-place-preserved c =
    let x = c.args.column in
    let es = c.args.table.now in
    let n = c.loop-place.place in
    let inside : n < length es = omega (arith, c.loop-place-test.true, c.len-place-end.ensures) in
    let test = c.starts_beyond.ensures in
    elim c.if-not-starts_beyond.branch [
      | then-not-starts_beyond+then-is_lower+in_ok-push w ↦ (
        lowers-push x es n c.loop-place.places c.if-not-starts_beyond.places c.loop-place.invariant.0 inside
            (sym w.is_lower.ensures ∙ w.if-is_lower.true)
            (w.places-is ∙ w.in_ok-push.ensures),
        w.passed-is ∙ ap (λ k. k + 1) c.loop-place.invariant.1
            ∙ sym (passed-one (x + 1) es n inside (sym test ∙ w.if-not-starts_beyond.true)),
      )
      | then-not-starts_beyond+else-is_lower w ↦ (
        subst (AreLowersTo x es (n + 1)) (sym w.places-is)
            (lowers-skip x es n c.loop-place.places c.loop-place.invariant.0
            (sym w.is_lower.ensures ∙ w.if-is_lower.false)),
        w.passed-is ∙ ap (λ k. k + 1) c.loop-place.invariant.1
            ∙ sym (passed-one (x + 1) es n inside (sym test ∙ w.if-not-starts_beyond.true)),
      )
      | else-not-starts_beyond w ↦ (
        subst (AreLowersTo x es (n + 1)) (sym w.places-is)
            (lowers-skip x es n c.loop-place.places c.loop-place.invariant.0
            (below-apart x _ (sym test ∙ w.if-not-starts_beyond.false))),
        w.passed-is ∙ c.loop-place.invariant.1
            ∙ sym (passed-none (x + 1) es n inside (sym test ∙ w.if-not-starts_beyond.false)),
      )
    ]

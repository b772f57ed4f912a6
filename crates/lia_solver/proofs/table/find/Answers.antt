use Rattle.std.proofs.Common.{◌≡◌, ◌<◌, ◌-◌, true, false, length, arith, sym, ap, ◌∙◌, get_or}
use Rattle.shadow_elim.proofs.Staying.{same_parts-decides}
use Rattle.lia_solver.specs.steps.Buckets.{hash_of}
use Rattle.lia_solver.specs.steps.Lines.{parts_of_line}
use Rattle.lia_solver.proofs.Chains.{no_line, parts-map, finding-more}
use Rattle.lia_solver.proofs.table.find.Goals as goal
use Rattle.lia_solver.proofs.table.find.Goals.{else-line-hash-via-then-line-hash+else-eq, else-line-hash-via-else-line-hash}

pub returns-then-eq : goal.returns-then-eq
returns-then-eq c =
    let place = c.loop-past.past - 1 in
    let h : place < length c.args.lines.now = omega (arith, c.loop-past.invariant.limit, c.loop-past-test.true) in (
      h,
      parts-map c.args.pool.now c.args.lines.now place no_line h
          ∙ (same_parts-decides (parts_of_line c.args.pool.now (get_or c.args.lines.now place no_line)) c.args.parts.now).0
          (sym c.if-eq.ensures),
    )

pub loop-past-preserved : goal.loop-past-preserved
loop-past-preserved c =
    let pool = c.args.pool.now in
    let lines = c.args.lines.now in
    let place = c.loop-past.past - 1 in
    let h : place < length lines = omega (arith, c.loop-past.invariant.limit, c.loop-past-test.true) in
    finding-more c.args.chains pool lines c.loop-past.past place (get_or lines place no_line).before c.args.parts.now
    (omega (arith, c.loop-past-test.true))
    c.loop-past.invariant (c.requires.chained.chained.before place no_line h)
    (λ e. elim c.else-line-hash.branch [
      | else-line-hash-via-then-line-hash+else-eq w ↦ apart (w.if-eq.ensures
          ∙ (same_parts-decides (parts_of_line pool (get_or lines place no_line)) c.args.parts.now).1
          (sym (parts-map pool lines place no_line h) ∙ e))
      | else-line-hash-via-else-line-hash w ↦ w.if-line-hash.false (c.requires.chained.chained.lying.hash place no_line h ∙ ap hash_of e
          ∙ sym c.requires.hash)
    ]) where
      apart : false ≡ true → ⊥
      apart n = cc

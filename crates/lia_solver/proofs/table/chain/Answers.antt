use Rattle.std.proofs.Common.{◌≡◌, ◌<◌, ◌+◌, ℕ, length, get_or, set, arith, refl, sym, subst, ◌∙◌}
use Rattle.std.proofs.lemmas.List.{length-set}
use Rattle.lia_solver.proofs.Chains.{no_line}
use Rattle.lia_solver.proofs.Rechaining.{AreChainedTo, chained_line, chained-more, chained-all}
use Rattle.lia_solver.proofs.table.chain.Goals as goal

pub loop-place-preserved : goal.loop-place-preserved
loop-place-preserved c =
    let old = c.args.lines.now in
    let lines = c.loop-place.lines in
    let heads = c.loop-place.heads in
    let n = c.loop-place.place in
    let chain = c.chain_of-chain.result in
    let size : length (set heads chain (n + 1)) ≡ length heads = length-set heads chain (n + 1) in
    let inside : n < length old = omega (arith, c.loop-place-test.true, c.loop-place.auto.lines) in
    let some : 0 < length heads = omega (arith, c.requires.some, c.loop-place.auto.heads) in (
      size ∙ c.loop-place.auto.heads,
      λ pool p. subst (λ (k : ℕ). AreChainedTo k pool old (set lines n (chained_line (get_or lines n no_line) (get_or heads chain 0)))
          (set heads chain (n + 1)) (n + 1)) (sym size)
          (chained-more (length heads) pool old lines heads n no_line chain some refl inside p (c.loop-place.invariant.1 pool p)
          c.chain_of-chain.ensures.value),
    )

pub returns-clause-chained : goal.returns-clause-chained
returns-clause-chained c = λ pool p.
    chained-all pool c.args.lines.now c.loop-place.lines c.loop-place.heads c.loop-place.place
    (omega (arith, c.requires.some, c.loop-place.auto.heads)) (omega (arith, c.requires.limit, c.loop-place.auto.heads))
    (omega (arith, c.loop-place-test.false, c.loop-place.auto.place-end)) p (c.loop-place.invariant.1 pool p)

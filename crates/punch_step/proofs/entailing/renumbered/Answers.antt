use Rattle.std.proofs.Common.{◌≡◌, ◌≤◌, ◌+◌, List, ℕ, ◌∷◌, [], ◌++◌, length, take, arith, rules, sym, subst}
use Rattle.infeasible_cert.specs.declared.certificate.Certificate.{Certificate}
use Rattle.punch_step.proofs.EntailedByExtremes.{AreRenumbered, IsRenumbered, refuted_by_extremes, renumbered_all, renumbered_next}
use Rattle.punch_step.proofs.entailing.renumbered.Goals as goal

pub loop-proof-preserved : goal.loop-proof-preserved
loop-proof-preserved c =
    let proofs = c.args.proofs.now in let i = c.loop-proof.proof-index in
    let one = subst (λ (ns : List ℕ). IsRenumbered ns c.in-Some.count c.proof-item.result c.in_ok-renumbered.field-0)
    c.deref-in-loop-proof.ensures.value
    (record { refutes = c.in_ok-renumbered.ensures.refutes; terms = c.in_ok-renumbered.ensures.terms }) in
    subst (λ (ds : List Certificate). AreRenumbered c.push.new.self.items c.in-Some.count (take (i + 1) proofs) ds)
    (sym c.in_ok-push-2.ensures.items)
    (renumbered_next c.push.new.self.items c.in-Some.count proofs c.loop-proof.all.items i c.proof-item.result _ c.loop-proof-test.true
    c.proof-item.is c.loop-proof.invariant one)

pub returns : goal.returns
returns c = λ all right outlines refuted.
    let n = c.args.outline.now.count in let ns = c.args.outline.now.numbers.items in
    let proofs = c.args.proofs.now in let moved = c.loop-proof.all.items in
    let past : length proofs ≤ c.loop-proof.proof-index = omega arith in
    let numbers : c.push.new.self.items ≡ ns ++ n ∷ [] = search rules in
    let count : c.in-Some.count ≡ n + 1 = search rules in
    refuted_by_extremes ns n c.args.outline.now.cube.atoms all right proofs moved outlines.count outlines.extremes
    (subst (λ (ms : List ℕ). AreRenumbered ms (n + 1) proofs moved) numbers
    (subst (λ (k : ℕ). AreRenumbered c.push.new.self.items k proofs moved) count
    (renumbered_all c.push.new.self.items c.in-Some.count proofs moved c.loop-proof.proof-index past c.loop-proof.invariant)))
    refuted

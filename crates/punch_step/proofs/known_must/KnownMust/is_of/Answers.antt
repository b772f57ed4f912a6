use Rattle.std.proofs.Common.{◌≡◌, List, ℕ, rules, sym, subst, ◌∙◌}
use borrow.Author.Tests.{eqb-true}
use Rattle.std.specs.Cmp.{unsigned_Decides}
use Rattle.std.specs.Cmp.Lexicographic.{pointwise_decides}
use Rattle.punch_step.specs.KnownMusts.{IsKept}
use Rattle.punch_step.specs.declared.known_must.MustParts.{MustParts}
use Rattle.punch_step.proofs.KeptMusts.{alike_kept}
use Rattle.punch_step.proofs.known_must.KnownMust.is_of.Goals.{then-self-before, else-self-before}
use Rattle.punch_step.proofs.known_must.KnownMust.is_of.Goals as goal

pub returns-then-eq : goal.returns-then-eq
returns-then-eq c d = elim c.if-self-before.branch [
  | then-self-before w ↦
      let k = c.self.inside in
      let same_before : k.before ≡ c.args.before = search rules in
      let same_args : k.args ≡ c.args.args.now = sym w.as_slice.ensures ∙ (pointwise_decides unsigned_Decides _ _).0
      (sym w.eq.ensures ∙ (sym w.value-is ∙ c.if-eq.true)) in
      let of_args = subst (λ (xs : List ℕ). IsKept k.must xs k.before k.parts) same_args c.self.invariant in
      let of_before = subst (λ (n : ℕ). IsKept k.must c.args.args.now n k.parts) same_before of_args in
      subst (λ (p : MustParts). IsKept c.args.must.now c.args.args.now c.args.before p) c.self.view_is
      (alike_kept k.must c.args.must.now (c.are_alike.ensures d) c.args.args.now c.args.before k.parts of_before)
  | else-self-before w ↦
      absurd (w.if-self-before.false (eqb-true c.self.inside.before c.args.before (sym (sym c.if-eq.true ∙ w.value-is))))
]

use Rattle.std.proofs.Common.{suc, ◌≡◌, ◌+◌, ◌++◌, ◌∷◌, List, [], take, arith, sym, subst, ap, ◌∙◌}
use Rattle.std.specs.Prelude.{flat_map}
use Rattle.std.proofs.Math.Seq.{take-suc}
use Rattle.std.proofs.lemmas.List.{take_all, flat_map_more}
use Rattle.linear_formula.specs.declared.formula.Atom.{Atom}
use Rattle.linear_formula.specs.declared.formula.Cube.{Cube}
use Rattle.linear_formula.specs.LinearSum.{valuation}
use Rattle.linear_formula.specs.Formula.{HoldsAll}
use Rattle.linear_formula.proofs.JoinedRows.{holds_both, holds_parts, holds_in, not_true}
use Rattle.linear_formula.proofs.joined.JoinedCube.holds.Goals as goal

pub returns-then-not-hold_all : goal.returns-then-not-hold_all
returns-then-not-hold_all c = (
  λ h. absurd (not_true h),
  λ h. let v = valuation c.args.at.now in
      let items = c.as_slice-block-items.result.now in
      let all : HoldsAll v (c.self.inside.blocks ++ c.self.inside.own) =
      subst (λ (q : Cube). HoldsAll v q.atoms) (sym c.self.view_is) h in
      let blocks = subst (HoldsAll v) (sym c.as_slice-block-items.ensures)
      (holds_parts v c.self.inside.blocks c.self.inside.own all).0 in
      let here = holds_in v items c.loop-block.block-index c.block-item.result c.loop-block-test.true blocks in
      let block = subst (HoldsAll v) (sym c.as_slice.ensures.value) (subst (HoldsAll v) (sym c.block-item.is) here) in
      absurd (not_true (sym c.if-not-hold_all.true ∙ c.hold_all.ensures.1 block)),
)

pub loop-block-preserved : goal.loop-block-preserved
loop-block-preserved c =
    let v = valuation c.args.at.now in
    let items = c.as_slice-block-items.result.now in
    let i = c.loop-block.block-index in
    let b = c.block-item.result in
    let here : HoldsAll v b = subst (HoldsAll v) c.as_slice.ensures.value (c.hold_all.ensures.0 c.if-not-hold_all.false) in
    let one : suc i ≡ i + 1 = omega (arith) in
    let next : take i items ++ b ∷ [] ≡ take (i + 1) items =
    ap (λ x. take i items ++ x ∷ []) c.block-item.is ∙ sym (take-suc items i b c.loop-block-test.true)
    ∙ ap (λ n. take n items) one in
    subst (λ (bs : List (List Atom)). HoldsAll v (flat_map (λ (q : List Atom). q) bs)) next
    (subst (HoldsAll v) (flat_map_more (λ (q : List Atom). q) [] (take i items) b)
    (holds_both v (flat_map (λ (q : List Atom). q) (take i items)) b c.loop-block.invariant here))

pub returns : goal.returns
returns c = (
  λ h. let v = valuation c.args.at.now in
      let items = c.as_slice-block-items.result.now in
      let bs = subst (λ (l : List (List Atom)). HoldsAll v (flat_map (λ (q : List Atom). q) l))
      (take_all c.loop-block.block-index items c.loop-block-test.false) c.loop-block.invariant in
      let blocks = subst (HoldsAll v) c.as_slice-block-items.ensures bs in
      let own = subst (HoldsAll v) c.as_slice-2.ensures.value (c.hold_all-2.ensures.0 h) in
      subst (λ (q : Cube). HoldsAll v q.atoms) c.self.view_is
      (holds_both v c.self.inside.blocks c.self.inside.own blocks own),
  λ h. let v = valuation c.args.at.now in
      let all : HoldsAll v (c.self.inside.blocks ++ c.self.inside.own) =
      subst (λ (q : Cube). HoldsAll v q.atoms) (sym c.self.view_is) h in
      c.hold_all-2.ensures.1 (subst (HoldsAll v) (sym c.as_slice-2.ensures.value)
      (holds_parts v c.self.inside.blocks c.self.inside.own all).1),
)

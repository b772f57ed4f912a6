use Rattle.std.proofs.Common.{◌≡◌, List, ◌++◌, [], refl, sym, ap, subst, ◌∙◌}
use Rattle.std.specs.Prelude.{IsTrue}
use Rattle.linear_formula.specs.declared.formula.Atom.{Atom}
use Rattle.linear_formula.specs.Formula.{are_terms}
use Rattle.linear_formula.specs.steps.Outlines.{Outlines}
use Rattle.linear_formula.proofs.TermAtoms.{are_terms-append, are_terms-parts}
use Rattle.linear_formula.proofs.shared.SharedCube.closed_with.Goals as goal

pub invariant_of-result : goal.invariant_of-result
invariant_of-result c =
    let s = c.self.inside in
    let atoms = c.copy_onto.new.out in
    let own : c.as_slice.result.now ≡ atoms = c.as_slice.ensures.value in
    let blocks : c.in_ok-blocks.blocks ≡ s.blocks ++ atoms =
    c.in_ok-blocks.ensures ∙ ap (λ (b : List Atom). s.blocks ++ b) c.in_ok-block.ensures in
    let terms : IsTrue (are_terms (s.blocks ++ atoms)) =
    are_terms-append s.blocks atoms (are_terms-parts s.blocks s.last.items c.self.invariant.0).0 c.as_slice.ensures.terms in
    let outline = c.in_ok-outline.ensures s.blocks c.self.invariant.1 in (
      rw (c.new-2.ensures.items, blocks) (are_terms-append (s.blocks ++ atoms) [] terms refl),
      subst (λ (rows : List Atom). Outlines c.in_ok-outline.outline rows) (sym blocks)
          (subst (λ (rows : List Atom). Outlines c.in_ok-outline.outline (s.blocks ++ rows)) own outline),
    )

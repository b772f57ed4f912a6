use Rattle.std.proofs.Common.{◌++◌, ◌∷◌, [], List, subst}
use Rattle.std.specs.Prelude.{IsTrue}
use Rattle.linear_formula.specs.declared.formula.Atom.{Atom}
use Rattle.linear_formula.specs.LinearSum.{is_term}
use Rattle.linear_formula.specs.Formula.{are_terms}
use Rattle.linear_formula.proofs.TermAtoms.{are_terms-append, are_terms-parts, are_terms-push}
use Rattle.linear_formula.proofs.shared.SharedCube.push.Goals as goal

with_one_more : (blocks : List Atom) (last : List Atom) (a : Atom) →
    IsTrue (are_terms (blocks ++ last)) → IsTrue (is_term a.term) →
    IsTrue (are_terms (blocks ++ (last ++ a ∷ [])))
with_one_more blocks last a h k =
    let parts = are_terms-parts blocks last h in
    are_terms-append blocks (last ++ a ∷ []) parts.0 (are_terms-push last a parts.1 k)

pub invariant_of-self-then-len-ge-BLOCK : goal.invariant_of-self-then-len-ge-BLOCK
invariant_of-self-then-len-ge-BLOCK c = (
  rw c.in_ok-push.ensures.items (with_one_more c.self.inside.blocks c.self.inside.last.items c.args.atom
      c.self.invariant.0 (subst (λ (a : Atom). IsTrue (is_term a.term)) c.atom.ensures c.parts.ensures.kept)),
  c.self.invariant.1,
)

pub invariant_of-self-else-len-ge-BLOCK : goal.invariant_of-self-else-len-ge-BLOCK
invariant_of-self-else-len-ge-BLOCK c = (
  rw c.in_ok-push.ensures.items (with_one_more c.self.inside.blocks c.self.inside.last.items c.args.atom
      c.self.invariant.0 (subst (λ (a : Atom). IsTrue (is_term a.term)) c.atom.ensures c.parts.ensures.kept)),
  c.self.invariant.1,
)

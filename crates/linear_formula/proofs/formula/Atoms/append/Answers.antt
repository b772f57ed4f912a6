use Rattle.std.proofs.Common.{subst, sym, List}
use Rattle.std.specs.Prelude.{IsTrue}
use Rattle.linear_formula.specs.declared.formula.Atom.{Atom}
use Rattle.linear_formula.specs.Formula.{are_terms}
use Rattle.linear_formula.proofs.TermAtoms.{are_terms-append}
use Rattle.linear_formula.proofs.formula.Atoms.append.Goals as goal

pub invariant_of-self-2 : goal.invariant_of-self-2
invariant_of-self-2 c =
    rw c.in_ok-append.ensures.items (are_terms-append c.self.inside.items.items c.into_vec-items.result.items c.self.invariant
    (subst (λ (atoms : List Atom). IsTrue (are_terms atoms)) (sym c.into_vec-items.ensures.value) c.into_vec-items.ensures.terms))

use Rattle.std.proofs.Common.{List, subst, ◌∙◌, sym}
use Rattle.std.specs.Prelude.{IsTrue}
use Rattle.std.specs.Option.{option_to_list}
use Rattle.linear_formula.specs.Formula.{are_terms}
use Rattle.linear_formula.specs.declared.formula.Atom.{Atom}
use Rattle.linear_formula.proofs.TermAtoms.{are_terms-parts}
use Rattle.lia_solver.proofs.entails.without_last.Goals as goal

pub from_vec-requires : goal.from_vec-requires
from_vec-requires c =
    (are_terms-parts c.pop.new.self.items (option_to_list c.pop.result) (subst (λ (as_ : List Atom). IsTrue (are_terms as_))
    (sym c.into_vec-atoms.ensures.value ∙ c.pop.ensures.items) c.into_vec-atoms.ensures.terms)).0

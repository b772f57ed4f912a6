use Rattle.std.proofs.Common.{List, take, sym, subst, ap, ◌∙◌}
use Rattle.std.specs.Prelude.{IsTrue}
use Rattle.linear_formula.specs.Formula.{are_terms}
use Rattle.linear_formula.specs.declared.formula.Atom.{Atom}
use Rattle.path_sweep.proofs.Measuring.{take_terms}
use Rattle.path_sweep.proofs.walk.front.Goals as goal

pub from_vec-requires : goal.from_vec-requires
from_vec-requires c =
    subst (λ (xs : List Atom). IsTrue (are_terms xs))
    (sym (c.truncate.ensures.items ∙ ap (take c.args.count) c.into_vec-items.ensures.value))
    (take_terms c.args.count c.args.cube.atoms c.into_vec-items.ensures.terms)

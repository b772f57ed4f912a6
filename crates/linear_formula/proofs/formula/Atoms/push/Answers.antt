use Rattle.linear_formula.proofs.TermAtoms.{are_terms-push}
use Rattle.linear_formula.proofs.formula.Atoms.push.Goals as goal

pub invariant_of-self-2 : goal.invariant_of-self-2
invariant_of-self-2 c =
    rw c.in_ok-push.ensures.items (are_terms-push c.self.inside.items.items c.args.atom c.self.invariant c.parts.ensures.kept)

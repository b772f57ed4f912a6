use Rattle.std.proofs.Common.{◌++◌}
use Rattle.linear_formula.proofs.TermAtoms.{are_terms-append, are_terms-parts}
use Rattle.linear_formula.proofs.shared.SharedCube.joined.Goals as goal

pub new-requires : goal.new-requires
new-requires c =
    let parts = are_terms-parts c.self.inside.blocks c.self.inside.last.items c.self.invariant.0 in
    rw (c.in_ok-blocks.ensures, c.in_ok-append.ensures, c.in_ok-own.ensures, c.deref.ensures.value)
    (are_terms-append c.self.inside.blocks (c.self.inside.last.items ++ c.args.other.atoms) parts.0
    (are_terms-append c.self.inside.last.items c.args.other.atoms parts.1 c.as_slice.ensures.terms))

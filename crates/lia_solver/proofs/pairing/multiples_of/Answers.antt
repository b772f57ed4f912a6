use Rattle.std.proofs.Common.{sym, subst}
use Rattle.linear_formula.specs.steps.Order.{AllWithin}
use Rattle.linear_formula.proofs.Limits.{IsTerm-from_test}
use Rattle.lia_solver.specs.steps.Entries.{sum_at, no_entry}
use Rattle.lia_solver.proofs.pairing.multiples_of.Goals as goal

pub first_size-upper-requires-clause-limits : goal.first_size-upper-requires-clause-limits
first_size-upper-requires-clause-limits c =
    subst (λ l. AllWithin l) (sym (c.parts.ensures no_entry)) (IsTerm-from_test (sum_at c.args.table.now c.args.upper)
    (c.requires.terms.greatest c.args.upper c.requires.upper_place)).within.coefficients

pub first_size-lower-requires-clause-limits : goal.first_size-lower-requires-clause-limits
first_size-lower-requires-clause-limits c =
    subst (λ l. AllWithin l) (sym (c.parts-2.ensures no_entry)) (IsTerm-from_test (sum_at c.args.table.now c.args.lower)
    (c.requires.terms.greatest c.args.lower c.requires.lower_place)).within.coefficients

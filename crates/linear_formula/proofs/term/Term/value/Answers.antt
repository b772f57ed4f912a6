use Rattle.std.proofs.Common.{sym, subst}
use Rattle.linear_formula.specs.steps.Order.{AllWithin}
use Rattle.linear_formula.proofs.Limits.{IsTerm-from_test}
use Rattle.linear_formula.proofs.term.Term.value.Goals as goal

pub value_of_sum-requires-clause-limits : goal.value_of_sum-requires-clause-limits
value_of_sum-requires-clause-limits c =
    subst (λ l. AllWithin l) (sym c.parts.ensures.value) (IsTerm-from_test c.args.self.now c.parts.ensures.kept).within.coefficients

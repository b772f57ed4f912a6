use Rattle.std.proofs.Common.{arith, ap, sym, ◌∙◌, subst}
use Rattle.linear_formula.specs.steps.Order.{AllWithin}
use Rattle.linear_formula.proofs.Limits.{IsTerm-from_test}
use Rattle.linear_formula.proofs.Finishing.{constant_is}
use Rattle.shadow_elim.specs.Division.{parts_divisor, divided_parts, ceiling_quotient}
use Rattle.shadow_elim.proofs.Dividing.{is_term-divided}
use Rattle.punch_step.proofs.sums.tighten.Goals as goal

pub parts_divisor-divisor-requires : goal.parts_divisor-divisor-requires
parts_divisor-divisor-requires c =
    subst (λ l. AllWithin l) (sym c.parts.ensures.value) (IsTerm-from_test c.args.term c.parts.ensures.kept).within.coefficients

pub new-requires : goal.new-requires
new-requires c =
    is_term-divided c.parts_divisor-divisor.result c.args.term c.from_vec.result c.divide_up-constant.result (omega arith)
    (c.parts_divisor-divisor.ensures ∙ ap parts_divisor c.parts.ensures.value) c.parts.ensures.kept
    (c.from_vec.ensures ∙ c.in_ok-items.ensures ∙ ap (divided_parts c.parts_divisor-divisor.result) c.parts-2.ensures.value)
    (c.divide_up-constant.ensures ∙ ap (λ z. ceiling_quotient z c.parts_divisor-divisor.result)
    (constant_is c.args.term c.constant.result c.constant.ensures.value c.constant.ensures.kept))

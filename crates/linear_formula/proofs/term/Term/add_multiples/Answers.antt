use Rattle.std.proofs.Common.{◌∷◌, [], pos, to_z, of_z, sym, subst, ap, ◌∙◌}
use Rattle.std.specs.Int.{w128}
use Rattle.std.specs.Prelude.{IsTrue}
use Rattle.std.proofs.lemmas.Result.{IfOk-weaker}
use Rattle.linear_formula.specs.LinearSum.{LinearSum, is_within, value_of}
use Rattle.linear_formula.specs.steps.Order.{InOrder, AllWithin}
use Rattle.linear_formula.proofs.Limits.{IsTerm-from_test}
use Rattle.linear_formula.proofs.Values.{value-combination}
use Rattle.linear_formula.proofs.Finishing.{combination-both, both_same, first_is, constant_is}
use Rattle.linear_formula.proofs.term.Term.add_multiples.Goals as goal

pub both-requires-clause-order : goal.both-requires-clause-order
both-requires-clause-order c =
    subst (λ l. InOrder 0 l) (sym c.parts.ensures.value) (IsTerm-from_test c.args.right.now c.parts.ensures.kept).order

pub both-requires-clause-limits : goal.both-requires-clause-limits
both-requires-clause-limits c =
    subst (λ l. AllWithin l) (sym c.parts.ensures.value) (IsTerm-from_test c.args.right.now c.parts.ensures.kept).within.coefficients

pub returns-clause-value : goal.returns-clause-value
returns-clause-value c =
    IfOk-weaker c.both.result _ _ (λ t k. k ∙ both_same c.args.first (to_z w128 (of_z w128 c.from.result)) c.args.left.now c.args.second
    (to_z w128 (of_z w128 c.from-2.result)) c.args.right.now c.parts.result.now (to_z w128 (of_z w128 c.constant-constant.result))
    (first_is c.args.first c.from.result c.ranges.first c.from.ensures) (first_is c.args.second c.from-2.result c.ranges.second
    c.from-2.ensures)
    c.parts.ensures.value (constant_is c.args.right.now c.constant-constant.result c.constant-constant.ensures.value
    c.constant-constant.ensures.kept)
    ∙ combination-both c.args.first c.args.left.now c.args.second c.args.right.now) c.both.ensures.value

pub returns-clause-law : goal.returns-clause-law
returns-clause-law c =
    IfOk-weaker c.both.result _ _ (λ t k v. ap (value_of v) (k ∙ both_same c.args.first (to_z w128 (of_z w128 c.from.result))
    c.args.left.now
    c.args.second (to_z w128 (of_z w128 c.from-2.result)) c.args.right.now c.parts.result.now
    (to_z w128 (of_z w128 c.constant-constant.result))
    (first_is c.args.first c.from.result c.ranges.first c.from.ensures) (first_is c.args.second c.from-2.result c.ranges.second
    c.from-2.ensures)
    c.parts.ensures.value (constant_is c.args.right.now c.constant-constant.result c.constant-constant.ensures.value
    c.constant-constant.ensures.kept)
    ∙ combination-both c.args.first c.args.left.now c.args.second c.args.right.now) ∙ value-combination v ((c.args.first, c.args.left.now)
    ∷ (c.args.second, c.args.right.now) ∷ []) (pos 0)) c.both.ensures.value

pub returns-clause-wide : goal.returns-clause-wide
returns-clause-wide c = λ w h.
    c.both.ensures.wide w (subst (λ (u : LinearSum). IsTrue (is_within u))
    (sym (both_same c.args.first (to_z w128 (of_z w128 c.from.result)) c.args.left.now c.args.second (to_z w128 (of_z w128 c.from-2.result))
    c.args.right.now c.parts.result.now (to_z w128 (of_z w128 c.constant-constant.result))
    (first_is c.args.first c.from.result c.ranges.first c.from.ensures) (first_is c.args.second c.from-2.result c.ranges.second
    c.from-2.ensures)
    c.parts.ensures.value (constant_is c.args.right.now c.constant-constant.result c.constant-constant.ensures.value
    c.constant-constant.ensures.kept)
    ∙ combination-both c.args.first c.args.left.now c.args.second c.args.right.now)) h)

use Rattle.std.proofs.Common.{rules, FitsSigned, to_z-of_z, ◌≡◌, pos, to_z, of_z, sym, subst, ap, ◌∙◌, refl}
use Rattle.std.specs.Int.{w64, w128}
use Rattle.std.proofs.lemmas.Result.{IfOk-weaker}
use Rattle.linear_formula.specs.steps.Order.{InOrder, AllWithin}
use Rattle.linear_formula.specs.Results.{combination, plus_multiple}
use Rattle.linear_formula.proofs.Limits.{IsTerm-from_test}
use Rattle.linear_formula.proofs.Finishing.{both_same, both-once, constant_is, first_is}
use Rattle.linear_formula.proofs.term.Term.+combine_in_turn.Goals as goal

pub both-requires-clause-order : goal.both-requires-clause-order
both-requires-clause-order n c =
    subst (λ l. InOrder 0 l) (sym c.parts.ensures.value) (IsTerm-from_test c.in_ok-sum.sum c.parts.ensures.kept).order

pub both-requires-clause-limits : goal.both-requires-clause-limits
both-requires-clause-limits n c =
    subst (λ l. AllWithin l) (sym c.parts.ensures.value) (IsTerm-from_test c.in_ok-sum.sum c.parts.ensures.kept).within.coefficients

pub returns-clause-value : goal.returns-clause-value
returns-clause-value n c =
    let m = c.in-Some.summand.now.0 in
    let t = c.in-Some.summand.now.1 in
    let u = c.in_ok-sum.sum in
    let k = IsTerm-from_test u c.parts.ensures.kept in
    let f : FitsSigned w64 m = search rules in
    let rest = c.in-Some.rest.now in
    let given : to_z w64 (of_z w64 c.args.constant) ≡ c.args.constant = to_z-of_z c.ranges.constant in
    let behind : u ≡ combination rest c.args.constant = c.in_ok-sum.ensures.value ∙ ap (combination rest) given in
    let same = both_same m (to_z w128 (of_z w128 c.from-2.result)) t (pos 1) (pos 1) u c.parts.result.now
    (to_z w128 (of_z w128 c.constant.result)) (first_is m c.from-2.result f c.from-2.ensures) refl c.parts.ensures.value
    (constant_is u c.constant.result c.constant.ensures.value c.constant.ensures.kept) ∙ both-once m t u k in
    IfOk-weaker c.both.result _ _ (λ s e. e ∙ same ∙ ap (plus_multiple m t) behind
    ∙ sym (ap (λ ss. combination ss c.args.constant) c.in-Some.ensures.cases.0)) c.both.ensures.value

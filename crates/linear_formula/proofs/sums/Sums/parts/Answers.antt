use Rattle.std.proofs.Common.{◌<◌, ◌^◌, arith, subst, sym, ap, ◌∙◌, refl, unsigned_abs, to_z-of_z, FitsSigned, rules}
use Rattle.std.specs.Int.{w128}
use Rattle.std.proofs.lemmas.Result.{err_from_is_err_and}
use Rattle.linear_formula.specs.steps.Exact.{exact_parts}
use Rattle.linear_formula.specs.steps.Gathered.{Gathered}
use Rattle.linear_formula.specs.steps.Order.{InOrder}
use Rattle.linear_formula.proofs.Exits.{was_wide}
use Rattle.linear_formula.proofs.Gathering.{InOrder-exact, listing-steps, listing-stops, listing-ends}
use Rattle.linear_formula.proofs.sums.Sums.parts.Goals as goal

pub returns-in_default-clause-wide : goal.returns-in_default-clause-wide
returns-in_default-clause-wide c = λ w.
    listing-stops c.args.self.now.adds c.args.self.now.parts c.loop-column.out.items (c.in-Some.column.now, c.in-Some.sum.now)
    c.loop-column.column-iterator c.next.new.self c.loop-column.invariant c.in-Some.ensures.steps (omega (arith, c.in_default.ensures))

pub loop-column-preserved : goal.loop-column-preserved
loop-column-preserved c =
    listing-steps c.args.self.now.adds c.args.self.now.parts c.loop-column.out.items c.push_part.new.out.items (
      c.in-Some.column.now,
      c.in-Some.sum.now,
    ) c.loop-column.column-iterator c.next.new.self _ _ c.loop-column.invariant c.in-Some.ensures.steps refl (let f : FitsSigned w128
    c.in-Some-value.coefficient = search rules in to_z-of_z f ∙ c.in-Some-value.ensures) c.in_ok-push_part.ensures.items
    c.in_ok-push_part.ensures.limit

pub returns-in_err-push_part-clause-wide : goal.returns-in_err-push_part-clause-wide
returns-in_err-push_part-clause-wide c = λ w.
    let p = err_from_is_err_and c.from_residual-in_err-push_part.result c.from_residual-in_err-push_part.ensures.1 in
    let was = was_wide c.push_part.result c.from_residual-in_err-push_part.result c.in_err-push_part.field-0.0 p.0 c.in_err-push_part.was
    p.1 p.2 w in
    listing-stops c.args.self.now.adds c.args.self.now.parts c.loop-column.out.items (c.in-Some.column.now, c.in-Some.sum.now)
    c.loop-column.column-iterator c.next.new.self c.loop-column.invariant c.in-Some.ensures.steps
    (subst (λ z. 2 ^ 40 < unsigned_abs z) (let f : FitsSigned w128 c.in-Some-value.coefficient = search rules in to_z-of_z f
    ∙ c.in-Some-value.ensures) (c.push_part.ensures.wide was))

pub returns-clause-order : goal.returns-clause-order
returns-clause-order c =
    let o : InOrder 0 (exact_parts c.self.inside.sums.entries) = InOrder-exact c.self.inside.adds 0 c.self.inside.sums.entries
    c.self.invariant
    in
    let e = listing-ends c.args.self.now.adds c.args.self.now.parts c.loop-column.out.items c.loop-column.column-iterator
    c.loop-column.invariant c.in-None.ensures.steps.0 in
    subst (λ l. InOrder 0 l) (ap (λ (g : Gathered). g.parts) c.self.view_is ∙ sym e) o

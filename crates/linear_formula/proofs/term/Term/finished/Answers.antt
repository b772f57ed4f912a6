use Rattle.std.proofs.Common.{◌≡◌, ℤ, to_z, of_z, arith, sym, subst, to_z-of_z}
use Rattle.std.specs.Prelude.{IsTrue}
use Rattle.std.specs.Int.{w128}
use Rattle.std.proofs.lemmas.Int.{ints}
use Rattle.linear_formula.specs.LinearSum.{is_term}
use Rattle.linear_formula.proofs.Limits.{test-from_IsTerm}
use Rattle.linear_formula.proofs.term.Term.finished.Goals as goal

pub invariant_of-result : goal.invariant_of-result
invariant_of-result c =
    let e : to_z w128 (of_z w128 c.args.constant) ≡ c.args.constant = to_z-of_z c.ranges.constant in
    subst (λ (z : ℤ). IsTrue (is_term (record { parts = c.args.items.items; constant = z }))) (sym e)
    (test-from_IsTerm (record { parts = c.args.items.items; constant = c.args.constant }) (record {
      order = c.requires.order;
      within = record {
        count = omega arith;
        coefficients = c.requires.limits;
        constant_limit = omega (arith, ints);
      };
    }))

pub returns-clause-kept : goal.returns-clause-kept
returns-clause-kept c =
    let e : to_z w128 (of_z w128 c.args.constant) ≡ c.args.constant = to_z-of_z c.ranges.constant in
    subst (λ (z : ℤ). IsTrue (is_term (record { parts = c.args.items.items; constant = z }))) (sym e)
    (test-from_IsTerm (record { parts = c.args.items.items; constant = c.args.constant }) (record {
      order = c.requires.order;
      within = record {
        count = omega arith;
        coefficients = c.requires.limits;
        constant_limit = omega (arith, ints);
      };
    }))

use Rattle.std.proofs.Common.{◌≡◌, ◌≤◌, ◌^◌, pos, ◌-ℤ◌, to_z, of_z, arith, sym, subst, ap, ◌∙◌, unsigned_abs}
use Rattle.std.specs.Int.{w128}
use Rattle.std.specs.Prelude.{IsTrue}
use Rattle.std.proofs.lemmas.Int.{ints}
use Rattle.linear_formula.specs.LinearSum.{LinearSum, is_term, value_of}
use Rattle.linear_formula.specs.Results.{negated_parts, negated}
use Rattle.linear_formula.proofs.Limits.{IsTerm, IsTerm-from_test, test-from_IsTerm}
use Rattle.linear_formula.proofs.Values.{value-negated}
use Rattle.linear_formula.proofs.Finishing.{SameSum, sum_same, one_less, negated-is, IsTerm-negated}
use Rattle.linear_formula.proofs.term.Term.negate.Goals as goal

pub negate-requires : goal.negate-requires
negate-requires c =
    (IsTerm-from_test (record { parts = c.self.inside.parts; constant = c.self.inside.constant }) c.self.invariant).within.coefficients

pub invariant_of-self : goal.invariant_of-self
invariant_of-self c =
    let t = c.args.self.now in
    let k : IsTerm (record { parts = c.self.inside.parts; constant = c.self.inside.constant }) = IsTerm-from_test
    (record { parts = c.self.inside.parts; constant = c.self.inside.constant }) c.self.invariant in
    let lim = k.within.constant_limit in
    let e : to_z w128 (of_z w128 (pos 1 -ℤ to_z w128 (of_z w128 c.self.inside.constant))) ≡ pos 1 -ℤ c.self.inside.constant = one_less
    c.self.inside.constant lim in
    let small : unsigned_abs (pos 1 -ℤ c.self.inside.constant) ≤ 2 ^ 84 = omega (arith, ints, sym e) in
    let same : SameSum
    (record { parts = c.negate.new.self; constant = to_z w128 (of_z w128 (pos 1 -ℤ to_z w128 (of_z w128 c.self.inside.constant))) })
    (record { parts = negated_parts c.self.inside.parts; constant = pos 1 -ℤ c.self.inside.constant }) = sum_same c.negate.new.self
    (negated_parts c.self.inside.parts) (to_z w128 (of_z w128 (pos 1 -ℤ to_z w128 (of_z w128 c.self.inside.constant))))
    (pos 1 -ℤ c.self.inside.constant) c.negate.ensures e in
    subst (λ (u : LinearSum). IsTrue (is_term u)) (sym same)
    (test-from_IsTerm (record { parts = negated_parts c.self.inside.parts; constant = pos 1 -ℤ c.self.inside.constant })
    (IsTerm-negated (record { parts = c.self.inside.parts; constant = c.self.inside.constant }) (pos 1 -ℤ c.self.inside.constant) k small))

pub returns-clause-kept : goal.returns-clause-kept
returns-clause-kept c =
    let t = c.args.self.now in
    let k : IsTerm (record { parts = c.self.inside.parts; constant = c.self.inside.constant }) = IsTerm-from_test
    (record { parts = c.self.inside.parts; constant = c.self.inside.constant }) c.self.invariant in
    let lim = k.within.constant_limit in
    let e : to_z w128 (of_z w128 (pos 1 -ℤ to_z w128 (of_z w128 c.self.inside.constant))) ≡ pos 1 -ℤ c.self.inside.constant = one_less
    c.self.inside.constant lim in
    let small : unsigned_abs (pos 1 -ℤ c.self.inside.constant) ≤ 2 ^ 84 = omega (arith, ints, sym e) in
    let same : SameSum
    (record { parts = c.negate.new.self; constant = to_z w128 (of_z w128 (pos 1 -ℤ to_z w128 (of_z w128 c.self.inside.constant))) })
    (record { parts = negated_parts c.self.inside.parts; constant = pos 1 -ℤ c.self.inside.constant }) = sum_same c.negate.new.self
    (negated_parts c.self.inside.parts) (to_z w128 (of_z w128 (pos 1 -ℤ to_z w128 (of_z w128 c.self.inside.constant))))
    (pos 1 -ℤ c.self.inside.constant) c.negate.ensures e in
    subst (λ (u : LinearSum). IsTrue (is_term u)) (sym same)
    (test-from_IsTerm (record { parts = negated_parts c.self.inside.parts; constant = pos 1 -ℤ c.self.inside.constant })
    (IsTerm-negated (record { parts = c.self.inside.parts; constant = c.self.inside.constant }) (pos 1 -ℤ c.self.inside.constant) k small))

pub returns-clause-value : goal.returns-clause-value
returns-clause-value c =
    let t = c.args.self.now in
    let k : IsTerm (record { parts = c.self.inside.parts; constant = c.self.inside.constant }) = IsTerm-from_test
    (record { parts = c.self.inside.parts; constant = c.self.inside.constant }) c.self.invariant in
    let lim = k.within.constant_limit in
    let e : to_z w128 (of_z w128 (pos 1 -ℤ to_z w128 (of_z w128 c.self.inside.constant))) ≡ pos 1 -ℤ c.self.inside.constant = one_less
    c.self.inside.constant lim in
    let small : unsigned_abs (pos 1 -ℤ c.self.inside.constant) ≤ 2 ^ 84 = omega (arith, ints, sym e) in
    let same : SameSum
    (record { parts = c.negate.new.self; constant = to_z w128 (of_z w128 (pos 1 -ℤ to_z w128 (of_z w128 c.self.inside.constant))) })
    (record { parts = negated_parts c.self.inside.parts; constant = pos 1 -ℤ c.self.inside.constant }) = sum_same c.negate.new.self
    (negated_parts c.self.inside.parts) (to_z w128 (of_z w128 (pos 1 -ℤ to_z w128 (of_z w128 c.self.inside.constant))))
    (pos 1 -ℤ c.self.inside.constant) c.negate.ensures e in
    same ∙ negated-is (record { parts = c.self.inside.parts; constant = c.self.inside.constant }) k ∙ ap negated c.self.view_is

pub returns-clause-law : goal.returns-clause-law
returns-clause-law c = λ v.
    let t = c.args.self.now in
    let k : IsTerm (record { parts = c.self.inside.parts; constant = c.self.inside.constant }) = IsTerm-from_test
    (record { parts = c.self.inside.parts; constant = c.self.inside.constant }) c.self.invariant in
    let lim = k.within.constant_limit in
    let e : to_z w128 (of_z w128 (pos 1 -ℤ to_z w128 (of_z w128 c.self.inside.constant))) ≡ pos 1 -ℤ c.self.inside.constant = one_less
    c.self.inside.constant lim in
    let small : unsigned_abs (pos 1 -ℤ c.self.inside.constant) ≤ 2 ^ 84 = omega (arith, ints, sym e) in
    let same : SameSum
    (record { parts = c.negate.new.self; constant = to_z w128 (of_z w128 (pos 1 -ℤ to_z w128 (of_z w128 c.self.inside.constant))) })
    (record { parts = negated_parts c.self.inside.parts; constant = pos 1 -ℤ c.self.inside.constant }) = sum_same c.negate.new.self
    (negated_parts c.self.inside.parts) (to_z w128 (of_z w128 (pos 1 -ℤ to_z w128 (of_z w128 c.self.inside.constant))))
    (pos 1 -ℤ c.self.inside.constant) c.negate.ensures e in
    ap (value_of v) (same ∙ negated-is (record { parts = c.self.inside.parts; constant = c.self.inside.constant }) k
    ∙ ap negated c.self.view_is)
    ∙ value-negated v t

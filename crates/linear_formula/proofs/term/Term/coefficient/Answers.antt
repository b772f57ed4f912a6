use Rattle.std.proofs.Common.{◌≡◌, ◌≤◌, ◌^◌, ℕ, ℤ, List, sym, subst, ap, ◌∙◌, arith, unsigned_abs}
use Rattle.std.specs.Prelude.{IsTrue}
use Rattle.linear_formula.specs.LinearSum.{coefficient, listed_at, is_ascending}
use Rattle.linear_formula.proofs.Limits.{IsTerm-from_test, AllWithin-listed, term-ascends}
use Rattle.linear_formula.proofs.Finishing.{cast_wide}
use Rattle.linear_formula.proofs.term.Term.coefficient.Goals as goal

pub returns-clause-limit : goal.returns-clause-limit
returns-clause-limit c =
    let k = IsTerm-from_test c.args.self.now c.parts.ensures.kept in
    let a : c.coefficient_of.result ≡ coefficient c.args.column c.args.self.now = c.coefficient_of.ensures ∙ ap (listed_at c.args.column)
    c.parts.ensures.value in
    let la : unsigned_abs c.coefficient_of.result ≤ 2 ^ 40 = subst (λ z. unsigned_abs z ≤ 2 ^ 40) (sym a)
    (AllWithin-listed c.args.column c.args.self.now.parts k.within.coefficients) in
    rw (cast_wide c.coefficient_of.result (omega (arith, la))) la

pub coefficient_of-requires : goal.coefficient_of-requires
coefficient_of-requires c =
    subst (λ (ps : List (ℕ × ℤ)). IsTrue (is_ascending ps)) (sym c.parts.ensures.value) (term-ascends c.args.self.now c.parts.ensures.kept)

use Rattle.std.proofs.Common.{◌≡◌, ◌≤◌, ◌^◌, ℕ, ℤ, List, pos, to_z, of_z, arith, sym, subst, ap, ◌∙◌, refl, unsigned_abs}
use Rattle.std.specs.Int.{w128}
use Rattle.std.specs.Prelude.{IsTrue}
use Rattle.std.proofs.lemmas.Int.{ints}
use Rattle.std.proofs.lemmas.Result.{IfOk-weaker}
use Rattle.linear_formula.specs.LinearSum.{LinearSum, is_within, value_of, coefficient, listed_at, is_ascending}
use Rattle.linear_formula.specs.steps.Order.{InOrder, AllWithin}
use Rattle.linear_formula.specs.Results.{without_part, without_column}
use Rattle.linear_formula.proofs.Limits.{IsTerm-from_test, AllWithin-listed, term-ascends}
use Rattle.linear_formula.proofs.Order.{InOrder-without, AllWithin-without}
use Rattle.linear_formula.proofs.Values.{value-substituted}
use Rattle.linear_formula.proofs.Finishing.{both_same, substituted-both, substituted-absent, constant_is, cast_wide}
use Rattle.linear_formula.proofs.term.Term.substitute.Goals as goal

pub returns-then-coefficient-eq0-clause-value : goal.returns-then-coefficient-eq0-clause-value
returns-then-coefficient-eq0-clause-value c =
    let k = IsTerm-from_test c.args.self.now c.parts.ensures.kept in
    let a : c.coefficient_of-coefficient.result ≡ coefficient c.args.column c.args.self.now = c.coefficient_of-coefficient.ensures
    ∙ ap (listed_at c.args.column) c.parts.ensures.value in
    c.in_ok-copy.ensures ∙ substituted-absent c.args.column c.args.by.now c.args.self.now k (sym a ∙ omega (arith, ints))

pub returns-then-coefficient-eq0-clause-law : goal.returns-then-coefficient-eq0-clause-law
returns-then-coefficient-eq0-clause-law c = λ v.
    let k = IsTerm-from_test c.args.self.now c.parts.ensures.kept in
    let a : c.coefficient_of-coefficient.result ≡ coefficient c.args.column c.args.self.now = c.coefficient_of-coefficient.ensures
    ∙ ap (listed_at c.args.column) c.parts.ensures.value in
    ap (value_of v) (c.in_ok-copy.ensures ∙ substituted-absent c.args.column c.args.by.now c.args.self.now k (sym a ∙ omega (arith, ints)))
    ∙ value-substituted v c.args.column c.args.by.now c.args.self.now 0 k.order

pub both-requires-clause-first_limit : goal.both-requires-clause-first_limit
both-requires-clause-first_limit c =
    let k = IsTerm-from_test c.args.self.now c.parts.ensures.kept in
    let a : c.coefficient_of-coefficient.result ≡ coefficient c.args.column c.args.self.now = c.coefficient_of-coefficient.ensures
    ∙ ap (listed_at c.args.column) c.parts.ensures.value in
    let la : unsigned_abs c.coefficient_of-coefficient.result ≤ 2 ^ 40 = subst (λ z. unsigned_abs z ≤ 2 ^ 40) (sym a)
    (AllWithin-listed c.args.column c.args.self.now.parts k.within.coefficients) in
    rw (cast_wide c.coefficient_of-coefficient.result (omega (arith, la))) la

pub both-requires-clause-order : goal.both-requires-clause-order
both-requires-clause-order c =
    let k = IsTerm-from_test c.args.self.now c.parts.ensures.kept in
    let a : c.coefficient_of-coefficient.result ≡ coefficient c.args.column c.args.self.now = c.coefficient_of-coefficient.ensures
    ∙ ap (listed_at c.args.column) c.parts.ensures.value in
    let r : c.as_slice.result.now ≡ without_part c.args.column c.args.self.now.parts = c.as_slice.ensures.value ∙ c.in_ok-rest.ensures
    ∙ ap (without_part c.args.column) c.parts-2.ensures.value in
    subst (λ l. InOrder 0 l) (sym r) (InOrder-without 0 c.args.column c.args.self.now.parts k.order)

pub both-requires-clause-limits : goal.both-requires-clause-limits
both-requires-clause-limits c =
    let k = IsTerm-from_test c.args.self.now c.parts.ensures.kept in
    let a : c.coefficient_of-coefficient.result ≡ coefficient c.args.column c.args.self.now = c.coefficient_of-coefficient.ensures
    ∙ ap (listed_at c.args.column) c.parts.ensures.value in
    let r : c.as_slice.result.now ≡ without_part c.args.column c.args.self.now.parts = c.as_slice.ensures.value ∙ c.in_ok-rest.ensures
    ∙ ap (without_part c.args.column) c.parts-2.ensures.value in
    subst (λ l. AllWithin l) (sym r) (AllWithin-without c.args.column c.args.self.now.parts k.within.coefficients)

pub returns-clause-value : goal.returns-clause-value
returns-clause-value c =
    let k = IsTerm-from_test c.args.self.now c.parts.ensures.kept in
    let a : c.coefficient_of-coefficient.result ≡ coefficient c.args.column c.args.self.now = c.coefficient_of-coefficient.ensures
    ∙ ap (listed_at c.args.column) c.parts.ensures.value in
    let r : c.as_slice.result.now ≡ without_part c.args.column c.args.self.now.parts = c.as_slice.ensures.value ∙ c.in_ok-rest.ensures
    ∙ ap (without_part c.args.column) c.parts-2.ensures.value in
    let la : unsigned_abs c.coefficient_of-coefficient.result ≤ 2 ^ 40 = subst (λ z. unsigned_abs z ≤ 2 ^ 40) (sym a)
    (AllWithin-listed c.args.column c.args.self.now.parts k.within.coefficients) in
    let same = both_same (coefficient c.args.column c.args.self.now) (to_z w128 (of_z w128 c.coefficient_of-coefficient.result))
    c.args.by.now (pos 1) (pos 1) (without_column c.args.column c.args.self.now) c.as_slice.result.now
    (to_z w128 (of_z w128 c.constant-constant.result)) (cast_wide c.coefficient_of-coefficient.result (omega (arith, la)) ∙ a) refl r
    (constant_is c.args.self.now c.constant-constant.result c.constant-constant.ensures.value c.constant-constant.ensures.kept)
    ∙ substituted-both c.args.column c.args.by.now c.args.self.now k in
    IfOk-weaker c.both.result _ _ (λ t e. e ∙ same) c.both.ensures.value

pub returns-clause-law : goal.returns-clause-law
returns-clause-law c =
    let k = IsTerm-from_test c.args.self.now c.parts.ensures.kept in
    let a : c.coefficient_of-coefficient.result ≡ coefficient c.args.column c.args.self.now = c.coefficient_of-coefficient.ensures
    ∙ ap (listed_at c.args.column) c.parts.ensures.value in
    let r : c.as_slice.result.now ≡ without_part c.args.column c.args.self.now.parts = c.as_slice.ensures.value ∙ c.in_ok-rest.ensures
    ∙ ap (without_part c.args.column) c.parts-2.ensures.value in
    let la : unsigned_abs c.coefficient_of-coefficient.result ≤ 2 ^ 40 = subst (λ z. unsigned_abs z ≤ 2 ^ 40) (sym a)
    (AllWithin-listed c.args.column c.args.self.now.parts k.within.coefficients) in
    let same = both_same (coefficient c.args.column c.args.self.now) (to_z w128 (of_z w128 c.coefficient_of-coefficient.result))
    c.args.by.now (pos 1) (pos 1) (without_column c.args.column c.args.self.now) c.as_slice.result.now
    (to_z w128 (of_z w128 c.constant-constant.result)) (cast_wide c.coefficient_of-coefficient.result (omega (arith, la)) ∙ a) refl r
    (constant_is c.args.self.now c.constant-constant.result c.constant-constant.ensures.value c.constant-constant.ensures.kept)
    ∙ substituted-both c.args.column c.args.by.now c.args.self.now k in
    IfOk-weaker c.both.result _ _ (λ t e v. ap (value_of v) (e ∙ same) ∙ value-substituted v c.args.column c.args.by.now c.args.self.now 0
    k.order) c.both.ensures.value

pub returns-clause-wide : goal.returns-clause-wide
returns-clause-wide c = λ w h.
    let k = IsTerm-from_test c.args.self.now c.parts.ensures.kept in
    let a : c.coefficient_of-coefficient.result ≡ coefficient c.args.column c.args.self.now = c.coefficient_of-coefficient.ensures
    ∙ ap (listed_at c.args.column) c.parts.ensures.value in
    let r : c.as_slice.result.now ≡ without_part c.args.column c.args.self.now.parts = c.as_slice.ensures.value ∙ c.in_ok-rest.ensures
    ∙ ap (without_part c.args.column) c.parts-2.ensures.value in
    let la : unsigned_abs c.coefficient_of-coefficient.result ≤ 2 ^ 40 = subst (λ z. unsigned_abs z ≤ 2 ^ 40) (sym a)
    (AllWithin-listed c.args.column c.args.self.now.parts k.within.coefficients) in
    let same = both_same (coefficient c.args.column c.args.self.now) (to_z w128 (of_z w128 c.coefficient_of-coefficient.result))
    c.args.by.now (pos 1) (pos 1) (without_column c.args.column c.args.self.now) c.as_slice.result.now
    (to_z w128 (of_z w128 c.constant-constant.result)) (cast_wide c.coefficient_of-coefficient.result (omega (arith, la)) ∙ a) refl r
    (constant_is c.args.self.now c.constant-constant.result c.constant-constant.ensures.value c.constant-constant.ensures.kept)
    ∙ substituted-both c.args.column c.args.by.now c.args.self.now k in
    c.both.ensures.wide w (subst (λ (u : LinearSum). IsTrue (is_within u)) (sym same) h)

pub coefficient_of-coefficient-requires : goal.coefficient_of-coefficient-requires
coefficient_of-coefficient-requires c =
    subst (λ (ps : List (ℕ × ℤ)). IsTrue (is_ascending ps)) (sym c.parts.ensures.value) (term-ascends c.args.self.now c.parts.ensures.kept)

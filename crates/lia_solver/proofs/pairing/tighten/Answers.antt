use Rattle.std.proofs.Common.{◌≡◌, ℕ, ◌<◌, nat_lt, Bool, true, List, ℤ, pos, w64, arith, sym, ap, subst, ◌∙◌}
use Rattle.std.specs.Prelude.{if◌then◌else◌}
use Rattle.std.proofs.lemmas.Bool.Decides.{nat_tests}
use Rattle.std.proofs.lemmas.Int.{ints, fits_signed_from_abs}
use Rattle.linear_formula.specs.steps.Order.{AllWithin}
use Rattle.linear_formula.proofs.Limits.{IsTerm-from_test}
use Rattle.shadow_elim.specs.Division.{parts_divisor, row_divisor}
use Rattle.shadow_elim.proofs.Pairs.{row_divisor-small, cast_divisor}
use Rattle.lia_solver.proofs.PairSumsInCode.{row_of}
use Rattle.lia_solver.proofs.pairing.tighten.Goals as goal

pub parts_divisor-divisor-requires : goal.parts_divisor-divisor-requires
parts_divisor-divisor-requires c =
    subst (λ l. AllWithin l) (sym c.deref.ensures.value)
    (IsTerm-from_test (row_of c.args.out.now.items c.args.constant) c.requires).within.coefficients

lt_true : (a b : ℕ) → a < b → nat_lt a b ≡ true
lt_true a b h = grind (arith, nat_tests)

-- the divisor of a row that is divided
divided-by : (ps : List (ℕ × ℤ)) (c : ℤ) (now : List (ℕ × ℤ)) (d : ℕ) → now ≡ ps → d ≡ parts_divisor now → 1 < d →
    d ≡ row_divisor (row_of ps c)
divided-by ps c now d e f h =
    let same : d ≡ parts_divisor ps = f ∙ ap parts_divisor e in
    same ∙ sym (ap (λ (b : Bool). if b then parts_divisor ps else 1) (lt_true 1 (parts_divisor ps) (omega (arith, h, same))))

pub overflow_cast-result : goal.overflow_cast-result
overflow_cast-result c =
    let small = row_divisor-small (row_of c.args.out.now.items c.args.constant) c.requires in
    let same = divided-by c.args.out.now.items c.args.constant c.deref.result.now c.parts_divisor-divisor.result c.deref.ensures.value
    c.parts_divisor-divisor.ensures c.if-divisor-le1.false in
    fits_signed_from_abs w64 (pos c.parts_divisor-divisor.result) (omega (arith, ints, small, same))

pub returns-clause-divisor : goal.returns-clause-divisor
returns-clause-divisor c =
    let small = row_divisor-small (row_of c.args.out.now.items c.args.constant) c.requires in
    let same = divided-by c.args.out.now.items c.args.constant c.deref.result.now c.parts_divisor-divisor.result c.deref.ensures.value
    c.parts_divisor-divisor.ensures c.if-divisor-le1.false in
    cast_divisor c.parts_divisor-divisor.result (omega (arith, small, same)) ∙ ap pos same

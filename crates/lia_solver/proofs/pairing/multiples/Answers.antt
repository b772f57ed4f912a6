use Rattle.std.proofs.Common.{◌≡◌, ℕ, ◌<◌, ◌/◌, pos, arith, sym, ap, subst, ◌∙◌}
use Rattle.std.proofs.Math.Nat.{div_self}
use Rattle.std.proofs.lemmas.Nat.Gcd.{dvd_refl}
use Rattle.shadow_elim.specs.Division.{common_divisor}
use Rattle.shadow_elim.specs.Elimination.{upper_multiple, lower_multiple}
use Rattle.shadow_elim.proofs.Divisors.{common_divisor_is, common_divisor-positive}
use Rattle.lia_solver.proofs.pairing.multiples.Goals as goal

-- a number divided by its common divisor with itself
alone : (a : ℕ) → 0 < a → a / common_divisor a a ≡ 1
alone a h = ap (λ (d : ℕ). a / d) (sym (common_divisor_is a a a (dvd_refl a, dvd_refl a, λ d k l. k))) ∙ div_self h

pub returns-then-upper-lower-clause-upper : goal.returns-then-upper-lower-clause-upper
returns-then-upper-lower-clause-upper c =
    subst (λ (b : ℕ). pos 1 ≡ pos (upper_multiple c.args.upper b)) c.if-upper-lower.true
    (sym (ap pos (alone c.args.upper c.requires.positive)))

pub returns-then-upper-lower-clause-lower : goal.returns-then-upper-lower-clause-lower
returns-then-upper-lower-clause-lower c =
    subst (λ (b : ℕ). pos 1 ≡ pos (lower_multiple c.args.upper b)) c.if-upper-lower.true
    (sym (ap pos (alone c.args.upper c.requires.positive)))

pub nonzero_div-result : goal.nonzero_div-result
nonzero_div-result c =
    omega (arith, c.common_divisor-divisor.ensures, common_divisor-positive c.args.upper c.args.lower c.requires.positive)

pub nonzero_div-result-2 : goal.nonzero_div-result-2
nonzero_div-result-2 c =
    omega (arith, c.common_divisor-divisor.ensures, common_divisor-positive c.args.upper c.args.lower c.requires.positive)

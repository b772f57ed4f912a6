use Rattle.std.proofs.Common.{arith, sym, ap, ◌∙◌}
use Rattle.std.proofs.lemmas.Nat.Gcd.{IsGcd-from_zero, IsGcd-from_mod}
use Rattle.shadow_elim.specs.Division.{common_divisor}
use Rattle.shadow_elim.proofs.Divisors.{common_divisor_is, common_divisor-one}
use Rattle.lia_solver.proofs.division.common_divisor.Goals as goal

pub loop-y-preserved : goal.loop-y-preserved
loop-y-preserved c g h = c.loop-y.invariant g (IsGcd-from_mod _ _ g h)

pub returns : goal.returns
returns c = common_divisor_is c.args.a c.args.b _ (c.loop-y.invariant _ (IsGcd-from_zero _ _ (omega arith)))

pub returns-then-b-eq1 : goal.returns-then-b-eq1
returns-then-b-eq1 c = sym (ap (common_divisor c.args.a) c.if-b-eq1.true ∙ common_divisor-one c.args.a)

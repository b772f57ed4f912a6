use Rattle.shadow_elim.proofs.Pairs.{size_is, divisor-positive}
use Rattle.shadow_elim.proofs.pairing.multiples.Goals as goal

pub nonzero_div-result : goal.nonzero_div-result
nonzero_div-result c =
    divisor-positive c.args.column c.args.upper.now c.unsigned_abs-a.result _ _ c.requires.upper
    (size_is c.args.column c.args.upper.now c.coefficient.result _ c.coefficient.ensures.value c.coefficient.ensures.limit
    c.unsigned_abs-a.ensures.value) c.common_divisor-divisor.ensures

pub nonzero_div-result-2 : goal.nonzero_div-result-2
nonzero_div-result-2 c =
    divisor-positive c.args.column c.args.upper.now c.unsigned_abs-a.result _ _ c.requires.upper
    (size_is c.args.column c.args.upper.now c.coefficient.result _ c.coefficient.ensures.value c.coefficient.ensures.limit
    c.unsigned_abs-a.ensures.value) c.common_divisor-divisor.ensures

use Rattle.std.proofs.Common.{◌<◌, sym, subst, IfNone}
use Rattle.proof_bundle.specs.steps.Reading.{value_from}
use Rattle.proof_bundle.proofs.Digits.{too_big, told_more}
use Rattle.proof_bundle.proofs.number.value_of.Goals as goal

pub returns-in_err-value-clause-none : goal.returns-in_err-value-clause-none
returns-in_err-value-clause-none c =
    let text = c.args.digits.now in
    subst (λ o. IfNone o (c.args.most < value_from 0 text)) (sym c.from_residual.ensures)
    (too_big text c.loop-digit.value c.loop-digit.digit-index c.args.most c.loop-digit-test.true c.loop-digit.invariant.told
    c.in_err-value.ensures.none)

pub loop-digit-preserved : goal.loop-digit-preserved
loop-digit-preserved c = record {
  small = c.in_ok-value.ensures.some.1;
  told = told_more c.args.digits.now c.loop-digit.value c.in_ok-value.value c.loop-digit.digit-index c.loop-digit-test.true
      c.loop-digit.invariant.told c.in_ok-value.ensures.some.0;
}

use Rattle.std.proofs.Common.{◌≡◌, ◌<◌, sym, subst, true, IfNone}
use Rattle.command_words.specs.Words.{is_numeral, value_from}
use Rattle.command_words.proofs.WordsNumbers.{too_big, told_more}
use Rattle.command_words.proofs.words.numeral.Goals as goal

pub returns-in_err-value-clause-none : goal.returns-in_err-value-clause-none
returns-in_err-value-clause-none c =
    let text = c.args.text.now in
    subst (λ o. IfNone o (is_numeral text ≡ true → c.args.high < value_from 0 text)) (sym c.from_residual.ensures)
    (λ _. too_big text c.loop-digit.value c.loop-digit.digit-index c.args.high c.loop-digit-test.true c.loop-digit.invariant.told
    c.in_err-value.ensures.none)

pub loop-digit-preserved : goal.loop-digit-preserved
loop-digit-preserved c = record {
  small = c.in_ok-value.ensures.some.1;
  told = told_more c.args.text.now c.loop-digit.value c.in_ok-value.value c.loop-digit.digit-index c.loop-digit-test.true
      c.loop-digit.invariant.told c.in_ok-value.ensures.some.0;
}

use Rattle.std.proofs.Common.{◌≡◌, ◌≤◌, drop}
use Rattle.command_words.specs.Words.{value_from}
use Rattle.command_words.proofs.words.numeral.Given as goal

abbrev pub invariant-loop-digit : goal.invariant-loop-digit
invariant-loop-digit l = record {
  small : l.value ≤ l.high;
  told : value_from l.value (drop l.digit-index l.text) ≡ value_from 0 l.text;
}

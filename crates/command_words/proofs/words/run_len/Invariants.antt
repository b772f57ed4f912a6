use Rattle.std.proofs.Common.{length, ◌-◌, ◌≤◌}
use Rattle.c_lexer.proofs.Lists.{Reaches}
use Rattle.command_words.specs.steps.WordsView.{test_of}
use Rattle.command_words.proofs.words.run_len.Given as goal

abbrev pub invariant-loop-len : goal.invariant-loop-len
invariant-loop-len l = record {
  within : l.len ≤ length l.text;
  reached : Reaches (test_of l.class) l.text l.len;
}

abbrev pub decreases-loop-len : goal.decreases-loop-len
decreases-loop-len l = length l.text - l.len

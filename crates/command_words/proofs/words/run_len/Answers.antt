use Rattle.std.proofs.Common.{arith, sym, ◌∙◌}
use Rattle.c_lexer.proofs.Lists.{reached_none, reached_more}
use Rattle.command_words.specs.steps.WordsView.{test_of}
use Rattle.command_words.proofs.words.run_len.Goals as goal

pub loop-len-init : goal.loop-len-init
loop-len-init c = record { within = omega arith; reached = reached_none (test_of c.args.class) c.args.text.now }

pub loop-len-preserved : goal.loop-len-preserved
loop-len-preserved c =
    record {
      within = omega arith;
      reached = reached_more (test_of c.args.class) c.args.text.now c.loop-len.len c.loop-len-test.true
          (sym c.is_in.ensures ∙ c.if-is_in.true)
          c.loop-len.invariant.reached;
    }

use Rattle.std.proofs.Common.{arith, sym, ◌∙◌}
use Rattle.proof_bundle.proofs.Runs.{ended, reached_more, reached_none, stopped}
use Rattle.proof_bundle.proofs.number.run_len.Goals as goal

pub loop-len-init : goal.loop-len-init
loop-len-init c = record { within = omega arith; reached = reached_none c.args.bytes.now }

pub loop-len-preserved : goal.loop-len-preserved
loop-len-preserved c =
    record {
      within = omega arith;
      reached = reached_more c.args.bytes.now c.loop-len.len c.loop-len-test.true (sym c.is_digit.ensures ∙ c.if-is_digit.true)
          c.loop-len.invariant.reached;
    }

pub returns-else-is_digit-clause-run : goal.returns-else-is_digit-clause-run
returns-else-is_digit-clause-run c =
    (stopped c.args.bytes.now c.loop-len.len c.loop-len-test.true (sym c.is_digit.ensures ∙ c.if-is_digit.false)
    c.loop-len.invariant.reached).0

pub returns-else-is_digit-clause-rest : goal.returns-else-is_digit-clause-rest
returns-else-is_digit-clause-rest c =
    (stopped c.args.bytes.now c.loop-len.len c.loop-len-test.true (sym c.is_digit.ensures ∙ c.if-is_digit.false)
    c.loop-len.invariant.reached).1

pub returns-after-loop-len-clause-run : goal.returns-after-loop-len-clause-run
returns-after-loop-len-clause-run c = (ended c.args.bytes.now c.loop-len.len c.loop-len-test.false c.loop-len.invariant.reached).0

pub returns-after-loop-len-clause-rest : goal.returns-after-loop-len-clause-rest
returns-after-loop-len-clause-rest c = (ended c.args.bytes.now c.loop-len.len c.loop-len-test.false c.loop-len.invariant.reached).1

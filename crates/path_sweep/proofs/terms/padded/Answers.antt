use Rattle.std.proofs.Common.{length, pos, arith}
use Rattle.linear_formula.specs.Results.{constant_sum}
use Rattle.must_region.proofs.Terms.{one_zero_more}
use Rattle.path_sweep.proofs.terms.padded.Goals as goal

pub loop-preserved : goal.loop-preserved
loop-preserved c = record {
  count = omega (arith, c.loop.invariant.count);
  terms = one_zero_more c.loop.items.items c.push.new.self.items c.args.terms.now (constant_sum (pos 0)) c.zero.result
      (length c.args.terms.now) c.loop.counter c.loop.invariant.count c.loop.invariant.terms c.zero.ensures c.in_ok-push.ensures.items;
}

use Rattle.std.proofs.Common.{length-append, arith}
use Rattle.linear_formula.proofs.ExtremeRows.{push_extremes}
use Rattle.linear_formula.proofs.extremes.Extremes.push.Goals as goal

pub returns : goal.returns
returns c = λ all h.
    let s = c.args.self.now in
    record {
      count = simp length-append (omega (arith, h.count, c.in-Some.ensures));
      extremes = rw (c.in_ok-push-2.ensures.items, c.in_ok-push.ensures)
          (push_extremes s.numbers.items s.cube.atoms all s.count c.args.atom h.count h.extremes);
    }

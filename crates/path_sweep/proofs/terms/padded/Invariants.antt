use Rattle.std.proofs.Common.{◌≡◌, ◌≤◌, ◌-◌, ◌++◌, length, pos, replicate}
use Rattle.linear_formula.specs.Results.{constant_sum}
use Rattle.path_sweep.proofs.terms.padded.Given as goal

abbrev pub invariant-loop : goal.invariant-loop
invariant-loop l =
    record {
      count : length l.terms ≤ l.counter;
      terms : l.items.items ≡ l.terms ++ replicate (l.counter - length l.terms) (constant_sum (pos 0));
    }

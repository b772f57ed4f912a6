use Rattle.std.proofs.Common.{◌≡◌, replicate, None}
use Rattle.summary_keep.proofs.assertions.no_numbers.Given as goal

abbrev pub invariant-loop-i : goal.invariant-loop-i
invariant-loop-i l = l.numbers.items ≡ replicate l.i None

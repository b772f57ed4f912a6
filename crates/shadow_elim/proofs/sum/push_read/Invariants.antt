use Rattle.std.proofs.Common.{◌≡◌, ◌++◌, take}
use Rattle.shadow_elim.specs.Sums.{row_sums}
use Rattle.shadow_elim.proofs.sum.push_read.Given as goal

abbrev pub invariant-loop-atom : goal.invariant-loop-atom
invariant-loop-atom g l =
    l.sums.items ≡ l.fn.sums.items ++ row_sums (g.R.Reading.term_at l.reading) (take l.atom-index l.atoms)

use Rattle.std.proofs.Common.{◌≡◌, ◌++◌, take, drop}
use Rattle.shadow_elim.specs.Sums.{first_wide, rows_of_sums, row_sums}
use Rattle.shadow_elim.proofs.sum.read_onto.Given as goal

abbrev pub invariant-loop-atom : goal.invariant-loop-atom
invariant-loop-atom g l =
    record {
      rows : l.rows ≡ l.fn.rows ++ rows_of_sums (row_sums (g.R.Reading.term_at l.reading) (take l.atom-index l.atoms));
      first : first_wide (row_sums (g.R.Reading.term_at l.reading) l.atoms)
          ≡ first_wide (row_sums (g.R.Reading.term_at l.reading) (drop l.atom-index l.atoms));
    }

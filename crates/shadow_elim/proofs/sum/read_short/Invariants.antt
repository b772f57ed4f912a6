use Rattle.std.proofs.Common.{◌≡◌, ◌≤◌, length}
use Rattle.std.specs.Prelude.{IsTrue}
use Rattle.linear_formula.specs.LinearSum.{is_term}
use Rattle.shadow_elim.proofs.Reading.{read_from}
use Rattle.shadow_elim.proofs.sum.read_short.Given as goal

abbrev pub invariant-loop-left : goal.invariant-loop-left
invariant-loop-left g l =
    record {
      bound : l.left ≤ length l.parts;
      value : l.total ≡ read_from (g.R.Reading.term_at l.reading) l.parts l.term.constant l.left;
      kept : IsTrue (is_term l.total);
    }

abbrev pub decreases-loop-left : goal.decreases-loop-left
decreases-loop-left g l = l.left

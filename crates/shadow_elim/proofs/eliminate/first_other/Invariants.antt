use Rattle.std.proofs.Common.{◌≡◌, not, drop}
use Rattle.std.specs.Prelude.{find}
use Rattle.shadow_elim.specs.Elimination.{is_unit}
use Rattle.shadow_elim.proofs.eliminate.first_other.Given as goal

abbrev pub invariant-loop-row : goal.invariant-loop-row
invariant-loop-row l =
    find (λ r. not (is_unit l.column r.term)) (drop l.row-index l.rows) ≡ find (λ r. not (is_unit l.column r.term)) l.rows

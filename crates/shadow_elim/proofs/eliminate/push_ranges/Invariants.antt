use Rattle.std.proofs.Common.{◌≡◌, ◌++◌, take}
use Rattle.infeasible_cert.specs.Right.{range_rows}
use Rattle.shadow_elim.specs.Stages.{terms_of}
use Rattle.shadow_elim.specs.steps.Making.{AreInPlace}
use Rattle.shadow_elim.proofs.eliminate.push_ranges.Given as goal

abbrev pub invariant-loop-column : goal.invariant-loop-column
invariant-loop-column l =
    record {
      terms : terms_of l.rows.items ≡ terms_of l.initial.rows.items ++ range_rows (take l.column-index l.columns);
      numbers : AreInPlace 0 l.rows.items;
    }

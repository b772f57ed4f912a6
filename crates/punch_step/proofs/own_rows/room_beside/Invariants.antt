use Rattle.std.proofs.Common.{◌-◌, ◌≤◌, drop, max}
use Rattle.shadow_elim.specs.declared.limit.TheConstants.{MAX_ROWS}
use Rattle.lia_solver.specs.ByParts.{most_rows}
use Rattle.punch_step.proofs.own_rows.room_beside.Given as goal

abbrev pub invariant-loop-stage : goal.invariant-loop-stage
invariant-loop-stage l =
    record {
      within : l.room ≤ MAX_ROWS;
      most : most_rows l.fn.rows l.stages ≤ max (MAX_ROWS - l.room) (most_rows l.count (drop l.stage-index l.stages));
    }

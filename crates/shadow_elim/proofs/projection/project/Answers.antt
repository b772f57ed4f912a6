use Rattle.shadow_elim.specs.Shadows.{pair_rows}
use Rattle.shadow_elim.proofs.Projecting.{projected-gives}
use Rattle.shadow_elim.proofs.projection.project.Goals as goal

pub returns-in-Ok-clause-rows : goal.returns-in-Ok-clause-rows
returns-in-Ok-clause-rows c =
    projected-gives c.args.columns.now c.args.cube.now.atoms c.in-Ok.shadow.pre.cube.atoms (pair_rows c.in-Ok.shadow.pre.inexact)
    c.in-Ok.ensures.rows c.in-Ok.ensures.inexact

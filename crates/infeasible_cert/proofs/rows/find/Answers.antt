use Rattle.infeasible_cert.specs.Right.{base_rows}
use Rattle.infeasible_cert.proofs.Ranges.{found-before, found-below}
use Rattle.infeasible_cert.proofs.rows.find.Goals as goal

pub returns-in-Ok : goal.returns-in-Ok
returns-in-Ok c =
    found-before (base_rows c.args.rows.now.columns.now.atoms.now) c.args.rows.now.nodes.now c.args.number _ c.in-Ok.ensures

pub returns-in-Err : goal.returns-in-Err
returns-in-Err c =
    found-below (base_rows c.args.rows.now.columns.now.atoms.now) c.args.rows.now.nodes.now c.args.number c.in-Err.behind
    c.find_below.result
    c.in-Err.ensures c.find_below.ensures

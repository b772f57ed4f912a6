use Rattle.std.proofs.Common.{◌≤◌, length, arith, refl, ◌∙◌}
use Rattle.infeasible_cert.proofs.Ranges.{length-base, base-range}
use Rattle.infeasible_cert.proofs.rows.find_base.Goals as goal

pub returns-in-Ok : goal.returns-in-Ok
returns-in-Ok c =
    let le : length c.args.columns.now.atoms.now ≤ c.args.number = omega arith in (
      omega (arith, length-base c.args.columns.now.atoms.now, c.in-Ok.ensures.0),
      c.range_row.ensures ∙ base-range c.args.columns.now.atoms.now
          c.args.number c.in-Ok.column _ le refl c.in-Ok.ensures.0 c.in-Ok.ensures.1,
    )

pub returns-in-Err : goal.returns-in-Err
returns-in-Err c = omega (arith, length-base c.args.columns.now.atoms.now, c.in-Err.ensures)

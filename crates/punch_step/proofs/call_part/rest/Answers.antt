use Rattle.std.proofs.Common.{◌≡◌, ◌∙◌, rules}
use Rattle.shadow_elim.specs.Shadows.{pair_rows}
use Rattle.punch_step.proofs.call_part.rest.Goals as goal

pub returns-in-Ok : goal.returns-in-Ok
returns-in-Ok c =
    let exit : c.in-Some.query.now.exit ≡ c.args.frontier.now.calling.exit = search rules in
    record {
      summary = c.in-Some.query.now;
      excluded = c.in-Some.ensures;
      same_procedure = c.if-query-called.false ∙ c.called.ensures;
      same_exit = exit;
      left = c.in-Some-atom_of.atom.now;
      at_atom = c.in-Some-atom_of.ensures;
      is_rest = (pair_rows c.in-Ok.pre.inexact, c.in-Ok.ensures.rows);
    }

use Rattle.std.proofs.Common.{ap, ◌∙◌}
use Rattle.lia_solver.specs.declared.table.Line.{Line}
use Rattle.lia_solver.proofs.TableEntries.{first-is}
use Rattle.lia_solver.proofs.table.Table.first.Goals as goal

pub returns : goal.returns
returns c = λ e.
    ap (λ (l : Line). l.first) c.index.ensures
    ∙ first-is c.self.inside.parts.items c.self.inside.lines.items c.args.self.now c.args.place c.index.result.now e c.self.view_is
    c.self.invariant.chained.lying c.requires

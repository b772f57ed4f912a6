use Rattle.std.proofs.Common.{◌∙◌, [], sym, ap}
use Rattle.std.specs.Prelude.{if◌then◌else◌}
use Rattle.shadow_elim.specs.Points.{chosen, refuted}
use Rattle.lia_solver.specs.steps.Entries.{no_entry}
use Rattle.lia_solver.proofs.OneColumn.{bare-contradiction, bare-none}
use Rattle.lia_solver.proofs.columnwise.without_columns.Goals as goal

pub returns-in-Some-clause-plan : goal.returns-in-Some-clause-plan
returns-in-Some-clause-plan c = λ low ready.
    ap (λ b. if b then refuted else chosen []) (bare-contradiction low c.args.table.now c.in-Some.place ready.rows c.in-Some.ensures.0
    (c.in-Some.ensures.1 no_entry))

pub returns-in_ok-with_capacity-in-None-clause-plan : goal.returns-in_ok-with_capacity-in-None-clause-plan
returns-in_ok-with_capacity-in-None-clause-plan c = λ low ready.
    ap (λ b. if b then refuted else chosen []) (bare-none low c.args.table.now (λ i h e. c.in-None.ensures i no_entry h e))
    ∙ ap chosen (sym (c.from_vec.ensures ∙ c.in_ok-with_capacity-in-None.ensures.items))

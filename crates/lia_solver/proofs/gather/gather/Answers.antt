use Rattle.std.proofs.lemmas.Result.{on_ok_weaker}
use Rattle.linear_formula.specs.Rows.{all_rows}
use Rattle.lia_solver.proofs.Putting.{gathered-all}
use Rattle.lia_solver.proofs.gather.gather.Goals as goal

pub returns : goal.returns
returns c =
    on_ok_weaker c.put_ranges.result (λ p. gathered-all (all_rows c.args.question.now) c.args.splits.now c.args.columns.now
    c.in_ok-ranges.ranges c.clear.new.self c.put_question.new.table c.put_atoms.new.table c.put_ranges.new.table c.clear.ensures
    c.in_ok-ranges.ensures.count c.in_ok-ranges.ensures.rows c.in_ok-put_atoms.ensures p) c.put_ranges.ensures

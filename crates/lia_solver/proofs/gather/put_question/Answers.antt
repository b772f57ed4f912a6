use Rattle.std.specs.Prelude.{flat_map}
use Rattle.linear_formula.proofs.TermAtoms.{are_terms-parts}
use Rattle.lia_solver.proofs.Putting.{put-behind}
use Rattle.lia_solver.proofs.gather.put_question.Goals as goal

pub put_atoms-requires-clause-terms : goal.put_atoms-requires-clause-terms
put_atoms-requires-clause-terms c =
    let rows = c.args.question.now in
    (are_terms-parts (flat_map (λ b. b) rows.blocks.now) rows.own.now c.requires.terms).1

pub returns-clause-rows : goal.returns-clause-rows
returns-clause-rows c =
    let rows = c.args.question.now in
    put-behind (flat_map (λ b. b) rows.blocks.now) rows.own.now c.in_ok-first.first c.args.table.now c.put_blocks.new.table
    c.put_atoms.new.table c.in_ok-first.ensures.count c.in_ok-first.ensures.rows c.in_ok-put_atoms.ensures

use Rattle.std.proofs.Common.{to_z, of_z, ap}
use Rattle.std.specs.Int.{w128}
use Rattle.lia_solver.specs.declared.table.Origin.TheVariants.{Made}
use Rattle.lia_solver.specs.steps.Entries.{sum_at}
use Rattle.shadow_elim.specs.Division.{tightened}
use Rattle.shadow_elim.specs.Elimination.{pair_sum}
use Rattle.lia_solver.proofs.Growing.{grown-start}
use Rattle.lia_solver.proofs.PairSumsInCode.{row_of}
use Rattle.lia_solver.proofs.Summing.{put-grown, put-summed, pair-term, row-cast, row-within}
use Rattle.lia_solver.proofs.eliminate.add_sum.Goals as goal

pub returns-then-always_holds-clause-grown : goal.returns-then-always_holds-clause-grown
returns-then-always_holds-clause-grown c = grown-start c.args.column c.args.table.now c.requires.rows

pub returns-then-is_needless-clause-grown : goal.returns-then-is_needless-clause-grown
returns-then-is_needless-clause-grown c = grown-start c.args.column c.args.table.now c.requires.rows

pub put-requires : goal.put-requires
put-requires c =
    row-within (tightened (pair_sum c.args.column (sum_at c.args.table.now c.args.upper, sum_at c.args.table.now c.args.lower)))
    c.combine.new.out.items c.deref.result.now c.in-Ok.field-0.constant c.in-Ok.ensures.row
    (pair-term c.args.column c.args.table.now c.args.upper c.args.lower c.requires.paired c.in-Ok.ensures.within) c.deref.ensures.value

pub returns-in_ok-put-in-Ok-clause-grown : goal.returns-in_ok-put-in-Ok-clause-grown
returns-in_ok-put-in-Ok-clause-grown c =
    let term = pair-term c.args.column c.args.table.now c.args.upper c.args.lower c.requires.paired c.in-Ok.ensures.within in
    let whole = tightened (pair_sum c.args.column (sum_at c.args.table.now c.args.upper, sum_at c.args.table.now c.args.lower)) in
    let row = row-cast whole c.combine.new.out.items c.deref.result.now c.in-Ok.field-0.constant c.in-Ok.ensures.row term
    c.deref.ensures.value in
    put-grown c.args.column c.args.table.now c.put.new.table c.args.upper c.args.lower
    (row_of c.deref.result.now (to_z w128 (of_z w128 c.in-Ok.field-0.constant))) (Made c.in-Ok.field-0.making) c.requires.rows
    c.requires.paired c.in-Ok.ensures.within row (ap Made c.in-Ok.ensures.making) c.in_ok-put-in-Ok.ensures

pub returns-in_ok-put-in-Ok-clause-summed : goal.returns-in_ok-put-in-Ok-clause-summed
returns-in_ok-put-in-Ok-clause-summed c = λ _.
    let term = pair-term c.args.column c.args.table.now c.args.upper c.args.lower c.requires.paired c.in-Ok.ensures.within in
    let whole = tightened (pair_sum c.args.column (sum_at c.args.table.now c.args.upper, sum_at c.args.table.now c.args.lower)) in
    let row = row-cast whole c.combine.new.out.items c.deref.result.now c.in-Ok.field-0.constant c.in-Ok.ensures.row term
    c.deref.ensures.value in
    put-summed c.args.column c.args.table.now c.put.new.table c.args.upper c.args.lower
    (row_of c.deref.result.now (to_z w128 (of_z w128 c.in-Ok.field-0.constant))) (Made c.in-Ok.field-0.making) c.requires.rows
    c.requires.paired c.in-Ok.ensures.within row (ap Made c.in-Ok.ensures.making) c.in_ok-put-in-Ok.ensures

pub returns-in-Err-Wide-clause-grown : goal.returns-in-Err-Wide-clause-grown
returns-in-Err-Wide-clause-grown c = grown-start c.args.column c.args.table.now c.requires.rows

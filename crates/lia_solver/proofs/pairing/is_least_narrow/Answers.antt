use Rattle.lia_solver.specs.steps.Entries.{no_entry}
use Rattle.lia_solver.proofs.PairSumsInCode.{least-narrow}
use Rattle.lia_solver.proofs.pairing.is_least_narrow.Goals as goal

pub returns : goal.returns
returns c =
    least-narrow c.args.column c.args.table.now c.args.upper c.args.lower c.multiples_of-first.result.0 c.multiples_of-first.result.1
    c.least.result c.least-2.result c.sum_of.result c.is_some.result c.requires c.multiples_of-first.ensures.upper
    c.multiples_of-first.ensures.lower c.multiples_of-first.ensures.upper_bound c.multiples_of-first.ensures.lower_bound
    (c.least.ensures no_entry) (c.least-2.ensures no_entry) c.sum_of.ensures c.is_some.ensures

use Rattle.c_tree.specs.Whole.{program_of}
use Rattle.summary_keep.proofs.Matched.{first_hold, first_numbers}
use Rattle.summary_keep.proofs.procedures.match_procedures.Goals as goal

pub refined-requires-clause-holds : goal.refined-requires-clause-holds
refined-requires-clause-holds c =
    first_hold (program_of c.args.old.now) (program_of c.args.new.now) c.in_ok-numbers.numbers.items c.in_ok-numbers.ensures

pub refined-requires-clause-numbers : goal.refined-requires-clause-numbers
refined-requires-clause-numbers c =
    first_numbers (program_of c.args.old.now) (program_of c.args.new.now) c.in_ok-numbers.numbers.items c.in_ok-numbers.ensures

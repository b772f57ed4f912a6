use Rattle.c_tree.specs.Whole.{program_of}
use Rattle.summary_keep.proofs.Globals.{counterpart_of}
use Rattle.summary_keep.proofs.procedures.counterpart.Goals as goal

pub returns-then-globals_agree : goal.returns-then-globals_agree
returns-then-globals_agree c =
    counterpart_of (program_of c.args.old.now) (program_of c.args.new.now) c.args.place c.namesake.result
    (c.globals_agree.ensures.0 c.if-globals_agree.true) c.namesake.ensures

use Rattle.std.proofs.Common.{◌∙◌, ap, subst, sym}
use Rattle.c_tree.specs.Whole.{program_of}
use Rattle.flow_graph.specs.Columns.{AreAllValues}
use Rattle.bolt_core.proofs.BoardKeeps.{board_keeps}
use Rattle.summary_keep.specs.Keeping.{SummariesHold}
use Rattle.summary_keep.specs.Keeping as keeping
use Rattle.lia_solver.proofs.Closing.{both-hold}
use Rattle.smash_run.specs.steps.Judging.{MayBegin}
use Rattle.smash_run.proofs.Graphs.{few_there, hold_of_program, kept_begin}
use Rattle.smash_run.proofs.edits.kept_of.Goals as goal

pub keep-requires-clause-hold : goal.keep-requires-clause-hold
keep-requires-clause-hold c =
    let is = c.requires.board.1 in
    let program = c.args.old.now in
    subst (SummariesHold (program_of program)) (sym (c.all.ensures ∙ c.table.ensures))
    (hold_of_program (program_of program) c.args.board.now.graphs program.well_formed
    (subst AreAllValues c.deref.ensures.value c.are_values.ensures) (record { runs = is.runs; bounds = is.bounds; built = is.built })
    c.args.board.now.core.table (board_keeps c.args.board.now is.reached).holds)

pub returns-clause-begins : goal.returns-clause-begins
returns-clause-begins c =
    let is = c.requires.board.1 in
    let few = few_there c.args.board.now is.reached is.began in
    let table = c.all.ensures ∙ c.table.ensures in
    let procs = c.in_ok-matched.matched.procs.items in
    let asserts = c.in_ok-matched.matched.asserts.items in
    both-hold c.keep.result _ _ _
    (λ v kept hold. subst (MayBegin (program_of c.args.new.now)) (sym (kept ∙ ap (keeping.kept procs asserts) table))
    (kept_begin (program_of c.args.old.now) (program_of c.args.new.now) c.args.new.now.well_formed procs
    asserts c.in_ok-matched.ensures c.args.board.now.core.table few
    (subst (SummariesHold (program_of c.args.new.now)) (kept ∙ ap (keeping.kept procs asserts) table) hold)))
    c.keep.ensures.kept c.keep.ensures.hold

use Rattle.std.proofs.Common.{◌≡◌, ℕ, length, rules, subst}
use Rattle.c_tree.specs.Whole.{program_of}
use Rattle.flow_graph.specs.Columns.{AreAllValues}
use Rattle.smash_run.specs.steps.Judging.{AreVerdicts}
use Rattle.smash_run.proofs.Judging.{analysed}
use Rattle.smash_run.proofs.analysis.analyse_with.Goals as goal

pub returns : goal.returns
returns g c =
    let program = c.args.program.now in
    let board = c.in_ok-board.board in
    let verdicts = c.in_ok-verdicts.verdicts.items in
    let all : c.len.result ≡ length program.asserts.items = search rules in
    analysed (program_of program) c.args.effort.budget _ board verdicts program.well_formed
    (subst AreAllValues c.deref.ensures.value c.are_values.ensures) c.in_ok-board.ensures
    (subst (λ (n : ℕ). AreVerdicts board n verdicts) all c.in_ok-verdicts.ensures)

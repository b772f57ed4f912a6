use Rattle.std.proofs.Common.{◌≡◌, ◌-◌, suc, ap, arith, subst}
use mathlib.Core.Logic.{inr}
use Rattle.c_tree.specs.Whole.{program_of}
use Rattle.flow_graph.specs.Columns.{AreAllValues}
use Rattle.smash_run.specs.steps.Handing.{handed_in}
use Rattle.smash_run.proofs.Telling.{bundled}
use Rattle.smash_run.proofs.bundles.bundle_program.Goals as goal

pub returns : goal.returns
returns c =
    let program = c.args.program.now in
    let counted : c.args.number ≡ suc (c.args.number - 1) = omega (arith, c.requires.some) in
    inr (bundled (program_of program) program.well_formed (subst AreAllValues c.deref.ensures.value c.are_values.ensures)
    c.args.source.now c.args.number (c.args.number - 1) c.args.budget counted c.in_ok-board.board
    c.in_ok-board.ensures.board c.in_ok-board.ensures.unsaid
    c.in_ok-status.field-0 c.in_ok-status.ensures c.reply_with_board.result.status c.reply_with_board.result.text.items
    (handed_in c.reply_with_board.result) c.reply_with_board.ensures.status
    (ap (λ t. t.items) c.reply_with_board.ensures.text) c.reply_with_board.ensures.handed)

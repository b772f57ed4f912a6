use Rattle.std.proofs.Common.{ap, subst}
use Rattle.std.specs.Prelude.{map}
use Rattle.c_tree.specs.Whole.{program_of}
use Rattle.smash_run.specs.Analysis.{IsBoardOf}
use Rattle.smash_run.specs.steps.Handing.{handed_in}
use Rattle.smash_run.proofs.Editing.{edited}
use Rattle.smash_run.proofs.edits.edit_programs.Goals as goal

pub returns-in-Ok : goal.returns-in-Ok
returns-in-Ok g c =
    edited (program_of c.args.old.now) (program_of c.args.new.now) c.in_ok-board.board c.args.effort.budget
    (subst (λ items. IsBoardOf (program_of c.args.old.now) c.args.effort.budget (map (λ a. a.value) items) c.in_ok-board.board)
    c.new.ensures.items c.in_ok-board.ensures) c.in-Ok.reply.status c.with_old.result.status c.in-Ok.reply.text.items
    c.with_old.result.text.items (handed_in c.in-Ok.reply) (handed_in c.with_old.result) c.in-Ok.ensures c.with_old.ensures.status
    (ap (λ t. t.items) c.with_old.ensures.text) c.with_old.ensures.handed

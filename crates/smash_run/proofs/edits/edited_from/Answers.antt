use Rattle.std.proofs.Common.{◌≡◌, ◌∙◌, ◌++◌, ap, arith, length, rules, sym}
use Rattle.std.specs.Prelude.{map}
use Rattle.std.proofs.lemmas.List.{length-map}
use Rattle.c_tree.specs.Whole.{program_of}
use Rattle.report_text.specs.Edits.{kept_line}
use Rattle.report_text.specs.Report.{report_of}
use Rattle.smash_run.specs.Asked.{status_of}
use Rattle.smash_run.specs.steps.Handing.{handed_in}
use Rattle.smash_run.proofs.Editing.{edited_from}
use Rattle.smash_run.proofs.Graphs.{few_there}
use Rattle.smash_run.proofs.edits.edited_from.Goals as goal

pub edit_text-requires-clause-few_all : goal.edit_text-requires-clause-few_all
edit_text-requires-clause-few_all g c =
    let is = c.requires.board in
    let table = ap length (c.all.ensures ∙ c.table.ensures) in
    omega (arith, sym (length-map c.all.result.now (λ s. s.value)), table, few_there c.args.board.now is.reached is.began)

pub returns : goal.returns
returns g c =
    let board = c.args.board.now in
    let summaries = map (λ a. a.value) c.in_ok-kept.kept.items in
    let verdicts = c.in_ok-after.field-0.verdicts.items in
    let asserts = c.args.new.now.asserts.items in
    let all = length c.all.result.now in
    let count : c.len-count.result ≡ length c.in_ok-kept.kept.items = search rules in
    edited_from (program_of c.args.old.now) (program_of c.args.new.now) board c.args.effort.budget summaries c.in_ok-kept.ensures.kept
    c.in_ok-after.field-0.board verdicts c.in_ok-after.ensures c.reply_with_board.result.status c.len-count.result all
    c.reply_with_board.result.text.items (handed_in c.reply_with_board.result)
    (c.reply_with_board.ensures.status ∙ (c.status.ensures ∙ ap status_of c.deref-2.ensures.value))
    (count ∙ sym (length-map c.in_ok-kept.kept.items (λ a. a.value)))
    (sym (length-map c.all.result.now (λ s. s.value)) ∙ ap length (c.all.ensures ∙ c.table.ensures))
    (ap (λ t. t.items) c.reply_with_board.ensures.text ∙ (c.in_ok-text.ensures
    ∙ ap (λ vs. report_of asserts vs ++ kept_line c.len-count.result all) c.deref.ensures.value)) c.reply_with_board.ensures.handed

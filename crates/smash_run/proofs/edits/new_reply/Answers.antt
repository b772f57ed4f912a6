use Rattle.std.proofs.Common.{subst, sym, ap, Err}
use mathlib.Core.Logic.{inl, inr}
use Rattle.std.proofs.lemmas.Result.{IfOk-weaker}
use Rattle.c_tree.specs.Whole.{program_of}
use Rattle.report_text.specs.Refused.{IsOfSource}
use Rattle.smash_run.specs.Edited.{IsEdited}
use Rattle.source_program.specs.Rejections.{IsRefusedFor}
use Rattle.smash_run.specs.steps.Handing.{handed_in}
use Rattle.smash_run.proofs.edits.new_reply.Goals as goal

pub returns-in-Ok-clause-answers : goal.returns-in-Ok-clause-answers
returns-in-Ok-clause-answers g c =
    IfOk-weaker c.edit_programs.result _ _ (λ a h. inr (program_of c.in-Ok.new, c.in-Ok.ensures.ok, h)) c.edit_programs.ensures

pub returns-in-Ok-clause-settled : goal.returns-in-Ok-clause-settled
returns-in-Ok-clause-settled g c =
    IfOk-weaker c.edit_programs.result _ _
    (λ a h Q accepted. subst (λ z. IsEdited (program_of c.args.old.now) z c.args.effort.budget a.status a.text.items (handed_in a))
    (c.in-Ok.ensures.only Q accepted) h)
    c.edit_programs.ensures

pub refused-requires : goal.refused-requires
refused-requires g c =
    subst IsOfSource (sym c.in-Err-Refused.why-is)
    (c.in-Err-Refused.ensures.refused c.in-Err-Refused.why (ap Err c.in-Err-Refused.field-0-is)).of_source

pub returns-in-Err-Refused-clause-answers : goal.returns-in-Err-Refused-clause-answers
returns-in-Err-Refused-clause-answers g c =
    IfOk-weaker c.refused.result _ _ (λ a h. inl h) (c.refused.ensures c.args.bytes.now
    (subst (IsRefusedFor c.args.bytes.now) (sym c.in-Err-Refused.why-is)
    (c.in-Err-Refused.ensures.refused c.in-Err-Refused.why (ap Err c.in-Err-Refused.field-0-is))))

pub returns-in-Err-Refused-clause-settled : goal.returns-in-Err-Refused-clause-settled
returns-in-Err-Refused-clause-settled g c =
    IfOk-weaker c.refused.result _ _
    (λ a h Q accepted. absurd (let e = c.in-Err-Refused.ensures.only Q accepted in let f = c.in-Err-Refused.field-0-is in cc))
    (c.refused.ensures c.args.bytes.now
    (subst (IsRefusedFor c.args.bytes.now) (sym c.in-Err-Refused.why-is)
    (c.in-Err-Refused.ensures.refused c.in-Err-Refused.why (ap Err c.in-Err-Refused.field-0-is))))

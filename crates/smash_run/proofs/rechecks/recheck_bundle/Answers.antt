use Rattle.std.proofs.Common.{subst, sym, ap, Err}
use mathlib.Core.Logic.{inl}
use Rattle.std.proofs.lemmas.Result.{IfOk-weaker}
use Rattle.proof_bundle.specs.Claims.{pure_of}
use Rattle.report_text.specs.Refused.{IsOfSource}
use Rattle.smash_run.specs.Answers.{AnswersBundle}
use Rattle.source_program.specs.Source.{IsAccepted}
use Rattle.source_program.specs.Rejections.{IsRefusedFor}
use Rattle.smash_run.specs.steps.Handing.{handed_in}
use Rattle.smash_run.proofs.rechecks.recheck_bundle.Goals as goal

pub returns-in-Ok-clause-settled : goal.returns-in-Ok-clause-settled
returns-in-Ok-clause-settled c =
    IfOk-weaker c.recheck_program.result _ _
    (λ a h P accepted. subst (λ z. AnswersBundle (pure_of c.args.bundle.now) z a.status a.text.items (handed_in a))
    (c.in-Ok.ensures.only P (subst (λ bytes. IsAccepted bytes P) (sym c.deref.ensures.value) accepted)) h)
    c.recheck_program.ensures

pub refused-requires : goal.refused-requires
refused-requires c =
    subst IsOfSource (sym c.in-Err-Refused.why-is)
    (c.in-Err-Refused.ensures.refused c.in-Err-Refused.why (ap Err c.in-Err-Refused.field-0-is)).of_source

pub returns-in-Err-Refused-clause-answers : goal.returns-in-Err-Refused-clause-answers
returns-in-Err-Refused-clause-answers c =
    IfOk-weaker c.refused.result _ _ (λ a h. inl h) (c.refused.ensures c.args.bundle.now.source.items
    (subst (IsRefusedFor c.args.bundle.now.source.items) (sym c.in-Err-Refused.why-is)
    (subst (λ bytes. IsRefusedFor bytes c.in-Err-Refused.why) c.deref.ensures.value
    (c.in-Err-Refused.ensures.refused c.in-Err-Refused.why (ap Err c.in-Err-Refused.field-0-is)))))

pub returns-in-Err-Refused-clause-settled : goal.returns-in-Err-Refused-clause-settled
returns-in-Err-Refused-clause-settled c =
    IfOk-weaker c.refused.result _ _
    (λ a h P accepted. absurd (let e = c.in-Err-Refused.ensures.only P (subst (λ bytes. IsAccepted bytes P) (sym c.deref.ensures.value)
    accepted) in let f = c.in-Err-Refused.field-0-is in cc))
    (c.refused.ensures c.args.bundle.now.source.items
    (subst (IsRefusedFor c.args.bundle.now.source.items) (sym c.in-Err-Refused.why-is)
    (subst (λ bytes. IsRefusedFor bytes c.in-Err-Refused.why) c.deref.ensures.value
    (c.in-Err-Refused.ensures.refused c.in-Err-Refused.why (ap Err c.in-Err-Refused.field-0-is)))))

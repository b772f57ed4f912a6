use Rattle.std.proofs.Common.{subst, sym, ap, drop, Err, arith}
use mathlib.Core.Logic.{inl, inr}
use Rattle.std.proofs.lemmas.Result.{IfOk-weaker}
use Rattle.c_tree.specs.Whole.{program_of}
use Rattle.lia_solver.proofs.Closing.{both-hold}
use Rattle.report_text.specs.Refused.{IsOfSource}
use Rattle.smash_run.specs.Answers.{AnswersNew}
use Rattle.smash_run.specs.Edited.{IsEdited}
use Rattle.source_program.specs.Source.{IsAccepted}
use Rattle.source_program.specs.Rejections.{IsRefusedFor}
use Rattle.smash_run.specs.steps.Handing.{handed_in}
use Rattle.smash_run.proofs.Editing.{all_behind}
use Rattle.smash_run.proofs.edits.edit_reply.Goals as goal

pub old_refused-requires : goal.old_refused-requires
old_refused-requires g c =
    subst IsOfSource (sym c.in-Err-Refused.why-is)
    (c.in-Err-Refused.ensures.refused c.in-Err-Refused.why (ap Err c.in-Err-Refused.field-0-is)).of_source

pub returns-in-Ok-clause-asked : goal.returns-in-Ok-clause-asked
returns-in-Ok-clause-asked g c =
    let budget = c.args.effort.budget in
    let program = program_of c.in-Ok.old in
    IfOk-weaker c.new_reply.result _ _
    (λ a h. inr (record {
      long_enough = omega (arith, c.if-bytes-len.false);
      answers = inr (
        program,
        c.in-Ok.ensures.ok,
        subst (λ bytes. AnswersNew program budget bytes a.status a.text.items (handed_in a))
            (all_behind c.args.old_length c.args.bytes.now) h,
      );
    })) c.new_reply.ensures.answers

pub returns-in-Ok-clause-settled : goal.returns-in-Ok-clause-settled
returns-in-Ok-clause-settled g c =
    let budget = c.args.effort.budget in
    let behind = all_behind c.args.old_length c.args.bytes.now in
    both-hold c.new_reply.result _ _ _
    (λ a h k. record {
      old = λ long P accepted.
          subst (λ z. AnswersNew z budget (drop c.args.old_length c.args.bytes.now) a.status a.text.items (handed_in a))
          (c.in-Ok.ensures.only P accepted)
          (subst (λ bytes. AnswersNew (program_of c.in-Ok.old) budget bytes a.status a.text.items (handed_in a)) behind h);
      both = λ long P Q accepted new. subst (λ z. IsEdited z Q budget a.status a.text.items (handed_in a))
          (c.in-Ok.ensures.only P accepted) (k Q (subst (λ bytes. IsAccepted bytes Q) (sym behind) new));
    }) c.new_reply.ensures.answers c.new_reply.ensures.settled

pub returns-in-Err-Refused-clause-asked : goal.returns-in-Err-Refused-clause-asked
returns-in-Err-Refused-clause-asked g c =
    IfOk-weaker c.old_refused.result _ _
    (λ a h. inr (record { long_enough = omega (arith, c.if-bytes-len.false); answers = inl h }))
    (c.old_refused.ensures _ (subst (IsRefusedFor _) (sym c.in-Err-Refused.why-is)
    (c.in-Err-Refused.ensures.refused c.in-Err-Refused.why (ap Err c.in-Err-Refused.field-0-is))))

pub returns-in-Err-Refused-clause-settled : goal.returns-in-Err-Refused-clause-settled
returns-in-Err-Refused-clause-settled g c =
    IfOk-weaker c.old_refused.result _ _
    (λ a h. record {
      old = λ long P accepted. absurd (let e = c.in-Err-Refused.ensures.only P accepted in let f = c.in-Err-Refused.field-0-is in cc);
      both = λ long P Q accepted new. absurd (let e = c.in-Err-Refused.ensures.only P accepted in
          let f = c.in-Err-Refused.field-0-is in cc);
    })
    (c.old_refused.ensures _ (subst (IsRefusedFor _) (sym c.in-Err-Refused.why-is)
    (c.in-Err-Refused.ensures.refused c.in-Err-Refused.why (ap Err c.in-Err-Refused.field-0-is))))

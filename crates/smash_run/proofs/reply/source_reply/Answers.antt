use Rattle.std.proofs.Common.{subst, ap, Err}
use mathlib.Core.Logic.{inl, inr}
use Rattle.std.proofs.lemmas.Result.{IfOk-weaker}
use Rattle.c_tree.specs.Whole.{program_of}
use Rattle.smash_run.specs.Answers.{Answers}
use Rattle.smash_run.specs.steps.Handing.{handed_in}
use Rattle.command_words.specs.Commands.{command_of}
use Rattle.smash_run.proofs.Replying.{asks, settles}
use Rattle.smash_run.proofs.reply.source_reply.Goals as goal

pub returns-in-Ok-clause-asked : goal.returns-in-Ok-clause-asked
returns-in-Ok-clause-asked g c =
    IfOk-weaker c.answer.result _ _
    (λ a h. asks c.args.bytes.now a.status a.text.items (handed_in a) (command_of c.args.command.now) c.requires.one
    (inr (record { program = program_of c.in-Ok.program; accepted = c.in-Ok.ensures.ok; answers = h })))
    c.answer.ensures

pub returns-in-Ok-clause-settled : goal.returns-in-Ok-clause-settled
returns-in-Ok-clause-settled g c =
    IfOk-weaker c.answer.result _ _
    (λ a h. settles c.args.bytes.now a.status a.text.items (handed_in a) (command_of c.args.command.now) c.requires.one
    (λ P accepted. subst (λ z. Answers (command_of c.args.command.now) c.args.bytes.now z a.status a.text.items (handed_in a))
    (c.in-Ok.ensures.only P accepted) h))
    c.answer.ensures

pub refused-requires : goal.refused-requires
refused-requires g c = (c.in-Err-Refused.ensures.refused c.in-Err-Refused.why (ap Err c.in-Err-Refused.field-0-is)).of_source

pub returns-in-Err-Refused-clause-asked : goal.returns-in-Err-Refused-clause-asked
returns-in-Err-Refused-clause-asked g c =
    IfOk-weaker c.refused.result _ _
    (λ a h. asks c.args.bytes.now a.status a.text.items (handed_in a) (command_of c.args.command.now) c.requires.one (inl h))
    (c.refused.ensures c.args.bytes.now
    (c.in-Err-Refused.ensures.refused c.in-Err-Refused.why (ap Err c.in-Err-Refused.field-0-is)))

pub returns-in-Err-Refused-clause-settled : goal.returns-in-Err-Refused-clause-settled
returns-in-Err-Refused-clause-settled g c =
    IfOk-weaker c.refused.result _ _
    (λ a h. settles c.args.bytes.now a.status a.text.items (handed_in a) (command_of c.args.command.now) c.requires.one
    (λ P accepted. absurd (let e = c.in-Err-Refused.ensures.only P accepted in let f = c.in-Err-Refused.field-0-is in cc)))
    (c.refused.ensures c.args.bytes.now
    (c.in-Err-Refused.ensures.refused c.in-Err-Refused.why (ap Err c.in-Err-Refused.field-0-is)))

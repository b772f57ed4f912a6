use Rattle.std.proofs.Common.{subst, ap, Err, inl, inr}
use Rattle.std.proofs.lemmas.Result.{IfOk-weaker}
use Rattle.c_tree.specs.Whole.{program_of}
use Rattle.smash_graphs.specs.Printed.{IsPrinted}
use Rattle.smash_graphs.proofs.print.reply_to.Goals as goal

pub returns-in-Ok-clause-asked : goal.returns-in-Ok-clause-asked
returns-in-Ok-clause-asked c =
    IfOk-weaker c.graphs_of.result _ _ (λ r h. inr (program_of c.in-Ok.program, c.in-Ok.ensures.ok, h)) c.graphs_of.ensures

pub returns-in-Ok-clause-settled : goal.returns-in-Ok-clause-settled
returns-in-Ok-clause-settled c =
    IfOk-weaker c.graphs_of.result _ _
    (λ r h. λ P accepted. subst (λ z. IsPrinted z r.status r.text.items) (c.in-Ok.ensures.only P accepted) h) c.graphs_of.ensures

pub refused-requires : goal.refused-requires
refused-requires c = (c.in-Err-Refused.ensures.refused c.in-Err-Refused.why (ap Err c.in-Err-Refused.field-0-is)).of_source

pub returns-in-Err-Refused-clause-asked : goal.returns-in-Err-Refused-clause-asked
returns-in-Err-Refused-clause-asked c =
    IfOk-weaker c.refused.result _ _ (λ r h. inl h)
    (c.refused.ensures c.args.bytes.now
    (c.in-Err-Refused.ensures.refused c.in-Err-Refused.why (ap Err c.in-Err-Refused.field-0-is)))

pub returns-in-Err-Refused-clause-settled : goal.returns-in-Err-Refused-clause-settled
returns-in-Err-Refused-clause-settled c =
    IfOk-weaker c.refused.result _ _
    (λ r h. λ P accepted. absurd (let e = c.in-Err-Refused.ensures.only P accepted in let f = c.in-Err-Refused.field-0-is in cc))
    (c.refused.ensures c.args.bytes.now
    (c.in-Err-Refused.ensures.refused c.in-Err-Refused.why (ap Err c.in-Err-Refused.field-0-is)))

use Rattle.std.proofs.Common.{List, length, ap, arith, subst, sym, ◌∙◌, ◌<◌}
use Rattle.std.proofs.lemmas.List.{length-map}
use Rattle.summary_form.specs.declared.summary.Summary.{Summary}
use Rattle.punch_step.proofs.excluding.next_after.Goals as goal

pub next_of-requires : goal.next_of-requires
next_of-requires c = subst (λ n. c.args.place < n)
    (sym (length-map c.all.result.now (λ s. s.value)) ∙ ap (λ (ss : List Summary). length ss) c.all.ensures)
    (omega (arith, c.if-place-all.false))

use Rattle.std.proofs.Common.{[], ◌∷◌, ◌++◌, List, ap, sym, ◌∙◌}
use Rattle.summary_form.specs.declared.summary.Summary.{Summary}
use Rattle.table_tests.proofs.listed.caught_up.Goals as goal

pub catch_up-requires-clause-front : goal.catch_up-requires-clause-front
catch_up-requires-clause-front c = record {
  rest = c.args.second.value ∷ [];
  is = c.in_ok-all.ensures.summaries
      ∙ sym (ap (λ (xs : List Summary). xs ++ c.args.second.value ∷ [])
      (c.push.ensures.summaries ∙ ap (λ (xs : List Summary). xs ++ c.in_ok-clone.field-0.value ∷ []) c.in_ok-table.ensures.none
      ∙ ap (λ (s : Summary). s ∷ []) c.in_ok-clone.ensures.cases));
}

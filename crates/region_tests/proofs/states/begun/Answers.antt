use Rattle.std.proofs.Common.{◌≡◌, [], map, ap, subst, ◌∙◌}
use Rattle.std.specs.Prelude.{slice_get}
use Rattle.std.proofs.lemmas.Result.{IfOk-weaker}
use Rattle.summary_form.specs.declared.query.Query.{Query}
use Rattle.query_rules.specs.Seen.{ShowsModel}
use Rattle.query_rules.specs.Steps.{begin_model}
use Rattle.region_tests.specs.Returning.{ShowsAt, any_run, first_model}
use Rattle.region_tests.proofs.ReturningGraph.{first_graph}
use Rattle.region_tests.proofs.states.begun.Goals as goal

pub begin_state-requires-clause-procedure : goal.begin_state-requires-clause-procedure
begin_state-requires-clause-procedure c =
    let gs = c.args.graphs.now.graphs in let q : c.in_ok-query.query.value ≡ any_run = c.in_ok-query.ensures.ok ∙ c.query.ensures in
    (c.requires.0, ap (λ (x : Query). slice_get gs x.proc) q ∙ first_graph gs c.requires)

pub returns : goal.returns
returns c =
    let gs = c.args.graphs.now.graphs in let q : c.in_ok-query.query.value ≡ any_run = c.in_ok-query.ensures.ok ∙ c.query.ensures in
    let at = first_graph gs c.requires in let g = c.requires.0 in
    IfOk-weaker c.begin_state.result _ (λ s. ShowsAt gs s first_model)
    (λ s f. (
      g,
      at,
      subst (λ (x : Query). ShowsModel s (begin_model g x [])) q
          (subst (λ l. ShowsModel s (begin_model g c.in_ok-query.query.value (map (λ a. a.value) l))) c.new-2.ensures.items
          (f g (ap (λ (x : Query). slice_get gs x.proc) q ∙ at))),
    )) c.begin_state.ensures.shows

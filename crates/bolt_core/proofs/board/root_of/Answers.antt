use Rattle.std.proofs.Common.{◌≡◌, List, [], map, ap, ◌∙◌, subst}
use Rattle.std.specs.Prelude.{slice_get}
use Rattle.query_rules.specs.Seen.{ShowsModel}
use Rattle.query_rules.specs.Steps.{begin_model}
use Rattle.summary_form.specs.declared.query.Query.{Query}
use Rattle.bolt_core.specs.Boards.{root_query}
use Rattle.bolt_core.proofs.board.root_of.Goals as goal

pub begin_state-requires-clause-procedure : goal.begin_state-requires-clause-procedure
begin_state-requires-clause-procedure c =
    let is : c.in_ok-query.query.value ≡ root_query c.args.main c.args.id = c.in_ok-query.ensures.ok ∙ c.root_query.ensures in
    (c.requires.0, ap (λ (q : Query). slice_get c.args.graphs.now.graphs q.proc) is ∙ c.requires.1)

pub returns-clause-state : goal.returns-clause-state
returns-clause-state c =
    let is : c.in_ok-query.query.value ≡ root_query c.args.main c.args.id = c.in_ok-query.ensures.ok ∙ c.root_query.ensures in
    let at = ap (λ (q : Query). slice_get c.args.graphs.now.graphs q.proc) is ∙ c.requires.1 in
    record {
      graph = c.requires.0;
      at = c.requires.1;
      shows = subst (λ (q : Query). ShowsModel c.in_ok-state.state (begin_model c.requires.0 q [])) is
          (subst (λ (qs : List Query). ShowsModel c.in_ok-state.state (begin_model c.requires.0 c.in_ok-query.query.value qs))
          (ap (map (λ a. a.value)) c.new-2.ensures.items) (c.in_ok-state.ensures.shows c.requires.0 at));
    }

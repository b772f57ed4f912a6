-- The states of queries are what the machine needs.
use Rattle.std.proofs.Common.{◌≡◌, ℕ, ◌-◌, List, [], ◌∷◌, ◌++◌, length, drop, Some, arith, refl, sym, subst, ap, ◌∙◌}
use Rattle.std.specs.Prelude.{slice_get}
use Rattle.std.proofs.lemmas.List.{drop_all}
use Rattle.std.proofs.lemmas.Option.{same_Some}
use Rattle.flow_graph.specs.Linked.{AreGraphs}
use Rattle.flow_graph.specs.declared.graph.Graph.{Graph}
use Rattle.summary_form.specs.declared.query.Query.{Query}
use Rattle.summary_form.specs.declared.summary.Summary.{Summary}
use Rattle.query_rules.specs.declared.step.Asked.{Asked}
use Rattle.query_rules.specs.declared.step.Closing.{Closing}
use Rattle.query_rules.specs.declared.step.Closing.TheVariants as closing
use Rattle.query_rules.specs.declared.step.News.{News}
use Rattle.query_rules.specs.declared.step.News.TheVariants as news
use Rattle.query_rules.specs.declared.step.Step.{Step}
use Rattle.query_rules.specs.Closings.{IsClosedAs}
use Rattle.query_rules.specs.Laws.{IsGrounded}
use Rattle.query_rules.specs.Leaning.{levels_of}
use Rattle.query_rules.specs.Seen.{Seen}
use Rattle.query_rules.specs.States.{IsTrueNews, Tells}
use Rattle.query_rules.specs.Steps.{told, updated, with_child}
use Rattle.query_rules.proofs.Lengthening.{state_grown}
use Rattle.query_rules.proofs.NoSteps.{none_asked}
use Rattle.query_rules.proofs.Successors.{news_lead}
use Rattle.query_rules.proofs.Theorems.{news_true}
use Rattle.bolt_core.specs.Lawful.{GivenFrom, HasAsked, IsLawful, MayTell, IsTrueNews as IsTold}
use Rattle.bolt_core.specs.Machine.{AllOf, HoldsBy, an_ask, told_child}
use Rattle.bolt_core.specs.States.{IsClosedFor, IsStateFor, last_of, reads, seen_in}
use Rattle.bolt_core.proofs.Conditions.{Within, given_news, graded, news_given, table_holds}
use Rattle.bolt_core.proofs.LastAsks.{IsAsked, asks_last}
use Rattle.bolt_core.proofs.SeenModels.{closed_along}

no_steps : (steps : List Step) → length steps ≡ 0 → steps ≡ []
no_steps [] e = refl
no_steps (s ∷ steps) e = absurd (omega (arith, e))

module _ (gs : List Graph) where
  longer : (table more : List Summary) (s : Seen) → IsStateFor gs table s → IsStateFor gs (table ++ more) s
  longer table more s h = record {
    graph = h.graph;
    model = h.model;
    at = h.at;
    shows = h.shows;
    state = state_grown gs h.graph table more s.query s.ancestors h.model h.state;
  }

  unasked : (table : List Summary) (s : Seen) → IsStateFor gs table s → length s.steps ≡ 0 → s.asked ≡ []
  unasked table s h e =
      sym h.shows.asked ∙ (none_asked gs h.graph table s.query s.ancestors h.model h.state (h.shows.steps ∙ no_steps s.steps e)).0

  seen_none : (s : Seen) → seen_in (drop (length s.steps - 0) s.steps) ≡ []
  seen_none s = ap seen_in (drop_all (length s.steps - 0) s.steps (omega arith))

  -- News

  pub told_news : (s : Seen) (q : Query) (k : News) → IsTold (reads gs) s q k → IsTrueNews gs (levels_of s.ancestors s.query) q k
  told_news s q (news.NotMay low) h = news_given gs (levels_of s.ancestors s.query) q low h
  told_news s q news.Waiting h = h
  told_news s q news.Starved h = h
  told_news s q news.Must h = h
  told_news s q (news.Stuck kind) h = h

  pub tell_state : (table : List Summary) (s : Seen) (i c : ℕ) (k : News) → IsStateFor gs table s → MayTell (reads gs) s i k →
      IsStateFor gs table ((reads gs).tell i c k s)
  tell_state table s i c k h t = record {
    graph = h.graph;
    model = told i c k h.model;
    at = h.at;
    shows = record {
      query = h.shows.query;
      level = h.shows.level;
      ancestors = h.shows.ancestors;
      steps = h.shows.steps;
      partition = h.shows.partition;
      trails = h.shows.trails;
      marks = h.shows.marks;
      asked = ap (λ (asked : List Asked). updated (with_child c k) asked i) h.shows.asked;
      lowest = h.shows.lowest;
    };
    state = news_lead gs h.graph table s.query s.ancestors h.model i c k h.state tells;
  }
    where
      levels : levels_of h.model.ancestors h.model.query ≡ levels_of s.ancestors s.query
      levels = ap (λ l. levels_of l h.model.query) h.shows.ancestors ∙ ap (levels_of s.ancestors) h.shows.query

      tells : Tells gs h.model i k
      tells = record {
        entry = t.entry;
        there = ap (λ (asked : List Asked). slice_get asked i) h.shows.asked ∙ t.there;
        stays = t.stays;
        is_true = subst (λ l. IsTrueNews gs l t.entry.query k) (sym levels) (told_news s t.entry.query k t.is_true);
      }

  -- Where the last step is an Ask

  asked_last : (table : List Summary) (s : Seen) (h : IsStateFor gs table s) (q : Query) → last_of s.steps ≡ an_ask q →
      IsAsked gs h.graph table s.query s.ancestors h.model q
  asked_last table s h q e = asks_last gs h.graph table s.query s.ancestors h.model h.state q (ap last_of h.shows.steps ∙ e)

  has_asked : (table : List Summary) (s : Seen) (q : Query) → IsStateFor gs table s → last_of s.steps ≡ an_ask q →
      HasAsked (reads gs) s q
  has_asked table s q h e =
      let a = asked_last table s h q e in
      record {
        entry = a.entry;
        there = subst (λ (xs : List Asked). slice_get xs (length xs - 1) ≡ Some a.entry) h.shows.asked a.there;
        query = a.query;
      }

  tell_asked : (table : List Summary) (s : Seen) (q : Query) (c : ℕ) → IsStateFor gs table s → last_of s.steps ≡ an_ask q →
      IsStateFor gs table (told_child (reads gs) s c)
  tell_asked table s q c h e = record {
    graph = h.graph;
    model = told (length h.model.asked - 1) c news.Waiting h.model;
    at = h.at;
    shows = record {
      query = h.shows.query;
      level = h.shows.level;
      ancestors = h.shows.ancestors;
      steps = h.shows.steps;
      partition = h.shows.partition;
      trails = h.shows.trails;
      marks = h.shows.marks;
      asked = ap (λ (xs : List Asked). updated (with_child c news.Waiting) xs (length xs - 1)) h.shows.asked;
      lowest = h.shows.lowest;
    };
    state = (asked_last table s h q e).told_to c;
  }

  -- Closed states

  -- the state's own model and graph are closed in the same way
  pub closed_state : (table : List Summary) (s : Seen) (h : IsStateFor gs table s) (c : Closing) → IsClosedFor gs s c →
      IsClosedAs h.graph h.model c
  closed_state table s h c closed = subst (λ g. IsClosedAs g h.model c) (same_Some closed.graph h.graph (sym closed.at ∙ h.at))
      (closed_along s closed.model h.model closed.shows h.shows closed.graph c closed.closed)

  gives : AreGraphs gs → (table : List Summary) (s : Seen) → IsStateFor gs table s → AllOf (HoldsBy (reads gs)) table →
      IsClosedFor gs s closing.NotMay → GivenFrom (Within gs) (levels_of s.ancestors s.query) s.query s.lowest
  gives graphs table s h holds closed = given_news gs (levels_of s.ancestors s.query) s.query s.lowest here where
    grounded : IsGrounded gs h.graph table s.query s.ancestors h.model
    grounded = record { graphs = graphs; table_holds = table_holds gs table holds; state = h.state }

    of_model : IsTrueNews gs (levels_of h.model.ancestors h.model.query) h.model.query (news.NotMay h.model.lowest)
    of_model = news_true gs h.graph table s.query s.ancestors h.model grounded
        (closed_state table s h closing.NotMay closed)

    here : IsTrueNews gs (levels_of s.ancestors s.query) s.query (news.NotMay s.lowest)
    here = subst (λ o. IsTrueNews gs (levels_of s.ancestors s.query) s.query (news.NotMay o)) h.shows.lowest
        (subst (λ l. IsTrueNews gs (levels_of l s.query) s.query (news.NotMay h.model.lowest)) h.shows.ancestors
        (subst (λ q. IsTrueNews gs (levels_of h.model.ancestors q) q (news.NotMay h.model.lowest)) h.shows.query of_model))

  pub states_lawful : AreGraphs gs → IsLawful (reads gs)
  states_lawful graphs = record {
    graded = graded gs;
    longer = longer;
    unasked = unasked;
    seen_none = seen_none;
    tell_entries = λ i c k s. refl;
    tell_steps = λ i c k s. refl;
    tell_query = λ i c k s. refl;
    tell_level = λ i c k s. refl;
    tell_above = λ i c k s. refl;
    tell_last = λ i c k s. refl;
    tell_seen = λ i c n k s. refl;
    tell_state = tell_state;
    asks_last = has_asked;
    tell_asked = tell_asked;
    gives = gives graphs;
  }

-- What a list of queries gives, and summaries that hold, as the machine says it and as the rules do.
use Rattle.std.proofs.Common.{ℕ, zero, suc, List, [], ◌∷◌, drop, Option, Some, None, subst}
use Rattle.std.proofs.lemmas.Option.{same_Some, none-some}
use Rattle.flow_graph.specs.declared.graph.Graph.{Graph}
use Rattle.summary_form.specs.declared.query.Query.{Query}
use Rattle.summary_form.specs.declared.summary.Summary.{Summary}
use Rattle.summary_form.specs.declared.summary.Summary.TheVariants as summary
use Rattle.summary_form.specs.Answering.{SummaryHolds}
use Rattle.summary_form.specs.Instances.{arity_in, graph_runs}
use Rattle.summary_form.specs.NotMays.{NotMayWithin}
use Rattle.summary_form.proofs.Summaries.{graph_below}
use Rattle.query_rules.specs.declared.step.News.TheVariants as news
use Rattle.query_rules.specs.Conditional.{AllNotMay}
use Rattle.query_rules.specs.States.{AllHold, IsTrueNews}
use Rattle.bolt_core.specs.Given.{AllAt, IsGraded}
use Rattle.bolt_core.specs.Lawful.{GivenFrom}
use Rattle.bolt_core.specs.Machine.{AllOf, HoldsBy}
use Rattle.bolt_core.specs.States.{reads}

module _ (gs : List Graph) where
  -- no run of the graphs of at most this depth is what the query asks for
  abbrev pub Within : ℕ → Query → Type 0
  Within d q = NotMayWithin (graph_runs gs) d q

  pub graded : IsGraded Within
  graded = record {
    none = λ q args ins values run met. run.run;
    less = λ d q h. graph_below gs d q h;
  }

  to_rules : (d : ℕ) (qs : List Query) → AllAt Within d qs → AllNotMay (graph_runs gs) d qs
  to_rules d [] h = tt
  to_rules d (q ∷ qs) h = (h.0, to_rules d qs h.1)

  from_rules : (d : ℕ) (qs : List Query) → AllNotMay (graph_runs gs) d qs → AllAt Within d qs
  from_rules d [] h = tt
  from_rules d (q ∷ qs) h = (h.0, from_rules d qs h.1)

  -- a not-may that is true news to the rules is given, and the other way round
  pub given_news : (levels : List Query) (q : Query) (o : Option ℕ) → IsTrueNews gs levels q (news.NotMay o) → GivenFrom Within levels q o
  given_news levels q None h = record { at = λ d. h d }
  given_news levels q (Some j) h = record { next = λ d all. h d (to_rules d (drop j levels) all) }

  pub news_given : (levels : List Query) (q : Query) (o : Option ℕ) → GivenFrom Within levels q o → IsTrueNews gs levels q (news.NotMay o)
  news_given levels q None h = λ d. h.at d
  news_given levels q (Some j) h = λ d all. h.next d (from_rules d (drop j levels) all)

  summary_holds : (s : Summary) → HoldsBy (reads gs) s → SummaryHolds (graph_runs gs) (arity_in gs) s
  summary_holds (summary.NotMay q) h = λ d. h.at d
  summary_holds (summary.Must p) h = h

  -- each summary of a table, by its place
  pub table_holds : (table : List Summary) → AllOf (HoldsBy (reads gs)) table → AllHold gs table
  table_holds [] h place s e = absurd (none-some s e)
  table_holds (x ∷ table) h zero s e = subst (SummaryHolds (graph_runs gs) (arity_in gs)) (same_Some x s e) (summary_holds x h.0)
  table_holds (x ∷ table) h (suc place) s e = table_holds table h.1 place s e

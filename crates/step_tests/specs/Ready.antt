-- States of queries that are ready for slices, for graphs and a table.
use Rattle.std.specs.Prelude.{◌≡◌, ℕ, List, Some, slice_get}
use Rattle.flow_graph.specs.declared.graph.Graph.{Graph}
use Rattle.summary_form.specs.Instances.{arity_in}
use Rattle.summary_form.specs.NotMays.{Fits}
use Rattle.summary_form.specs.declared.query.Query.{Query}
use Rattle.summary_form.specs.declared.summary.Summary.{Summary}
use Rattle.query_rules.specs.Closings.{IsClosedAs}
use Rattle.query_rules.specs.Seen.{Seen}
use Rattle.query_rules.specs.Steps.{Model}
use Rattle.query_rules.specs.declared.step.Asked.{Asked}
use Rattle.query_rules.specs.declared.step.News.TheVariants as news
use Rattle.query_rules.specs.Answered.{AreAnswered}
use Rattle.punch_step.specs.Analysed.{IsAnalysed}
use Rattle.punch_step.specs.declared.slice.SliceEnd.{SliceEnd}
use Rattle.punch_step.specs.declared.slice.SliceEnd.TheVariants as ends

-- the query is of one of the graphs, and fits it
abbrev pub IsFitting : List Graph → Query → Type 0
IsFitting gs q =
    (g : Graph) × (slice_get gs q.proc ≡ Some g) × Fits q.proc (arity_in gs q.proc) q

-- so is each asked query
abbrev pub AreFitting : List Graph → List Asked → Type 0
AreFitting gs asked =
    (i : ℕ) (a : Asked) → slice_get asked i ≡ Some a → IsFitting gs a.query

-- a state of a query, whose asked queries may be begun
pub record IsReady (gs : List Graph) (table : List Summary) (s : Seen) : Type 0 where
  pub graph : Graph
  pub model : Model
  pub analysed : IsAnalysed gs table graph s model
  pub answered : AreAnswered table s.asked
  pub fitting : AreFitting gs s.asked

abbrev pub IsClosedBy : Graph → Model → SliceEnd → Type 0
IsClosedBy g m (ends.Closed c) = IsClosedAs g m c
IsClosedBy g m _ = Unit {0}

-- a state that is closed as the end says, if it says so
pub record IsEnded (gs : List Graph) (table : List Summary) (s : Seen) (end : SliceEnd) :
    Type 0 where
  pub graph : Graph
  pub model : Model
  pub analysed : IsAnalysed gs table graph s model
  pub closed : IsClosedBy graph model end

-- the asked query of this number, of which nothing is reported
pub record IsAskedAs (s : Seen) (i : ℕ) (q : Query) : Type 0 where
  pub entry : Asked
  pub there : slice_get s.asked i ≡ Some entry
  pub query : entry.query ≡ q
  pub waits : entry.news ≡ news.Waiting

-- The states of queries, as the machine reads them.
use Rattle.std.specs.Prelude.{◌≡◌, ℕ, ◌-◌, List, [], ◌∷◌, ◌++◌, length, drop, Some, slice_get}
use Rattle.flow_graph.specs.declared.graph.Graph.{Graph}
use Rattle.summary_form.specs.declared.summary.Summary.{Summary}
use Rattle.summary_form.specs.Instances.{arity_in, graph_runs}
use Rattle.summary_form.specs.Musts.{MustHolds}
use Rattle.summary_form.specs.NotMays.{NotMayWithin}
use Rattle.query_rules.specs.Closings.{IsClosedAs, IsWaiting}
use Rattle.query_rules.specs.Seen.{Seen, ShowsModel}
use Rattle.query_rules.specs.States.{IsStateOf}
use Rattle.query_rules.specs.Steps.{Model, updated, with_child}
use Rattle.query_rules.specs.declared.step.Closing.{Closing}
use Rattle.query_rules.specs.declared.step.Step.{Step}
use Rattle.query_rules.specs.declared.step.Step.TheVariants as step
use Rattle.bolt_core.specs.Machine.{Last, Reads, a_feed, an_ask, other}

-- The last step

abbrev pub last_as : Step → Last
last_as (step.Ask k q follows seen) = an_ask q
last_as (step.Feed i) = a_feed i
last_as _ = other

abbrev pub last_of : List Step → Last
last_of [] = other
last_of (s ∷ []) = last_as s
last_of (s ∷ t ∷ steps) = last_of (t ∷ steps)

-- What Ask and Stuck steps have seen

abbrev pub seen_by : Step → List ℕ
seen_by (step.Ask k q follows seen) = seen ∷ []
seen_by (step.Stuck k why seen) = seen ∷ []
seen_by _ = []

abbrev pub seen_in : List Step → List ℕ
seen_in [] = []
seen_in (s ∷ steps) = seen_by s ++ seen_in steps

-- For these graphs

module _ (gs : List Graph) where
  -- what is seen is a state of its query, for this table
  pub record IsStateFor (table : List Summary) (s : Seen) : Type 0 where
    pub graph : Graph
    pub model : Model
    pub at : slice_get gs s.query.proc ≡ Some graph
    pub shows : ShowsModel s model
    pub state : IsStateOf gs graph table s.query s.ancestors model

  pub record WaitsFor (s : Seen) : Type 0 where
    pub graph : Graph
    pub model : Model
    pub at : slice_get gs s.query.proc ≡ Some graph
    pub shows : ShowsModel s model
    pub waits : IsWaiting graph model

  pub record IsClosedFor (s : Seen) (c : Closing) : Type 0 where
    pub graph : Graph
    pub model : Model
    pub at : slice_get gs s.query.proc ≡ Some graph
    pub shows : ShowsModel s model
    pub closed : IsClosedAs graph model c

  abbrev pub reads : Reads Seen
  reads = record {
    steps = λ s. length s.steps;
    query = λ s. s.query;
    level = λ s. s.level;
    above = λ s. s.ancestors;
    entries = λ s. s.asked;
    last = λ s. last_of s.steps;
    seen = λ s n. seen_in (drop (length s.steps - n) s.steps);
    lowest = λ s. s.lowest;
    tell = λ i c k s. record s { asked = updated (with_child c k) s.asked i };
    IsState = IsStateFor;
    Waits = WaitsFor;
    IsClosed = IsClosedFor;
    nm = λ d q. NotMayWithin (graph_runs gs) d q;
    HasRuns = λ p. MustHolds (graph_runs gs) (arity_in gs p.proc) p;
  }

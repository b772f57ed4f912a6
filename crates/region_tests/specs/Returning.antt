-- The graph and the query of the tests of states.
use Rattle.std.specs.Prelude.{◌≡◌, List, [], ◌∷◌, Some, slice_get, pos}
use Rattle.linear_formula.specs.declared.formula.Atom.{Atom}
use Rattle.infeasible_cert.specs.declared.certificate.Certificate.{Certificate}
use Rattle.infeasible_cert.specs.declared.certificate.Derived.{Derived}
use Rattle.infeasible_cert.specs.Refutation.{close, refutation_of}
use Rattle.flow_graph.specs.declared.graph.Graph.{Graph}
use Rattle.flow_graph.specs.declared.graph.Edge.{Edge}
use Rattle.flow_graph.specs.declared.graph.Edge.TheVariants.{Entry, Return}
use Rattle.summary_form.specs.declared.query.Query.{Query}
use Rattle.summary_form.specs.declared.query.ExitKind.TheVariants as kind
use Rattle.query_rules.specs.declared.step.Killer.TheVariants as killer
use Rattle.query_rules.specs.declared.step.Step.{Step}
use Rattle.query_rules.specs.declared.step.Step.TheVariants as step
use Rattle.query_rules.specs.Seen.{Seen, ShowsModel}
use Rattle.query_rules.specs.Steps.{Model, begin_model, stepped}

-- the entry, and a return from the node after it
abbrev pub returning_edges : List Edge
returning_edges = Entry 2 1 ∷ Return 2 0 (0 ∷ []) ∷ []

pub record IsReturning (g : Graph) : Type 0 where
  pub nodes : g.nodes ≡ 3
  pub exit : g.exit ≡ 0
  pub fail : g.fail ≡ 1
  pub params : g.params ≡ 1
  pub exits : g.exits ≡ 1
  pub slots : g.slots ≡ 1
  pub edges : g.edges ≡ returning_edges

-- there is one graph, and it is this one
abbrev pub AreReturning : List Graph → Type 0
AreReturning gs = (g : Graph) × (gs ≡ g ∷ []) × IsReturning g

-- whether the graph returns
abbrev pub any_run : Query
any_run = record {
  proc = 0;
  exit = kind.Return;
  start = record { atoms = [] };
  end = record { atoms = [] };
}

abbrev pub entry_step : Step
entry_step = step.Extend (record { edge = 0; from = 0; to = 3 }) 0 []

abbrev pub return_step : Step
return_step = step.Extend (record { edge = 1; from = 3; to = 1 }) 0 []

-- the state of the query after some steps
abbrev pub first_model : Graph → Model
first_model g = begin_model g any_run []

abbrev pub entered_model : Graph → Model
entered_model g = stepped g [] entry_step (first_model g)

abbrev pub ShowsAt : List Graph → Seen → (Graph → Model) → Type 0
ShowsAt gs s model_of =
    (g : Graph) × (slice_get gs 0 ≡ Some g) × ShowsModel s (model_of g)

-- reads 1 <= 0
abbrev pub never : Atom
never = record { term = record { parts = []; constant = pos 1 } }

-- whether the graph returns from no state
abbrev pub no_run : Query
no_run = record {
  proc = 0;
  exit = kind.Return;
  start = record { atoms = never ∷ [] };
  end = record { atoms = [] };
}

abbrev pub barred_model : Graph → Model
barred_model g = begin_model g no_run []

-- the row, by itself
abbrev pub by_itself : Derived
by_itself = record { row = never; parts = (0, pos 1) ∷ []; divide = pos 1 }

-- the entry is killed by a certificate of this row
abbrev pub IsEntryKill : Step → Type 0
IsEntryKill s =
    (c : Certificate) × (refutation_of c ≡ close (by_itself ∷ []))
    × (s ≡ step.Kill (record { edge = 0; from = 0; to = 3 }) (killer.Certificate c))

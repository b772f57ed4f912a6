-- The laws of trails.
use Rattle.std.specs.Prelude.{◌≡◌, ℕ, false, IsTrue, List, length, None, Some, slice_get}
use Rattle.linear_formula.specs.LinearSum.{LinearSum, Valuation, Is64}
use Rattle.linear_formula.specs.Formula.{HoldsAll, are_terms}
use Rattle.linear_formula.specs.declared.formula.Atom.{Atom}
use Rattle.shadow_elim.specs.Sums.{first_wide, row_sums}
use Rattle.flow_graph.specs.Calls.{CallSite, call_edge}
use Rattle.flow_graph.specs.declared.graph.Edge.{Edge}
use Rattle.flow_graph.specs.declared.graph.Graph.{Graph}
use Rattle.flow_graph.specs.Columns.{first_symbol, rows_name_only, is_entry_column}
use Rattle.flow_graph.specs.Readings.{reading}
use Rattle.flow_graph.specs.Runs.{GraphRuns, came, failed}
use Rattle.flow_graph.specs.Shapes.{source, is_call}
use Rattle.flow_graph.specs.WellFormed.{first_node}
use Rattle.summary_form.specs.declared.path.Path.{Path}
use Rattle.summary_form.specs.declared.query.Query.{Query}
use Rattle.summary_form.specs.declared.query.ExitKind.{ExitKind}
use Rattle.summary_form.specs.declared.query.ExitKind.TheVariants as kind
use Rattle.summary_form.specs.Instances.{graph_runs, arity_in}
use Rattle.summary_form.specs.Musts.{values_of, MustHolds}
use Rattle.must_region.specs.Paths.{IsPathOf}
use Rattle.must_region.specs.Traces.{Trace, TraceNamesOwn}
use Rattle.must_region.specs.Rules.{begin_trail, extended, extended_must, symbols_from}
use Rattle.must_region.specs.Trails.{IsTrail, HasTerms, GivesRuns, TakesStep, LosesNoStep, LosesNoneBy}

-- the edge of this number leaves the trail's node, and is no call
pub record Leaves (g : Graph) (t : Trace) (i : ℕ) (e : Edge) : Type 0 where
  pub at : slice_get g.edges i ≡ Some e
  pub leaves : source e ≡ Some t.node
  pub no_call : is_call e ≡ false

-- the call of this number leaves the trail's node, and the must is of the called procedure, with a
-- term for each argument
pub record Calls (g : Graph) (t : Trace) (i to : ℕ) (site : CallSite) (must : Path) :
    Type 0 where
  pub at : slice_get g.edges i ≡ Some (call_edge t.node to site)
  pub of_procedure : must.proc ≡ site.procedure
  pub entry_terms : length site.arguments ≡ length must.entry

abbrev pub BeginsTrail : Type 0
BeginsTrail =
    (gs : List Graph) (g : Graph) →
    IsTrail gs g (begin_trail (first_node g.edges) g.params g.slots)

-- an edge that is no call makes a trail of a trail
abbrev pub ExtendsTrails : Type 0
ExtendsTrails =
    (gs : List Graph) (g : Graph) (t : Trace) (i : ℕ) (e : Edge) →
    IsTrail gs g t → Leaves g t i e → IsTrail gs g (extended t e)

-- so does a call by a must that gives runs
abbrev pub ExtendsByMusts : Type 0
ExtendsByMusts =
    (gs : List Graph) (g : Graph) (t : Trace) (i to : ℕ) (site : CallSite)
    (must : Path) →
    IsTrail gs g t → GivesRuns gs must → Calls g t i to site must →
    IsTrail gs g (extended_must t to g.fail site must)

-- Two laws about one step over an edge that is no call. They ask nothing of where the frame began,
-- so they hold of each trail, and of a frame whose entry values are any terms.

-- what meets the guard after the edge has stepped over it
abbrev pub StepsAreTaken : Type 0
StepsAreTaken =
    (g : Graph) (t : Trace) (i : ℕ) (e : Edge) →
    HasTerms g t → Leaves g t i e → TakesStep g t e (extended t e)

-- each step is that of an assignment which meets the guard after the edge
abbrev pub NoStepIsLost : Type 0
NoStepIsLost =
    (g : Graph) (t : Trace) (i : ℕ) (e : Edge) →
    HasTerms g t → TraceNamesOwn t → Leaves g t i e → LosesNoStep g t e (extended t e)

abbrev pub NoCalledRunIsLost : Type 0
NoCalledRunIsLost =
    (gs : List Graph) (g : Graph) (t : Trace) (i to : ℕ) (site : CallSite)
    (must : Path) →
    IsTrail gs g t → TraceNamesOwn t → Calls g t i to site must →
    LosesNoneBy g t to site must (extended_must t to g.fail site must)

-- at the exit each assignment that meets the guard gives a run that returns
abbrev pub ReturnsGiveRuns : Type 0
ReturnsGiveRuns =
    (gs : List Graph) (p : ℕ) (g : Graph) (t : Trace) → slice_get gs p ≡ Some g → IsTrail gs g t →
    t.node ≡ g.exit → (v : Valuation) → Is64 v → HoldsAll v t.guard.atoms →
    (d : ℕ) × GraphRuns gs d p (values_of v t.entry) (values_of v t.inputs)
    (came (values_of v t.slots))

-- with an id, one that fails at it
abbrev pub FailuresGiveRuns : Type 0
FailuresGiveRuns =
    (gs : List Graph) (p : ℕ) (g : Graph) (t : Trace) → slice_get gs p ≡ Some g → IsTrail gs g t →
    (id : ℕ) → t.failed ≡ Some id → (v : Valuation) → Is64 v → HoldsAll v t.guard.atoms →
    (d : ℕ) × GraphRuns gs d p (values_of v t.entry) (values_of v t.inputs) (failed id)

-- where the entry terms are the first symbols, rows over entry values are read without a wide sum
abbrev pub StartsAreRead : Type 0
StartsAreRead =
    (g : Graph) (slots : List LinearSum) (atoms : List Atom) →
    IsTrue (are_terms atoms) → IsTrue (rows_name_only (is_entry_column g.params) atoms) →
    first_wide (row_sums (reading slots (symbols_from first_symbol g.params)) atoms) ≡ None

-- the trail is at the end that a query of this exit kind asks for
abbrev pub IsAtEnd : Graph → Trace → ExitKind → Type 0
IsAtEnd g t kind.Return = t.node ≡ g.exit
IsAtEnd g t (kind.Fail id) = t.failed ≡ Some id

-- the path of a trail there is a must that holds
abbrev pub PathsHold : Type 0
PathsHold =
    (gs : List Graph) (g : Graph) (t : Trace) (q : Query) (path : Path) →
    slice_get gs q.proc ≡ Some g → IsTrail gs g t → IsAtEnd g t q.exit → IsPathOf q t path →
    MustHolds (graph_runs gs) (arity_in gs path.proc) path

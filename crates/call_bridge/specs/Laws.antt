-- What the asked query and the preimage over a must promise, without a call.
use Rattle.std.specs.Prelude.{◌≡◌, ◌↔◌, ◌++◌, ℕ, List, None, Some, slice_get, ◌<◌, IsTrue, length}
use Rattle.linear_formula.specs.LinearSum.{Valuation}
use Rattle.linear_formula.specs.Formula.{HoldsAll, are_terms}
use Rattle.linear_formula.specs.declared.formula.Atom.{Atom}
use Rattle.flow_graph.specs.Calls.{CallSite, call_site}
use Rattle.flow_graph.specs.declared.graph.Edge.{Edge}
use Rattle.flow_graph.specs.WellFormed.{has_slots, max_slots}
use Rattle.flow_graph.specs.Columns.{first_entry, rows_name_only}
use Rattle.shadow_elim.specs.Projection.{gives}
use Rattle.shadow_elim.specs.ProjectionLaws.{Pair}
use Rattle.summary_form.specs.declared.path.Path.{Path}
use Rattle.summary_form.specs.declared.query.ExitKind.{ExitKind}
use Rattle.summary_form.specs.NotMays.{Fits}
use Rattle.call_bridge.specs.Calls.{inner_column}
use Rattle.call_bridge.specs.Asked.{asked, start_of, end_of, query_of, FitsCall, HoldsCalls, HoldsNoOtherCall}
use Rattle.call_bridge.specs.Musts.{must_preimage, FitsMust, HoldsMust, HoldsNoOtherMust}
use Rattle.call_bridge.specs.Rests.{rest, FitsRest, HoldsRest}

-- where an edge names slots, the arguments and the results of a call are slots
pub record AreSlots (site : CallSite) : Type 0 where
  pub are_slots : (j a : ℕ) → slice_get site.arguments j ≡ Some a → a < first_entry
  pub results_low : (j a : ℕ) → slice_get site.results j ≡ Some a → a < first_entry

abbrev pub CallsNameSlots : Type 0
CallsNameSlots =
    (edge : Edge) → IsTrue (has_slots max_slots edge) → AreSlots (call_site edge)

-- every call from the source into the target meets the asked rows
abbrev pub AskedHolds : Type 0
AskedHolds =
    (exit : ExitKind) (site : CallSite) (source target rows : List Atom) (pair : Pair) →
    FitsCall site source target → asked exit site source target ≡ gives rows pair →
    HoldsCalls exit site source target rows

-- without an inexact pair, all values that meet them are those of such a call
abbrev pub AskedIsExact : Type 0
AskedIsExact =
    (exit : ExitKind) (site : CallSite) (source target rows : List Atom) →
    FitsCall site source target → asked exit site source target ≡ gives rows None →
    HoldsNoOtherCall exit site source target rows

-- the asked query fits a procedure that has an entry value for each argument and an exit value for
-- each result
abbrev pub AskedFits : Type 0
AskedFits =
    (proc : ℕ) (exit : ExitKind) (site : CallSite) (source target rows : List Atom)
    (pair : Pair) →
    FitsCall site source target → asked exit site source target ≡ gives rows pair →
    Fits proc (record { entries = length site.arguments; exits = length site.results })
    (query_of proc exit rows)

-- the asked rows hold where the query's cubes do
abbrev pub QueryIsMet : Type 0
QueryIsMet =
    (v : Valuation) (rows : List Atom) →
    HoldsAll v (start_of rows ++ end_of rows) ↔ HoldsAll v rows

-- the must's preimage holds of every state from which the must leads into the target
abbrev pub MustPreimageHolds : Type 0
MustPreimageHolds =
    (must : Path) (site : CallSite) (target rows : List Atom) (pair : Pair) →
    FitsMust must site target → must_preimage must site target ≡ gives rows pair →
    HoldsMust must site target rows

-- without an inexact pair, of no others
abbrev pub MustPreimageIsExact : Type 0
MustPreimageIsExact =
    (must : Path) (site : CallSite) (target rows : List Atom) →
    FitsMust must site target → must_preimage must site target ≡ gives rows None →
    HoldsNoOtherMust must site target rows

-- its rows are terms that name slots and entry values alone
pub record IsRegion (rows : List Atom) : Type 0 where
  pub names : IsTrue (rows_name_only inner_column rows)
  pub terms : IsTrue (are_terms rows)

abbrev pub MustPreimageIsRegion : Type 0
MustPreimageIsRegion =
    (must : Path) (site : CallSite) (target rows : List Atom) (pair : Pair) →
    FitsMust must site target → must_preimage must site target ≡ gives rows pair →
    IsRegion rows

-- the rest holds of every state from which the call leads into the target without meeting the atom
abbrev pub RestHolds : Type 0
RestHolds =
    (exit : ExitKind) (site : CallSite) (target : List Atom) (atom : Atom) (rows : List Atom)
    (pair : Pair) →
    FitsRest site target atom → rest exit site target atom ≡ gives rows pair →
    HoldsRest exit site target atom rows

abbrev pub RestIsRegion : Type 0
RestIsRegion =
    (exit : ExitKind) (site : CallSite) (target : List Atom) (atom : Atom) (rows : List Atom)
    (pair : Pair) →
    FitsRest site target atom → rest exit site target atom ≡ gives rows pair →
    IsRegion rows

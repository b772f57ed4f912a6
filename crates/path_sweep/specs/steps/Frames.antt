-- The frames of the walk, and what an edge adds.
use Rattle.std.specs.Prelude.{◌≡◌, ℕ, List, [], ◌∷◌, ◌++◌, Option, None, Some, slice_get}
use Rattle.linear_formula.specs.LinearSum.{LinearSum}
use Rattle.shadow_elim.specs.declared.limit.Kept.{Kept}
use Rattle.shadow_elim.specs.Sums.{first_wide, IsFirstWide}
use Rattle.shadow_elim.specs.declared.sum.Sum.{Sum}
use Rattle.flow_graph.specs.Calls.{CallSite, call_edge}
use Rattle.flow_graph.specs.declared.graph.Edge.{Edge}
use Rattle.flow_graph.specs.declared.graph.Edge.TheVariants.{Assert, Return}
use Rattle.flow_graph.specs.declared.graph.Graph.{Graph}
use Rattle.must_region.specs.Traces.{Trace}
use Rattle.must_region.specs.Rules.{set_terms}
use Rattle.path_sweep.specs.Guards.{Waiting, Stage, enters, runs, gave, fails, Walked, opened, FollowsAt}
use Rattle.path_sweep.specs.declared.frames.Frame.{Frame}
use Rattle.path_sweep.specs.declared.frames.Level.{Level}
use Rattle.path_sweep.specs.declared.frames.Place.{Place}
use Rattle.path_sweep.specs.declared.frames.Place.TheVariants.{Entering, At, Returned, Failed}
use Rattle.path_sweep.specs.declared.step.Step.{Step}
use Rattle.path_sweep.specs.steps.Linking.{Leaves}

-- the frame of the level waits after its edge, which is a call
pub record IsWaiting (gs : List Graph) (l : Level) (w : Waiting) : Type 0 where
  pub graph : slice_get gs l.frame.proc ≡ Some w.graph
  pub from : ℕ
  pub site : CallSite
  pub call : slice_get w.graph.edges l.edge ≡ Some (call_edge from w.to site)
  pub results : site.results ≡ w.results
  pub slots : l.frame.slots ≡ w.slots
  pub entry : l.frame.entry ≡ w.entry

-- the frames below one that was called at this level
abbrev pub Wait : List Graph → List Level → Option ℕ → List Waiting → Type 0
Wait gs levels None [] = Unit {0}
Wait gs levels None (w ∷ ws) = ⊥
Wait gs levels (Some c) [] = ⊥
Wait gs levels (Some c) (w ∷ ws) =
    (l : Level) × (slice_get levels c ≡ Some l) × IsWaiting gs l w × Wait gs levels l.frame.caller
    ws

-- the frame stands there
abbrev pub IsStage : List Graph → List Level → Frame → Stage → Type 0
IsStage gs levels f (enters g args ws) =
    (f.place ≡ Entering) × (slice_get gs f.proc ≡ Some g) × (f.slots ≡ opened g args)
    × (f.entry ≡ args) × Wait gs levels f.caller ws
IsStage gs levels f (runs g node slots entry ws) =
    (f.place ≡ At node) × (slice_get gs f.proc ≡ Some g) × (f.slots ≡ slots) × (f.entry ≡ entry)
    × Wait gs levels f.caller ws
IsStage gs levels f (gave terms) = (f.place ≡ Returned) × (f.slots ≡ terms)
IsStage gs levels f (fails id) = f.place ≡ Failed id

-- the edge of this number may follow
abbrev pub CanFollow : Stage → ℕ → Type 0
CanFollow (enters g args ws) k = k ≡ 0
CanFollow (runs g node slots entry ws) k = Leaves g.edges node k
CanFollow (gave terms) k = ⊥
CanFollow (fails id) k = ⊥

-- a path with this number of symbols, no rows and no inputs
abbrev pub bare : ℕ → Stage → Walked
bare symbols stage = record { symbols = symbols; guard = []; inputs = []; at = stage }

-- the running frame alone as a trace
abbrev pub bare_trace : (symbols node : ℕ) → (slots entry : List LinearSum) → Trace
bare_trace symbols node slots entry = record {
  node = node;
  symbols = symbols;
  guard = record { atoms = [] };
  entry = entry;
  inputs = [];
  slots = slots;
  failed = None;
}

-- the frame after a return to this level
pub record IsBack (f : Frame) (l : Level) (w : Waiting) (terms : List LinearSum) : Type 0 where
  pub proc : f.proc ≡ l.frame.proc
  pub place : f.place ≡ At w.to
  pub slots : f.slots ≡ set_terms w.slots w.results terms
  pub entry : f.entry ≡ w.entry
  pub caller : f.caller ≡ l.frame.caller

-- a frame waits at the level, if there is one
abbrev pub HasWaiting : List Graph → List Level → Option ℕ → Type 0
HasWaiting gs levels None = Unit {0}
HasWaiting gs levels (Some c) =
    (l : Level) × (w : Waiting) × (slice_get levels c ≡ Some l) × IsWaiting gs l w

-- the frame with another place, whose terms are those of the trace
pub record IsMoved (f : Frame) (place : Place) (t : Trace) (new : Frame) : Type 0 where
  pub proc : new.proc ≡ f.proc
  pub place_is : new.place ≡ place
  pub slots : new.slots ≡ t.slots
  pub entry : new.entry ≡ t.entry
  pub caller : new.caller ≡ f.caller

-- after a return
abbrev pub IsReturned : List Graph → List Level → Frame → Option ℕ → Trace → Frame → Type 0
IsReturned gs levels f None t new = IsMoved f Returned t new
IsReturned gs levels f (Some c) t new =
    (l : Level) (w : Waiting) → slice_get levels c ≡ Some l → IsWaiting gs l w →
    IsBack new l w t.slots

-- the frame after the edge, over which this is the trace
abbrev pub IsBehind : List Graph → List Level → Frame → Edge → Trace → Frame → Type 0
IsBehind gs levels f (Assert from to id rows) t new = IsMoved f (Failed id) t new
IsBehind gs levels f (Return from to slots) t new = IsReturned gs levels f f.caller t new
IsBehind gs levels f edge t new = IsMoved f (At t.node) t new

-- some stage of the frame, after which the edge may follow
pub record HasNext (gs : List Graph) (levels : List Level) (f : Frame) (edge : ℕ) : Type 0 where
  pub stage : Stage
  pub is : IsStage gs levels f stage
  pub can : CanFollow stage edge

-- what the edge adds after this stage of the frame; the frame after it stands over one more level
pub record IsStep (gs : List Graph) (levels : List Level) (f : Frame) (symbols edge : ℕ)
    (step : Step) (stage : Stage) : Type 0 where
  pub sums : List Sum
  pub after : Walked
  pub follows : FollowsAt gs edge (bare symbols stage) stage sums after
  pub narrow : first_wide sums ≡ None
  pub rows : step.rows.atoms ≡ after.guard
  pub read : step.read ≡ after.inputs
  pub count : step.symbols ≡ after.symbols
  pub lies : (l : Level) → l.frame ≡ f → l.edge ≡ edge →
      IsStage gs (levels ++ l ∷ []) step.frame after.at

-- the limit of the first sum of the edge that is too wide
pub record IsWideStep (gs : List Graph) (symbols edge : ℕ) (kept : Kept) (stage : Stage) : Type 0
  where
    pub sums : List Sum
    pub after : Walked
    pub follows : FollowsAt gs edge (bare symbols stage) stage sums after
    pub wide : IsFirstWide sums kept

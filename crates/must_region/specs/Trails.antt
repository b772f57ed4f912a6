-- What a trail says: each assignment that meets its guard gives a frame.
use Rattle.std.specs.Prelude.{◌≡◌, ◌≢◌, ℕ, ◌==◌, IsTrue, List, [], ◌++◌, map, length, Option, None, Some, ℤ, if◌then◌else◌}
use Rattle.c_tree.specs.Meaning.{State, entered}
use Rattle.linear_formula.specs.LinearSum.{LinearSum, Valuation, Is64, value_of}
use Rattle.linear_formula.specs.Formula.{HoldsAll}
use Rattle.flow_graph.specs.Calls.{CallSite}
use Rattle.flow_graph.specs.declared.graph.Graph.{Graph}
use Rattle.flow_graph.specs.WellFormed.{first_node}
use Rattle.flow_graph.specs.Runs.{Place, inside, left, failing, Frame, GraphRun, GraphRuns, Step, after_call}
use Rattle.flow_graph.specs.Columns.{first_symbol}
use Rattle.flow_graph.specs.Readings.{term_at}
use Rattle.flow_graph.specs.declared.graph.Edge.{Edge}
use Rattle.summary_form.specs.Symbols.{is_symbol_column}
use Rattle.summary_form.specs.declared.path.Path.{Path}
use Rattle.summary_form.specs.Runs.{end_with}
use Rattle.summary_form.specs.Musts.{values_of}
use Rattle.must_region.specs.Traces.{Trace}
use Rattle.must_region.specs.Rules.{symbols_from}

-- the slots at an assignment of the symbols
abbrev pub slots_at : Valuation → List LinearSum → State
slots_at v slots x = value_of v (term_at slots x)

-- where the trail ends at an assignment: at `fail` with an id, at the exit with exit values, else
-- at its node
abbrev pub end_place : (exit : ℕ) → Valuation → (node : ℕ) → List LinearSum → Option ℕ → Place
end_place exit v node slots (Some id) = failing id (slots_at v slots)
end_place exit v node slots None = if node == exit then left (values_of v slots) else inside node
    (slots_at v slots)

-- From its beginning, over k edges, whatever inputs follow those of the trail. The
-- depth is that of the calls.
abbrev pub IsFrameAt : List Graph → Graph → Trace → Valuation → Type 0
IsFrameAt gs g t v =
    (d : ℕ) × (k : ℕ)
    × ((more : List ℤ) → Frame (GraphRun gs d) g.edges k
    (inside (first_node g.edges) (entered (values_of v t.entry))) (values_of v t.inputs ++ more)
    (end_place g.exit v t.node t.slots t.failed) more)

abbrev pub GivesFrames : List Graph → Graph → Trace → Type 0
GivesFrames gs g t = (v : Valuation) → Is64 v → HoldsAll v t.guard.atoms → IsFrameAt gs g t v

-- what each trail keeps
pub record IsTrail (gs : List Graph) (g : Graph) (t : Trace) : Type 0 where
  pub gives : GivesFrames gs g t
  pub many : t.node ≢ g.exit → length t.slots ≡ g.slots
  pub returned : t.node ≡ g.exit → length t.slots ≡ g.exits
  pub unfailed : t.node ≢ g.fail → t.failed ≡ None
  pub is_failed : t.node ≡ g.fail → (id : ℕ) × (t.failed ≡ Some id)
  -- the entry values are the first symbols
  pub entry : t.entry ≡ symbols_from first_symbol g.params

-- a term for each slot but at the exit, and no failure but at `fail`: what a single step needs of a
-- trail, wherever its frame began
pub record HasTerms (g : Graph) (t : Trace) : Type 0 where
  pub many : t.node ≢ g.exit → length t.slots ≡ g.slots
  pub unfailed : t.node ≢ g.fail → t.failed ≡ None

-- what a must says, without its arity
abbrev pub GivesRuns : List Graph → Path → Type 0
GivesRuns gs path =
    (v : Valuation) → Is64 v → HoldsAll v path.guard.atoms → (d : ℕ) × GraphRuns gs d path.proc
    (values_of v path.entry) (values_of v path.inputs)
    (end_with path.exit (values_of v path.outcome))

-- A step is taken over an edge that is no call, which needs no graphs. Where v meets the guard
-- after the edge, it meets the one before it, and the state at v steps over the edge to the place
-- after it. The step reads the values of the inputs that are new, whatever inputs follow them.
abbrev pub TakesStep : Graph → Trace → Edge → Trace → Type 0
TakesStep g t e new =
    (v : Valuation) → Is64 v → HoldsAll v new.guard.atoms →
    HoldsAll v t.guard.atoms × ((used : List ℤ)
    × (values_of v new.inputs ≡ values_of v t.inputs ++ used)
    × ((more : List ℤ) → Step (GraphRun [] 0) e (slots_at v t.slots) (used ++ more)
    (end_place g.exit v new.node new.slots new.failed) more))

-- No step is lost over an edge that is no call. Where v meets the guard and the state at v steps
-- over the edge, some assignment that agrees with v at the old symbols meets the extended guard,
-- and gives the place after the step and the inputs that were read.
abbrev pub LosesNoStep : Graph → Trace → Edge → Trace → Type 0
LosesNoStep g t e new =
    (v : Valuation) → Is64 v → HoldsAll v t.guard.atoms → (ins rest : List ℤ) (b : Place) →
    Step (GraphRun [] 0) e (slots_at v t.slots) ins b rest →
    (w : Valuation) × Is64 w × ((x : ℕ) → IsTrue (is_symbol_column t.symbols x) → w x ≡ v x)
    × HoldsAll w new.guard.atoms × (end_place g.exit w new.node new.slots new.failed ≡ b)
    × ((used : List ℤ) × (ins ≡ used ++ rest) × (values_of w new.inputs ≡ values_of v t.inputs
    ++ used))

-- By a must: u gives the called run.
abbrev pub LosesNoneBy : Graph → Trace → (to : ℕ) → CallSite → Path → Trace → Type 0
LosesNoneBy g t to site path new =
    (v u : Valuation) → Is64 v → Is64 u → HoldsAll v t.guard.atoms → HoldsAll u path.guard.atoms →
    values_of u path.entry ≡ map (slots_at v t.slots) site.arguments →
    (w : Valuation) × Is64 w × ((x : ℕ) → IsTrue (is_symbol_column t.symbols x) → w x ≡ v x)
    × HoldsAll w new.guard.atoms
    × (end_place g.exit w new.node new.slots new.failed ≡ after_call to site.results
    (slots_at v t.slots)
    (end_with path.exit (values_of u path.outcome)))
    × (values_of w new.inputs ≡ values_of v t.inputs ++ values_of u path.inputs)

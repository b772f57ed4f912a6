-- Executions of `main` edge by edge, through all its frames.
use Rattle.std.specs.Prelude.{◌≡◌, ◌≢◌, ℕ, List, [], ◌∷◌, map, Some, slice_get, ℤ}
use Rattle.c_tree.specs.Meaning.{State, entered}
use Rattle.flow_graph.specs.declared.graph.Edge.{Edge}
use Rattle.flow_graph.specs.declared.graph.Edge.TheVariants.{Entry, Call}
use Rattle.flow_graph.specs.declared.graph.Graph.{Graph}
use Rattle.flow_graph.specs.Runs.{End, came, stopped, failed, Place, inside, left, failing, halted, with_slots, Step, GraphRun}
use Rattle.flow_graph.specs.Shapes.{source}

-- a frame that waits for the end of a call: where it goes on, and which slots get the results
pub record Caller : Type 0 where
  pub graph : Graph
  pub to : ℕ
  pub results : List ℕ
  pub slots : State

-- where an execution stands
pub data Standing : Type 0 where
  -- a frame begins with these arguments: edge 0 of its graph comes next
  entering : Graph → (args : List ℤ) → List Caller → Standing
  running : Graph → (node : ℕ) → State → List Caller → Standing
  ended : End → Standing

-- the frame returns these values to the one that called it
abbrev pub returns : List ℤ → List Caller → Standing
returns values [] = ended (came values)
returns values (c ∷ cs) = running c.graph c.to (with_slots c.slots c.results values) cs

-- the frame stands at this place
abbrev pub standing_at : Graph → List Caller → Place → Standing
standing_at g cs (inside node s) = running g node s cs
standing_at g cs (left values) = returns values cs
standing_at g cs (failing id s) = ended (failed id)
standing_at g cs halted = ended stopped

module _ (gs : List Graph) where
  -- A call begins a frame of the called procedure; every other edge steps as in a run.
  abbrev pub OverEdge : Graph → List Caller → Edge → State → List ℤ → Standing → List ℤ → Type 0
  OverEdge g cs (Call from to proc args results) s ins b rest =
      (h : Graph) × (slice_get gs proc ≡ Some h)
      × (b ≡ entering h (map s args) (record { graph = g; to = to; results = results; slots = s }
      ∷ cs))
      × (rest ≡ ins)
  OverEdge g cs edge s ins b rest =
      (place : Place) × Step (GraphRun [] 0) edge s ins place rest × (b ≡ standing_at g cs place)

  -- over the edge of this number of the graph whose frame runs
  abbrev pub Over : ℕ → Standing → List ℤ → Standing → List ℤ → Type 0
  Over i (entering g args cs) ins b rest =
      (i ≡ 0) × (to params : ℕ) × (slice_get g.edges 0 ≡ Some (Entry to params))
      × (b ≡ running g to (entered args) cs) × (rest ≡ ins)
  Over i (running g node s cs) ins b rest =
      (edge : Edge) × (slice_get g.edges i ≡ Some edge) × (source edge ≡ Some node)
      × OverEdge g cs edge s ins b rest
  Over i (ended end) ins b rest = ⊥

  -- over these edges in order
  abbrev pub Takes : List ℕ → Standing → List ℤ → Standing → List ℤ → Type 0
  Takes [] a ins b rest = (b ≡ a) × (rest ≡ ins)
  Takes (i ∷ path) a ins b rest = (c : Standing) × (mid : List ℤ) × Over i a ins c mid
      × Takes path c mid b rest

  -- An execution of the procedure without arguments goes over these edges, and consumes exactly
  -- these inputs on the way.
  pub record IsTaken (main : ℕ) (path : List ℕ) (ins : List ℤ) (b : Standing) : Type 0 where
    pub graph : Graph
    pub at : slice_get gs main ≡ Some graph
    pub takes : Takes path (entering graph [] []) ins b []

  -- some inputs make an execution take it
  pub record IsFeasible (main : ℕ) (path : List ℕ) : Type 0 where
    pub some : path ≢ []
    pub ins : List ℤ
    pub to : Standing
    pub taken : IsTaken main path ins to

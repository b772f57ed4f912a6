-- The state of a path by terms: its guard, its inputs, and where it stands.
use Rattle.std.specs.Prelude.{◌≡◌, ℕ, ◌-◌, List, [], ◌∷◌, ◌++◌, map, replicate, None, Some, slice_get, pos}
use Rattle.linear_formula.specs.LinearSum.{LinearSum, Valuation}
use Rattle.linear_formula.specs.Results.{constant_sum}
use Rattle.linear_formula.specs.declared.formula.Atom.{Atom}
use Rattle.shadow_elim.specs.declared.sum.Sum.{Sum}
use Rattle.flow_graph.specs.declared.graph.Edge.{Edge}
use Rattle.flow_graph.specs.declared.graph.Edge.TheVariants.{Entry, Call, Assert, Return}
use Rattle.flow_graph.specs.declared.graph.Graph.{Graph}
use Rattle.flow_graph.specs.Readings.{term_at}
use Rattle.flow_graph.specs.Runs.{came, failed}
use Rattle.flow_graph.specs.Shapes.{source}
use Rattle.summary_form.specs.Musts.{values_of}
use Rattle.must_region.specs.Traces.{Trace}
use Rattle.must_region.specs.Trails.{slots_at}
use Rattle.must_region.specs.Rules.{extended, sums_of, set_terms}
use Rattle.path_sweep.specs.Executions.{Caller, Standing, entering, running, ended}

-- a frame that waits for the end of a call
pub record Waiting : Type 0 where
  pub graph : Graph
  pub to : ℕ
  pub results : List ℕ
  pub slots : List LinearSum
  pub entry : List LinearSum

pub data Stage : Type 0 where
  enters : Graph → (args : List LinearSum) → List Waiting → Stage
  runs : Graph → (node : ℕ) → (slots entry : List LinearSum) → List Waiting → Stage
  gave : List LinearSum → Stage
  fails : ℕ → Stage

pub record Walked : Type 0 where
  pub symbols : ℕ
  pub guard : List Atom
  pub inputs : List LinearSum
  pub at : Stage

-- before the first edge of this graph
abbrev pub begun : Graph → Walked
begun g = record { symbols = 0; guard = []; inputs = []; at = enters g [] [] }

-- the running frame as a trace of what the whole path shares
abbrev pub trace_at : Walked → (node : ℕ) → (slots entry : List LinearSum) → Trace
trace_at w node slots entry = record {
  node = node;
  symbols = w.symbols;
  guard = record { atoms = w.guard };
  entry = entry;
  inputs = w.inputs;
  slots = slots;
  failed = None;
}

-- the arguments in the first slots, and 0 in the others
abbrev pub opened : Graph → List LinearSum → List LinearSum
opened g args = args ++ replicate (g.slots - g.params) (constant_sum (pos 0))

abbrev pub gives_back : List LinearSum → List Waiting → Stage
gives_back terms [] = gave terms
gives_back terms (w ∷ ws) = runs w.graph w.to (set_terms w.slots w.results terms) w.entry ws

abbrev pub stage_after : Graph → List Waiting → Edge → Trace → Stage
stage_after g ws (Assert from to id rows) t = fails id
stage_after g ws (Return from to slots) t = gives_back t.slots ws
stage_after g ws edge t = runs g t.node t.slots t.entry ws

module _ (gs : List Graph) where
  abbrev pub FollowsEdge : Walked → Graph → (node : ℕ) → (slots entry : List LinearSum) →
      List Waiting → Edge → List Sum → Walked → Type 0
  FollowsEdge w g node slots entry ws (Call from to proc args results) sums new =
      (h : Graph) × (slice_get gs proc ≡ Some h) × (sums ≡ [])
      ×
      (new ≡ record w {
        at = enters h (map (term_at slots) args)
            (record { graph = g; to = to; results = results; slots = slots; entry = entry } ∷ ws);
      })
  FollowsEdge w g node slots entry ws edge sums new =
      (sums ≡ sums_of (trace_at w node slots entry) edge)
      ×
      (new ≡ record {
        symbols = (extended (trace_at w node slots entry) edge).symbols;
        guard = (extended (trace_at w node slots entry) edge).guard.atoms;
        inputs = (extended (trace_at w node slots entry) edge).inputs;
        at = stage_after g ws edge (extended (trace_at w node slots entry) edge);
      })

  -- the edge of this number follows, by these sums
  abbrev pub FollowsAt : ℕ → Walked → Stage → List Sum → Walked → Type 0
  FollowsAt i w (enters g args ws) sums new =
      (i ≡ 0) × (to params : ℕ) × (slice_get g.edges 0 ≡ Some (Entry to params)) × (sums ≡ [])
      × (new ≡ record w { at = runs g to (opened g args) args ws })
  FollowsAt i w (runs g node slots entry ws) sums new =
      (edge : Edge) × (slice_get g.edges i ≡ Some edge) × (source edge ≡ Some node)
      × FollowsEdge w g node slots entry ws edge sums new
  FollowsAt i w (gave terms) sums new = ⊥
  FollowsAt i w (fails id) sums new = ⊥

  abbrev pub Follows : ℕ → Walked → List Sum → Walked → Type 0
  Follows i w sums new = FollowsAt i w w.at sums new

  abbrev pub ComesTo : List ℕ → Walked → Walked → Type 0
  ComesTo [] w new = new ≡ w
  ComesTo (i ∷ path) w new = (sums : List Sum) × (mid : Walked) × Follows i w sums mid
      × ComesTo path mid new

-- At an assignment of the symbols

abbrev pub caller_at : Valuation → Waiting → Caller
caller_at v w = record {
  graph = w.graph;
  to = w.to;
  results = w.results;
  slots = slots_at v w.slots;
}

abbrev pub stage_at : Valuation → Stage → Standing
stage_at v (enters g args ws) = entering g (values_of v args) (map (caller_at v) ws)
stage_at v (runs g node slots entry ws) = running g node (slots_at v slots) (map (caller_at v) ws)
stage_at v (gave terms) = ended (came (values_of v terms))
stage_at v (fails id) = ended (failed id)

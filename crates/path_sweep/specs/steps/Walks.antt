-- Where a walk stands.
use Rattle.std.specs.Prelude.{◌≡◌, ◌≢◌, ℕ, ◌-◌, ◌+◌, ◌^◌, ◌<◌, ◌≤◌, List, [], ◌∷◌, ◌++◌, length, map, Option, None, Some, slice_get, ℤ, Vec}
use Rattle.std.specs.declared.alloc.Global.{Global}
use Rattle.shadow_elim.specs.declared.sum.Sum.{Sum}
use Rattle.linear_formula.specs.LinearSum.{valuation, Is64}
use Rattle.linear_formula.specs.Formula.{HoldsAll}
use Rattle.linear_formula.specs.declared.formula.Cube.{Cube}
use Rattle.linear_formula.specs.declared.question.Question.TheVariants as asks
use Rattle.shadow_elim.specs.declared.projection.ProjectionError.{ProjectionError}
use Rattle.shadow_elim.specs.declared.projection.ProjectionError.TheVariants as refusal
use Rattle.lia_solver.specs.declared.solved.Solved.{Solved}
use Rattle.lia_solver.specs.declared.solved.Solved.TheVariants as solved
use Rattle.flow_graph.specs.declared.graph.Graph.{Graph}
use Rattle.flow_graph.specs.WellFormed.{first_node}
use Rattle.path_sweep.specs.Ends.{FeasibleBefore, IsEnd, IsEntry, MeetsLimit, Undecided, inputs_in}
use Rattle.path_sweep.specs.Executions.{IsFeasible}
use Rattle.path_sweep.specs.Guards.{Walked, runs, opened, Follows}
use Rattle.path_sweep.specs.Order.{Before, AreThose}
use Rattle.path_sweep.specs.declared.frames.Level.{Level}
use Rattle.path_sweep.specs.declared.step.Step.{Step}
use Rattle.path_sweep.specs.declared.swept.SweepEnd.{SweepEnd}
use Rattle.path_sweep.specs.declared.walk.Asked.{Asked}
use Rattle.path_sweep.specs.declared.walk.Asked.TheVariants as asked
use Rattle.path_sweep.specs.declared.walk.Walk.{Walk}
use Rattle.path_sweep.specs.steps.Linking.{IsFirst}
use Rattle.path_sweep.specs.steps.Frames.{IsStage, CanFollow}

-- the state of the path of edge 0
abbrev pub first_walked : Graph → Walked
first_walked g = record {
  symbols = 0;
  guard = [];
  inputs = [];
  at = runs g (first_node g.edges) (opened g []) [] [];
}

-- the running path
abbrev pub path_of : List Level → List ℕ
path_of levels = 0 ∷ map (λ l. l.edge) levels

-- what the level keeps of the path before its edge
pub record IsLevel (gs : List Graph) (levels : List Level) (l : Level) (w : Walked) : Type 0 where
  pub symbols : l.symbols ≡ w.symbols
  pub rows : l.rows ≡ length w.guard
  pub read : l.read ≡ length w.inputs
  pub fits : l.edge < 2 ^ 64
  pub stage : IsStage gs levels l.frame w.at

-- after those that are done, the levels lead from one to the other
abbrev pub Leads : List Graph → (done levels : List Level) → Walked → Walked → Type 0
Leads gs done [] w new = new ≡ w
Leads gs done (l ∷ levels) w new =
    IsLevel gs done l w × ((sums : List Sum) × (mid : Walked) × Follows gs l.edge w sums mid
    × Leads gs (done ++ l ∷ []) levels mid new)

-- The walk stands at the end of its path. Its bound is the path with the number from which on edges
-- are tried: what stands before it was counted.
pub record IsWalk (gs : List Graph) (main : ℕ) (walk : Walk) : Type 0 where
  pub graph : Graph
  pub at : slice_get gs main ≡ Some graph
  pub none : graph.params ≡ 0
  pub now : Walked
  pub leads : Leads gs [] walk.levels.items (first_walked graph) now
  pub stage : IsStage gs walk.levels.items walk.frame now.at
  pub symbols : walk.symbols ≡ now.symbols
  pub guard : walk.guard.atoms ≡ now.guard
  pub inputs : walk.inputs.items ≡ now.inputs
  pub feasible : IsFeasible gs main (path_of walk.levels.items)
  pub from : ℕ
  pub next : IsFirst (CanFollow now.at) from walk.next
  pub paths : List (List ℕ)
  pub count : length paths ≡ walk.counted
  pub those : AreThose (FeasibleBefore gs main (path_of walk.levels.items ++ from ∷ [])) paths
  pub clear : (q : List ℕ) → Before q (path_of walk.levels.items ++ from ∷ []) →
      Undecided gs main q → ⊥
  pub entries : (id : ℕ) (o : Option (Vec ℤ Global)) → slice_get walk.found.items id ≡ Some o →
      IsEntry gs main paths id (inputs_in o)

-- the path with one edge more
abbrev pub path_with : List Level → ℕ → List ℕ
path_with levels edge = path_of levels ++ edge ∷ []

-- the path with the edge is feasible: at the point its guard holds
pub record IsPoint (gs : List Graph) (main : ℕ) (walk : Walk) (now : Walked) (edge : ℕ)
    (step : Step)
    (guard : Cube) (at : List (ℕ × ℤ)) : Type 0 where
  pub sums : List Sum
  pub after : Walked
  pub follows : Follows gs edge now sums after
  pub guard_is : guard.atoms ≡ after.guard
  pub inputs_are : walk.inputs.items ++ step.read ≡ after.inputs
  pub count : step.symbols ≡ after.symbols
  pub lies : (l : Level) → l.frame ≡ walk.frame → l.edge ≡ edge →
      IsStage gs (walk.levels.items ++ l ∷ []) step.frame after.at
  pub values : Is64 (valuation at)
  pub meets : HoldsAll (valuation at) after.guard
  pub clear : Undecided gs main (path_with walk.levels.items edge) → ⊥

-- what is known of a question
abbrev pub IsAsked : (gs : List Graph) (main : ℕ) (walk : Walk) (now : Walked) (edge : ℕ) →
    Asked → Type 0
IsAsked gs main walk now edge asked.Never =
    (IsFeasible gs main (path_with walk.levels.items edge) → ⊥)
    × (Undecided gs main (path_with walk.levels.items edge) → ⊥)
IsAsked gs main walk now edge (asked.Point step guard at) =
    IsPoint gs main walk now edge step guard at
IsAsked gs main walk now edge (asked.Limit kept) =
    MeetsLimit gs main (path_with walk.levels.items edge) kept

-- the level that the edge of the walk's frame makes
abbrev pub level_of : Walk → ℕ → Level
level_of walk edge = record {
  frame = walk.frame;
  edge = edge;
  rows = length walk.guard.atoms;
  read = length walk.inputs.items;
  symbols = walk.symbols;
}

-- the entry of the assertion, if there is one without inputs, gets these; the others stay
pub record IsFilled (id : ℕ) (ins : List ℤ) (old new : List (Option (Vec ℤ Global))) : Type 0 where
  pub same : length new ≡ length old
  pub others : (k : ℕ) → k ≢ id → slice_get new k ≡ slice_get old k
  pub full : (v : Vec ℤ Global) → slice_get old id ≡ Some (Some v) → slice_get new id
      ≡ Some (Some v)
  pub filled : slice_get old id ≡ Some None →
      (v : Vec ℤ Global) × (slice_get new id ≡ Some (Some v)) × (v.items ≡ ins)

-- The walk was advanced: one more is counted, or it is at an end.
abbrev pub IsAdvanced : (gs : List Graph) (main : ℕ) (old new : Walk) → Option SweepEnd → Type 0
IsAdvanced gs main old new None =
    IsWalk gs main new × (new.counted ≡ old.counted + 1)
IsAdvanced gs main old new (Some end) =
    (counted : List (List ℕ)) × (length counted ≡ old.counted)
    × ((edges : ℕ) → old.counted ≤ edges → IsEnd gs main edges counted end)
    × ((id : ℕ) (o : Option (Vec ℤ Global)) → slice_get new.found.items id ≡ Some o →
    IsEntry gs main counted id (inputs_in o))

-- what the solver's answer makes of the question
abbrev pub answered : Solved → Step → Cube → Asked
answered (solved.Point at) step guard = asked.Point step guard at
answered (solved.Never certificate) step guard = asked.Never
answered (solved.Limit limit) step guard =
    asked.Limit (record { question = asks.Cube guard; limit = limit })

-- a limit of a sum, unless memory ran out
abbrev pub IsRefused : ProjectionError → Asked → Type 0
IsRefused (refusal.Limit kept) a = a ≡ asked.Limit kept
IsRefused refusal.Memory a = ⊥

-- how many numbers of edges are not yet tried
abbrev pub left_from : Option ℕ → ℕ
left_from None = 0
left_from (Some j) = 2 ^ 64 - j

abbrev pub left_in : List Level → ℕ
left_in [] = 0
left_in (l ∷ levels) = (2 ^ 64 - l.edge) + left_in levels

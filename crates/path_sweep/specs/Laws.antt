-- Paths and runs.
use Rattle.std.specs.Prelude.{◌≡◌, ◌≢◌, ℕ, ◌≤◌, List, [], length, None, Some, slice_get, ℤ}
use Rattle.linear_formula.specs.LinearSum.{Valuation, Is64}
use Rattle.linear_formula.specs.Formula.{HoldsAll}
use Rattle.flow_graph.specs.Linked.{AreGraphs}
use Rattle.summary_form.specs.Musts.{values_of}
use Rattle.flow_graph.specs.declared.graph.Graph.{Graph}
use Rattle.flow_graph.specs.Runs.{failed, GraphRuns}
use Rattle.shadow_elim.specs.LimitKinds.{kind_of}
use Rattle.shadow_elim.specs.RightLimit.{IsRight}
use Rattle.shadow_elim.specs.declared.limit.Kept.{Kept}
use Rattle.shadow_elim.specs.declared.limit.LimitKind.TheVariants as kind
use Rattle.path_sweep.specs.Ends.{IsEntry, IsLimited, IsMore, IsWhole, MeetsLimit, Undecided}
use Rattle.path_sweep.specs.Executions.{IsFeasible, IsTaken, Standing, ended}
use Rattle.path_sweep.specs.Order.{AreThose}
use Rattle.path_sweep.specs.Guards.{Walked, begun, ComesTo, stage_at}

-- a path that ends in a failure is of a run that fails so on the same inputs
abbrev pub PathsFail : Type 0
PathsFail =
    (gs : List Graph) (main : ℕ) (path : List ℕ) (ins : List ℤ) (id : ℕ) →
    IsTaken gs main path ins (ended (failed id)) →
    (d : ℕ) × GraphRuns gs d main [] ins (failed id)

-- and each such run has its path
abbrev pub FailuresHavePaths : Type 0
FailuresHavePaths =
    (gs : List Graph) (main d : ℕ) (ins : List ℤ) (id : ℕ) →
    GraphRuns gs d main [] ins (failed id) →
    (path : List ℕ) × IsTaken gs main path ins (ended (failed id))

-- what meets a path's guard takes the path, on the values of its inputs
abbrev pub GuardsAreTaken : Type 0
GuardsAreTaken =
    (gs : List Graph) (main : ℕ) (g : Graph) (path : List ℕ) (new : Walked) → AreGraphs gs →
    slice_get gs main ≡ Some g → g.params ≡ 0 → ComesTo gs path (begun g) new →
    (v : Valuation) → Is64 v → HoldsAll v new.guard →
    IsTaken gs main path (values_of v new.inputs) (stage_at v new.at)

-- a path that is taken has a guard, which is met where its inputs are these
pub record HasGuard (gs : List Graph) (g : Graph) (path : List ℕ) (ins : List ℤ) (b : Standing) :
    Type 0 where
  pub new : Walked
  pub comes : ComesTo gs path (begun g) new
  pub at : Valuation
  pub values : Is64 at
  pub meets : HoldsAll at new.guard
  pub inputs : values_of at new.inputs ≡ ins
  pub place : stage_at at new.at ≡ b

abbrev pub TakenPathsHaveGuards : Type 0
TakenPathsHaveGuards =
    (gs : List Graph) (main : ℕ) (g : Graph) (path : List ℕ) (ins : List ℤ) (b : Standing) →
    AreGraphs gs → slice_get gs main ≡ Some g → g.params ≡ 0 → IsTaken gs main path ins b →
    HasGuard gs g path ins b

-- a sweep has one end
abbrev pub HasOneEnd : Type 0
HasOneEnd =
    (gs : List Graph) (main edges : ℕ) (c d : List (List ℕ)) (x y : Kept) →
    (IsWhole gs main edges c → IsMore gs main edges d → ⊥)
    × (IsWhole gs main edges c → IsLimited gs main edges d x → ⊥)
    × (IsMore gs main edges c → IsLimited gs main edges d x → ⊥)
    × (IsLimited gs main edges c x → IsLimited gs main edges d y → x ≡ y)

-- where no question meets a limit, and the tree has at most `edges` edges, no other end comes
abbrev pub SweepsAreWhole : Type 0
SweepsAreWhole =
    (gs : List Graph) (main edges : ℕ) → ((q : List ℕ) → Undecided gs main q → ⊥) →
    ((c d : List (List ℕ)) (k : Kept) → IsLimited gs main edges d k → ⊥)
    × ((paths : List (List ℕ)) → AreThose (IsFeasible gs main) paths → length paths ≤ edges →
    (c : List (List ℕ)) → IsMore gs main edges c → ⊥)

-- at the whole tree no run fails where none was found
abbrev pub WholeDecides : Type 0
WholeDecides =
    (gs : List Graph) (main edges : ℕ) (counted : List (List ℕ)) (id : ℕ) →
    IsWhole gs main edges counted → IsEntry gs main counted id None → (ins : List ℤ) (d : ℕ) →
    GraphRuns gs d main [] ins (failed id) → ⊥

abbrev pub FoundReaches : Type 0
FoundReaches =
    (gs : List Graph) (main : ℕ) (counted : List (List ℕ)) (id : ℕ) (ins : List ℤ) →
    IsEntry gs main counted id (Some ins) → (d : ℕ) × GraphRuns gs d main [] ins (failed id)

-- a limit that a question meets is right, and isn't that of an inexact pair
abbrev pub LimitsAreRight : Type 0
LimitsAreRight =
    (gs : List Graph) (main : ℕ) (path : List ℕ) (kept : Kept) → MeetsLimit gs main path kept →
    IsRight kept × (kind_of kept.limit ≢ kind.Inexact)

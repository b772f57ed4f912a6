-- How a sweep ends, and what it found.
use Rattle.std.specs.Prelude.{◌≡◌, ◌≢◌, ◌⊎◌, ℕ, ◌<◌, ◌≤◌, List, [], ◌∷◌, ◌++◌, length, Option, None, Some, slice_get, ℤ, Vec}
use Rattle.std.specs.declared.alloc.Global.{Global}
use Rattle.linear_formula.specs.declared.question.Question.TheVariants as asks
use Rattle.shadow_elim.specs.LimitKinds.{kind_of}
use Rattle.shadow_elim.specs.Plan.{solution, limit_met}
use Rattle.shadow_elim.specs.RightLimit.{IsRight}
use Rattle.shadow_elim.specs.Sums.{IsFirstWide, first_wide}
use Rattle.shadow_elim.specs.declared.limit.Kept.{Kept}
use Rattle.shadow_elim.specs.declared.limit.LimitKind.TheVariants as kind
use Rattle.shadow_elim.specs.declared.sum.Sum.{Sum}
use Rattle.flow_graph.specs.declared.graph.Graph.{Graph}
use Rattle.flow_graph.specs.Runs.{failed}
use Rattle.path_sweep.specs.Executions.{IsFeasible, IsTaken, ended}
use Rattle.path_sweep.specs.Guards.{Walked, begun, ComesTo, Follows}
use Rattle.path_sweep.specs.Order.{Before, AreThose}
use Rattle.path_sweep.specs.declared.swept.SweepEnd.{SweepEnd}
use Rattle.path_sweep.specs.declared.swept.SweepEnd.TheVariants as how
use Rattle.path_sweep.specs.declared.swept.Swept.{Swept}

module _ (gs : List Graph) (main : ℕ) where
  -- a feasible path with one more edge that may follow: by these sums it has this guard
  pub record IsQuestion (path : List ℕ) : Type 0 where
    pub front : List ℕ
    pub edge : ℕ
    pub is : path ≡ front ++ edge ∷ []
    pub feasible : IsFeasible gs main front
    pub graph : Graph
    pub at : slice_get gs main ≡ Some graph
    pub before : Walked
    pub comes : ComesTo gs front (begun graph) before
    pub sums : List Sum
    pub after : Walked
    pub follows : Follows gs edge before sums after

  -- the first of the sums that is too wide, and else the guard's limit by the plan of the solver
  pub record MeetsLimit (path : List ℕ) (kept : Kept) : Type 0 where
    pub question : IsQuestion path
    pub meets : IsFirstWide question.sums kept
        ⊎ ((first_wide question.sums ≡ None)
        × (kept.question ≡ asks.Cube (record { atoms = question.after.guard }))
        × (solution question.after.guard ≡ limit_met kept.limit))

  abbrev pub Undecided : List ℕ → Type 0
  Undecided path = (kept : Kept) × MeetsLimit path kept

  abbrev pub FeasibleBefore : List ℕ → List ℕ → Type 0
  FeasibleBefore bound path = IsFeasible gs main path × Before path bound

  -- The tree has at most `edges` edges, and these are its paths.
  pub record IsWhole (edges : ℕ) (counted : List (List ℕ)) : Type 0 where
    pub those : AreThose (IsFeasible gs main) counted
    pub few : length counted ≤ edges
    pub clear : (q : List ℕ) → Undecided q → ⊥

  -- one more was counted
  pub record IsMore (edges : ℕ) (counted : List (List ℕ)) : Type 0 where
    pub before : List (List ℕ)
    pub last : List ℕ
    pub is : counted ≡ before ++ last ∷ []
    pub those : AreThose (FeasibleBefore last) before
    pub full : length before ≡ edges
    pub feasible : IsFeasible gs main last
    pub clear : (q : List ℕ) → (q ≡ last) ⊎ Before q last → Undecided q → ⊥

  -- the first question that met a limit
  pub record IsLimited (edges : ℕ) (counted : List (List ℕ)) (kept : Kept) : Type 0 where
    pub path : List ℕ
    pub those : AreThose (FeasibleBefore path) counted
    pub few : length counted ≤ edges
    pub meets : MeetsLimit path kept
    pub clear : (q : List ℕ) → Before q path → Undecided q → ⊥

  -- it fails there on some inputs
  abbrev pub FailsAt : ℕ → List ℕ → Type 0
  FailsAt id path = (ins : List ℤ) × IsTaken gs main path ins (ended (failed id))

  -- the first counted path that fails there is taken on these inputs; no counted path fails there
  abbrev pub IsEntry : (counted : List (List ℕ)) → (id : ℕ) → Option (List ℤ) → Type 0
  IsEntry counted id None = (k : ℕ) (p : List ℕ) → slice_get counted k ≡ Some p →
      FailsAt id p → ⊥
  IsEntry counted id (Some ins) =
      (k : ℕ) × (p : List ℕ) × (slice_get counted k ≡ Some p)
      × IsTaken gs main p ins (ended (failed id))
      × ((l : ℕ) (q : List ℕ) → l < k → slice_get counted l ≡ Some q → FailsAt id q → ⊥)

  abbrev pub IsEnd : (edges : ℕ) (counted : List (List ℕ)) → SweepEnd → Type 0
  IsEnd edges counted how.Whole = IsWhole edges counted
  IsEnd edges counted how.More = IsMore edges counted
  IsEnd edges counted (how.Limit kept) = IsLimited edges counted kept

-- the inputs of an entry
abbrev pub inputs_in : Option (Vec ℤ Global) → Option (List ℤ)
inputs_in None = None
inputs_in (Some v) = Some v.items

-- The sweep ends so after these counted paths, and there is an entry for each assertion.
pub record EndsSo (gs : List Graph) (main asserts edges : ℕ) (swept : Swept) : Type 0 where
  pub counted : List (List ℕ)
  pub ends : IsEnd gs main edges counted swept.end
  pub all : length swept.found.items ≡ asserts
  pub entries : (id : ℕ) (o : Option (Vec ℤ Global)) → slice_get swept.found.items id ≡ Some o →
      IsEntry gs main counted id (inputs_in o)

-- where no question meets a limit, and the tree has at most `edges` edges, the sweep is whole
abbrev pub ComesWhole : List Graph → (main edges : ℕ) → SweepEnd → Type 0
ComesWhole gs main edges end =
    ((q : List ℕ) → Undecided gs main q → ⊥) → (paths : List (List ℕ)) →
    AreThose (IsFeasible gs main) paths → length paths ≤ edges → end ≡ how.Whole

-- a limit at which it ends is that of its cube or sum, and not that of an inexact pair
abbrev pub HasRightLimit : SweepEnd → Type 0
HasRightLimit end =
    (kept : Kept) → end ≡ how.Limit kept → IsRight kept × (kind_of kept.limit ≢ kind.Inexact)

-- Paths of numbered edges, the shortest ones, and where they last leave the marked regions.
use Rattle.std.specs.Prelude.{◌≡◌, ℕ, suc, ◌≤◌, ◌<◌, Bool, true, false, not, ◌&&◌, List, [], ◌∷◌, length, Option, None, Some, Vec, slice_get, slice_index_or}
use Rattle.std.specs.declared.alloc.Global.{Global}
use Rattle.abstract_path.specs.declared.frontier.Route.{Route}
use Rattle.abstract_path.specs.declared.frontier.Route.TheVariants as route

-- the truth value at a number, false past the end
abbrev pub is_at : List Bool → ℕ → Bool
is_at bits n = slice_index_or bits n false

-- both regions of each edge exist
abbrev pub AreEdgesOf : (regions : ℕ) → List (ℕ × ℕ) → Type 0
AreEdgesOf regions edges = (e a b : ℕ) → slice_get edges e ≡ Some (a, b) → (a < regions)
    × (b < regions)

-- the edge of this number leads from a to b, and isn't shut
abbrev pub IsOpen : (edges : List (ℕ × ℕ)) (shut : List Bool) (e a b : ℕ) → Type 0
IsOpen edges shut e a b = (slice_get edges e ≡ Some (a, b)) × (is_at shut e ≡ false)

-- over these edges, none of which is shut, one after the other
abbrev pub IsRoute : (edges : List (ℕ × ℕ)) (shut : List Bool) → (from : ℕ) → List ℕ → (to : ℕ) →
    Type 0
IsRoute edges shut from [] to = to ≡ from
IsRoute edges shut from (n ∷ path) to = (next : ℕ) × IsOpen edges shut n from next × IsRoute edges
    shut next path to

-- no such path has fewer edges
abbrev pub IsShortest : (edges : List (ℕ × ℕ)) (shut : List Bool) (from to : ℕ) → List ℕ → Type 0
IsShortest edges shut from to path = (other : List ℕ) → IsRoute edges shut from other to →
    length path ≤ length other

-- a shortest path, or none exactly where there is none
abbrev pub IfShortest : (edges : List (ℕ × ℕ)) (shut : List Bool) (from to : ℕ) →
    Option (Vec ℕ Global) →
    Type 0
IfShortest edges shut from to (Some path) = IsRoute edges shut from path.items to
    × IsShortest edges shut from to path.items
IfShortest edges shut from to None = (path : List ℕ) → IsRoute edges shut from path to → ⊥

-- the edge leads from a marked region to one that isn't marked
abbrev pub leaves_marked : List Bool → Option (ℕ × ℕ) → Bool
leaves_marked marked None = false
leaves_marked marked (Some e) = is_at marked e.0 && not (is_at marked e.1)

-- the place of the last such edge
abbrev pub later : Option ℕ → Bool → Option ℕ
later (Some k) here = Some (suc k)
later None true = Some 0
later None false = None

abbrev pub last_crossing : (edges : List (ℕ × ℕ)) (marked : List Bool) → List ℕ → Option ℕ
last_crossing edges marked [] = None
last_crossing edges marked (n ∷ path) = later (last_crossing edges marked path)
    (leaves_marked marked (slice_get edges n))

abbrev pub Found : (edges : List (ℕ × ℕ)) (marked shut : List Bool) (start target : ℕ)
    (path : List ℕ) (at : ℕ) → Type 0
Found edges marked shut start target path at =
    IsRoute edges shut start path target × IsShortest edges shut start target path
    × (last_crossing edges marked path ≡ Some at)

-- `NoPath` exactly where there is none
abbrev pub Answers : (edges : List (ℕ × ℕ)) (marked shut : List Bool) (start target : ℕ) → Route →
    Type 0
Answers edges marked shut start target (route.Found path at) = Found edges marked shut start target
    path.items at
Answers edges marked shut start target route.NoPath = (path : List ℕ) →
    IsRoute edges shut start path target → ⊥

-- Distances to a target over open edges, and paths over them.
use Rattle.std.specs.Prelude.{◌≡◌, ◌≢◌, ◌≤◌, ◌<◌, ◌++◌, ◌∷◌, [], ℕ, suc, false, not, ◌&&◌, Bool, IsTrue, List, Option, None, Some, length, slice_index, slice_index_or}
use Rattle.std.specs.List.{list_all}
use Rattle.abstract_path.specs.Routes.{is_at}
use Rattle.may_partition.specs.declared.region.RegionEdge.{RegionEdge}
use Rattle.may_partition.specs.Shown.{is_live}

-- a live edge that isn't shut
abbrev pub IsOpenEdge : (edges shut : List RegionEdge) → RegionEdge → Type 0
IsOpenEdge edges shut e = IsTrue (is_live edges e) × (is_live shut e ≡ false)

-- open edges, one after the other
abbrev pub IsOpenWay : (edges shut : List RegionEdge) → ℕ → List RegionEdge → ℕ → Type 0
IsOpenWay edges shut a [] b = b ≡ a
IsOpenWay edges shut a (e ∷ es) b =
    IsOpenEdge edges shut e × (e.from ≡ a) × IsOpenWay edges shut e.to es b

-- `far` has 0 for a region from which no open way leads to the target, else at most one more than
-- the edges of the shortest
abbrev pub AreBounded : (edges shut : List RegionEdge) (far : List ℕ) → Type 0
AreBounded edges shut far =
    (e : RegionEdge) → IsOpenEdge edges shut e → slice_index far e.to ≢ 0 →
    (slice_index far e.from ≢ 0) × (slice_index far e.from ≤ suc (slice_index far e.to))

abbrev pub no_edge : RegionEdge
no_edge = record { edge = 0; from = 0; to = 0 }

abbrev pub way_at : List RegionEdge → ℕ → RegionEdge
way_at way r = slice_index_or way r no_edge

-- the edge is open, and leads from the region to one that is nearer
pub record LeadsNearer (edges shut : List RegionEdge) (far : List ℕ) (r : ℕ) (e : RegionEdge) :
    Type 0 where
  pub is_open : IsOpenEdge edges shut e
  pub from : e.from ≡ r
  pub known : slice_index far e.to ≢ 0
  pub nearer : slice_index far e.to < slice_index far r

abbrev pub LeadOn : (edges shut : List RegionEdge) (target : ℕ) (far : List ℕ)
    (way : List RegionEdge) → Type 0
LeadOn edges shut target far way =
    (r : ℕ) → r ≢ target → slice_index far r ≢ 0 → LeadsNearer edges shut far r (way_at way r)

-- distances that may be too small
pub record AreAtLeast (regions : ℕ) (edges shut : List RegionEdge) (target : ℕ) (far : List ℕ)
    (way : List RegionEdge) : Type 0 where
  pub fars : length far ≡ regions
  pub ways : length way ≡ regions
  pub at_target : slice_index far target ≡ 1
  pub bounded : AreBounded edges shut far

pub record AreMeasured (regions : ℕ) (edges shut : List RegionEdge) (target : ℕ) (far : List ℕ)
    (way : List RegionEdge) : Type 0 where
  pub least : AreAtLeast regions edges shut target far way
  pub lead : LeadOn edges shut target far way

-- Turns

abbrev pub crosses : List Bool → RegionEdge → Bool
crosses marked e = is_at marked e.from && not (is_at marked e.to)

-- the last edge of a shortest open way from the outside that leads from a marked region to one that
-- isn't
pub record IsLastCrossing (edges shut : List RegionEdge) (marked : List Bool) (target : ℕ)
    (k : RegionEdge) : Type 0 where
  pub before : List RegionEdge
  pub behind : List RegionEdge
  pub is_way : IsOpenWay edges shut 0 (before ++ k ∷ behind) target
  pub frontier : IsTrue (crosses marked k)
  pub last : IsTrue (list_all (λ e. not (crosses marked e)) behind)
  pub shortest : (es : List RegionEdge) → IsOpenWay edges shut 0 es target →
      length (before ++ k ∷ behind) ≤ length es

abbrev pub IfLastCrossing : (edges shut : List RegionEdge) (marked : List Bool) (target : ℕ) →
    Option RegionEdge → Type 0
IfLastCrossing edges shut marked target (Some k) = IsLastCrossing edges shut marked target k
IfLastCrossing edges shut marked target None =
    (es : List RegionEdge) → IsOpenWay edges shut 0 es target → ⊥

-- The nearest region after an open edge

pub record IsNearest (edges shut : List RegionEdge) (far : List ℕ) (region near : ℕ) : Type 0 where
  pub least : (e : RegionEdge) → IsOpenEdge edges shut e → e.from ≡ region →
      slice_index far e.to ≢ 0 → (near ≢ 0) × (near ≤ slice_index far e.to)
  pub met : near ≢ 0 → (e : RegionEdge) × IsOpenEdge edges shut e × (e.from ≡ region)
      × (slice_index far e.to ≡ near)

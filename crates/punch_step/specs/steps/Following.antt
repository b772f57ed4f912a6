-- Distances that follow a state.
use Rattle.std.specs.Prelude.{◌≡◌, ◌≤◌, ◌<◌, ◌||◌, ℕ, IsTrue, List, None, Option, Some, length, slice_get}
use Rattle.abstract_path.specs.Routes.{is_at}
use Rattle.flow_graph.specs.declared.graph.Graph.{Graph}
use Rattle.summary_form.specs.declared.summary.Summary.{Summary}
use Rattle.may_partition.specs.declared.region.RegionEdge.{RegionEdge}
use Rattle.may_partition.specs.Parted.{parents}
use Rattle.may_partition.specs.Shown.{Shown, is_live}
use Rattle.query_rules.specs.Paths.{is_awaited, is_marked, is_stuck}
use Rattle.query_rules.specs.Seen.{Seen}
use Rattle.query_rules.specs.Steps.{Model, stepped}
use Rattle.query_rules.specs.declared.step.Step.{Step}
use Rattle.punch_step.specs.Analysed.{IsAnalysed}
use Rattle.punch_step.specs.Slices.{end_of}
use Rattle.punch_step.specs.declared.distances.Distances.{Distances}
use Rattle.punch_step.specs.steps.Far.{AreAtLeast}
use Rattle.punch_step.specs.steps.Reaching.{AreMarksWithin}

-- the distances are of this partition's open edges
abbrev pub AreOf : Shown → Distances → Type 0
AreOf p d =
    AreAtLeast (length p.regions) p.edges d.shut d.target d.reach.far.items d.reach.way.items

-- of each region an edge that leaves it and is live, where one is noted
abbrev pub AreNoted : Shown → List (Option RegionEdge) → Type 0
AreNoted p noted =
    (r : ℕ) (e : RegionEdge) → slice_get noted r ≡ Some (Some e) →
    (e.from ≡ r) × (e.from < length p.regions) × (e.to < length p.regions)
    × IsTrue (is_live p.edges e)

-- the same of all but the distances
pub record KeepsRest (old new : Distances) : Type 0 where
  pub target : new.target ≡ old.target
  pub shut : new.shut ≡ old.shut
  pub marked : new.marked.items ≡ old.marked.items

-- the edges that were given up or are awaited are shut, and the marked regions are marked
pub record IsFollowed (s : Seen) (d : Distances) : Type 0 where
  pub shut : (e : RegionEdge) → is_live d.shut e ≡ (is_stuck s.steps e || is_awaited s.asked e)
  pub many : length d.marked.items ≡ length s.partition.regions
  pub marked : (r : ℕ) → is_at d.marked.items r ≡ is_marked s.marks r
  pub target : d.target < length s.partition.regions
  pub far : AreOf s.partition d
  pub noted : AreNoted s.partition d.noted.items

-- one legal step after a state that the distances follow
pub record IsBehind (s : Seen) (d : Distances) : Type 0 where
  pub before : Seen
  pub followed : IsFollowed before d
  pub graphs : List Graph
  pub graph : Graph
  pub table : List Summary
  pub model : Model
  pub was : IsAnalysed graphs table graph before model
  pub step : Step
  pub goes_on : end_of step ≡ None
  pub is : IsAnalysed graphs table graph s (stepped graph table step model)

-- the regions' edges are those of a split of the region, in a state that the distances followed
pub record IsSplitFrom (from : ℕ) (s : Seen) (d : Distances) : Type 0 where
  pub shut : (e : RegionEdge) → is_live d.shut e ≡ (is_stuck s.steps e || is_awaited s.asked e)
  pub target : d.target < length s.partition.regions
  pub marks : AreMarksWithin (length s.partition.regions) s.marks
  pub old : Shown
  pub far : AreOf old d
  pub noted : AreNoted old d.noted.items
  pub more : length old.regions ≤ length s.partition.regions
  pub live : (e : RegionEdge) → IsTrue (is_live s.partition.edges e) →
      IsTrue (is_live old.edges (parents (length old.regions) from e))
  pub stays : (e : RegionEdge) → e.from < length old.regions → e.to < length old.regions →
      IsTrue (is_live old.edges e) → IsTrue (is_live s.partition.edges e)

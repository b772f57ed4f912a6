-- To which queries kills lead: from one that is anchored to one that is.
use Rattle.std.specs.Prelude.{◌≡◌, ◌⊎◌, ℕ, ◌-◌, ◌<◌, List, [], ◌∷◌, ◌++◌, length, false, Some, slice_get}
use Rattle.query_rules.specs.Laws.{IsGrounded}
use Rattle.query_rules.specs.Paths.{HasNoPath}
use Rattle.query_rules.specs.Seen.{Seen}
use Rattle.query_rules.specs.declared.step.Asked.{Asked}
use Rattle.query_rules.specs.declared.step.Closing.TheVariants as closing
use Rattle.query_rules.specs.declared.step.Killer.{Killer}
use Rattle.query_rules.specs.declared.step.Killer.TheVariants as killer
use Rattle.query_rules.specs.declared.step.Step.TheVariants as step
use Rattle.may_partition.specs.declared.region.RegionEdge.{RegionEdge}
use Rattle.summary_form.specs.declared.query.Query.{Query}
use Rattle.summary_form.specs.declared.summary.Summary.TheVariants.{NotMay}
use Rattle.bolt_core.specs.Anchors.{IsAnchored}
use Rattle.bolt_core.specs.Boards.{IsBoard, Shown}
use Rattle.bolt_core.specs.Groups.{Node}
use Rattle.bolt_core.specs.Histories.{has_said}
use Rattle.bolt_core.specs.Origins.{origins_of}
use Rattle.bolt_core.specs.Verdicts.{IsClosedIn, IsProvedIn}

-- the query of this number asks this, and is anchored
pub record IsClaimable (b : Shown) (i : ℕ) (q : Query) : Type 0 where
  pub node : Node
  pub at : slice_get b.core.nodes i ≡ Some node
  pub asks : node.query ≡ q
  pub level : ℕ
  pub anchored : IsAnchored b.core.nodes level i

-- the query at this level on the way from the root down to a query
pub data IsAbove (ns : List Node) (level : ℕ) : (i a : ℕ) → Type 0 where
  own : {i : ℕ} → (n : Node) → slice_get ns i ≡ Some n → n.level ≡ level → IsAbove ns level i i
  up : {i a : ℕ} → (n : Node) (p : ℕ) → slice_get ns i ≡ Some n → n.parent ≡ Some p →
      IsAbove ns level p a → IsAbove ns level i a

-- Where a kill of the state of query i leads: a kill by the table to the origin of its place, if
-- that is after the opening table, one by a child to the child, and one by an ancestor to the
-- query at its level.
module _ (b : Shown) (i : ℕ) (s : Seen) where
  abbrev pub LeadsTo : Killer → Type 0
  LeadsTo (killer.Certificate c) = Unit {0}
  LeadsTo (killer.Table place proof) =
      (place < length b.core.kept)
      ⊎ ((q : Query) × (slice_get b.core.table place ≡ Some (NotMay q)) × (x : ℕ)
      × (slice_get (origins_of b) (place - length b.core.kept) ≡ Some x) × IsClaimable b x q)
  LeadsTo (killer.Child number) =
      (e : Asked) × (slice_get s.asked number ≡ Some e) × IsClaimable b e.child e.query
  LeadsTo (killer.Ancestor level proof) =
      (q : Query) × (slice_get (s.ancestors ++ s.query ∷ []) level ≡ Some q) × (x : ℕ)
      × IsAbove b.core.nodes level i x × IsClaimable b x q

-- where the history has no Publish
abbrev pub KillsLead : Type 0
KillsLead =
    (b : Shown) → IsBoard b → ((i : ℕ) → has_said b.core.history i ≡ false) → (i l : ℕ) →
    IsAnchored b.core.nodes l i → (s : Seen) → IsClosedIn b i s closing.NotMay →
    (n : ℕ) (k : RegionEdge) (by : Killer) → slice_get s.steps n ≡ Some (step.Kill k by) →
    LeadsTo b i s by

-- an anchored query closed without a path, and its state is stored
abbrev pub AnchoredAreClosed : Type 0
AnchoredAreClosed =
    (b : Shown) → IsBoard b → (i l : ℕ) → IsAnchored b.core.nodes l i →
    (s : Seen) × IsClosedIn b i s closing.NotMay

-- a root that is proved leans on nothing
abbrev pub RootsAreAnchored : Type 0
RootsAreAnchored =
    (b : Shown) → IsBoard b → (root : ℕ) → root < b.asserts → IsProvedIn b root →
    IsAnchored b.core.nodes 0 root

-- a query that closed without a path has a state that legal steps reached, over summaries that
-- hold, and in which no live path is left
abbrev pub ClosedAreGrounded : Type 0
ClosedAreGrounded =
    (b : Shown) → IsBoard b → (i : ℕ) (s : Seen) (c : IsClosedIn b i s closing.NotMay) →
    IsGrounded b.graphs c.state.graph b.core.table s.query s.ancestors c.state.model
    × HasNoPath c.state.graph c.state.model.query c.state.model.parted

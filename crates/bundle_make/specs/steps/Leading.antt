-- The way from a query up, and the queries to which kills lead, as far as they were listed.
use Rattle.std.specs.Prelude.{◌≡◌, ℕ, suc, ◌+◌, ◌<◌, List, Some, slice_get}
use Rattle.may_partition.specs.declared.region.RegionEdge.{RegionEdge}
use Rattle.query_rules.specs.Seen.{Seen}
use Rattle.query_rules.specs.declared.step.Killer.{Killer}
use Rattle.query_rules.specs.declared.step.Step.{Step}
use Rattle.query_rules.specs.declared.step.Step.TheVariants as step
use Rattle.bolt_core.specs.Boards.{Shown}
use Rattle.bolt_core.specs.Groups.{Node}
use Rattle.bolt_core.specs.Leads.{IsAbove}
use Rattle.bundle_make.specs.Bundling.{IsLead, LeadsOn, Listed}
use Rattle.bundle_make.specs.steps.Listing.{AreAnchored}

-- the query is of this level
pub record IsOnLevel (ns : List Node) (level i : ℕ) : Type 0 where
  pub node : Node
  pub at : slice_get ns i ≡ Some node
  pub is_level : node.level ≡ level

-- up from query i, query a is `left` levels below the one that is looked for
pub record IsOnWay (ns : List Node) (level i : ℕ) (left a : ℕ) : Type 0 where
  pub on : IsOnLevel ns (level + left) a
  pub way : (x : ℕ) → IsAbove ns level a x → IsAbove ns level i x

-- Lists

module _ (b : Shown) where
  module _ (i : ℕ) (s : Seen) where
    -- the step is a kill that leads to query x
    pub record StepLeads (e : Step) (x : ℕ) : Type 0 where
      pub edge : RegionEdge
      pub by : Killer
      pub kill : e ≡ step.Kill edge by
      pub lead : IsLead b i s by x

    -- the list has the queries to which the first steps lead
    abbrev pub AreFollowed : (count : ℕ) → List ℕ → Type 0
    AreFollowed count ids =
        (n x : ℕ) (e : Step) → n < count → slice_get s.steps n ≡ Some e → StepLeads e x →
        Listed ids x

  -- the list has the root and those to which the kills of the first queries lead, and no other
  pub record IsFilled (root count : ℕ) (ids : List ℕ) : Type 0 where
    pub first : slice_get ids 0 ≡ Some root
    pub anchored : AreAnchored b ids
    pub all : (n i x : ℕ) → n < count → slice_get ids n ≡ Some i → LeadsOn b i x → Listed ids x
    pub led : (n x : ℕ) → slice_get ids (suc n) ≡ Some x →
        (m i : ℕ) × (m < suc n) × (slice_get ids m ≡ Some i) × LeadsOn b i x

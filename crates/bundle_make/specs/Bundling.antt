-- The bundle of a proved root: of which boards it is made, which queries have claims, and their
-- moves.
use Rattle.std.specs.Prelude.{◌≡◌, ℕ, suc, ◌+◌, ◌<◌, Bool, true, List, [], ◌∷◌, ◌++◌, false, length, Some, slice_get}
use Rattle.flow_graph.specs.declared.graph.Graph.{Graph}
use Rattle.summary_form.specs.declared.query.ExitKind.{ExitKind}
use Rattle.summary_form.specs.declared.query.Query.{Query}
use Rattle.summary_form.specs.declared.summary.Summary.{Summary}
use Rattle.may_partition.specs.declared.region.RegionEdge.{RegionEdge}
use Rattle.may_partition.specs.Parted.{Parted, begin_parted}
use Rattle.query_rules.specs.Seen.{Seen}
use Rattle.query_rules.specs.declared.step.Asked.{Asked}
use Rattle.query_rules.specs.declared.step.Closing.TheVariants as closing
use Rattle.query_rules.specs.declared.step.Killer.{Killer}
use Rattle.query_rules.specs.declared.step.Killer.TheVariants as killer
use Rattle.query_rules.specs.declared.step.Step.{Step}
use Rattle.query_rules.specs.declared.step.Step.TheVariants as step
use Rattle.bolt_core.specs.Boards.{Shown}
use Rattle.bolt_core.specs.Histories.{has_said}
use Rattle.bolt_core.specs.Leads.{IsAbove}
use Rattle.bolt_core.specs.Origins.{origins_of}
use Rattle.bolt_core.specs.Verdicts.{IsClosedIn}
use Rattle.proof_bundle.specs.Claims.{PureBundle, PureClaim, PureMove}
use Rattle.bundle_check.specs.RightClaims.{moved_all, queries_of}
use Rattle.bundle_check.specs.Walked.{Makes}

-- the list has it
abbrev pub Listed : List ℕ → ℕ → Type 0
Listed ids x = (n : ℕ) × (slice_get ids n ≡ Some x)

-- Boards of which bundles are made

-- it began without summaries, and none was published
pub record IsBare (b : Shown) : Type 0 where
  pub none : b.core.kept ≡ []
  pub unsaid : (i : ℕ) → has_said b.core.history i ≡ false

-- Which queries have claims

module _ (b : Shown) where
  -- The query to which a kill of the state of query i leads: one by the table to the origin of its
  -- place, one by a child to the child, and one by an ancestor to the query at its level.
  abbrev pub IsLead : (i : ℕ) → Seen → Killer → (x : ℕ) → Type 0
  IsLead i s (killer.Certificate c) x = ⊥
  IsLead i s (killer.Table place proofs) x = slice_get (origins_of b) place ≡ Some x
  IsLead i s (killer.Child number) x =
      (e : Asked) × (slice_get s.asked number ≡ Some e) × (x ≡ e.child)
  IsLead i s (killer.Ancestor level proofs) x = IsAbove b.core.nodes level i x

  -- query i closed without a path, and a kill of its state leads to query x
  pub record LeadsOn (i x : ℕ) : Type 0 where
    pub state : Seen
    pub closed : IsClosedIn b i state closing.NotMay
    pub place : ℕ
    pub edge : RegionEdge
    pub by : Killer
    pub kill : slice_get state.steps place ≡ Some (step.Kill edge by)
    pub lead : IsLead i state by x

  -- the root, and the queries to which the kills of these lead: each once, and no other
  pub record AreClaimed (root : ℕ) (ids : List ℕ) : Type 0 where
    pub first : slice_get ids 0 ≡ Some root
    pub once : (m n i : ℕ) → slice_get ids m ≡ Some i → slice_get ids n ≡ Some i → m ≡ n
    pub all : (i x : ℕ) → Listed ids i → LeadsOn i x → Listed ids x
    pub led : (n x : ℕ) → slice_get ids (suc n) ≡ Some x →
        (m i : ℕ) × (m < suc n) × (slice_get ids m ≡ Some i) × LeadsOn i x

-- The moves of a claim

-- some stored step kills by this asked query
abbrev pub KillsByChild : List Step → (i : ℕ) → Type 0
KillsByChild steps i =
    (n : ℕ) × (k : RegionEdge) × (slice_get steps n ≡ Some (step.Kill k (killer.Child i)))

-- how many queries were asked after this step, where `entry` were before it
abbrev pub asked_after : Step → ℕ → ℕ
asked_after (step.Ask k q follows seen) entry = entry + 1
asked_after _ entry = entry

module _ (g : Graph) (exit : ExitKind) (table : List Summary) (levels claims : List Query)
    (killed : ℕ → Bool) where
  -- The moves that stored steps make, one step after the other, from this partition on. Before
  -- them `entry` queries were asked.
  abbrev pub MakesAll : List Step → (entry : ℕ) → Parted → List PureMove → Type 0
  MakesAll [] entry p made = made ≡ []
  MakesAll (s ∷ steps) entry p made =
      (one more : List PureMove) × (made ≡ one ++ more)
      × Makes g exit p table levels claims killed s entry one
      × MakesAll steps (asked_after s entry) (moved_all one p) more

-- The claim of query i, where the claims are of these queries: what it asks, and the moves that the
-- steps of the state make with which it closed. A kill by a child stands in the place of the
-- child's Ask; where an edge is no longer live, it isn't killed again.
pub record IsClaimOf (b : Shown) (claims : List Query) (i : ℕ) (c : PureClaim) : Type 0 where
  pub state : Seen
  pub closed : IsClosedIn b i state closing.NotMay
  pub query : c.query ≡ state.query
  pub graph : Graph
  pub at : slice_get b.graphs state.query.proc ≡ Some graph
  pub killed : ℕ → Bool
  pub kills : (j : ℕ) → killed j ≡ true → KillsByChild state.steps j
  pub all_kills : (j : ℕ) → KillsByChild state.steps j → killed j ≡ true
  pub made : MakesAll graph state.query.exit b.core.table (state.ancestors ++ state.query ∷ [])
      claims killed state.steps 0 (begin_parted graph state.query) c.moves

-- Bundles

pub record IsBundleOf (b : Shown) (root : ℕ) (bundle : PureBundle) : Type 0 where
  pub ids : List ℕ
  pub claimed : AreClaimed b root ids
  pub each : length bundle.claims ≡ length ids
  pub claims : (n i : ℕ) (c : PureClaim) → slice_get ids n ≡ Some i →
      slice_get bundle.claims n ≡ Some c → IsClaimOf b (queries_of bundle.claims) i c

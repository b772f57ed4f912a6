-- The moves that one step makes of whatever partition is shown, and what they are made by.
use Rattle.std.specs.Prelude.{◌≡◌, ℕ, Bool, true, false, List, [], ◌∷◌, ◌++◌, length, Option, None, Some, slice_get}
use Rattle.infeasible_cert.specs.declared.certificate.Certificate.{Certificate}
use Rattle.flow_graph.specs.declared.graph.Graph.{Graph}
use Rattle.summary_form.specs.declared.query.ExitKind.{ExitKind}
use Rattle.summary_form.specs.declared.query.Query.{Query}
use Rattle.may_partition.specs.declared.region.RegionEdge.{RegionEdge}
use Rattle.may_partition.specs.Parted.{Parted}
use Rattle.may_partition.specs.Shown.{Shown, Shows}
use Rattle.query_rules.specs.Seen.{Seen}
use Rattle.query_rules.specs.declared.step.Asked.{Asked}
use Rattle.query_rules.specs.declared.step.Closing.TheVariants as closing
use Rattle.query_rules.specs.declared.step.Killer.{Killer}
use Rattle.query_rules.specs.declared.step.Killer.TheVariants as killer
use Rattle.query_rules.specs.declared.step.Step.{Step}
use Rattle.query_rules.specs.declared.step.Step.TheVariants as step
use Rattle.bolt_core.specs.Anchors.{IsAnchored}
use Rattle.bolt_core.specs.Boards.{IsBoard}
use Rattle.bolt_core.specs.Boards as boards
use Rattle.bolt_core.specs.Groups.{Node}
use Rattle.bolt_core.specs.Verdicts.{IsClosedIn}
use Rattle.proof_bundle.specs.Claims.{PureClaim, PureMove, move_of}
use Rattle.proof_bundle.specs.declared.bundle.Move.{Move}
use Rattle.bundle_check.specs.RightClaims.{IsRightClaim, moved_all}
use Rattle.bundle_check.specs.Walked.{Makes, MakesCall, MakesKill}
use Rattle.bundle_make.specs.declared.making.Maker.{Maker}
use Rattle.bundle_make.specs.Bundling.{IsBare, IsClaimOf, LeadsOn, Listed}
use Rattle.bundle_make.specs.steps.Killing.{AreKilled, is_killed}
use Rattle.bundle_make.specs.steps.Listing.{AreAskedBy, IsListing}

-- a move, or none
abbrev pub moves_of : Option Move → List PureMove
moves_of None = []
moves_of (Some m) = move_of m ∷ []

-- of whatever was shown these moves are made, and what they lead to is shown
pub record Does (old new : Shown) (P : Parted → List PureMove → Type 0) (made : List PureMove) :
    Type 0 where
  pub makes : (p : Parted) → Shows old p → P p made
  pub shows : (p : Parted) → Shows old p → Shows new (moved_all made p)

-- something of the kind is shown
abbrev pub IsShown : Shown → (Parted → Type 0) → Type 0
IsShown s P = (p : Parted) × Shows s p × P p

-- the proof of a kill by the table or an ancestor
abbrev pub HasProof : Killer → List Certificate → Type 0
HasProof (killer.Certificate c) cs = ⊥
HasProof (killer.Table place proof) cs = cs ≡ proof
HasProof (killer.Child i) cs = ⊥
HasProof (killer.Ancestor level proof) cs = cs ≡ proof

-- an Ask's entry is of its query
abbrev pub HasEntry : List Asked → Step → ℕ → Type 0
HasEntry asked (step.Ask k q follows seen) entry =
    (x : Asked) × (slice_get asked entry ≡ Some x) × (x.query ≡ q)
HasEntry asked _ entry = Unit {0}

-- What the moves of the claim of query i are made by, where these are listed: the state with which
-- it closed without a path, its graph, and by which of its asked queries some step kills.
pub record IsMaker (b : boards.Shown) (ids : List ℕ) (numbers : List (Option ℕ)) (i : ℕ) (s : Seen)
    (g : Graph) (killed : List Bool) : Type 0 where
  pub board : IsBoard b
  pub bare : IsBare b
  pub listing : IsListing (length b.core.entries) ids numbers
  pub anchored : (l : ℕ) × IsAnchored b.core.nodes l i
  pub led : (x : ℕ) → LeadsOn b i x → Listed ids x
  pub closed : IsClosedIn b i s closing.NotMay
  pub at : slice_get b.graphs s.query.proc ≡ Some g
  pub are_killed : AreKilled s killed

-- For all claims of the queries that are listed
module _ (b : boards.Shown) (ids : List ℕ) (s : Seen) (g : Graph) (killed : List Bool) where
  abbrev pub OfClaims : (List Query → Type 0) → Type 0
  OfClaims P = (claims : List Query) → AreAskedBy b.core.nodes ids claims → P claims

  abbrev pub levels : List Query
  levels = s.ancestors ++ s.query ∷ []

  -- a kill by the claim of what this query asks
  abbrev pub CallMade : ℕ → RegionEdge → List Certificate → Parted → List PureMove → Type 0
  CallMade target k proof p one = OfClaims (λ claims. (n : Node) →
      slice_get b.core.nodes target ≡ Some n →
      MakesCall g s.query.exit p b.core.table levels claims (is_killed killed) n.query k proof one)

  abbrev pub KillMade : Killer → RegionEdge → Parted → List PureMove → Type 0
  KillMade by k p one = OfClaims (λ claims.
      MakesKill g s.query.exit p b.core.table levels claims (is_killed killed) by k one)

  -- a kill in the place of the child's, where there is one
  abbrev pub AskMade : ℕ → RegionEdge → List Certificate → Parted → List PureMove → Type 0
  AskMade entry k follows p one = OfClaims (λ claims. (x : Asked) →
      slice_get s.asked entry ≡ Some x → (is_killed killed entry ≡ false → one ≡ [])
      × (is_killed killed entry ≡ true → MakesCall g s.query.exit p b.core.table levels claims
      (is_killed killed) x.query k follows one))

  abbrev pub StepMade : Step → ℕ → Parted → List PureMove → Type 0
  StepMade step entry p one = OfClaims (λ claims.
      Makes g s.query.exit p b.core.table levels claims (is_killed killed) step entry one)

-- The claim of query i, right where the claims are those of the listed queries
pub record IsMadeClaim (b : boards.Shown) (ids : List ℕ) (i : ℕ) (c : PureClaim) : Type 0 where
  pub made : (claims : List Query) → AreAskedBy b.core.nodes ids claims → IsClaimOf b claims i c
  pub right : (claims : List Query) → AreAskedBy b.core.nodes ids claims →
      IsRightClaim b.graphs claims c

-- For the maker of a claim
module _ (m : Maker) where
  abbrev pub IsReady : Type 0
  IsReady = IsMaker m.board.now m.listing.now.ids.items m.listing.now.numbers.items m.id
      m.state.now m.graph.now m.killed.now

  -- a step that the state stores
  abbrev pub IsStored : Step → Type 0
  IsStored step = (n : ℕ) × (slice_get m.state.now.steps n ≡ Some step)

  abbrev pub exit : ExitKind
  exit = m.state.now.query.exit

  abbrev pub MakesCallOf : ℕ → RegionEdge → List Certificate → Parted → List PureMove → Type 0
  MakesCallOf target k proof = CallMade m.board.now m.listing.now.ids.items m.state.now m.graph.now
      m.killed.now target k proof

  abbrev pub MakesKillOf : Killer → RegionEdge → Parted → List PureMove → Type 0
  MakesKillOf by k = KillMade m.board.now m.listing.now.ids.items m.state.now m.graph.now
      m.killed.now by k

  abbrev pub MakesAskOf : ℕ → RegionEdge → List Certificate → Parted → List PureMove → Type 0
  MakesAskOf entry k follows = AskMade m.board.now m.listing.now.ids.items m.state.now m.graph.now
      m.killed.now entry k follows

  abbrev pub MakesStepOf : Step → ℕ → Parted → List PureMove → Type 0
  MakesStepOf step entry = StepMade m.board.now m.listing.now.ids.items m.state.now m.graph.now
      m.killed.now step entry

  abbrev pub IsItsClaim : PureClaim → Type 0
  IsItsClaim c = IsMadeClaim m.board.now m.listing.now.ids.items m.id c

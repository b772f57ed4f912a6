-- Rounds: the jobs at the places of the workers.
use Rattle.std.specs.Prelude.{◌≡◌, ◌⊎◌, ℕ, ◌+◌, ◌*◌, ◌<◌, ◌≤◌, List, [], ◌∷◌, length, Bool, true, false, IfSome, slice_index_or, vec_capacity}
use Rattle.std.specs.List.{All}
use Rattle.flow_graph.specs.declared.graph.Graph.{Graph}
use Rattle.summary_form.specs.declared.summary.Summary.{Summary}
use Rattle.summary_table.specs.Tables.{StartsWith}
use Rattle.bolt_core.specs.Boards.{IsBoard, Publishes, Shown, most_queries, most_summaries}
use Rattle.bolt_core.specs.Histories.{Told}
use Rattle.bolt_core.specs.Machine.{Reached, is_over}
use Rattle.bolt_core.specs.States.{reads}
use Rattle.bolt_rounds.specs.declared.crew.Crew.{Crew}
use Rattle.bolt_rounds.specs.declared.crew.Place.{Place}
use Rattle.bolt_rounds.specs.declared.crew.Stage.{Stage}
use Rattle.bolt_rounds.specs.declared.crew.Stage.TheVariants as stage
use Rattle.bolt_rounds.specs.Moves.{IsJustTaken, IsMade, MayBeShown, MayMove, WasJustTaken}
use Rattle.bolt_rounds.specs.steps.Turning.{AreBack, AreBackBut}

-- One job

-- it was just taken of a board of these graphs, with this table
abbrev pub MayBeMade : List Graph → (known : List Summary) → Stage → Type 0
MayBeMade gs known (stage.Taken j) = WasJustTaken gs known j
MayBeMade gs known (stage.Made m) = ⊥
MayBeMade gs known stage.Failed = ⊥

-- its slice was made, or there was no memory for it
abbrev pub WasMade : List Graph → (known : List Summary) → (old new : Stage) → Type 0
WasMade gs known (stage.Taken j) (stage.Made m) = IsMade gs known j m
WasMade gs known (stage.Taken j) stage.Failed = Unit {0}
WasMade gs known (stage.Taken j) (stage.Taken k) = ⊥
WasMade gs known (stage.Made m) new = ⊥
WasMade gs known stage.Failed new = ⊥

-- it was just taken of this board
abbrev pub IsTakenOf : Shown → Stage → Type 0
IsTakenOf b (stage.Taken j) = IsJustTaken b j
IsTakenOf b (stage.Made m) = ⊥
IsTakenOf b stage.Failed = ⊥

-- it may be given back, and what is kept may be published of it; or there was no memory
abbrev pub MayGive : Shown → Stage → Type 0
MayGive b (stage.Taken j) = ⊥
MayGive b (stage.Made m) = MayMove b m.worked.job m.worked.next
    × IfSome m.spare (λ a. MayBeShown b m.worked.job a.value)
MayGive b stage.Failed = Unit {0}

-- the take of this place is its own; of which take there was no memory isn't kept
abbrev pub IsTakeOf : Stage → ℕ → Type 0
IsTakeOf (stage.Taken j) t = t ≡ j.taken
IsTakeOf (stage.Made m) t = t ≡ m.worked.job.taken
IsTakeOf stage.Failed t = Unit {0}

-- All jobs

-- each slice was made, or there was no memory for it
pub record AreMade (gs : List Graph) (known : List Summary) (olds news : List Place) : Type 0 where
  pub all : length news ≡ length olds
  pub each : (i : ℕ) (d : Place) → i < length olds →
      WasMade gs known (slice_index_or olds i d).stage (slice_index_or news i d).stage

-- the take of this place is that of one of these
abbrev pub IsOutIn : List Place → ℕ → Type 0
IsOutIn [] t = ⊥
IsOutIn (p ∷ ps) t = IsTakeOf p.stage t ⊎ IsOutIn ps t

-- there are workers with places, and all that they know is of the table of a board that isn't
-- stopped
pub record IsCrewOf (b : Shown) (crew : Crew) : Type 0 where
  pub some : 1 ≤ crew.workers
  pub kept : crew.workers ≤ vec_capacity crew.places
  pub room : crew.known.room ≡ most_summaries b
  pub front : StartsWith b.core.table crew.known.summaries
  pub going : b.core.is_stopped ≡ false

-- nobody has a job, and nothing is known
pub record IsNewCrew (workers room : ℕ) (crew : Crew) : Type 0 where
  pub all : crew.workers ≡ workers
  pub kept : vec_capacity crew.places ≡ workers
  pub none : crew.places.items ≡ []
  pub room_is : crew.known.room ≡ room
  pub unknown : crew.known.summaries ≡ []

-- between rounds nobody has a job, and each take came back
pub record IsAtRest (b : Shown) (crew : Crew) : Type 0 where
  pub crew_of : IsCrewOf b crew
  pub none : crew.places.items ≡ []
  pub back : AreBack b.core

-- one event for each job; all jobs were just taken, no other take is out, and if there are any the
-- table is known
pub record HasTaken (old : Shown) (crew : Crew) (new : Shown) : Type 0 where
  pub crew_of : IsCrewOf new crew
  pub more : length new.core.history ≡ length old.core.history + length crew.places.items
  pub fits : 1 ≤ length crew.places.items → length old.core.history < 16 * most_queries old
  pub known : 1 ≤ length crew.places.items → crew.known.summaries ≡ new.core.table
  pub taken : All (λ (p : Place). IsTakenOf new p.stage) crew.places.items
  pub out : AreBackBut new.core (IsOutIn crew.places.items)

-- all jobs may be given back, and no other take is out
pub record IsToGive (b : Shown) (crew : Crew) : Type 0 where
  pub crew_of : IsCrewOf b crew
  pub may : All (λ (p : Place). MayGive b p.stage) crew.places.items
  pub out : AreBackBut b.core (IsOutIn crew.places.items)

-- something may have been published of the query of this number, and else nothing changed
abbrev pub MayHaveSaid : Shown → (worker id : ℕ) → Shown → Type 0
MayHaveSaid old w i new = ((s : Summary) × Publishes old w i s new) ⊎ (new ≡ old)

-- no or some events, none of which is a stop, and the job came back
pub record HasGiven (old : Shown) (p : Place) (new : Shown) : Type 0 where
  pub board : IsBoard old
  pub events : List Told
  pub reached : Reached (reads old.graphs) old.core events new.core
  pub going : new.core.is_stopped ≡ old.core.is_stopped
  pub back : (ps : List Place) → AreBackBut old.core (IsOutIn (p ∷ ps)) →
      AreBackBut new.core (IsOutIn ps)

-- a round with jobs, and there was room for its events
pub record HasWorked (old : Shown) (crew : Crew) (new : Shown) : Type 0 where
  pub rest : IsAtRest new crew
  pub more : length old.core.history < length new.core.history
  pub fits : length old.core.history < 16 * most_queries old

abbrev pub IsRoundOf : Shown → Crew → (more : Bool) → Shown → Type 0
IsRoundOf old crew true new = HasWorked old crew new
IsRoundOf old crew false new =
    (is_over (reads new.graphs) new.core ≡ true) × (new.core.is_stopped ≡ false)

-- Boards beside the jobs that are out.
use Rattle.std.specs.Prelude.{◌≡◌, ℕ, ◌+◌, ◌<◌, ◌≤◌, List, [], ◌∷◌, length, Bool, Option, Some, IfSome, slice_get}
use Rattle.summary_form.specs.declared.summary.Summary.{Summary}
use Rattle.summary_table.specs.Tables.{Listed, StartsWith}
use Rattle.bolt_core.specs.Boards.{Shown, most_summaries}
use Rattle.bolt_core.specs.Histories.{took}
use Rattle.bolt_core.specs.declared.job.Job.{Job as Given}
use Rattle.bolt_core.specs.declared.job.Taken.{Taken}
use Rattle.bolt_core.specs.declared.job.Taken.TheVariants as taken
use Rattle.bolt_rounds.specs.Moves.{IsJustTaken, MayMove}
use Rattle.bolt_rounds.specs.declared.moves.Worked.{Worked}

-- nothing happened yet
pub record IsOpened (b : Shown) (asserts : ℕ) : Type 0 where
  pub all : asserts ≡ b.asserts
  pub history : b.core.history ≡ []

-- each job that is kept may be given back as it says
abbrev pub AreOut : Shown → List (Option Worked) → Type 0
AreOut b [] = Unit {0}
AreOut b (o ∷ jobs) = IfSome o (λ w. MayMove b w.job w.next) × AreOut b jobs

-- a board, a table that is brought up to its own, and the jobs that are kept
pub record IsPlay (b : Shown) (asserts : ℕ) (known : Listed) (jobs : List (Option Worked)) : Type
    0 where
  pub all : asserts ≡ b.asserts
  pub room : known.room ≡ most_summaries b
  pub front : StartsWith b.core.table known.summaries
  pub out : AreOut b jobs

-- a job that is given was just taken, and this is the board's table
abbrev pub MayTake : Shown → (known : List Summary) → Taken → Type 0
MayTake b known (taken.Job j) = IsJustTaken b j × (known ≡ b.core.table)
MayTake b known taken.Idle = Unit {0}
MayTake b known taken.Over = Unit {0}

-- the Take with which the board began said this: which query, what was left of it, and its stored
-- steps
pub record IsFirstTake (b : Shown) (id left stored : ℕ) : Type 0 where
  pub worker : ℕ
  pub waiting : Bool
  pub at : slice_get b.core.history 0 ≡ Some (took worker id left stored waiting)

-- the job is of the first take, which said this
pub record IsOfTake (j : Given) (id lent stored : ℕ) : Type 0 where
  pub first : j.taken ≡ 0
  pub query : j.id ≡ id
  pub left : j.left ≡ lent
  pub made : length j.state.steps ≡ stored + j.spent

-- The job's query is that of the take. It asked nothing, and has made `spent` steps since: some,
-- and not all that were left.
pub record IsSince (id left stored : ℕ) (j : Given) (spent : ℕ) : Type 0 where
  pub query : id ≡ j.id
  pub none : j.state.asked ≡ []
  pub made : length j.state.steps ≡ stored + spent
  pub some : 1 ≤ spent
  pub less : spent < left

-- How a slice of a job ends, and what the board makes of it.
use Rattle.std.specs.Prelude.{◌≡◌, ℕ, List, length, true, Option, None, Some, slice_get}
use Rattle.std.specs.Option.{option_map}
use Rattle.flow_graph.specs.declared.graph.Graph.{Graph}
use Rattle.summary_form.specs.declared.query.Query.{Query}
use Rattle.summary_form.specs.declared.summary.Summary.{Summary}
use Rattle.summary_form.specs.declared.summary.Summary.TheVariants as summary
use Rattle.query_rules.specs.Answered.{AreAnswered}
use Rattle.query_rules.specs.declared.step.Asked.{Asked}
use Rattle.query_rules.specs.declared.step.Closing.{Closing}
use Rattle.query_rules.specs.declared.step.Closing.TheVariants as closing
use Rattle.query_rules.specs.declared.step.News.TheVariants as news
use Rattle.bolt_core.specs.declared.job.Job.{Job as Given}
use Rattle.bolt_core.specs.Boards.{HandsIn, IsBoard, IsClosedBy, IsFedBy, IsSoundFor, MayAsk, MayBeClosed, MayBeParked, MayFeed, Shown}
use Rattle.bolt_core.specs.Groups.{Node}
use Rattle.bolt_core.specs.Histories.{Told, asked, parked}
use Rattle.summary_table.specs.Tables.{exit_of, proc_of}
use Rattle.bolt_core.specs.Machine.{Event, HoldsBy, Reached}
use Rattle.bolt_core.specs.States.{reads}
use Rattle.bolt_rounds.specs.declared.moves.Made.{Made}
use Rattle.bolt_rounds.specs.declared.moves.Move.{Move}
use Rattle.bolt_rounds.specs.declared.moves.Move.TheVariants as move

-- a job that was taken of this board, and at which nothing was done yet: for each must that it
-- heard of the table has one that answers, and the Take said so where a child is at work or waits
pub record IsJustTaken (b : Shown) (j : Given) : Type 0 where
  pub sound : IsSoundFor b j
  pub none : j.spent ≡ 0
  pub answered : AreAnswered b.core.table j.state.asked
  pub waits : (i : ℕ) (a : Asked) → slice_get j.state.asked i ≡ Some a → a.news ≡ news.Waiting →
      sound.waiting ≡ true

-- the job may be given back so
abbrev pub MayMove : Shown → Given → Move → Type 0
MayMove b j (move.Ask child query) = MayAsk b j child query.value
MayMove b j (move.Feed number) = MayFeed b j number
MayMove b j (move.Park rest) = MayBeParked b j rest
MayMove b j (move.Close how summary) =
    MayBeClosed b j how × HandsIn j.state.query how (option_map (λ a. a.value) summary)

-- and this is what comes of it: one event
abbrev pub IsMoved : Shown → (worker : ℕ) → Given → Move → Shown → Type 0
IsMoved old w j (move.Ask child query) new =
    Event (reads old.graphs) old.core
    (asked w j.id j.spent (length old.core.entries) query.value) new.core
IsMoved old w j (move.Feed number) new = IsFedBy old w j number new
IsMoved old w j (move.Park rest) new =
    Event (reads old.graphs) old.core (parked w j.id j.spent rest) new.core
IsMoved old w j (move.Close how summary) new = IsClosedBy old w j how new

-- A summary that may be published of a job that is gone: it holds by itself, and is of the
-- procedure and the exit kind of the job's query.
pub record MayBeShown (b : Shown) (j : Given) (s : Summary) : Type 0 where
  pub node : Node
  pub at : slice_get b.core.nodes j.id ≡ Some node
  pub holds : HoldsBy (reads b.graphs) s
  pub proc : proc_of s ≡ node.query.proc
  pub exit : exit_of s ≡ node.query.exit

-- the must of a close, or its not-may, where that leans on no level
abbrev pub spare_at : Query → (lowest : Option ℕ) → Closing → Option Summary
spare_at q lowest (closing.Must p) = Some (summary.Must p)
spare_at q None closing.NotMay = Some (summary.NotMay q)
spare_at q (Some level) closing.NotMay = None
spare_at q lowest (closing.Stuck kind) = None

-- what may be published of a job whose slice was made, if it is gone
abbrev pub spare : Given → Move → Option Summary
spare j (move.Ask child query) = None
spare j (move.Feed number) = None
spare j (move.Park rest) = None
spare j (move.Close how summary) = spare_at j.state.query j.state.lowest how

-- what a call asks of a job whose slice was made is kept after any further events, and so is what
-- may be published of it
abbrev pub MovesKeep : Type 0
MovesKeep =
    (old new : Shown) (es : List Told) (j : Given) → IsBoard old → new.graphs ≡ old.graphs →
    Reached (reads old.graphs) old.core es new.core →
    ((m : Move) → MayMove old j m → MayMove new j m)
    × ((s : Summary) → MayBeShown old j s → MayBeShown new j s)

-- it was just taken of a board of these graphs, whose table was this one
pub record WasJustTaken (gs : List Graph) (known : List Summary) (j : Given) : Type 0 where
  pub board : Shown
  pub is_board : IsBoard board
  pub graphs : gs ≡ board.graphs
  pub table : known ≡ board.core.table
  pub taken : IsJustTaken board j

-- its slice was made: to each such board it may be given back so, and this may be published of it
pub record IsMade (gs : List Graph) (known : List Summary) (j : Given) (made : Made) : Type
    0 where
  pub id : made.worked.job.id ≡ j.id
  pub taken : made.worked.job.taken ≡ j.taken
  pub may : (b : Shown) → IsBoard b → gs ≡ b.graphs → known ≡ b.core.table → IsJustTaken b j →
      MayMove b made.worked.job made.worked.next
  pub spare_is : option_map (λ a. a.value) made.spare ≡ spare made.worked.job made.worked.next

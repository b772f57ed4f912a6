-- What a worker knows between its calls of the board.
use Rattle.std.specs.Prelude.{◌≡◌, ◌⊎◌, ℕ, ◌<◌, List, true, false, Some}
use Rattle.flow_graph.specs.declared.graph.Graph.{Graph}
use Rattle.summary_form.specs.declared.summary.Summary.{Summary}
use Rattle.summary_table.specs.Tables.{IsBegun, Listed, StartsWith as FrontOf}
use Rattle.board_lock.specs.Seats.{Seated}
use Rattle.board_lock.specs.Views.{newcomer}
use Rattle.board_lock.specs.declared.view.View.{View}
use Rattle.bolt_core.specs.declared.history.Program.{Program}
use Rattle.bolt_core.specs.declared.job.Job.{Job as Given}
use Rattle.bolt_core.specs.declared.job.Taken.{Taken}
use Rattle.bolt_core.specs.declared.job.Taken.TheVariants as taken
use Rattle.bolt_core.specs.Boards.{IsBoard, Shown, most_summaries}
use Rattle.bolt_core.specs.Histories.{Told}
use Rattle.bolt_core.specs.Keeps.{IsEnd}
use Rattle.bolt_core.specs.Machine.{is_over}
use Rattle.bolt_core.specs.States.{reads}
use Rattle.bolt_rounds.specs.declared.moves.Worked.{Worked}
use Rattle.bolt_rounds.specs.Moves.{IsJustTaken, MayBeShown, MayMove}
use Rattle.bolt_workers.specs.declared.desk.Desk.{Desk}
use Rattle.bolt_workers.specs.Later.{IsLater}

abbrev pub program_of : Shown → Program
program_of b = record {
  graphs = b.graphs;
  main = b.main;
  asserts = b.asserts;
  budget = b.budget;
  kept = b.core.kept;
}

-- the seat doesn't hold, and has seen the history of this board
pub record HasSeen (v : View Program Told) (b : Shown) : Type 0 where
  pub board : IsBoard b
  pub rests : v.turn ≡ false
  pub program : v.program ≡ Some (program_of b)
  pub seen : v.seen ≡ b.core.history

-- its graphs are those of the board, and its table is a front of the board's, with as much room
pub record AreOf (b : Shown) (gs : List Graph) (known : Listed) : Type 0 where
  pub graphs : gs ≡ b.graphs
  pub room : known.room ≡ most_summaries b
  pub front : FrontOf b.core.table known.summaries

-- a worker that doesn't hold
pub record Sits (d : Desk) : Type 0 where
  pub board : Shown
  pub has_seen : HasSeen d.seat.view board
  pub are_of : AreOf board d.graphs.value.graphs d.known

-- the board that the seat has seen is over or stopped
pub record HasEnded (d : Desk) : Type 0 where
  pub board : Shown
  pub has_seen : HasSeen d.seat.view board
  pub ended : (is_over (reads board.graphs) board.core ≡ true) ⊎ (board.core.is_stopped ≡ true)

-- a job that was just taken of a board that the seat has seen, and whose table is the worker's
pub record CanWork (d : Desk) (j : Given) : Type 0 where
  pub board : Shown
  pub has_seen : HasSeen d.seat.view board
  pub graphs : d.graphs.value.graphs ≡ board.graphs
  pub known : d.known.summaries ≡ board.core.table
  pub job : IsJustTaken board j

-- what a take tells
abbrev pub IsTold : Desk → Taken → Type 0
IsTold d (taken.Job j) = CanWork d j
IsTold d taken.Idle = Unit {0}
IsTold d taken.Over = HasEnded d

-- the job may be given back so to the board that the seat has seen
pub record CanGive (d : Desk) (w : Worked) : Type 0 where
  pub board : Shown
  pub has_seen : HasSeen d.seat.view board
  pub may : MayMove board w.job w.next

-- of the job this summary may be published, if it is gone
pub record CanShow (d : Desk) (j : Given) (s : Summary) : Type 0 where
  pub board : Shown
  pub has_seen : HasSeen d.seat.view board
  pub may : MayBeShown board j s

-- an event after its take gave the job back, closed its query or dropped it, at a board that the
-- seat has seen, or at an earlier one
pub record IsBack (d : Desk) (j : Given) : Type 0 where
  pub board : Shown
  pub has_seen : HasSeen d.seat.view board
  pub then : Shown
  pub later : IsLater then board
  pub place : ℕ
  pub after : j.taken < place
  pub is_end : IsEnd then.core j.id place

-- Turns

-- the worker holds this board, which is later than each that it had seen
pub record Holds (old new : Desk) (b : Shown) : Type 0 where
  pub lock : new.seat.lock ≡ old.seat.lock
  pub turn : new.seat.view.turn ≡ true
  pub program : new.seat.view.program ≡ Some (program_of b)
  pub seen : new.seat.view.seen ≡ b.core.history
  pub graphs : new.graphs ≡ old.graphs
  pub known : new.known ≡ old.known
  pub same : old.seat.view.program ≡ Some (program_of b)
  pub later : (a : Shown) → HasSeen old.seat.view a → IsLater a b

-- it has freed this board
pub record Frees (old new : Desk) (b : Shown) : Type 0 where
  pub lock : new.seat.lock ≡ old.seat.lock
  pub has_seen : HasSeen new.seat.view b
  pub graphs : new.graphs ≡ old.graphs
  pub known : new.known ≡ old.known

-- Crews

-- a desk that was just opened, of a seat of this lock that has seen as much
pub record IsOpen (from : Seated Program Told) (gs : List Graph) (wanted : ℕ) (d : Desk) : Type
    0 where
  pub lock : d.seat.lock ≡ from.lock
  pub view : d.seat.view ≡ newcomer from.view
  pub graphs : d.graphs.value.graphs ≡ gs
  pub begun : IsBegun wanted d.known

-- the seat has seen the history of a board with these graphs and this room for summaries
pub record BeginsAt (v : View Program Told) (gs : List Graph) (wanted : ℕ) : Type 0 where
  pub board : Shown
  pub has_seen : HasSeen v board
  pub graphs : gs ≡ board.graphs
  pub room : wanted ≡ most_summaries board

-- What the history of a board says of it, and of the boards to which it goes on.
use Rattle.std.specs.Prelude.{◌≡◌, true, None, map}
use Rattle.query_tree.specs.declared.Entry.{Entry}
use Rattle.summary_form.specs.declared.summary.Summary.{Summary}
use Rattle.summary_table.specs.Tables.{StartsWith as FrontOf}
use Rattle.board_lock.specs.Views.{StartsWith}
use Rattle.bolt_core.specs.declared.job.Job.{Job as Given}
use Rattle.bolt_core.specs.Boards.{IsBoard, SameProgram, Shown}
use Rattle.bolt_core.specs.Machine.{Core, is_over}
use Rattle.bolt_core.specs.States.{reads}
use Rattle.bolt_rounds.specs.declared.moves.Move.{Move}
use Rattle.bolt_rounds.specs.Moves.{MayBeShown, MayMove}

-- a query's entry, but for its stored state
abbrev pub bare : {S : Type 0} → Entry S → Entry S
bare e = record e { payload = None }

-- the same but for the stored states of queries, which no event tells
pub record AreAlike {S : Type 0} (c d : Core S) : Type 0 where
  pub entries : map bare c.entries ≡ map bare d.entries
  pub nodes : c.nodes ≡ d.nodes
  pub kept : c.kept ≡ d.kept
  pub table : c.table ≡ d.table
  pub history : c.history ≡ d.history
  pub stopped : c.is_stopped ≡ d.is_stopped

-- two boards of one program with one history are alike
abbrev pub HistoriesTell : Type 0
HistoriesTell =
    (a b : Shown) → IsBoard a → IsBoard b → SameProgram a b → b.core.history ≡ a.core.history →
    AreAlike a.core b.core

-- a later board: of the same program, and its history begins with that of the old one
pub record IsLater (old new : Shown) : Type 0 where
  pub is_old : IsBoard old
  pub is_new : IsBoard new
  pub same : SameProgram old new
  pub begins : StartsWith new.core.history old.core.history

-- what is over stays over, and what was stopped stays stopped
abbrev pub EndsStay : Type 0
EndsStay =
    (old new : Shown) → IsLater old new →
    (is_over (reads old.graphs) old.core ≡ true → is_over (reads new.graphs) new.core ≡ true)
    × (old.core.is_stopped ≡ true → new.core.is_stopped ≡ true)

-- a job may be given back in the same way to each later board, the same may be published of it, and
-- a table stays a front of the board's
abbrev pub JobsWait : Type 0
JobsWait =
    (old new : Shown) → IsLater old new →
    ((j : Given) (m : Move) → MayMove old j m → MayMove new j m)
    × ((j : Given) (s : Summary) → MayBeShown old j s → MayBeShown new j s)
    × FrontOf new.core.table old.core.table

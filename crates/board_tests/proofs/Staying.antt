-- How a job was given back is one event, and what had happened before still had.
use Rattle.std.proofs.Common.{◌≡◌, ℕ, [], ◌∷◌, length, sym, ap, ◌∙◌}
use Rattle.std.proofs.lemmas.List.{append-nil}
use Rattle.board_lock.specs.Views.{StartsWith}
use Rattle.bolt_core.specs.declared.job.Job.{Job as Given}
use Rattle.bolt_core.specs.declared.job.Taken.{Taken}
use Rattle.bolt_core.specs.declared.job.Taken.TheVariants as taken
use Rattle.bolt_core.specs.Boards.{Gives, Shown}
use Rattle.bolt_core.specs.Histories.{Told, asked, closed, fed, parked, took}
use Rattle.bolt_core.specs.Machine.{Event, closed_how}
use Rattle.bolt_core.specs.States.{reads}
use Rattle.bolt_core.proofs.Reserve.{event_history}
use Rattle.bolt_rounds.specs.declared.moves.Move.{Move}
use Rattle.bolt_rounds.specs.declared.moves.Move.TheVariants as move
use Rattle.bolt_rounds.specs.Moves.{IsMoved}

module _ (old new : Shown) where
  pub moved_by : (w : ℕ) (j : Given) (m : Move) → IsMoved old w j m new → (e : Told) × Event (reads old.graphs) old.core e new.core
  moved_by w j (move.Ask child query) e = (asked w j.id j.spent (length old.core.entries) query.value, e)
  moved_by w j (move.Feed number) e = (fed w j.id j.spent e.entry.child, e.event)
  moved_by w j (move.Park r) e = (parked w j.id j.spent r, e)
  moved_by w j (move.Close how summary) e =
      (closed w j.id j.spent (closed_how (reads old.graphs) e.level j.state how) e.summaries, e.event)

  pub more_by : (e : Told) → Event (reads old.graphs) old.core e new.core → StartsWith new.core.history old.core.history
  more_by e v = record { rest = e ∷ []; is = event_history (reads old.graphs) old.core new.core e v }

  pub more_none : new ≡ old → StartsWith new.core.history old.core.history
  more_none e = record { rest = []; is = ap (λ (b : Shown). b.core.history) e ∙ sym (append-nil old.core.history) }

  pub more_taken : (w : ℕ) (t : Taken) → Gives old w new t → StartsWith new.core.history old.core.history
  more_taken w (taken.Job j) g = more_by (took w j.id j.left g.stored g.waiting) g.event
  more_taken w taken.Idle g = more_none g.same
  more_taken w taken.Over g = more_none g.same

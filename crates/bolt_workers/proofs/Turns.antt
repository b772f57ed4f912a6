-- What a worker knows after each of its turns with the board.
use Rattle.std.proofs.Common.{Global, ◌≡◌, ℕ, ◌<◌, List, [], ◌∷◌, length, Bool, true, false, Option, Some, None, refl, sym, ap, ◌∙◌, subst, ◌⊎◌, inl, inr, ⊎_elim}
use Rattle.std.specs.Prelude.{IfSome, slice_get}
use Rattle.std.proofs.lemmas.Bool.{eq-eqb}
use Rattle.query_tree.proofs.Lists.{within}
use Rattle.query_tree.proofs.Marks.{get_pushed}
use Rattle.std.specs.declared.sync.Arc.{Arc}
use Rattle.flow_graph.specs.declared.graph.Graph.{Graph}
use Rattle.query_rules.specs.Seen.{Seen}
use Rattle.summary_form.specs.declared.summary.Summary.{Summary}
use Rattle.summary_table.specs.Tables.{Listed, StartsWith as FrontOf}
use Rattle.board_lock.specs.Views.{StartsWith}
use Rattle.board_lock.proofs.Histories.{starts_same, starts_then}
use Rattle.bolt_core.specs.declared.job.Gone.{Gone as GoneJob}
use Rattle.bolt_core.specs.declared.job.Job.{Job as Given}
use Rattle.bolt_core.specs.declared.job.Taken.{Taken}
use Rattle.bolt_core.specs.declared.job.Taken.TheVariants as taken
use Rattle.bolt_core.specs.Boards.{Gives, IsBoard, IsGone, IsSoundFor, Publishes, SameProgram, Shown, Stops}
use Rattle.bolt_core.specs.Histories.{Told, asked, closed, fed, gives_back, parked, said, stopped, took}
use Rattle.bolt_core.specs.Keeps.{IsEnd}
use Rattle.bolt_core.specs.Machine.{Core, Event, Reads, closed_how, is_over}
use Rattle.bolt_core.specs.States.{reads}
use Rattle.bolt_core.proofs.Reserve.{event_history}
use Rattle.bolt_rounds.specs.declared.moves.Made.{Made}
use Rattle.bolt_rounds.specs.declared.moves.Move.{Move}
use Rattle.bolt_rounds.specs.declared.moves.Move.TheVariants as move
use Rattle.bolt_rounds.specs.declared.moves.Worked.{Worked}
use Rattle.bolt_rounds.specs.Moves.{IsMade, IsMoved, MayBeShown, MayMove, WasJustTaken}
use Rattle.bolt_rounds.proofs.Shown.{said_decided, spare_is_shown}
use Rattle.bolt_rounds.proofs.Turning.{just_taken, same_summaries, same_program}
use Rattle.bolt_workers.specs.declared.desk.Desk.{Desk}
use Rattle.bolt_workers.specs.Later.{IsLater}
use Rattle.bolt_workers.specs.steps.Desks.{AreOf, CanGive, CanShow, CanWork, Frees, HasEnded, Holds, IsBack, IsTold, Sits}
use Rattle.bolt_workers.proofs.Later.{front_later, jobs_wait}

-- Histories go on

module _ {S : Type 0} (R : Reads S) where
  event_begins : (c d : Core S) (e : Told) → Event R c e d → StartsWith d.history c.history
  event_begins c d e t = record { rest = e ∷ []; is = event_history R c d e t }

module _ (old new : Shown) where
  unchanged_begins : new ≡ old → StartsWith new.core.history old.core.history
  unchanged_begins e = subst (λ (b : Shown). StartsWith b.core.history old.core.history) (sym e) (starts_same old.core.history)

  pub gives_begins : (w : ℕ) (t : Taken) → Gives old w new t → StartsWith new.core.history old.core.history
  gives_begins w (taken.Job j) g =
      event_begins (reads old.graphs) old.core new.core (took w j.id j.left g.stored g.waiting) g.event
  gives_begins w taken.Idle g = unchanged_begins g.same
  gives_begins w taken.Over g = unchanged_begins g.same

  pub moved_begins : (w : ℕ) (j : Given) (m : Move) → IsMoved old w j m new → StartsWith new.core.history old.core.history
  moved_begins w j (move.Ask child query) e =
      event_begins (reads old.graphs) old.core new.core (asked w j.id j.spent (length old.core.entries) query.value) e
  moved_begins w j (move.Feed number) e = event_begins (reads old.graphs) old.core new.core (fed w j.id j.spent e.entry.child) e.event
  moved_begins w j (move.Park r) e = event_begins (reads old.graphs) old.core new.core (parked w j.id j.spent r) e
  moved_begins w j (move.Close how summary) e =
      event_begins (reads old.graphs) old.core new.core (closed w j.id j.spent (closed_how (reads old.graphs) e.level j.state how)
      e.summaries)
      e.event

  pub gone_begins : (j : Given) (gone : GoneJob) → IsGone old new j gone → StartsWith new.core.history old.core.history
  gone_begins j gone g = unchanged_begins g.same

  -- a stop is an event, or nothing is live or to be taken any more
  pub stops_ended : (w : ℕ) → Stops old w new →
      StartsWith new.core.history old.core.history × ((is_over (reads new.graphs) new.core ≡ true) ⊎ (new.core.is_stopped ≡ true))
  stops_ended w s = either (is_over (reads old.graphs) old.core) refl old.core.is_stopped refl where
    kept : (is_over (reads old.graphs) old.core ≡ true) ⊎ (old.core.is_stopped ≡ true) →
        StartsWith new.core.history old.core.history × ((is_over (reads new.graphs) new.core ≡ true) ⊎ (new.core.is_stopped ≡ true))
    kept o =
        let e = s.keeps o in (
          unchanged_begins e,
          subst (λ (b : Shown). (is_over (reads b.graphs) b.core ≡ true) ⊎ (b.core.is_stopped ≡ true)) (sym e) o,
        )

    either : (o : Bool) → is_over (reads old.graphs) old.core ≡ o → (h : Bool) → old.core.is_stopped ≡ h →
        StartsWith new.core.history old.core.history × ((is_over (reads new.graphs) new.core ≡ true) ⊎ (new.core.is_stopped ≡ true))
    either true e h f = kept (inl e)
    either false e true f = kept (inr f)
    either false e false f =
        let t = s.acts f e in (
          event_begins (reads old.graphs) old.core new.core (stopped w) t,
          inr (ap (λ (c : Core Seen). c.is_stopped) t.2),
        )

pub publishes_begins : (old new : Shown) (w i : ℕ) (s : Summary) → Publishes old w i s new → StartsWith new.core.history old.core.history
publishes_begins old new w i s p =
    ⊎_elim (λ m. event_begins (reads old.graphs) old.core new.core (said w i s) (p.acts m)) (λ n. unchanged_begins old new (p.keeps n))
    (said_decided old i)

-- Desks

-- what is of a board is of each later one
pub later_of : (a b : Shown) (gs : List Graph) (known : Listed) → IsLater a b → AreOf a gs known → AreOf b gs known
later_of a b gs known l o = record {
  graphs = o.graphs ∙ sym l.same.graphs;
  room = o.room ∙ sym (same_summaries a b l.same);
  front = front_later a b known.summaries l o.front;
}

module _ (old mid : Desk) (b : Shown) (s : Sits old) (h : Holds old mid b) where
  pub held_later : IsLater s.board b
  held_later = h.later s.board s.has_seen

  -- what the worker has is of the board that it holds
  pub held_of : AreOf b mid.graphs.value.graphs mid.known
  held_of = later_of s.board b mid.graphs.value.graphs mid.known held_later (record {
    graphs = ap (λ x. x.value.graphs) h.graphs ∙ s.are_of.graphs;
    room = ap (λ (k : Listed). k.room) h.known ∙ s.are_of.room;
    front = subst (λ (k : Listed). FrontOf s.board.core.table k.summaries) (sym h.known) s.are_of.front;
  })

  pub held_begins : (c : Shown) → StartsWith c.core.history b.core.history → StartsWith c.core.history mid.seat.view.seen
  held_begins c k = subst (λ (l : List Told). StartsWith c.core.history l) (sym h.seen) k

-- and when it has brought its table up to the board's
pub brought_of : (b : Shown) (gs : List Graph) (known more : Listed) → AreOf b gs known → more.room ≡ known.room →
    FrontOf b.core.table more.summaries → AreOf b gs more
brought_of b gs known more o r f = record { graphs = o.graphs; room = r ∙ o.room; front = f }

module _ (mid new : Desk) (b c : Shown) (h : IsBoard b) (s : SameProgram b c) (k : StartsWith c.core.history b.core.history)
    (f : Frees mid new c) where
  pub freed_later : IsLater b c
  freed_later = record { is_old = h; is_new = f.has_seen.board; same = s; begins = k }

  pub freed_sits : AreOf b mid.graphs.value.graphs mid.known → Sits new
  freed_sits o =
      let p = later_of b c mid.graphs.value.graphs mid.known freed_later o in
      record {
        board = c;
        has_seen = f.has_seen;
        are_of = record {
          graphs = ap (λ x. x.value.graphs) f.graphs ∙ p.graphs;
          room = ap (λ (l : Listed). l.room) f.known ∙ p.room;
          front = subst (λ (l : Listed). FrontOf c.core.table l.summaries) (sym f.known) p.front;
        };
      }

-- what a take tells
pub told_now : (mid new : Desk) (b c : Shown) (w : ℕ) (t : Taken) → IsBoard b → SameProgram b c → Gives b w c t → Frees mid new c →
    mid.graphs.value.graphs ≡ b.graphs → mid.known.summaries ≡ b.core.table → IsTold new t
told_now mid new b c w (taken.Job j) h s g f e k = record {
  board = c;
  has_seen = f.has_seen;
  graphs = ap (λ x. x.value.graphs) f.graphs ∙ (e ∙ sym s.graphs);
  known = ap (λ (l : Listed). l.summaries) f.known ∙ (k ∙ sym (ap (λ (d : Core Seen). d.table) g.event.new_is));
  job = just_taken b c w j h g;
}
told_now mid new b c w taken.Idle h s g f e k = tt
told_now mid new b c w taken.Over h s g f e k = record {
  board = c;
  has_seen = f.has_seen;
  ended = subst (λ (d : Shown). (is_over (reads d.graphs) d.core ≡ true) ⊎ (d.core.is_stopped ≡ true)) (sym g.same) g.done;
}

pub stopped_now : (mid new : Desk) (b c : Shown) (w : ℕ) → Stops b w c → Frees mid new c → HasEnded new
stopped_now mid new b c w s f = record { board = c; has_seen = f.has_seen; ended = (stops_ended b c w s).1 }

-- Jobs that are out

pub may_now : (old mid : Desk) (b : Shown) (w : Worked) → Holds old mid b → CanGive old w → MayMove b w.job w.next
may_now old mid b w h g = (jobs_wait g.board b (h.later g.board g.has_seen)).0 w.job w.next g.may

pub shows_now : (old mid : Desk) (b : Shown) (j : Given) (s : Summary) → Holds old mid b → CanShow old j s → MayBeShown b j s
shows_now old mid b j s h g = (jobs_wait g.board b (h.later g.board g.has_seen)).1 j s g.may

pub shows_then : (old mid new : Desk) (b c : Shown) (j : Given) (s : Summary) → Holds old mid b → IsLater b c → Frees mid new c →
    CanShow old j s → CanShow new j s
shows_then old mid new b c j s h l f g = record {
  board = c;
  has_seen = f.has_seen;
  may = (jobs_wait b c l).1 j s (shows_now old mid b j s h g);
}

pub work_taken : (d : Desk) (j : Given) (gs : List Graph) → gs ≡ d.graphs.value.graphs → CanWork d j → WasJustTaken gs d.known.summaries j
work_taken d j gs e w = record {
  board = w.board;
  is_board = w.has_seen.board;
  graphs = e ∙ w.graphs;
  table = w.known;
  taken = w.job;
}

module _ (d : Desk) (j : Given) (m : Made) (gs : List Graph) (e : gs ≡ d.graphs.value.graphs) (w : CanWork d j)
    (h : IsMade gs d.known.summaries j m) where
  made_may : MayMove w.board m.worked.job m.worked.next
  made_may = h.may w.board w.has_seen.board (e ∙ w.graphs) w.known w.job

  pub made_gives : CanGive d m.worked
  made_gives = record { board = w.board; has_seen = w.has_seen; may = made_may }

  pub made_shows : IfSome m.spare (λ s. CanShow d m.worked.job s.value)
  made_shows = each m.spare (spare_is_shown w.board w.has_seen.board m.worked.job m.worked.next made_may m.spare h.spare_is) where
    each : (o : Option (Arc Summary Global)) → IfSome o (λ s. MayBeShown w.board m.worked.job s.value) →
        IfSome o (λ s. CanShow d m.worked.job s.value)
    each None e = tt
    each (Some a) e = record { board = w.board; has_seen = w.has_seen; may = e }

-- What is given back

later_then : (a b c : Shown) → IsLater a b → IsLater b c → IsLater a c
later_then a b c k l = record {
  is_old = k.is_old;
  is_new = l.is_new;
  same = same_program a b c k.same l.same;
  begins = starts_then c.core.history b.core.history a.core.history l.begins k.begins;
}

pub back_then : (old mid new : Desk) (b c : Shown) (j : Given) → Holds old mid b → IsLater b c → Frees mid new c → IsBack old j →
    IsBack new j
back_then old mid new b c j h l f k = record {
  board = c;
  has_seen = f.has_seen;
  then = k.then;
  later = later_then k.then k.board c k.later (later_then k.board b c (h.later k.board k.has_seen) l);
  place = k.place;
  after = k.after;
  is_end = k.is_end;
}

module _ (mid new : Desk) (b c : Shown) (w : ℕ) (j : Given) (l : IsLater b c) (f : Frees mid new c) where
  -- by an event that is the last of the history
  event_back : (e : Told) → Event (reads b.graphs) b.core e c.core → gives_back j.id e ≡ true → j.taken < length b.core.history →
      IsBack new j
  event_back e t g lt = record {
    board = c;
    has_seen = f.has_seen;
    then = c;
    later = record { is_old = l.is_new; is_new = l.is_new; same = same_same c; begins = starts_same c.core.history };
    place = length b.core.history;
    after = lt;
    is_end = record {
      event = e;
      at = ap (λ (h : List Told). slice_get h (length b.core.history)) (event_history (reads b.graphs) b.core c.core e t)
          ∙ get_pushed b.core.history e;
      ends = inl g;
    };
  }
    where
      same_same : (x : Shown) → SameProgram x x
      same_same x = record { graphs = refl; main = refl; asserts = refl; budget = refl; kept = refl }

  pub moved_back : (m : Move) → IsMoved b w j m c → j.taken < length b.core.history → IsBack new j
  moved_back (move.Ask child query) e lt =
      event_back (asked w j.id j.spent (length b.core.entries) query.value) e (eq-eqb j.id j.id refl) lt
  moved_back (move.Feed number) e lt = event_back (fed w j.id j.spent e.entry.child) e.event (eq-eqb j.id j.id refl) lt
  moved_back (move.Park r) e lt = event_back (parked w j.id j.spent r) e (eq-eqb j.id j.id refl) lt
  moved_back (move.Close how summary) e lt =
      event_back (closed w j.id j.spent (closed_how (reads b.graphs) e.level j.state how) e.summaries) e.event (eq-eqb j.id j.id refl) lt

  -- or by an earlier one
  pub gone_back : (gone : GoneJob) → IsGone b c j gone → IsBack new j
  gone_back gone g = record {
    board = c;
    has_seen = f.has_seen;
    then = b;
    later = l;
    place = gone.event;
    after = g.first.after;
    is_end = g.first.is_end;
  }

pub taken_within : (b : Shown) (j : Given) (m : Move) → MayMove b j m → j.taken < length b.core.history
taken_within b j m h = within b.core.history j.taken _ (sound_of m h).take_at where
  sound_of : (m : Move) → MayMove b j m → IsSoundFor b j
  sound_of (move.Ask child query) h = h.sound
  sound_of (move.Feed number) h = h.sound
  sound_of (move.Park r) h = h.sound
  sound_of (move.Close how summary) h = h.0.sound

-- the job of which the slice was made is the one that was taken
pub back_made : (d : Desk) (j k : Given) → k.id ≡ j.id → k.taken ≡ j.taken → IsBack d k → IsBack d j
back_made d j k e f h = record {
  board = h.board;
  has_seen = h.has_seen;
  then = h.then;
  later = h.later;
  place = h.place;
  after = subst (λ (t : ℕ). t < h.place) f h.after;
  is_end = subst (λ (i : ℕ). IsEnd h.then.core i h.place) e h.is_end;
}

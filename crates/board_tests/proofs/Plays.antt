-- A board beside the jobs that are out, after each call.
use Rattle.std.proofs.Common.{◌≡◌, ℕ, zero, suc, List, [], ◌∷◌, ◌++◌, set, Bool, true, false, IfSome, Option, Some, None, refl, sym, ap, ◌∙◌, subst, inl, inr}
use Rattle.std.specs.Prelude.{slice_get}
use Rattle.std.proofs.lemmas.List.{append_assoc}
use Rattle.flow_graph.specs.declared.graph.Graph.{Graph}
use Rattle.query_rules.specs.Seen.{Seen}
use Rattle.summary_form.specs.declared.summary.Summary.{Summary}
use Rattle.summary_table.specs.Tables.{Listed, StartsWith}
use Rattle.bolt_core.specs.declared.job.Taken.{Taken}
use Rattle.bolt_core.specs.declared.job.Taken.TheVariants as taken
use Rattle.bolt_core.specs.Boards.{Gives, IsBegunWith, IsBoard, SameProgram, Shown, Stops, most_summaries}
use Rattle.bolt_core.specs.Histories.{Told, stopped, took}
use Rattle.bolt_core.specs.Machine.{Core, Event, Reads, first_board, is_over, opening}
use Rattle.bolt_core.specs.States.{reads}
use Rattle.bolt_rounds.specs.Moves.{MayMove}
use Rattle.bolt_rounds.specs.declared.moves.Worked.{Worked}
use Rattle.bolt_rounds.proofs.Shown.{moves_keep}
use Rattle.bolt_rounds.proofs.Turning.{event_front, just_taken, same_summaries}
use Rattle.board_tests.specs.Plays.{AreOut, IsOpened, IsPlay, MayTake}

-- The jobs that are kept
module _ (b : Shown) where
  pub kept_out : (jobs : List (Option Worked)) (i : ℕ) (o : Option Worked) → AreOut b jobs →
      IfSome o (λ w. MayMove b w.job w.next) → AreOut b (set jobs i o)
  kept_out [] i o h m = tt
  kept_out (x ∷ jobs) zero o h m = (m, h.1)
  kept_out (x ∷ jobs) (suc i) o h m = (h.0, kept_out jobs i o h.1 m)

  pub out_at : (jobs : List (Option Worked)) (i : ℕ) (o : Option Worked) → AreOut b jobs → slice_get jobs i ≡ Some o →
      IfSome o (λ w. MayMove b w.job w.next)
  out_at [] i o h a = absurd (cc)
  out_at (x ∷ jobs) zero o h a =
      subst (λ (p : Option Worked). IfSome p (λ w. MayMove b w.job w.next)) (let s : Some x ≡ Some o = a in cc) h.0
  out_at (x ∷ jobs) (suc i) o h a = out_at jobs i o h.1 a

-- So is a board beside them
module _ (b : Shown) (asserts : ℕ) (known : Listed) (jobs : List (Option Worked))
    (p : IsPlay b asserts known jobs) where
  pub kept_play : (i : ℕ) (o : Option Worked) → IfSome o (λ w. MayMove b w.job w.next) → IsPlay b asserts known (set jobs i o)
  kept_play i o m = record { all = p.all; room = p.room; front = p.front; out = kept_out b jobs i o p.out m }

  pub fetched_play : (i : ℕ) (o : Option Worked) → o ≡ None → IsPlay b asserts known (set jobs i o)
  fetched_play i o e = subst (λ (x : Option Worked). IsPlay b asserts known (set jobs i x)) (sym e) (kept_play i None tt)

  -- more is known of the table
  pub brought_play : (more : Listed) → more.room ≡ known.room → StartsWith b.core.table more.summaries → IsPlay b asserts more jobs
  brought_play more e f = record { all = p.all; room = e ∙ p.room; front = f; out = p.out }

-- nothing is known
pub starts_none : (ts known : List Summary) → known ≡ [] → StartsWith ts known
starts_none ts known e = record { rest = ts; is = ap (λ (l : List Summary). l ++ ts) (sym e) }

pub begun_play : (b : Shown) (asserts : ℕ) (known : Listed) (jobs : List (Option Worked)) → IsOpened b asserts →
    known.room ≡ most_summaries b → known.summaries ≡ [] → AreOut b jobs → IsPlay b asserts known jobs
begun_play b asserts known jobs o r e n = record {
  all = o.all;
  room = r;
  front = starts_none b.core.table known.summaries e;
  out = n;
}

-- An event
module _ (old new : Shown) (e : Told) (h : IsBoard old) (s : SameProgram old new) (v : Event (reads old.graphs) old.core e new.core) where
  job_stays : (w : Worked) → MayMove old w.job w.next → MayMove new w.job w.next
  job_stays w = (moves_keep old new (e ∷ []) w.job h s.graphs (new.core, v, refl)).0 w.next

  either_stays : (o : Option Worked) → IfSome o (λ w. MayMove old w.job w.next) → IfSome o (λ w. MayMove new w.job w.next)
  either_stays None m = tt
  either_stays (Some w) m = job_stays w m

  out_stays : (jobs : List (Option Worked)) → AreOut old jobs → AreOut new jobs
  out_stays [] a = tt
  out_stays (o ∷ jobs) a = (either_stays o a.0, out_stays jobs a.1)

  front_stays : (known : List Summary) → StartsWith old.core.table known → StartsWith new.core.table known
  front_stays known f =
      let g = event_front (reads old.graphs) old.core new.core e v in
      record { rest = f.rest ++ g.rest; is = g.is ∙ (ap (λ (l : List Summary). l ++ g.rest) f.is ∙ append_assoc known f.rest g.rest) }

  pub play_goes : (asserts : ℕ) (known : Listed) (jobs : List (Option Worked)) → IsPlay old asserts known jobs →
      IsPlay new asserts known jobs
  play_goes asserts known jobs p = record {
    all = p.all ∙ sym s.asserts;
    room = p.room ∙ sym (same_summaries old new s);
    front = front_stays known.summaries p.front;
    out = out_stays jobs p.out;
  }

-- Calls
module _ (old new : Shown) (w : ℕ) (h : IsBoard old) (s : SameProgram old new) (asserts : ℕ) (known : Listed)
    (jobs : List (Option Worked)) (p : IsPlay old asserts known jobs) where
  same_play : new ≡ old → IsPlay new asserts known jobs
  same_play e = subst (λ (b : Shown). IsPlay b asserts known jobs) (sym e) p

  pub play_taken : (t : Taken) → Gives old w new t → IsPlay new asserts known jobs
  play_taken (taken.Job j) g = play_goes old new (took w j.id j.left g.stored g.waiting) h s g.event asserts known jobs p
  play_taken taken.Idle g = same_play g.same
  play_taken taken.Over g = same_play g.same

  pub may_take : known.summaries ≡ old.core.table → (t : Taken) → Gives old w new t → MayTake new known.summaries t
  may_take e (taken.Job j) g =
      (just_taken old new w j h g, e ∙ sym (ap (λ (c : Core Seen). c.table) g.event.new_is))
  may_take e taken.Idle g = tt
  may_take e taken.Over g = tt

  stops_by : (x y : Bool) → old.core.is_stopped ≡ x → is_over (reads old.graphs) old.core ≡ y → Stops old w new →
      IsPlay new asserts known jobs
  stops_by true y f g t = same_play (t.keeps (inr f))
  stops_by false true f g t = same_play (t.keeps (inl g))
  stops_by false false f g t = play_goes old new (stopped w) h s (t.acts f g) asserts known jobs p

  pub play_stopped : Stops old w new → IsPlay new asserts known jobs
  play_stopped = stops_by _ _ refl refl

-- The beginning
opens_bare : {S : Type 0} (R : Reads S) (grant : ℕ) (ss : List S) (c : Core S) → (opening R grant ss c).history ≡ c.history
opens_bare R grant [] c = refl
opens_bare R grant (s ∷ ss) c = opens_bare R grant ss _

pub opened : (gs : List Graph) (main asserts budget : ℕ) (kept : List Summary) (b : Shown) → IsBegunWith gs main asserts budget kept b →
    IsOpened b asserts
opened gs main asserts budget kept b h =
    let o = h.opening in
    record {
      all = sym h.all;
      history = ap (λ (c : Core Seen). c.history) o.is
          ∙ opens_bare (reads b.graphs) b.budget o.roots (first_board (reads b.graphs) b.core.kept);
    }

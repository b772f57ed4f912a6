-- Rounds: jobs are taken, their slices are made, and they are given back.
use Rattle.std.proofs.Common.{Global, ◌≡◌, ◌⊎◌, ℕ, suc, ◌+◌, ◌*◌, ◌<◌, ◌≤◌, List, [], ◌∷◌, ◌++◌, length, take, drop, true, Option, None, Some, refl, sym, ap, ◌∙◌, subst, inl, inr, ⊎_elim, arith, get_or, length-append}
use Rattle.std.specs.Prelude.{IfSome, slice_get, vec_capacity}
use Rattle.std.specs.List.{All}
use Rattle.std.specs.declared.sync.Arc.{Arc}
use Rattle.std.proofs.lemmas.List.{length_push}
use Rattle.std.proofs.lemmas.List.Elements.{All-push}
use Rattle.flow_graph.specs.declared.graph.Graph.{Graph}
use Rattle.query_tree.proofs.Lists.{to_pushed, within}
use Rattle.query_rules.specs.Answered.{AreAnswered}
use Rattle.query_rules.specs.Seen.{Seen}
use Rattle.summary_form.specs.declared.summary.Summary.{Summary}
use Rattle.summary_table.specs.Tables.{StartsWith}
use Rattle.bolt_core.specs.declared.job.Gone.{Gone as GoneJob}
use Rattle.bolt_core.specs.declared.job.Job.{Job as Given}
use Rattle.bolt_core.specs.Boards.{IsBoard, IsBusy, IsGone, IsSoundFor, IsTaken, Publishes, SameProgram, Shown, most_queries, most_summaries}
use Rattle.bolt_core.specs.Histories.{Told, WasTaken, said, took}
use Rattle.bolt_core.specs.Machine.{Core, Reached, Reads, is_over}
use Rattle.bolt_core.specs.States.{reads}
use Rattle.bolt_core.proofs.Going.{goes_on}
use Rattle.bolt_core.proofs.Staying.{moves_stay, reached_history}
use Rattle.bolt_rounds.specs.declared.crew.Crew.{Crew}
use Rattle.bolt_rounds.specs.declared.crew.Place.{Place}
use Rattle.bolt_rounds.specs.declared.crew.Stage.{Stage}
use Rattle.bolt_rounds.specs.declared.crew.Stage.TheVariants as stage
use Rattle.bolt_rounds.specs.declared.moves.Made.{Made}
use Rattle.bolt_rounds.specs.declared.moves.Move.{Move}
use Rattle.bolt_rounds.specs.declared.moves.Move.TheVariants as move
use Rattle.bolt_rounds.specs.Moves.{IsJustTaken, IsMoved, MayBeShown, MayMove}
use Rattle.bolt_rounds.specs.steps.Places.{AreMade, HasGiven, HasTaken, IsAtRest, IsNewCrew, IsOutIn, IsTakeOf, IsTakenOf, IsToGive, MayBeMade, MayGive, MayHaveSaid, WasMade}
use Rattle.bolt_rounds.specs.steps.Turning.{AreBackBut, IsBack}
use Rattle.bolt_rounds.proofs.Shown.{moves_keep, said_decided, spare_is_shown}
use Rattle.bolt_rounds.proofs.Turning.{back_going, back_in, begun_going, event_front, history_is, less_out, moved_back, never_idle, none_back, outs_more, same_most, same_summaries, starts_self, starts_then, take_out}

all_more : {X : Type 0} (P Q : X → Type 0) (xs : List X) → ((x : X) → P x → Q x) → All P xs → All Q xs
all_more P Q xs f h i d lt = f (get_or xs i d) (h i d lt)

-- Whose take it is

out_before : (ps : List Place) (p : Place) (t : ℕ) → IsOutIn ps t → IsOutIn (ps ++ p ∷ []) t
out_before [] p t o = absurd o
out_before (q ∷ ps) p t o = ⊎_elim (λ a. inl a) (λ b. inr (out_before ps p t b)) o

out_last : (ps : List Place) (p : Place) (t : ℕ) → IsTakeOf p.stage t → IsOutIn (ps ++ p ∷ []) t
out_last [] p t o = inl o
out_last (q ∷ ps) p t o = inr (out_last ps p t o)

-- Jobs are taken

-- a job that was taken before
module _ (old new : Shown) (w : ℕ) (j : Given) (h : IsBoard old) (same : SameProgram old new) (t : IsTaken old w new j) where
  taken_stays : (k : Given) → IsJustTaken old k → IsJustTaken new k
  taken_stays k s =
      let e : Told = took w j.id j.left t.stored t.waiting in
      let sound : IsSoundFor new k = (moves_stay old new (e ∷ []) k h same.graphs (new.core, t.event, refl)).0 s.sound in
      let there : slice_get new.core.history k.taken ≡ Some (took s.sound.worker k.id k.left s.sound.stored s.sound.waiting) =
      ap (λ (l : List Told). slice_get l k.taken) (history_is old new w j h t)
      ∙ to_pushed old.core.history e k.taken _ s.sound.take_at in
      let one : Some (took sound.worker k.id k.left sound.stored sound.waiting)
      ≡ Some (took s.sound.worker k.id k.left s.sound.stored s.sound.waiting) = sym sound.take_at ∙ there in
      let waiting : sound.waiting ≡ s.sound.waiting = cc in
      record {
        sound = sound;
        none = s.none;
        answered = subst (λ (l : List Summary). AreAnswered l k.state.asked) (sym (ap (λ (c : Core Seen). c.table) t.event.new_is))
            s.answered;
        waits = λ i a at is. waiting ∙ s.waits i a at is;
      }

  stage_stays : (s : Stage) → IsTakenOf old s → IsTakenOf new s
  stage_stays (stage.Taken k) s = taken_stays k s
  stage_stays (stage.Made m) s = absurd s
  stage_stays stage.Failed s = absurd s

  -- its job lies at a new place
  module _ (start : Shown) (crew next : Crew) (p : Place) (from : SameProgram start old) (mine : IsJustTaken new j)
      (here : p.stage ≡ stage.Taken j) (before : HasTaken start crew old) (workers : next.workers ≡ crew.workers)
      (kept : vec_capacity next.places ≡ vec_capacity crew.places) (room : next.known.room ≡ crew.known.room)
      (known : next.known.summaries ≡ new.core.table) (items : next.places.items ≡ crew.places.items ++ p ∷ []) where
    one_longer : length next.places.items ≡ length crew.places.items + 1
    one_longer = ap (λ (l : List Place). length l) items ∙ length_push crew.places.items p

    one_more : length new.core.history ≡ length old.core.history + 1
    one_more =
        ap (λ (l : List Told). length l) (history_is old new w j h t)
        ∙ length_push old.core.history (took w j.id j.left t.stored t.waiting)

    fits : length start.core.history < 16 * most_queries start
    fits =
        let g = goes_on old (took w j.id j.left t.stored t.waiting) new.core h t.event
        (omega (arith, within old.core.entries j.id t.event.own t.event.at)) in
        omega (arith, g.fits, before.more, same_most start old from)

    own_take : IsTakeOf p.stage j.taken
    own_take = subst (λ (s : Stage). IsTakeOf s j.taken) (sym here) refl

    pub one_taken : HasTaken start next new
    one_taken = record {
      crew_of = record {
        some = omega (arith, before.crew_of.some, workers);
        kept = omega (arith, before.crew_of.kept, workers, kept);
        room = room ∙ (before.crew_of.room ∙ sym (same_summaries old new same));
        front = subst (StartsWith new.core.table) (sym known) (starts_self new.core.table);
        going = ap (λ (c : Core Seen). c.is_stopped) t.event.new_is ∙ before.crew_of.going;
      };
      more = omega (arith, one_more, one_longer, before.more);
      fits = λ _. fits;
      known = λ _. known;
      taken = subst (All (λ (q : Place). IsTakenOf new q.stage)) (sym items)
          (All-push (λ (q : Place). IsTakenOf new q.stage) crew.places.items p
          (all_more (λ (q : Place). IsTakenOf old q.stage) (λ (q : Place). IsTakenOf new q.stage) crew.places.items
          (λ q s. stage_stays q.stage s) before.taken) (subst (IsTakenOf new) (sym here) mine));
      out = subst (λ (ps : List Place). AreBackBut new.core (IsOutIn ps)) (sym items)
          (take_out old new w j t (IsOutIn crew.places.items) (IsOutIn (crew.places.items ++ p ∷ []))
          (out_before crew.places.items p) (out_last crew.places.items p j.taken own_take) before.out);
    }

-- Slices are made

module _ (b : Shown) (h : IsBoard b) (gs : List Graph) (known : List Summary) (e : gs ≡ b.graphs) (f : known ≡ b.core.table) where
  pub may_be_made : (s : Stage) → IsTakenOf b s → MayBeMade gs known s
  may_be_made (stage.Taken j) t = record { board = b; is_board = h; graphs = e; table = f; taken = t }
  may_be_made (stage.Made m) t = absurd t
  may_be_made stage.Failed t = absurd t

  made_may : (s n : Stage) → IsTakenOf b s → WasMade gs known s n → MayGive b n
  made_may (stage.Taken j) (stage.Made m) t w =
      let may = w.may b h e f t in (may, spare_is_shown b h m.worked.job m.worked.next may m.spare w.spare_is)
  made_may (stage.Taken j) stage.Failed t w = tt
  made_may (stage.Taken j) (stage.Taken k) t w = absurd w
  made_may (stage.Made m) n t w = absurd w
  made_may stage.Failed n t w = absurd w

  made_take : (s n : Stage) → WasMade gs known s n → (t : ℕ) → IsTakeOf s t → IsTakeOf n t
  made_take (stage.Taken j) (stage.Made m) w t is = is ∙ sym w.taken
  made_take (stage.Taken j) stage.Failed w t is = tt
  made_take (stage.Taken j) (stage.Taken k) w t is = absurd w
  made_take (stage.Made m) n w t is = absurd w
  made_take stage.Failed n w t is = absurd w

  made_out : (olds news : List Place) → AreMade gs known olds news → (t : ℕ) → IsOutIn olds t → IsOutIn news t
  made_out [] news m t o = absurd o
  made_out (p ∷ ps) [] m t o = absurd (omega (arith, m.all))
  made_out (p ∷ ps) (q ∷ qs) m t o = ⊎_elim
      (λ a. inl (made_take p.stage q.stage (m.each 0 p (omega arith)) t a))
      (λ x. inr (made_out ps qs (record { all = omega (arith, m.all); each = λ i d lt. m.each (suc i) d (omega (arith, lt)) }) t x)) o

  pub all_made : (olds news : List Place) → All (λ (p : Place). IsTakenOf b p.stage) olds → AreMade gs known olds news →
      All (λ (p : Place). MayGive b p.stage) news
  all_made olds news t m i d lt =
      let n : i < length olds = omega (arith, lt, m.all) in
      made_may (get_or olds i d).stage (get_or news i d).stage (t i d n) (m.each i d n)

  -- the crew with the slices made
  pub to_give : (start : Shown) (crew next : Crew) → HasTaken start crew b → AreMade gs known crew.places.items next.places.items →
      next.workers ≡ crew.workers → vec_capacity next.places ≡ vec_capacity crew.places → next.known ≡ crew.known → IsToGive b next
  to_give start crew next t m workers kept same = record {
    crew_of = record {
      some = omega (arith, t.crew_of.some, workers);
      kept = omega (arith, t.crew_of.kept, workers, kept);
      room = ap (λ k. k.room) same ∙ t.crew_of.room;
      front = subst (λ k. StartsWith b.core.table k.summaries) (sym same) t.crew_of.front;
      going = t.crew_of.going;
    };
    may = all_made crew.places.items next.places.items t.taken m;
    out = outs_same t.out;
  } where
    outs_same : AreBackBut b.core (IsOutIn crew.places.items) → AreBackBut b.core (IsOutIn next.places.items)
    outs_same a = record {
      all = λ n v i left steps waiting at. ⊎_elim (λ x. inl x) (λ o. inr (made_out crew.places.items next.places.items m n o))
          (a.all n v i left steps waiting at);
    }

-- Jobs are given back

sound_of : (b : Shown) (j : Given) (m : Move) → MayMove b j m → IsSoundFor b j
sound_of b j (move.Ask child query) a = a.sound
sound_of b j (move.Feed number) a = a.sound
sound_of b j (move.Park rest) a = a.sound
sound_of b j (move.Close how s) a = a.0.sound

taken_of : (b : Shown) (j : Given) (m : Move) → MayMove b j m → WasTaken b.core.history j.id j.taken
taken_of b j m a =
    let s = sound_of b j m a in record { worker = s.worker; left = j.left; steps = s.stored; waiting = s.waiting; at = s.take_at }

module _ (old : Shown) (h : IsBoard old) (p : Place) (m : Made) (here : p.stage ≡ stage.Made m)
    (may : MayMove old m.worked.job m.worked.next) where
  abbrev j : Given
  j = m.worked.job

  less : (ps : List Place) (t : ℕ) → IsOutIn (p ∷ ps) t → IsOutIn ps t ⊎ (t ≡ j.taken)
  less ps t o = ⊎_elim (λ a. inr (subst (λ (s : Stage). IsTakeOf s t) here a)) (λ x. inl x) o

  pub given_moved : (new : Shown) (w : ℕ) → IsMoved old w j m.worked.next new → HasGiven old p new
  given_moved new w v =
      let R = reads old.graphs in
      let g = moved_back old new w j m.worked.next v in
      record {
        board = h;
        events = g.told ∷ [];
        reached = (new.core, g.event, refl);
        going = back_going R old.core new.core j.id g.told g.event g.back;
        back = λ ps a. back_in R old.core new.core g.told g.event j.id j.taken (taken_of old j m.worked.next may) g.back
            (IsOutIn (p ∷ ps)) (IsOutIn ps) (less ps) a;
      }

  gone_back : IsBack old.core j.id j.taken → (ps : List Place) → AreBackBut old.core (IsOutIn (p ∷ ps)) →
      AreBackBut old.core (IsOutIn ps)
  gone_back b ps a =
      less_out old.core (IsOutIn (p ∷ ps)) (IsOutIn ps) j.id j.taken (taken_of old j m.worked.next may) b (less ps) a

  given_gone : IsBack old.core j.id j.taken → HasGiven old p old
  given_gone b = record { board = h; events = []; reached = refl; going = refl; back = gone_back b }

  given_said : IsBack old.core j.id j.taken → (new : Shown) (w i : ℕ) (s : Summary) → Publishes old w i s new → HasGiven old p new
  given_said b new w i s v = ⊎_elim
      (λ d.
      let e = v.acts d in
      record {
        board = h;
        events = said w i s ∷ [];
        reached = (new.core, e, refl);
        going = ap (λ (c : Core Seen). c.is_stopped) e.new_is;
        back = λ ps a. outs_more (reads old.graphs) old.core new.core (said w i s) e (IsOutIn ps) (IsOutIn ps) (λ t o. o)
            (λ x k left steps waiting is. absurd (cc)) (gone_back b ps a);
      })
      (λ no'. subst (HasGiven old p) (sym (v.keeps no')) (given_gone b))
      (said_decided old i)

  pub given_late : (mid new : Shown) (w i : ℕ) (gone : GoneJob) → IsGone old mid j gone → MayHaveSaid mid w i new → HasGiven old p new
  given_late mid new w i gone k s =
      let b : IsBack old.core j.id j.taken = record { place = gone.event; after = k.first.after; is_end = k.first.is_end } in
      ⊎_elim
      (λ x. given_said b new w i x.0 (subst (λ (o : Shown). Publishes o w i x.0 new) k.same x.1))
      (λ e. subst (HasGiven old p) (sym (e ∙ k.same)) (given_gone b))
      s

-- What is left

pub reached_front : {S : Type 0} (R : Reads S) (old : Core S) (es : List Told) (new : Core S) → Reached R old es new →
    StartsWith new.table old.table
reached_front R old [] new r = subst (λ c. StartsWith c.table old.table) (sym r) (starts_self old.table)
reached_front R old (e ∷ es) new r =
    starts_then new.table r.0.table old.table (reached_front R r.0 es new r.2) (event_front R old r.0 e r.1)

module _ (old new : Shown) (p : Place) (same : SameProgram old new) (g : HasGiven old p new) where
  shown_keeps : (j : Given) (o : Option (Arc Summary Global)) → IfSome o (λ a. MayBeShown old j a.value) →
      IfSome o (λ a. MayBeShown new j a.value)
  shown_keeps j None s = tt
  shown_keeps j (Some a) s = (moves_keep old new g.events j g.board same.graphs g.reached).1 a.value s

  stage_keeps : (s : Stage) → MayGive old s → MayGive new s
  stage_keeps (stage.Taken j) a = absurd a
  stage_keeps (stage.Made m) a = (
    (moves_keep old new g.events m.worked.job g.board same.graphs g.reached).0 m.worked.next a.0,
    shown_keeps m.worked.job m.spare a.1,
  )
  stage_keeps stage.Failed a = tt

  pub one_given : (crew next : Crew) → IsToGive old crew → crew.places.items ≡ p ∷ next.places.items → next.workers ≡ crew.workers →
      vec_capacity next.places ≡ vec_capacity crew.places → next.known ≡ crew.known → IsToGive new next
  one_given crew next a items workers kept known = record {
    crew_of = record {
      some = omega (arith, a.crew_of.some, workers);
      kept = omega (arith, a.crew_of.kept, workers, kept);
      room = ap (λ k. k.room) known ∙ (a.crew_of.room ∙ sym (same_summaries old new same));
      front = subst (λ k. StartsWith new.core.table k.summaries) (sym known)
          (starts_then new.core.table old.core.table crew.known.summaries (reached_front (reads old.graphs) old.core g.events new.core
          g.reached)
          a.crew_of.front);
      going = g.going ∙ a.crew_of.going;
    };
    may = λ i d lt. stage_keeps (get_or next.places.items i d).stage
        (subst (All (λ (q : Place). MayGive old q.stage)) items a.may (suc i) d (omega (arith, lt)));
    out = g.back next.places.items (subst (λ (ps : List Place). AreBackBut old.core (IsOutIn ps)) items a.out);
  }

  given_longer : length old.core.history ≤ length new.core.history
  given_longer = omega (
    arith,
    ap (λ (l : List Told). length l) (reached_history (reads old.graphs) old.core new.core g.events g.reached),
    length-append old.core.history g.events,
  )

  pub longer_then : (n : ℕ) → n ≤ length old.core.history → n ≤ length new.core.history
  longer_then n le = omega (arith, le, given_longer)

-- the first of a list
pub first_removed : {X : Type 0} (xs ys : List X) (x : X) → 1 ≤ length xs → x ≡ get_or xs 0 x → ys ≡ take 0 xs ++ drop 1 xs → xs ≡ x ∷ ys
first_removed [] ys x n v e = absurd (omega (arith, n))
first_removed {X} (z ∷ zs) ys x n v e = ap (λ (y : X). y ∷ zs) (sym v) ∙ ap (λ (l : List X). x ∷ l) (sym e)

-- A round

-- where nobody has a job no query is Running, so the first worker never meets Idle
pub idle_over : (b new : Shown) (ps : List Place) → IsBoard b → AreBackBut b.core (IsOutIn ps) → IsBusy b.core.entries → ps ≡ [] →
    is_over (reads new.graphs) new.core ≡ true
idle_over b new ps h out busy e = absurd (never_idle b h (record {
  all = λ t w i left steps waiting at. ⊎_elim (λ x. inl x) (λ o. inr (subst (λ (l : List Place). IsOutIn l t) e o))
      (out.all t w i left steps waiting at);
}) busy)

-- before the first round
pub begun_rest : (b : Shown) (crew : Crew) (workers room : ℕ) → IsBoard b → b.core.history ≡ [] → 1 ≤ workers → room ≡ most_summaries b →
    IsNewCrew workers room crew → IsAtRest b crew
begun_rest b crew workers room h e some is n = record {
  crew_of = record {
    some = omega (arith, some, n.all);
    kept = omega (arith, n.all, n.kept);
    room = n.room_is ∙ is;
    front = subst (StartsWith b.core.table) (sym n.unknown) (record { rest = b.core.table; is = refl });
    going = begun_going b h e;
  };
  none = n.none;
  back = none_back b.core e;
}

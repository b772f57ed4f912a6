-- Turns of a worker who works alone: what is taken is given back.
use Rattle.std.proofs.Common.{◌≡◌, ◌⊎◌, ℕ, suc, ◌+◌, ◌*◌, ◌≤◌, List, [], ◌∷◌, ◌++◌, length, Bool, true, false, Some, refl, sym, ap, ◌∙◌, subst, inl, inr, ⊎_elim, append_assoc, arith}
use Rattle.std.specs.Prelude.{slice_get}
use Rattle.std.proofs.lemmas.Bool.{eq-eqb}
use Rattle.std.proofs.lemmas.List.{append-nil, length_push}
use Rattle.flow_graph.specs.declared.graph.Graph.{Graph}
use Rattle.query_tree.proofs.Lists.{from_pushed, to_pushed, within}
use Rattle.query_tree.proofs.Marks.{get_pushed}
use Rattle.query_rules.specs.Seen.{Seen}
use Rattle.summary_form.specs.declared.summary.Summary.{Summary}
use Rattle.summary_table.specs.Tables.{StartsWith}
use Rattle.bolt_core.specs.declared.job.Gone.{Gone as GoneJob}
use Rattle.bolt_core.specs.declared.job.Job.{Job as Given}
use Rattle.bolt_core.specs.Boards.{IsBegun, IsBoard, IsBusy, IsDone, IsGone, IsTaken, SameProgram, Shown, most_queries, most_summaries}
use Rattle.bolt_core.specs.Histories.{Told, WasTaken, asked, closed, fed, gives_back, has_said, parked, said, says_of, stopped, took}
use Rattle.bolt_core.specs.Keeps.{IsNow}
use Rattle.bolt_core.specs.Machine.{Core, Event, Reached, Reads, closed_how, first_board, opening}
use Rattle.bolt_core.specs.States.{reads}
use Rattle.bolt_core.proofs.Agreeing.{says_not}
use Rattle.bolt_core.proofs.BoardKeeps.{board_keeps, nodes_of}
use Rattle.bolt_core.proofs.Ending.{end_more, event_frame}
use Rattle.bolt_core.proofs.Going.{board_queries, goes_on}
use Rattle.bolt_core.proofs.Nodes.{table_within}
use Rattle.bolt_core.proofs.Reserve.{event_history}
use Rattle.bolt_rounds.specs.declared.moves.Move.{Move}
use Rattle.bolt_rounds.specs.declared.moves.Move.TheVariants as move
use Rattle.bolt_rounds.specs.Moves.{IsJustTaken, IsMoved}
use Rattle.bolt_rounds.specs.steps.Turning.{AreBack, AreBackBut, GivesBack, HasTurned, IsBack, IsTurned}

-- What is given back
module _ (old new : Shown) (w : ℕ) (j : Given) where
  pub record IsGiven : Type 0 where
    pub told : Told
    pub event : Event (reads old.graphs) old.core told new.core
    pub back : gives_back j.id told ≡ true

  pub moved_back : (m : Move) → IsMoved old w j m new → IsGiven
  moved_back (move.Ask child query) e =
      record { told = asked w j.id j.spent (length old.core.entries) query.value; event = e; back = eq-eqb j.id j.id refl }
  moved_back (move.Feed number) e =
      record { told = fed w j.id j.spent e.entry.child; event = e.event; back = eq-eqb j.id j.id refl }
  moved_back (move.Park r) e = record { told = parked w j.id j.spent r; event = e; back = eq-eqb j.id j.id refl }
  moved_back (move.Close how summary) e = record {
    told = closed w j.id j.spent (closed_how (reads old.graphs) e.level j.state how) e.summaries;
    event = e.event;
    back = eq-eqb j.id j.id refl;
  }

  pub given_back : IsBoard old → IsNow old.core j.id j.taken → (m : Move) → IsMoved old w j m new → GivesBack old j.id new
  given_back h v m e =
      let g = moved_back m e in
      record {
        told = g.told;
        event = g.event;
        back = g.back;
        fits = (goes_on old g.told new.core h g.event (omega (arith, within old.core.entries j.id v.own v.at))).fits;
      }

-- a job whose query is Running since its take isn't gone
pub not_gone : (old new : Shown) (j : Given) (gone : GoneJob) → IsBoard old → IsNow old.core j.id j.taken → IsGone old new j gone → ⊥
not_gone old new j gone h v g = (board_keeps old h).ended.going j.taken j.id v gone.event g.first.after g.first.is_end

-- A take

module _ (old new : Shown) (w : ℕ) (j : Given) (h : IsBoard old) (t : IsTaken old w new j) where
  abbrev pub e : Told
  e = took w j.id j.left t.stored t.waiting

  pub history_is : new.core.history ≡ old.core.history ++ e ∷ []
  history_is = event_history (reads old.graphs) old.core new.core e t.event

  take_stands : slice_get new.core.history j.taken ≡ Some e
  take_stands =
      ap (λ l. slice_get l j.taken) history_is
      ∙ (ap (slice_get (old.core.history ++ e ∷ [])) t.place ∙ get_pushed old.core.history e)

  pub was_taken : WasTaken new.core.history j.id j.taken
  was_taken = record { worker = w; left = j.left; steps = t.stored; waiting = t.waiting; at = take_stands }

  pub taken_now : IsNow new.core j.id j.taken
  taken_now =
      let g = goes_on old e new.core h t.event (omega (arith, within old.core.entries j.id t.event.own t.event.at)) in
      let k = board_keeps (record old { core = new.core }) g.board in
      ⊎_elim (λ n. n)
      (λ x. absurd (omega (
        arith,
        x.1,
        within new.core.history x.0 x.2.event x.2.at,
        ap (λ l. length l) history_is,
        length_push old.core.history e,
        t.place,
      )))
      (k.ended.ended j.taken w j.id j.left t.stored t.waiting take_stands)

  pub just_taken : IsJustTaken new j
  just_taken =
      let s = t.sound in
      let here : Some (took s.worker j.id j.left s.stored s.waiting) ≡ Some e = sym s.take_at ∙ take_stands in
      let same : s.waiting ≡ t.waiting = cc in
      record {
        sound = t.sound;
        none = t.none;
        answered = t.answered;
        waits = λ i a at is. same ∙ t.waits i a at is;
      }

-- Which takes came back

module _ (c : Core Seen) (IsOut IsLess : ℕ → Type 0) (i taken : ℕ) (at : WasTaken c.history i taken) (b : IsBack c i taken) where
  same_take : (t w k left steps : ℕ) (waiting : Bool) → slice_get c.history t ≡ Some (took w k left steps waiting) → t ≡ taken →
      IsBack c k t
  same_take t w k left steps waiting here e =
      let one : Some (took w k left steps waiting) ≡ Some (took at.worker i at.left at.steps at.waiting) =
      sym here ∙ (ap (slice_get c.history) e ∙ at.at) in
      let same : i ≡ k = cc in
      subst (IsBack c k) (sym e) (subst (λ (m : ℕ). IsBack c m taken) same b)

  -- a take that came back is out no more
  pub less_out : ((t : ℕ) → IsOut t → IsLess t ⊎ (t ≡ taken)) → AreBackBut c IsOut → AreBackBut c IsLess
  less_out less h = record {
    all = λ t w k left steps waiting here. ⊎_elim
        (λ x. inl x)
        (λ o. ⊎_elim (λ l. inr l) (λ e. inl (same_take t w k left steps waiting here e)) (less t o))
        (h.all t w k left steps waiting here);
  }

module _ (R : Reads Seen) (old new : Core Seen) (e : Told) (v : Event R old e new) where
  still_back : (i t : ℕ) → IsBack old i t → IsBack new i t
  still_back i t b = record {
    place = b.place;
    after = b.after;
    is_end = end_more old new e (event_frame R old new e v) (event_history R old new e v) i b.place b.is_end;
  }

  -- an event takes at most one query, and what came back is back
  pub outs_more : (IsOut IsMore : ℕ → Type 0) → ((t : ℕ) → IsOut t → IsMore t) →
      ((w i left steps : ℕ) (waiting : Bool) → e ≡ took w i left steps waiting → IsMore (length old.history)) →
      AreBackBut old IsOut → AreBackBut new IsMore
  outs_more IsOut IsMore stay fresh h = record {
    all = λ t w k left steps waiting here. ⊎_elim
        (λ at. ⊎_elim (λ b. inl (still_back k t b)) (λ o. inr (stay t o)) (h.all t w k left steps waiting at))
        (λ o. inr (subst IsMore (sym o.0) (fresh w k left steps waiting (sym o.1))))
        (from_pushed old.history e t (took w k left steps waiting)
        (ap (λ (l : List Told). slice_get l t) (sym (event_history R old new e v)) ∙ here));
  }

  module _ (i taken : ℕ) (at : WasTaken old.history i taken) (g : gives_back i e ≡ true) where
    at_end : slice_get new.history (length old.history) ≡ Some e
    at_end = ap (λ (l : List Told). slice_get l (length old.history)) (event_history R old new e v) ∙ get_pushed old.history e

    now_back : IsBack new i taken
    now_back = record {
      place = length old.history;
      after = within old.history taken _ at.at;
      is_end = record { event = e; at = at_end; ends = inl g };
    }

    taken_still : WasTaken new.history i taken
    taken_still = record {
      worker = at.worker;
      left = at.left;
      steps = at.steps;
      waiting = at.waiting;
      at = ap (λ (l : List Told). slice_get l taken) (event_history R old new e v) ∙ to_pushed old.history e taken _ at.at;
    }

    -- an event that gives a query back
    pub back_in : (IsOut IsLess : ℕ → Type 0) → ((t : ℕ) → IsOut t → IsLess t ⊎ (t ≡ taken)) → AreBackBut old IsOut →
        AreBackBut new IsLess
    back_in IsOut IsLess less h = less_out new IsOut IsLess i taken taken_still now_back less
        (outs_more IsOut IsOut (λ t o. o)
        (λ w k left steps waiting is. let f : false ≡ true = sym (ap (gives_back i) is) ∙ g in absurd (cc)) h)

-- a take is out
pub take_out : (old new : Shown) (w : ℕ) (j : Given) → IsTaken old w new j → (IsOut IsMore : ℕ → Type 0) →
    ((t : ℕ) → IsOut t → IsMore t) → IsMore j.taken → AreBackBut old.core IsOut → AreBackBut new.core IsMore
take_out old new w j t IsOut IsMore stay own =
    outs_more (reads old.graphs) old.core new.core (took w j.id j.left t.stored t.waiting) t.event IsOut IsMore stay
    (λ v k left steps waiting is. subst IsMore t.place own)

pub none_back : (c : Core Seen) → c.history ≡ [] → AreBack c
none_back c e = record {
  all = λ t w i left steps waiting at.
      let no' : slice_get [] t ≡ Some (took w i left steps waiting) = ap (λ (l : List Told). slice_get l t) (sym e) ∙ at in absurd (cc);
}

-- where each take came back no query is Running
pub never_idle : (b : Shown) → IsBoard b → AreBack b.core → IsBusy b.core.entries → ⊥
never_idle b h back y =
    let k = board_keeps b h in
    let l = k.linked.linked y.id y.own y.at y.running in
    ⊎_elim
    (λ (x : IsBack b.core y.id l.taken).
    k.ended.going l.taken y.id (record { own = y.own; at = y.at; running = y.running; last = l.last }) x.place x.after x.is_end)
    (λ no'. no') (back.all l.taken l.worker y.id y.own.lent y.own.spent y.own.waiting l.at)

-- Events

starts_all : (ts ss : List Summary) → StartsWith (ts ++ ss) ts
starts_all ts ss = record { rest = ss; is = refl }

pub starts_self : (ts : List Summary) → StartsWith ts ts
starts_self ts = record { rest = []; is = sym (append-nil ts) }

pub starts_then : (all mid front : List Summary) → StartsWith all mid → StartsWith mid front → StartsWith all front
starts_then all mid front a b = record {
  rest = b.rest ++ a.rest;
  is = a.is ∙ (ap (λ (l : List Summary). l ++ a.rest) b.is ∙ append_assoc front b.rest a.rest);
}

module _ {S : Type 0} (R : Reads S) (old new : Core S) where
  pub back_going : (i : ℕ) (e : Told) → Event R old e new → gives_back i e ≡ true → new.is_stopped ≡ old.is_stopped
  back_going i (took w k left steps waiting) t g = absurd (cc)
  back_going i (said w k s) t g = absurd (cc)
  back_going i (asked w k n c q) t g = ap (λ (c : Core S). c.is_stopped) t.new_is
  back_going i (fed w k n c) t g = ap (λ (c : Core S). c.is_stopped) t.new_is
  back_going i (parked w k n r) t g = ap (λ (c : Core S). c.is_stopped) t.new_is
  back_going i (closed w k n how ss) t g = ap (λ (c : Core S). c.is_stopped) t.new_is
  back_going i (stopped w) t g = absurd (cc)

  -- it isn't a Publish
  pub back_silent : (i : ℕ) (e : Told) → gives_back i e ≡ true → (k : ℕ) → says_of k e ≡ false
  back_silent i (took w j left steps waiting) g k = refl
  back_silent i (said w j s) g k = absurd (cc)
  back_silent i (asked w j n c q) g k = refl
  back_silent i (fed w j n c) g k = refl
  back_silent i (parked w j n r) g k = refl
  back_silent i (closed w j n how ss) g k = refl
  back_silent i (stopped w) g k = refl

  grown_by : (ss : List Summary) → new.table ≡ old.table ++ ss → StartsWith new.table old.table
  grown_by ss e = record { rest = ss; is = e }

  same_table : new.table ≡ old.table → StartsWith new.table old.table
  same_table e = grown_by [] (e ∙ sym (append-nil old.table))

  -- a table only grows
  pub event_front : (e : Told) → Event R old e new → StartsWith new.table old.table
  event_front (took w k left steps waiting) t = same_table (ap (λ (c : Core S). c.table) t.new_is)
  event_front (said w k s) t = grown_by (s ∷ []) (ap (λ (c : Core S). c.table) t.new_is)
  event_front (asked w k n c q) t = grown_by [] (ap (λ (c : Core S). c.table) t.new_is)
  event_front (fed w k n c) t = same_table (ap (λ (c : Core S). c.table) t.new_is)
  event_front (parked w k n r) t = same_table (ap (λ (c : Core S). c.table) t.new_is)
  event_front (closed w k n how ss) t = grown_by ss (ap (λ (c : Core S). c.table) t.new_is)
  event_front (stopped w) t = same_table (ap (λ (c : Core S). c.table) t.2)

pub same_most : (a b : Shown) → SameProgram a b → most_queries b ≡ most_queries a
same_most a b s = ap (λ n. n * b.budget + n) s.asserts ∙ ap (λ m. a.asserts * m + a.asserts) s.budget

pub same_summaries : (a b : Shown) → SameProgram a b → most_summaries b ≡ most_summaries a
same_summaries a b s =
    let n : length b.core.kept ≡ length a.core.kept = ap (λ (ks : List Summary). length ks) s.kept in
    ap (λ k. k + most_queries b) n ∙ ap (λ m. length a.core.kept + m) (same_most a b s)

pub same_program : (a b c : Shown) → SameProgram a b → SameProgram b c → SameProgram a c
same_program a b c s t = record {
  graphs = t.graphs ∙ s.graphs;
  main = t.main ∙ s.main;
  asserts = t.asserts ∙ s.asserts;
  budget = t.budget ∙ s.budget;
  kept = t.kept ∙ s.kept;
}

-- A turn
module _ (old mid new : Shown) (w : ℕ) (j : Given) (known : List Summary) (h : IsBoard old) (t : IsTaken old w mid j)
    (g : GivesBack mid j.id new) where
  event_is : new.core.history ≡ mid.core.history ++ g.told ∷ []
  event_is = event_history (reads mid.graphs) mid.core new.core g.told g.event

  mid_length : length mid.core.history ≡ suc (length old.core.history)
  mid_length =
      let d : Told = took w j.id j.left t.stored t.waiting in
      omega (arith, ap (λ (l : List Told). length l) (history_is old mid w j h t), length_push old.core.history d)

  new_length : length new.core.history ≡ suc (length mid.core.history)
  new_length = omega (arith, ap (λ (l : List Told). length l) event_is, length_push mid.core.history g.told)

  pub has_turned : AreBack old.core → old.core.is_stopped ≡ false → SameProgram mid new → known ≡ mid.core.table →
      HasTurned old known new
  has_turned back going same is = record {
    back = back_in (reads mid.graphs) mid.core new.core g.told g.event j.id j.taken (was_taken old mid w j h t) g.back
        (λ n. ⊥ ⊎ (n ≡ j.taken)) (λ n. ⊥) (λ n o. o)
        (take_out old mid w j t (λ n. ⊥) (λ n. ⊥ ⊎ (n ≡ j.taken)) (λ n o. inl o) (inr refl) back);
    going = back_going (reads mid.graphs) mid.core new.core j.id g.told g.event g.back
        ∙ (ap (λ (c : Core Seen). c.is_stopped) t.event.new_is ∙ going);
    front = subst (StartsWith new.core.table) (sym is)
        (event_front (reads mid.graphs) mid.core new.core g.told g.event);
    more = omega (arith, mid_length, new_length);
    few = omega (arith, new_length, g.fits, same_most mid new same);
    said = λ i. ap (λ (l : List Told). has_said l i) event_is
        ∙ (says_not mid.core.history g.told i (back_silent (reads mid.graphs) mid.core new.core j.id g.told g.back i)
        ∙ (ap (λ (l : List Told). has_said l i) (history_is old mid w j h t)
        ∙ says_not old.core.history (took w j.id j.left t.stored t.waiting) i refl));
  }

-- a board that is over takes no query
pub over_turned : (old new : Shown) (known : List Summary) → IsDone old new → old.core.is_stopped ≡ false → IsTurned old known false new
over_turned old new known d going = subst (λ (b : Shown). IsTurned old known false b) (sym d.same) (
  ⊎_elim (λ e. e) (λ e. let f : true ≡ false = sym e ∙ going in absurd (cc)) d.done,
  going,
  λ i. refl,
)

-- A board without history

opens_bare : {S : Type 0} (R : Reads S) (grant : ℕ) (ss : List S) (c : Core S) →
    ((opening R grant ss c).history ≡ c.history) × ((opening R grant ss c).table ≡ c.table)
    × ((opening R grant ss c).is_stopped ≡ c.is_stopped)
opens_bare R grant [] c = (refl, refl, refl)
opens_bare R grant (s ∷ ss) c = opens_bare R grant ss _

pub begun_bare : (gs : List Graph) (main asserts budget : ℕ) (b : Shown) → IsBegun gs main asserts budget b →
    (b.core.history ≡ []) × (b.core.table ≡ b.core.kept)
begun_bare gs main asserts budget b h =
    let o = h.opening in
    let bare = opens_bare (reads b.graphs) b.budget o.roots (first_board (reads b.graphs) b.core.kept) in
    (ap (λ (c : Core Seen). c.history) o.is ∙ bare.0, ap (λ (c : Core Seen). c.table) o.is ∙ bare.1)

reached_none : {S : Type 0} (R : Reads S) (old new : Core S) (h : List Told) → h ≡ [] → Reached R old h new → new ≡ old
reached_none R old new [] e r = r
reached_none R old new (x ∷ h) e r = absurd (let no' : x ∷ h ≡ [] = e in cc)

pub begun_going : (b : Shown) → IsBoard b → b.core.history ≡ [] → b.core.is_stopped ≡ false
begun_going b h e =
    let R = reads b.graphs in
    let o = h.opening in
    ap (λ (c : Core Seen). c.is_stopped) (reached_none R h.opened b.core b.core.history e h.reached ∙ o.is)
    ∙ (opens_bare R b.budget o.roots (first_board R h.opened.kept)).2

-- there is room for the board's table
pub table_few : (b : Shown) → IsBoard b → length b.core.table ≤ most_summaries b
table_few b h =
    let k = board_keeps b h in
    omega (
      arith,
      table_within (reads b.graphs) b.core (nodes_of (reads b.graphs) b.asserts b.core k),
      k.paired.count,
      board_queries b h,
    )

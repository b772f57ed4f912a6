-- Of each Take: the query is Running since, or an event ended it.
use Rattle.std.proofs.Common.{◌≡◌, ℕ, ◌+◌, ◌-◌, ◌<◌, List, [], ◌∷◌, ◌++◌, length, Bool, true, false, Some, refl, sym, ap, ◌∙◌, subst, ◌⊎◌, inl, inr, ⊎_elim, arith}
use Rattle.std.specs.Prelude.{slice_get, ◌==◌, ◌&&◌}
use Rattle.std.proofs.lemmas.List.{length_push}
use Rattle.std.proofs.lemmas.Bool.{cond_both, eq-eqb, ne_eqb, both_ways}
use Rattle.query_tree.specs.declared.Status.{Status}
use Rattle.query_tree.specs.declared.Status.TheVariants.{Ready, Running, Closed, Dropped}
use Rattle.query_tree.specs.declared.Entry.{Entry}
use Rattle.query_tree.specs.Forest.{changed, is_open, is_under, is_starved, is_place, has_live_child, woken, fed, at_rest, back_as, stir, part, share, take_at, rest_at, fed_at, child_of, purse, close_at, after_take, after_close}
use Rattle.query_tree.specs.Woods.{WasDropped}
use Rattle.query_tree.proofs.Lists.{from_changed, to_changed, from_pushed, to_pushed, within}
use Rattle.query_tree.proofs.Marks.{get_pushed}
use Rattle.query_tree.proofs.Tests.{cond_eq, one_at}
use Rattle.query_tree.proofs.Close.{close_cases}
use Rattle.bolt_core.specs.Histories.{Told, took, said, asked, fed as told_fed, parked, closed, stopped, gives_back, IsLastTake, WasTaken}
use Rattle.bolt_core.specs.Machine.{Reads, Core, Event, told_child, with_event}
use Rattle.bolt_core.specs.Keeps.{IsEnd, IsNow, AreEnded}
use Rattle.bolt_core.proofs.Links.{rest_runs, back_runs, woken_runs, fed_runs, TakesNot, last_more}

abbrev pub IsTook : Told → ℕ → Type 0
IsTook e i = (w : ℕ) × (l : ℕ) × (s : ℕ) × (b : Bool) × (e ≡ took w i l s b)

eq_true : (i : ℕ) → (i == i) ≡ true
eq_true i = eq-eqb i i refl

-- what an event at place n makes of the status at i
pub record Moves (i n : ℕ) (e : Told) (x y : Status) : Type 0 where
  pub runs : y ≡ Running → ((x ≡ Running) × (gives_back i e ≡ false)) ⊎ IsTook e i
  pub leaves : x ≡ Running → (y ≡ Running) ⊎ ((gives_back i e ≡ true) ⊎ (y ≡ Dropped n))
  pub stays : (m : ℕ) → x ≡ Dropped m → y ≡ Dropped m
  pub shut : x ≡ Closed → y ≡ Closed

woken_stays : (s : Status) (m : ℕ) → s ≡ Dropped m → woken s ≡ Dropped m
woken_stays s m d = ap woken d

module _ (i n : ℕ) (e : Told) where
  moves_same : (x : Status) → gives_back i e ≡ false → Moves i n e x x
  moves_same x no' = record { runs = λ r. inl (r, no'); leaves = λ r. inl r; stays = λ m d. d; shut = λ z. z }

  moves_woken : (x y : Status) → Moves i n e x y → Moves i n e x (woken y)
  moves_woken x y v = record {
    runs = λ r. v.runs (woken_runs y r);
    leaves = λ r. ⊎_elim (λ a. inl (ap woken a)) (λ o. ⊎_elim (λ a. inr (inl a)) (λ a. inr (inr (ap woken a))) o) (v.leaves r);
    stays = λ m d. ap woken (v.stays m d);
    shut = λ z. ap woken (v.shut z);
  }

  moves_fed : (k : ℕ) (x y : Status) → Moves i n e x y → Moves i n e x (fed k y)
  moves_fed k x y v = record {
    runs = λ r. v.runs (fed_runs k y r);
    leaves = λ r. ⊎_elim (λ a. inl (ap (fed k) a)) (λ o. ⊎_elim (λ a. inr (inl a)) (λ a. inr (inr (ap (fed k) a))) o) (v.leaves r);
    stays = λ m d. ap (fed k) (v.stays m d);
    shut = λ z. ap (fed k) (v.shut z);
  }

  -- a Running query is given back
  moves_back : (x y : Status) → x ≡ Running → (y ≡ Running → ⊥) → gives_back i e ≡ true → Moves i n e x y
  moves_back x y was no' back = record {
    runs = λ r. absurd (no' r);
    leaves = λ r. inr (inl back);
    stays = λ m d. let z : Running
        ≡ Dropped m = sym was ∙ d in absurd (cc);
    shut = λ c. let z : Running ≡ Closed = sym was ∙ c in absurd (cc);
  }

  moves_drop : (x : Status) → is_open x ≡ true → Moves i n e x (Dropped n)
  moves_drop x opened = record {
    runs = λ r. absurd (cc);
    leaves = λ r. inr (inr refl);
    stays = λ m d. absurd (both_ways (is_open x) (ap is_open d) opened);
    shut = λ c. absurd (both_ways (is_open x) (ap is_open c) opened);
  }

module _ {S : Type 0} where
  pub record Frame (es fs : List (Entry S)) (n : ℕ) (e : Told) : Type 0 where
    pub to : (i : ℕ) (x : Entry S) → slice_get es i ≡ Some x → (y : Entry S) × (slice_get fs i ≡ Some y) × Moves i n e x.status y.status
    pub from : (i : ℕ) (y : Entry S) → slice_get fs i ≡ Some y → y.status ≡ Running → (x : Entry S) × (slice_get es i ≡ Some x)
        × Moves i n e x.status y.status

  frame_same : (es : List (Entry S)) (n : ℕ) (e : Told) → ((i : ℕ) → gives_back i e ≡ false) → Frame es es n e
  frame_same es n e no' = record {
    to = λ i x a. (x, a, moves_same i n e x.status (no' i));
    from = λ i y a r. (y, a, moves_same i n e y.status (no' i));
  }

  frame_changed : (es : List (Entry S)) (f : ℕ → Entry S → Entry S) (n : ℕ) (e : Told) → ((k : ℕ) (x : Entry S) → slice_get es k ≡ Some x →
      Moves k n e x.status (f k x).status) → Frame es (changed f es) n e
  frame_changed es f n e each = record {
    to = λ i x a. (f i x, to_changed f es i x a, each i x a);
    from = λ i y a r.
        let o = from_changed f es i y a in
        (o.0, o.1, subst (λ (z : Entry S). Moves i n e o.0.status z.status) (sym o.2) (each i o.0 o.1));
  }

  frame_pushed : (es fs : List (Entry S)) (z : Entry S) (n : ℕ) (e : Told) → (z.status ≡ Running → ⊥) → Frame es fs n e →
      Frame es (fs ++ z ∷ []) n e
  frame_pushed es fs z n e no' h = record {
    to = λ i x a. let o = h.to i x a in (o.0, to_pushed fs z i o.0 o.1, o.2);
    from = λ i y a r. ⊎_elim (λ b. h.from i y b r) (λ b. absurd (no' (ap (λ (w : Entry S). w.status) (sym b.1) ∙ r)))
        (from_pushed fs z i y a);
  }

  frame_then : (es fs : List (Entry S)) (f : ℕ → Entry S → Entry S) (n : ℕ) (e : Told) → ((k : ℕ) (x : Entry S) → (f k x).status ≡ Running →
      x.status ≡ Running) → ((k : ℕ) (s : Status) (x : Entry S) → Moves k n e s x.status → Moves k n e s (f k x).status) → Frame es fs n e →
      Frame es (changed f fs) n e
  frame_then es fs f n e runs more h = record {
    to = λ i x a. let o = h.to i x a in (f i o.0, to_changed f fs i o.0 o.1, more i x.status o.0 o.2);
    from = λ i y a r.
        let o = from_changed f fs i y a in
        let q = h.from i o.0 o.1 (runs i o.0 (ap (λ (w : Entry S). w.status) (sym o.2) ∙ r)) in
        (q.0, q.1, subst (λ (z : Entry S). Moves i n e q.0.status z.status) (sym o.2) (more i q.0.status o.0 q.2));
  }

  module _ (es : List (Entry S)) (own : Entry S) (i : ℕ) (at : slice_get es i ≡ Some own) (n : ℕ) (e : Told) where
    frame_rest : own.status ≡ Running → (gives_back i e ≡ true) → ((k : ℕ) → (k ≡ i → ⊥) → gives_back k e ≡ false) →
        (st : Status) (left s : ℕ) (p : S) → (st ≡ Running → ⊥) → Frame es (changed (rest_at own i st left s p) es) n e
    frame_rest runs back no' st left s p stops = frame_changed es (rest_at own i st left s p) n e
        (λ k x a. cond_eq (λ (y : Entry S). Moves k n e x.status y.status) k i _ _
        (λ d. moves_back k n e x.status st (ap (λ (y : Entry S). y.status) (one_at es i k own x at a d) ∙ runs) stops
        (ap (λ j. gives_back j e) d ∙ back))
        (λ ne. cond_both (is_place own.parent k && is_starved st) (stir x) x (λ (y : Entry S). Moves k n e x.status y.status)
        (λ _. moves_woken k n e x.status x.status (moves_same k n e x.status (no' k ne))) (λ _. moves_same k n e x.status (no' k ne))))

    frame_take : own.status ≡ Ready → ((k : ℕ) → gives_back k e ≡ false) → IsTook e i → Frame es (after_take es i) n e
    frame_take ready no' is = frame_changed es (take_at i (has_live_child es i)) n e
        (λ k x a. cond_eq (λ (y : Entry S). Moves k n e x.status y.status) k i _ _
        (λ d. record {
          runs = λ _. inr (subst (λ j. IsTook e j) (sym d) is);
          leaves = λ _. inl refl;
          stays = λ m z. let r : x.status
              ≡ Ready = ap (λ (y : Entry S). y.status) (one_at es i k own x at a d) ∙ ready in let q : Ready ≡ Dropped m = sym r ∙ z in
              absurd (cc);
          shut = λ z. let r : x.status ≡ Ready = ap (λ (y : Entry S). y.status) (one_at es i k own x at a d) ∙ ready in let q : Ready
              ≡ Closed = sym r ∙ z in absurd (cc);
        })
        (λ ne. moves_same k n e x.status (no' k)))

    frame_close : own.status ≡ Running → (gives_back i e ≡ true) → ((k : ℕ) → (k ≡ i → ⊥) → gives_back k e ≡ false) → (s : ℕ) (p : S) →
        Frame es (after_close es own i s p n) n e
    frame_close runs back no' s p = frame_changed es (close_at es own i s p n) n e
        (λ k x a. close_cases (λ (y : Entry S). Moves k n e x.status y.status) es own i s p n k x
        (λ d. moves_back k n e x.status Closed (ap (λ (y : Entry S). y.status) (one_at es i k own x at a d) ∙ runs) (λ z. absurd (cc))
        (ap (λ j. gives_back j e) d ∙ back))
        (λ ne lost. moves_drop k n e x.status (both_left (is_open x.status) (is_under es k i k) lost))
        (λ ne _ _. moves_fed k n e (x.left + purse es own i s) x.status (woken x.status)
        (moves_woken k n e x.status x.status (moves_same k n e x.status (no' k ne))))
        (λ ne _ _. moves_same k n e x.status (no' k ne)))
      where
        both_left : (a b : Bool) → (a && b) ≡ true → a ≡ true
        both_left true b h = refl
        both_left false b h = h

  -- what the frame makes of the ends
  module _ (old new : Core S) (e : Told) (f : Frame old.entries new.entries (length old.history) e) (h : new.history ≡ old.history ++ e
      ∷ []) where
    pub end_more : (i k : ℕ) → IsEnd old i k → IsEnd new i k
    end_more i k v = record {
      event = v.event;
      at = subst (λ g. slice_get g k ≡ Some v.event) (sym h) (to_pushed old.history e k v.event v.at);
      ends = ⊎_elim (λ a. inl a) (λ (d : WasDropped old.entries i k). let o = f.to i d.own d.at in
          inr (record { own = o.0; at = o.1; dropped = o.2.stays k d.dropped })) v.ends;
    }

    takes_not : (i : ℕ) → (IsTook e i → ⊥) → TakesNot e i
    takes_not i no' w l s b is = no' (w, l, s, b, is)

    pub ended_more : ((i : ℕ) (x : Entry S) → slice_get old.entries i ≡ Some x → IsTook e i → x.status ≡ Ready) →
        ((i : ℕ) → IsTook e i → IsNow new i (length old.history)) → AreEnded old → AreEnded new
    ended_more ready fresh g = record {
      ended = λ t w i l s b a. ⊎_elim
          (λ o. ⊎_elim (λ v. now_more i t v (within old.history t _ o)) (λ (q : (k : ℕ) × (t < k) × IsEnd old i k). inr
          (q.0, q.1, end_more i q.0 q.2)) (g.ended t w i l s b o))
          (λ o. inl (subst (IsNow new i) (sym o.0) (fresh i (w, l, s, b, sym o.1))))
          (from_pushed old.history e t (took w i l s b) (subst (λ k. slice_get k t ≡ Some (took w i l s b)) h a));
      going = λ t i v k lt z.
          let m = f.from i v.own v.at v.running in
          ⊎_elim
          (λ r. still t i v k lt z m.0 m.1 r.0 r.1)
          (λ (q : IsTook e i).
          let le = v.last (length old.history) q.0 q.1 q.2 q.3
          (subst (λ g. slice_get g (length old.history) ≡ Some (took q.0 i q.1 q.2 q.3))
          (sym h) (get_pushed old.history e ∙ ap Some q.4)) in
          absurd (omega (arith, le, lt, within new.history k z.event z.at, ap length h, length_push old.history e)))
          (m.2.runs v.running);
    }
      where
        now_more : (i t : ℕ) → (v : IsNow old i t) → t < length old.history → IsNow new i t ⊎ ((k : ℕ) × (t < k) × IsEnd new i k)
        now_more i t v lt =
            let o = f.to i v.own v.at in
            let last : slice_get new.history (length old.history) ≡ Some e = subst (λ g. slice_get g (length old.history) ≡ Some e) (sym h)
            (get_pushed old.history e) in
            ⊎_elim
            (λ r. inl (record {
              own = o.0;
              at = o.1;
              running = r;
              last = subst (λ g. IsLastTake g i t) (sym h)
                  (last_more old.history e i t (λ w l s b is. let z : Ready ≡ Running = sym (ready i v.own v.at (w, l, s, b, is))
                  ∙ v.running
                  in absurd (cc)) v.last);
            }))
            (λ q. inr (
              length old.history,
              lt,
              record { event = e; at = last; ends = ⊎_elim (λ a. inl a) (λ d. inr (record { own = o.0; at = o.1; dropped = d })) q },
            ))
            (o.2.leaves v.running)

        still : (t i : ℕ) → (v : IsNow new i t) → (k : ℕ) → t < k → IsEnd new i k → (x : Entry S) → slice_get old.entries i ≡ Some x →
            x.status ≡ Running → gives_back i e ≡ false → ⊥
        still t i v k lt z x xa runs no' =
            let was : IsNow old i t = record {
              own = x;
              at = xa;
              running = runs;
              last = λ j w l s b a. v.last j w l s b
                  (subst (λ g. slice_get g j ≡ Some (took w i l s b)) (sym h) (to_pushed old.history e j _ a));
            } in
            ⊎_elim
            (λ (back : gives_back i z.event ≡ true). ⊎_elim
            (λ o. g.going t i was k lt (record { event = z.event; at = o; ends = inl back }))
            (λ o. absurd (both_ways (gives_back i e) no' (ap (gives_back i) (sym o.1) ∙ back)))
            (from_pushed old.history e k z.event (subst (λ g. slice_get g k ≡ Some z.event) h z.at)))
            (λ (d : WasDropped new.entries i k).
            let q : Running ≡ Dropped k = sym (ap (λ (y : Entry S). y.status) (one_at new.entries i i v.own d.own v.at d.at refl)
            ∙ v.running)
            ∙ d.dropped in absurd (cc))
            z.ends

  -- each event is such a frame
  pub event_frame : (R : Reads S) (old new : Core S) (e : Told) → Event R old e new → Frame old.entries new.entries (length old.history) e
  event_frame R old new (took w i l s b) t =
      let e : Told = took w i l s b in
      let fr = frame_take old.entries t.own i t.at (length old.history) e t.ready (λ k. refl) (w, l, s, b, refl) in
      subst (λ (c : Core S). Frame old.entries c.entries (length old.history) e) (sym t.new_is) fr
  event_frame R old new (said w i s) t = subst (λ (c : Core S). Frame old.entries c.entries (length old.history) (said w i s))
      (sym t.new_is)
      (frame_same old.entries (length old.history) (said w i s) (λ k. refl))
  event_frame R old new (asked w i n c q) t =
      let e : Told = asked w i n c q in
      let at : slice_get old.entries i ≡ Some t.own = rw t.id at t.since.at in
      let m : ℕ = part (t.own.left - n) in
      let fr = frame_pushed old.entries _ (child_of t.own i n t.child) (length old.history) e (rest_runs m)
      (frame_rest old.entries t.own i at (length old.history) e t.since.running (eq_true i) (λ k ne. ne_eqb k i ne)
      (at_rest ((t.own.left - n) - m)) ((t.own.left - n) - m) n (told_child R t.job.state c) (rest_runs ((t.own.left - n) - m))) in
      subst (λ (c : Core S). Frame old.entries c.entries (length old.history) e) (sym t.new_is) fr
  event_frame R old new (told_fed w i n c) t =
      let e : Told = told_fed w i n c in
      let at : slice_get old.entries i ≡ Some t.own = rw t.id at t.since.at in
      let m : ℕ = share t.child (t.own.left - n) in
      let fr = frame_then old.entries _ (fed_at c m) (length old.history) e
      (λ k x. cond_eq (λ (y : Entry S). y.status ≡ Running → x.status ≡ Running) k c _ _ (λ _ r. fed_runs (x.left + m) x.status r)
      (λ _ r. r))
      (λ k s x v. cond_eq (λ (y : Entry S). Moves k (length old.history) e s y.status) k c _ _
      (λ _. moves_fed k (length old.history) e (x.left + m) s x.status v) (λ _. v))
      (frame_rest old.entries t.own i at (length old.history) e t.since.running (eq_true i) (λ k ne. ne_eqb k i ne)
      (at_rest ((t.own.left - n) - m)) ((t.own.left - n) - m) n t.job.state (rest_runs ((t.own.left - n) - m))) in
      subst (λ (c : Core S). Frame old.entries c.entries (length old.history) e) (sym t.new_is) fr
  event_frame R old new (parked w i n r) t =
      let e : Told = parked w i n r in
      let at : slice_get old.entries i ≡ Some t.own = rw t.id at t.since.at in
      let fr = frame_rest old.entries t.own i at (length old.history) e t.since.running (eq_true i) (λ k ne. ne_eqb k i ne)
      (back_as r t.own.stirred (t.own.left - n)) (t.own.left - n) n t.job.state (back_runs r t.own.stirred (t.own.left - n)) in
      subst (λ (c : Core S). Frame old.entries c.entries (length old.history) e) (sym t.new_is) fr
  event_frame R old new (closed w i n how ss) t =
      let e : Told = closed w i n how ss in
      let at : slice_get old.entries i ≡ Some t.own = rw t.id at t.since.at in
      let fr = frame_close old.entries t.own i at (length old.history) e t.since.running (eq_true i) (λ k ne. ne_eqb k i ne) n t.job.state
      in
      subst (λ (c : Core S). Frame old.entries c.entries (length old.history) e) (sym t.new_is) fr
  event_frame R old new (stopped w) t = subst (λ (c : Core S). Frame old.entries c.entries (length old.history) (stopped w)) (sym t.2)
      (frame_same old.entries (length old.history) (stopped w) (λ k. refl))

  pub event_ended : (R : Reads S) (old new : Core S) (e : Told) → Event R old e new → AreEnded old → AreEnded new
  event_ended R old new (took w i l s b) t = ended_more old new (took w i l s b) (event_frame R old new (took w i l s b) t)
      (ap (λ (c : Core S). c.history) t.new_is)
      (λ k x a is. let d : k ≡ i = cc in ap (λ (y : Entry S). y.status) (one_at old.entries i k t.own x t.at a d) ∙ t.ready)
      (λ k is. let d : k ≡ i = cc in subst (λ j. IsNow new j (length old.history)) (sym d)
      (subst (λ (c : Core S). IsNow c i (length old.history)) (sym t.new_is) now))
    where
      now : IsNow (with_event R old (after_take old.entries i) (took w i l s b)) i (length old.history)
      now = record {
        own = take_at i (has_live_child old.entries i) i t.own;
        at = to_changed (take_at i (has_live_child old.entries i)) old.entries i t.own t.at;
        running = cond_eq (λ (y : Entry S). y.status ≡ Running) i i _ _ (λ _. refl) (λ ne. absurd (ne refl));
        last = λ k w' l' s' b' a. omega (
          arith,
          within (old.history ++ took w i l s b ∷ []) k _ a,
          length_push old.history (took w i l s b),
        );
      }
  event_ended R old new (said w i s) t = ended_more old new (said w i s) (event_frame R old new (said w i s) t)
      (ap (λ (c : Core S). c.history) t.new_is) (λ k x a is. absurd (cc)) (λ k is. absurd (cc))
  event_ended R old new (asked w i n c q) t = ended_more old new (asked w i n c q) (event_frame R old new (asked w i n c q) t)
      (ap (λ (c : Core S). c.history) t.new_is) (λ k x a is. absurd (cc)) (λ k is. absurd (cc))
  event_ended R old new (told_fed w i n c) t = ended_more old new (told_fed w i n c) (event_frame R old new (told_fed w i n c) t)
      (ap (λ (c : Core S). c.history) t.new_is) (λ k x a is. absurd (cc)) (λ k is. absurd (cc))
  event_ended R old new (parked w i n r) t = ended_more old new (parked w i n r) (event_frame R old new (parked w i n r) t)
      (ap (λ (c : Core S). c.history) t.new_is) (λ k x a is. absurd (cc)) (λ k is. absurd (cc))
  event_ended R old new (closed w i n how ss) t = ended_more old new (closed w i n how ss) (event_frame R old new (closed w i n how ss) t)
      (ap (λ (c : Core S). c.history) t.new_is) (λ k x a is. absurd (cc)) (λ k is. absurd (cc))
  event_ended R old new (stopped w) t = ended_more old new (stopped w) (event_frame R old new (stopped w) t)
      (ap (λ (c : Core S). c.history) t.2) (λ k x a is. absurd (cc)) (λ k is. absurd (cc))

  -- where no event ended it, the query is Running since its Take
  pub is_now : (c : Core S) → AreEnded c → (i taken : ℕ) → WasTaken c.history i taken →
      ((k : ℕ) → taken < k → k < length c.history → IsEnd c i k → ⊥) → IsNow c i taken
  is_now c g i taken t none = ⊎_elim
      (λ v. v)
      (λ (q : (k : ℕ) × (taken < k) × IsEnd c i k). absurd (none q.0 q.1 (within c.history q.0 q.2.event q.2.at) q.2))
      (g.ended taken t.worker i t.left t.steps t.waiting t.at)

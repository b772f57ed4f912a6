-- The asked entries of a closed query are those of its Ask events, but for one whose Ask is its last step.
use Rattle.std.proofs.Common.{◌≡◌, ◌⊎◌, inl, inr, ⊎_elim, ℕ, ◌≤◌, List, [], ◌∷◌, ◌++◌, length, take, Option, Some, arith, refl, sym, subst, ap, ◌∙◌}
use Rattle.std.specs.Prelude.{slice_get, ◌==◌}
use Rattle.std.proofs.lemmas.Bool.{cond_both}
use Rattle.std.proofs.lemmas.List.{length_push, take-append-le}
use Rattle.std.proofs.lemmas.Option.{none-some, slice_get_within}
use Rattle.query_tree.specs.declared.Entry.{Entry}
use Rattle.query_tree.specs.declared.Status.TheVariants.{Closed}
use Rattle.query_tree.specs.Forest.{after_root, root_of}
use Rattle.query_tree.proofs.Lists.{from_pushed}
use Rattle.summary_form.specs.declared.query.Query.{Query}
use Rattle.summary_form.specs.declared.summary.Summary.{Summary}
use Rattle.bolt_core.specs.declared.slot.ClosedAs.{ClosedAs}
use Rattle.bolt_core.specs.Boards.{IsBoard, Shown}
use Rattle.bolt_core.specs.Histories.{Told, asked, asks_of, closed, fed, parked, said, stopped, took}
use Rattle.bolt_core.specs.Machine.{Closes, Core, Event, Last, Matches, Reached, Reads, a_feed, an_ask, asks_more, first_board, node_of_root, opening, other}
use Rattle.bolt_core.specs.States.{reads}
use Rattle.bolt_core.proofs.Changes.{Become, ClosesHere, event_become}
use Rattle.bolt_core.proofs.Reserve.{event_history}

more_last : (n : ℕ) (l : Last) → (asks_more n l ≡ 0) ⊎ ((asks_more n l ≡ 1) × (q : Query) × (l ≡ an_ask q))
more_last n (an_ask q) = cond_both (n == 0) 0 1 (λ m. (m ≡ 0) ⊎ ((m ≡ 1) × (r : Query) × (an_ask q ≡ an_ask r))) (λ _. inl refl)
    (λ _. inr (refl, q, refl))
more_last n (a_feed i) = inl refl
more_last n other = inl refl

module _ {S : Type 0} (R : Reads S) where
  pub record HasAsks (h : List Told) (i : ℕ) (payload : Option S) : Type 0 where
    pub state : S
    pub is_payload : payload ≡ Some state
    pub place : ℕ
    pub within : place ≤ length h
    pub more : ℕ
    pub matches : Matches (R.entries state) (asks_of (take place h) i) more
    pub last : (more ≡ 0) ⊎ ((more ≡ 1) × (q : Query) × (R.last state ≡ an_ask q))

  pub record AreAsks (c : Core S) : Type 0 where
    pub asks : (i : ℕ) (e : Entry S) → slice_get c.entries i ≡ Some e → e.status ≡ Closed → HasAsks c.history i e.payload

  asks_later : (h : List Told) (x : Told) (i : ℕ) (payload : Option S) → HasAsks h i payload → HasAsks (h ++ x ∷ []) i payload
  asks_later h x i payload k = record {
    state = k.state;
    is_payload = k.is_payload;
    place = k.place;
    within = omega (arith, k.within, length_push h x);
    more = k.more;
    matches = subst (λ (xs : List Told). Matches (R.entries k.state) (asks_of xs i) k.more)
        (sym (take-append-le k.place h (x ∷ []) k.within))
        k.matches;
    last = k.last;
  }

  module _ (old new : Core S) where
    asks_now : (w i n : ℕ) (shut : ClosedAs) (ss : List Summary) → (t : Closes R old i n shut ss (closed w i n shut ss) new) →
        HasAsks (old.history ++ closed w i n shut ss ∷ []) i (Some t.job.state)
    asks_now w i n shut ss t =
        let h : List Told = old.history in
        let e : Told = closed w i n shut ss in
        let lt = slice_get_within h t.job.taken _ t.sound.take_at in
        record {
          state = t.job.state;
          is_payload = refl;
          place = t.job.taken;
          within = omega (arith, lt, length_push h e);
          more = asks_more t.job.spent (R.last t.job.state);
          matches = subst (λ (xs : List Told). Matches (R.entries t.job.state) (asks_of xs i) (asks_more t.job.spent (R.last t.job.state)))
              (sym (take-append-le t.job.taken h (e ∷ []) (omega (arith, lt))))
              (subst (λ j. Matches (R.entries t.job.state) (asks_of (take t.job.taken h) j) (asks_more t.job.spent (R.last t.job.state)))
              t.id
              t.sound.entries);
          last = more_last t.job.spent (R.last t.job.state);
        }

    asks_here : (e : Told) → ClosesHere (HasAsks (old.history ++ e ∷ [])) R old new e
    asks_here (took w i left steps waiting) = tt
    asks_here (said w i s) = tt
    asks_here (asked w i n c q) = tt
    asks_here (fed w i n c) = tt
    asks_here (parked w i n r) = tt
    asks_here (closed w i n shut ss) = asks_now w i n shut ss
    asks_here (stopped w) = tt

    event_asked : (e : Told) → Event R old e new → AreAsks old → AreAsks new
    event_asked e t h =
        let b : Become (HasAsks (old.history ++ e ∷ [])) old.entries new.entries =
        event_become (HasAsks (old.history ++ e ∷ [])) R old new e t (asks_here e) in
        record {
          asks = λ i y a c. subst (λ (xs : List Told). HasAsks xs i y.payload) (sym (event_history R old new e t))
              (⊎_elim
              (λ w. subst (HasAsks (old.history ++ e ∷ []) i) (sym w.same)
              (asks_later old.history e i w.entry.payload (h.asks i w.entry w.at w.status)))
              (λ z. z)
              (b.from i y a c));
        }

  root_asks : (grant : ℕ) (c : Core S) (s : S) → AreAsks c → AreAsks (record c {
    entries = after_root c.entries grant s;
    nodes = c.nodes ++ node_of_root R s ∷ [];
  })
  root_asks grant c s h = record {
    asks = λ i e a shut. ⊎_elim
        (λ o. h.asks i e o shut)
        (λ o. let z = ap (λ (x : Entry S). x.status) (sym o.1) ∙ shut in absurd (cc))
        (from_pushed c.entries (root_of (length c.entries) grant s) i e a);
  }

  roots_asks : (grant : ℕ) (ss : List S) (c : Core S) → AreAsks c → AreAsks (opening R grant ss c)
  roots_asks grant [] c h = h
  roots_asks grant (s ∷ ss) c h = roots_asks grant ss (record c {
    entries = after_root c.entries grant s;
    nodes = c.nodes ++ node_of_root R s ∷ [];
  }) (root_asks grant c s h)

  run_asks : (es : List Told) (old new : Core S) → Reached R old es new → AreAsks old → AreAsks new
  run_asks [] old new r h = subst AreAsks (sym r) h
  run_asks (e ∷ es) old new r h = run_asks es r.0 new r.2 (event_asked old r.0 e r.1 h)

pub board_asks : (b : Shown) → (h : IsBoard b) → AreAsks (reads b.graphs) b.core
board_asks b h =
    let o = h.opening in
    run_asks (reads b.graphs) b.core.history h.opened b.core h.reached
    (subst (AreAsks (reads b.graphs)) (sym o.is)
    (roots_asks (reads b.graphs) b.budget o.roots (first_board (reads b.graphs) h.opened.kept)
    (record { asks = λ i e a shut. absurd (none-some e a) })))

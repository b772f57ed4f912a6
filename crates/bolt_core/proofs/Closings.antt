-- With what state each closed query closed, and that its news was reported before.
use Rattle.std.proofs.Common.{◌≡◌, ℕ, ◌≤◌, List, [], ◌∷◌, ◌++◌, length, take, Option, Some, None, refl, sym, ap, ◌∙◌, subst, ⊎_elim, arith}
use Rattle.std.specs.Prelude.{slice_get}
use Rattle.std.proofs.lemmas.Bool.{eq-eqb}
use Rattle.std.proofs.lemmas.List.{length_push, take-append-le}
use Rattle.std.proofs.Math.Seq.{take-append_seam}
use Rattle.query_tree.specs.declared.Entry.{Entry}
use Rattle.query_tree.specs.declared.Status.TheVariants.{Running, Closed}
use Rattle.query_tree.specs.Forest.{after_root, root_of}
use Rattle.query_tree.proofs.Lists.{from_pushed}
use Rattle.query_rules.specs.declared.step.Asked.{Asked}
use Rattle.query_rules.specs.declared.step.Closing.{Closing}
use Rattle.summary_form.specs.declared.summary.Summary.{Summary}
use Rattle.bolt_core.specs.declared.slot.ClosedAs.{ClosedAs}
use Rattle.bolt_core.specs.Histories.{Told, asked, closed, closed_as, closes_by, fed, parked, said, stopped, took}
use Rattle.bolt_core.specs.Keeps.{Keeps}
use Rattle.bolt_core.specs.Machine.{AllOf, Closes, Core, Event, IsNews, Reads, closed_how, first_board, node_of_root, opening}
use Rattle.bolt_core.proofs.Agreeing.{closed_push, orelse}
use Rattle.bolt_core.proofs.Changes.{Become, ClosesHere, event_become}
use Rattle.bolt_core.proofs.Nodes.{open_node}
use Rattle.bolt_core.proofs.Payloads.{news_since}
use Rattle.bolt_core.proofs.Reserve.{event_history}

module _ {S : Type 0} (R : Reads S) where
  -- the query closed with this payload, at this place of the history, before which it hadn't, and what its news tells had
  pub record HasClosing (h : List Told) (i : ℕ) (payload : Option S) : Type 0 where
    pub state : S
    pub closing : Closing
    pub place : ℕ
    pub is_payload : payload ≡ Some state
    pub is_closed : R.IsClosed state closing
    pub told : closed_as h i ≡ Some (closed_how R (R.level state) state closing)
    pub within : place ≤ length h
    pub first : closed_as (take place h) i ≡ None
    pub news : AllOf (λ a. IsNews a.news (closed_as (take place h) a.child)) (R.entries state)

  pub record AreClosings (c : Core S) : Type 0 where
    pub closings : (i : ℕ) (e : Entry S) → slice_get c.entries i ≡ Some e → e.status ≡ Closed → HasClosing c.history i e.payload

  closing_later : (h : List Told) (x : Told) (i : ℕ) (payload : Option S) → HasClosing h i payload → HasClosing (h ++ x ∷ []) i payload
  closing_later h x i payload k =
      let same : take k.place (h ++ x ∷ []) ≡ take k.place h = take-append-le k.place h (x ∷ []) k.within in
      record {
        state = k.state;
        closing = k.closing;
        place = k.place;
        is_payload = k.is_payload;
        is_closed = k.is_closed;
        told = closed_push h x i ∙ ap (λ o. orelse o (closes_by i x None)) k.told;
        within = omega (arith, k.within, length_push h x);
        first = ap (λ (xs : List Told). closed_as xs i) same ∙ k.first;
        news = subst (λ (xs : List Told). AllOf (λ (a : Asked). IsNews a.news (closed_as xs a.child)) (R.entries k.state)) (sym same)
            k.news;
      }

  module _ (roots : ℕ) (old new : Core S) (k : Keeps R roots old) where
    closing_now : (w i n : ℕ) (shut : ClosedAs) (ss : List Summary) → (t : Closes R old i n shut ss (closed w i n shut ss) new) →
        HasClosing (old.history ++ closed w i n shut ss ∷ []) i (Some t.job.state)
    closing_now w i n shut ss t =
        let h : List Told = old.history in
        let e : Told = closed w i n shut ss in
        let s : S = t.job.state in
        let at : slice_get old.entries t.job.id ≡ Some t.own = t.since.at in
        let open' : closed_as h t.job.id ≡ None = sym (k.agrees.closed t.job.id t.sound.node t.sound.node_at)
        ∙ open_node old.entries old.nodes k.paired t.job.id t.own t.sound.node at t.sound.node_at
        (λ z. let f : Running ≡ Closed = sym t.since.running ∙ z in absurd (cc)) in
        let none : closed_as h i ≡ None = subst (λ j. closed_as h j ≡ None) t.id open' in
        let seam : take (length h) (h ++ e ∷ []) ≡ h = take-append_seam h (e ∷ []) in
        record {
          state = s;
          closing = t.closing;
          place = length h;
          is_payload = refl;
          is_closed = t.is_closed;
          told = closed_push h e i ∙ (rw (none, eq-eqb i i refl) (ap Some t.told)
              ∙ ap (λ l. Some (closed_how R l s t.closing)) (sym t.sound.level));
          within = omega (arith, length_push h e);
          first = ap (λ (xs : List Told). closed_as xs i) seam ∙ none;
          news = subst (λ (xs : List Told). AllOf (λ (a : Asked). IsNews a.news (closed_as xs a.child)) (R.entries s)) (sym seam)
              (news_since t.job.taken h (R.entries s) t.sound.news);
        }

    pub closes_here : (e : Told) → ClosesHere (HasClosing (old.history ++ e ∷ [])) R old new e
    closes_here (took w i left steps waiting) = tt
    closes_here (said w i s) = tt
    closes_here (asked w i n c q) = tt
    closes_here (fed w i n c) = tt
    closes_here (parked w i n r) = tt
    closes_here (closed w i n shut ss) = closing_now w i n shut ss
    closes_here (stopped w) = tt

    pub event_closings : (e : Told) → Event R old e new → AreClosings old → AreClosings new
    event_closings e t h =
        let b : Become (HasClosing (old.history ++ e ∷ [])) old.entries new.entries =
        event_become (HasClosing (old.history ++ e ∷ [])) R old new e t (closes_here e) in
        record {
          closings = λ i y a c. subst (λ (xs : List Told). HasClosing xs i y.payload) (sym (event_history R old new e t))
              (⊎_elim
              (λ w. subst (HasClosing (old.history ++ e ∷ []) i) (sym w.same)
              (closing_later old.history e i w.entry.payload (h.closings i w.entry w.at w.status)))
              (λ z. z)
              (b.from i y a c));
        }

  -- Roots are open

  root_closings : (grant : ℕ) (c : Core S) (s : S) → AreClosings c → AreClosings (record c {
    entries = after_root c.entries grant s;
    nodes = c.nodes ++ node_of_root R s ∷ [];
  })
  root_closings grant c s h = record {
    closings = λ i e a shut. ⊎_elim
        (λ o. h.closings i e o shut)
        (λ o. let z = ap (λ (x : Entry S). x.status) (sym o.1) ∙ shut in absurd (cc))
        (from_pushed c.entries (root_of (length c.entries) grant s) i e a);
  }

  roots_closings : (grant : ℕ) (ss : List S) (c : Core S) → AreClosings c → AreClosings (opening R grant ss c)
  roots_closings grant [] c h = h
  roots_closings grant (s ∷ ss) c h = roots_closings grant ss (record c {
    entries = after_root c.entries grant s;
    nodes = c.nodes ++ node_of_root R s ∷ [];
  }) (root_closings grant c s h)

  pub opening_closings : (grant : ℕ) (ss : List S) (ks : List Summary) →
      AreClosings (opening R grant ss (first_board R ks))
  opening_closings grant ss ks = roots_closings grant ss (first_board R ks) (record { closings = λ i e a shut. absurd (cc) })

-- Each event keeps what is true of the forest's entries.
use Rattle.std.proofs.Common.{◌≡◌, ℕ, ◌+◌, ◌-◌, ◌≤◌, List, [], ◌∷◌, ◌++◌, length, Bool, true, cond, Some, refl, sym, ap, ◌∙◌, subst, ◌⊎◌, inl, inr, arith}
use Rattle.std.specs.Prelude.{slice_get, ◌==◌, ◌||◌}
use Rattle.std.proofs.lemmas.Bool.{ne_eqb}
use Rattle.std.proofs.lemmas.List.{length_push}
use Rattle.query_tree.specs.declared.Rest.{Rest}
use Rattle.query_tree.specs.declared.Rest.TheVariants.{Ready as RestReady, Blocked as RestBlocked, Starved as RestStarved}
use Rattle.query_tree.specs.declared.Entry.{Entry}
use Rattle.query_tree.specs.Forest.{tally, has_live_child, after_take}
use Rattle.query_tree.proofs.Lists.{tally_same}
use Rattle.query_tree.proofs.Take.{take_kept}
use Rattle.query_tree.proofs.Back.{back_kept, ask_kept}
use Rattle.query_tree.proofs.Feed.{feed_kept}
use Rattle.query_tree.proofs.Close.{close_kept}
use Rattle.query_tree.proofs.Tests.{MayRest}
use Rattle.summary_form.specs.declared.query.Query.{Query}
use Rattle.summary_form.specs.declared.summary.Summary.{Summary}
use Rattle.bolt_core.specs.declared.slot.ClosedAs.{ClosedAs}
use Rattle.bolt_core.specs.Histories.{Told, took, said, asked, fed, parked, closed, stopped, says_of, has_said}
use Rattle.bolt_core.specs.Machine.{Reads, Job, Core, IsSound, IsSince, MayPark, Takes, Says, Asks, Feeds, Parks, Closes, Event, told_child}
use Rattle.bolt_core.specs.Keeps.{AreEnded, AreLinked, AreSaid, HasRoom, Keeps, Stocked, unsaid}
use Rattle.bolt_core.specs.KeptEntries.{FeedsAChild, KeepsEntries}
use Rattle.bolt_core.specs.Lawful.{IsLawful}
use Rattle.bolt_core.proofs.Credits.{room_take, room_back, room_ask, room_feed, room_close, room_publish, room_stop}
use Rattle.bolt_core.proofs.Ending.{event_ended}
use Rattle.bolt_core.proofs.Feeding.{feeds_a_child}
use Rattle.bolt_core.proofs.Links.{lent_is, stored_is, waiting_is, linked_take, linked_same, linked_back, linked_ask, linked_feed, linked_close}
use Rattle.bolt_core.proofs.Publishes.{event_said, said_more}
use Rattle.bolt_core.proofs.Stocks.{Leaves, take_stocked, back_stocks, ask_stocks, feed_stocks, close_stocks}
use Rattle.bolt_core.proofs.Stored.{take_stored, back_stored, ask_stored, feed_stored, close_stored}

-- the room of a history that is one event longer
room_more : {S : Type 0} (roots : ℕ) (es : List (Entry S)) (h : List Told) (e : Told) (is_stopped : Bool) (f : ℕ → Bool) →
    ((i : ℕ) → (says_of i e || has_said h i) ≡ f i) → HasRoom es f is_stopped (length h + 1) roots →
    HasRoom es (has_said (h ++ e ∷ [])) is_stopped (length (h ++ e ∷ [])) roots
room_more roots es h e is_stopped f same r =
    let u : tally (unsaid (has_said (h ++ e ∷ []))) es ≡ tally (unsaid f) es =
    tally_same _ _ es (λ k x a. ap (λ b. cond b 0 1) (said_more h e k ∙ same k)) in
    record { owed = omega (arith, r.owed, u, length_push h e); few = r.few }

module _ {S : Type 0} (R : Reads S) (roots : ℕ) where
  -- How a job may be parked

  may_rest : (r : Rest) (j : Job S) (waiting own : Bool) → own ≡ waiting → MayPark R r j waiting → MayRest r own
  may_rest RestReady j waiting own same m = tt
  may_rest RestBlocked j waiting own same m = same ∙ m.2
  may_rest RestStarved j waiting own same m = tt

  leaves : (r : Rest) (j : Job S) (waiting : Bool) (own : Entry S) → own.lent ≡ j.left → own.lent ≤ own.left → MayPark R r j waiting →
      Leaves r (own.left - j.spent)
  leaves RestReady j waiting own lent le m = omega (arith, m.1)
  leaves RestBlocked j waiting own lent le m = omega (arith, m.1)
  leaves RestStarved j waiting own lent le m = tt

  pays : (r : Rest) (j : Job S) (waiting : Bool) (own : Entry S) → own.lent ≡ j.left → 1 ≤ own.lent → MayPark R r j waiting →
      (1 ≤ j.spent) ⊎ (r ≡ RestBlocked)
  pays RestReady j waiting own lent some m = inl m.0
  pays RestBlocked j waiting own lent some m = inr refl
  pays RestStarved j waiting own lent some m = inl (omega (arith, lent, m, some))

  -- What is known of a sound job's query
  module _ (old : Core S) (h : KeepsEntries R roots old) (j : Job S) (own : Entry S) (s : IsSound R old.kept old.history old.nodes j)
      (since : IsSince R old j own) where
    lent : own.lent ≡ j.left
    lent = lent_is R old j own h.linked s since

    within_lent : (n : ℕ) → j.spent ≡ n → n ≤ own.lent
    within_lent n is = omega (arith, s.within, lent, is)

    lent_some : 1 ≤ own.lent
    lent_some = let k : Stocked own.status own.left own.lent = h.stocked.stocked j.id own since.at in rw since.running at k

    lent_left : own.lent ≤ own.left
    lent_left = rw since.running at ((h.kept.each.fine j.id own since.at).holds)

    steps_are : (n : ℕ) → j.spent ≡ n → R.steps j.state ≡ own.spent + n
    steps_are n is = s.made ∙ (ap (λ m. m + j.spent) (stored_is R old j own h.linked s since) ∙ ap (λ m. own.spent + m) is)

  -- The events
  module _ (old new : Core S) (h : KeepsEntries R roots old) where
    ends : (e : Told) → Event R old e new → AreEnded new
    ends e t = event_ended R old new e t h.ended

    pub took_entries : (w i left steps : ℕ) (waiting : Bool) → Takes R old i left steps waiting (took w i left steps waiting) new →
        KeepsEntries R roots new
    took_entries w i left steps waiting t =
        let e : Told = took w i left steps waiting in
        let stored : steps ≡ t.own.spent = t.steps_is ∙ h.stored.stored i t.own t.at t.state t.payload in
        let same : e ≡ took w i t.own.left t.own.spent (has_live_child old.entries i) =
        let a = t.left_is in let b = t.waiting_is in cc in
        subst (KeepsEntries R roots) (sym t.new_is) (record {
          kept = take_kept old.entries i t.own t.at t.ready h.kept;
          stocked = take_stocked old.entries t.own i t.at h.stocked t.ready;
          stored = take_stored R old.entries t.own i t.at h.stored;
          room = room_more roots _ old.history e old.is_stopped (has_said old.history) (λ k. refl)
              (room_take old.entries (has_said old.history) old.is_stopped (length old.history) roots h.room t.own i t.at t.ready);
          linked = subst (λ (x : Told). AreLinked (after_take old.entries i) (old.history ++ x ∷ [])) (sym same)
              (linked_take old.entries old.history i w t.own t.at h.linked);
          ended = subst AreEnded t.new_is (ends e t);
          said = subst (λ (c : Core S). AreSaid c.entries (old.history ++ e ∷ [])) t.new_is (event_said R old new e t h.said);
        })

    pub said_entries : (w i : ℕ) (s : Summary) → Says R old i s (said w i s) new → KeepsEntries R roots new
    said_entries w i s t =
        let e : Told = said w i s in
        subst (KeepsEntries R roots) (sym t.new_is) (record {
          kept = h.kept;
          stocked = h.stocked;
          stored = h.stored;
          room = room_more roots old.entries old.history e old.is_stopped (λ k. (k == i) || has_said old.history k) (λ k. refl)
              (room_publish old.entries (has_said old.history) old.is_stopped (length old.history) roots h.room t.own i t.at t.once);
          linked = linked_same old.entries old.history e (λ k v l u b is. absurd (cc)) (λ k. refl) h.linked;
          ended = subst AreEnded t.new_is (ends e t);
          said = subst (λ (c : Core S). AreSaid c.entries (old.history ++ e ∷ [])) t.new_is (event_said R old new e t h.said);
        })

    pub asked_entries : IsLawful R → (w i n c : ℕ) (q : Query) → Asks R old i n c q (asked w i n c q) new → KeepsEntries R roots new
    asked_entries lawful w i n c q t =
        let e : Told = asked w i n c q in
        let p : S = told_child R t.job.state c in
        let at : slice_get old.entries i ≡ Some t.own = rw t.id at t.since.at in
        let steps : R.steps p ≡ t.own.spent + n = lawful.tell_steps _ c _ t.job.state ∙ steps_are old h t.job t.own t.sound t.since n
        t.spent
        in
        subst (KeepsEntries R roots) (sym t.new_is) (record {
          kept = ask_kept old.entries t.own i at t.since.running n p (within_lent old h t.job t.own t.sound t.since n t.spent) t.child
              h.kept;
          stocked = ask_stocks old.entries t.own i at h.stocked n p t.child;
          stored = ask_stored R old.entries t.own i at h.stored n p steps t.child t.fresh.none;
          room = room_more roots _ old.history e old.is_stopped (has_said old.history) (λ k. refl)
              (room_ask old.entries (has_said old.history) old.is_stopped (length old.history) roots h.room t.own i at t.since.running n p
              t.child t.made);
          linked = linked_ask old.entries old.history e (λ k v l u b is. absurd (cc)) t.own i
              (λ k ne. rw (ne_eqb i k (λ d. ne (sym d))) refl) h.linked n p t.child;
          ended = subst AreEnded t.new_is (ends e t);
          said = subst (λ (c : Core S). AreSaid c.entries (old.history ++ e ∷ [])) t.new_is (event_said R old new e t h.said);
        })

    pub fed_entries : (w i n c : ℕ) → (t : Feeds R old i n c (fed w i n c) new) → t.child.parent ≡ Some i → KeepsEntries R roots new
    fed_entries w i n c t is_child =
        let e : Told = fed w i n c in
        let p : S = t.job.state in
        let at : slice_get old.entries i ≡ Some t.own = rw t.id at t.since.at in
        let steps : R.steps p ≡ t.own.spent + n = steps_are old h t.job t.own t.sound t.since n t.spent in
        subst (KeepsEntries R roots) (sym t.new_is) (record {
          kept = feed_kept old.entries t.own i at t.since.running n p (within_lent old h t.job t.own t.sound t.since n t.spent) c t.child
              t.child_at is_child h.kept;
          stocked = feed_stocks old.entries t.own i at h.stocked n p c t.child;
          stored = feed_stored R old.entries t.own i at h.stored n p steps c t.child;
          room = room_more roots _ old.history e old.is_stopped (has_said old.history) (λ k. refl)
              (room_feed old.entries (has_said old.history) old.is_stopped (length old.history) roots h.room t.own i at t.since.running n p
              c t.child t.made);
          linked = linked_feed old.entries old.history e (λ k v l u b is. absurd (cc)) t.own i (λ k ne. refl) h.linked n p c t.child;
          ended = subst AreEnded t.new_is (ends e t);
          said = subst (λ (c : Core S). AreSaid c.entries (old.history ++ e ∷ [])) t.new_is (event_said R old new e t h.said);
        })

    pub parked_entries : (w i n : ℕ) (r : Rest) → Parks R old i n r (parked w i n r) new → KeepsEntries R roots new
    parked_entries w i n r t =
        let e : Told = parked w i n r in
        let p : S = t.job.state in
        let at : slice_get old.entries i ≡ Some t.own = rw t.id at t.since.at in
        let steps : R.steps p ≡ t.own.spent + n = steps_are old h t.job t.own t.sound t.since n t.spent in
        let waits : t.own.waiting ≡ t.sound.waiting = waiting_is R old t.job t.own h.linked t.sound t.since in
        let is_lent : t.own.lent ≡ t.job.left = lent old h t.job t.own t.sound t.since in
        let left : Leaves r (t.own.left - n) =
        rw t.spent at (leaves r t.job t.sound.waiting t.own is_lent (lent_left old h t.job t.own t.sound t.since) t.may) in
        let made : (1 ≤ n) ⊎ (r ≡ RestBlocked) =
        rw t.spent at (pays r t.job t.sound.waiting t.own is_lent (lent_some old h t.job t.own t.sound t.since) t.may) in
        subst (KeepsEntries R roots) (sym t.new_is) (record {
          kept = back_kept old.entries t.own i at t.since.running n r p (within_lent old h t.job t.own t.sound t.since n t.spent)
              (may_rest r t.job t.sound.waiting t.own.waiting waits t.may) h.kept;
          stocked = back_stocks old.entries t.own i at h.stocked n r p left;
          stored = back_stored R old.entries t.own i at h.stored n p steps r;
          room = room_more roots _ old.history e old.is_stopped (has_said old.history) (λ k. refl)
              (room_back old.entries (has_said old.history) old.is_stopped (length old.history) roots h.room t.own i at t.since.running n r
              p made);
          linked = linked_back old.entries old.history e (λ k v l u b is. absurd (cc)) t.own i (λ k ne. refl) h.linked n r p;
          ended = subst AreEnded t.new_is (ends e t);
          said = subst (λ (c : Core S). AreSaid c.entries (old.history ++ e ∷ [])) t.new_is (event_said R old new e t h.said);
        })

    pub closed_entries : (w i n : ℕ) (how : ClosedAs) (ss : List Summary) → Closes R old i n how ss (closed w i n how ss) new →
        KeepsEntries R roots new
    closed_entries w i n how ss t =
        let e : Told = closed w i n how ss in
        let p : S = t.job.state in
        let stamp : ℕ = length old.history in
        let at : slice_get old.entries i ≡ Some t.own = rw t.id at t.since.at in
        let steps : R.steps p ≡ t.own.spent + n = steps_are old h t.job t.own t.sound t.since n t.spent in
        subst (KeepsEntries R roots) (sym t.new_is) (record {
          kept = close_kept old.entries t.own i at t.since.running n p stamp (within_lent old h t.job t.own t.sound t.since n t.spent)
              h.kept;
          stocked = close_stocks old.entries t.own i at h.stocked n p stamp;
          stored = close_stored R old.entries t.own i at h.stored n p steps stamp;
          room = room_more roots _ old.history e old.is_stopped (has_said old.history) (λ k. refl)
              (room_close old.entries (has_said old.history) old.is_stopped (length old.history) roots h.room t.own i at t.since.running n
              p stamp);
          linked = linked_close old.entries old.history e (λ k v l u b is. absurd (cc)) t.own i (λ k ne. refl) h.linked n p stamp;
          ended = subst AreEnded t.new_is (ends e t);
          said = subst (λ (c : Core S). AreSaid c.entries (old.history ++ e ∷ [])) t.new_is (event_said R old new e t h.said);
        })

    pub stopped_entries : (w : ℕ) → Event R old (stopped w) new → KeepsEntries R roots new
    stopped_entries w t =
        let e : Told = stopped w in
        subst (KeepsEntries R roots) (sym t.2) (record {
          kept = h.kept;
          stocked = h.stocked;
          stored = h.stored;
          room = room_more roots old.entries old.history e true (has_said old.history) (λ k. refl)
              (room_stop old.entries (has_said old.history) (length old.history) roots
              (subst (λ b. HasRoom old.entries (has_said old.history) b (length old.history) roots) t.1 h.room));
          linked = linked_same old.entries old.history e (λ k v l u b is. absurd (cc)) (λ k. refl) h.linked;
          ended = subst AreEnded t.2 (ends e t);
          said = subst (λ (c : Core S). AreSaid c.entries (old.history ++ e ∷ [])) t.2 (event_said R old new e t h.said);
        })

    pub event_entries : IsLawful R → (e : Told) → FeedsAChild old e → Event R old e new → KeepsEntries R roots new
    event_entries lawful (took w i left steps waiting) f t = took_entries w i left steps waiting t
    event_entries lawful (said w i s) f t = said_entries w i s t
    event_entries lawful (asked w i n c q) f t = asked_entries lawful w i n c q t
    event_entries lawful (fed w i n c) f t = fed_entries w i n c t (f t.child t.child_at)
    event_entries lawful (parked w i n r) f t = parked_entries w i n r t
    event_entries lawful (closed w i n how ss) f t = closed_entries w i n how ss t
    event_entries lawful (stopped w) f t = stopped_entries w t

  pub entries_of : (c : Core S) → Keeps R roots c → KeepsEntries R roots c
  entries_of c k = record {
    kept = k.kept;
    stocked = k.stocked;
    stored = k.stored;
    room = k.room;
    linked = k.linked;
    ended = k.ended;
    said = k.said;
  }

  pub keeps_entries : IsLawful R → (old new : Core S) (e : Told) → Keeps R roots old → Event R old e new → KeepsEntries R roots new
  keeps_entries lawful old new e k t =
      event_entries old new (entries_of old k) lawful e (feeds_a_child R old new k.linked k.agrees k.paired e t) t

-- What each call leaves alone.
use Rattle.std.proofs.Common.{◌≡◌, ℕ, ◌+◌, ◌-◌, ◌≤◌, List, [], ◌∷◌, ◌++◌, length, Bool, true, false, Some, refl, sym, ap, ◌∙◌, subst, arith}
use Rattle.std.specs.Prelude.{slice_get, ◌&&◌}
use Rattle.std.proofs.lemmas.Bool.{cond_both, and_parts, both_ways, eq-eqb}
use Rattle.query_tree.specs.declared.Status.{Status}
use Rattle.query_tree.specs.declared.Status.TheVariants.{Ready, Running, Blocked, Starved, Closed, Dropped}
use Rattle.query_tree.specs.declared.Rest.{Rest}
use Rattle.query_tree.specs.declared.Entry.{Entry}
use Rattle.query_tree.specs.Forest.{changed, is_open, is_starved, is_none, is_place, is_under, woken, fed, stir, share, purse, rest_at, less_at, fed_at, take_at, has_live_child, after_take, after_back, after_ask, after_feed, after_close, after_root, child_of, root_of, part}
use Rattle.query_tree.specs.Kept.{Held, IsKept}
use Rattle.query_tree.specs.Woods.{Out, IsLent}
use Rattle.query_tree.specs.Frame.{Stays, OthersStay}
use Rattle.query_tree.proofs.Lists.{to_changed, to_pushed}
use Rattle.query_tree.proofs.Tests.{cond_eq, one_at}
use Rattle.query_tree.proofs.Feed.{child_there, share_none}
use Rattle.query_tree.proofs.Close.{close_cases, parent_open}

out_woken : (s : Status) (b : Bool) → Out s b → Out (woken s) b
out_woken Ready b h = h
out_woken Running b h = h
out_woken Blocked b h = absurd h
out_woken Starved b h = h
out_woken Closed b h = h
out_woken (Dropped n) b h = h

ended_woken : (s : Status) → is_open s ≡ false → woken s ≡ s
ended_woken Ready h = refl
ended_woken Running h = refl
ended_woken Blocked h = absurd (cc)
ended_woken Starved h = refl
ended_woken Closed h = refl
ended_woken (Dropped n) h = refl

out_fed : (m : ℕ) (s : Status) (b : Bool) → Out s b → Out (fed m s) b
out_fed m Ready b h = h
out_fed m Running b h = h
out_fed m Blocked b h = h
out_fed m Starved b h = absurd h
out_fed m Closed b h = h
out_fed m (Dropped n) b h = h

ended_fed : (m : ℕ) (s : Status) → is_open s ≡ false → fed m s ≡ s
ended_fed m Ready h = refl
ended_fed m Running h = refl
ended_fed m Blocked h = refl
ended_fed m Starved h = absurd (cc)
ended_fed m Closed h = refl
ended_fed m (Dropped n) h = refl

-- what is out and is dropped has no payload
out_dropped : (s : Status) (b : Bool) (n : ℕ) → is_open s ≡ true → Held s b → Out s b → Out (Dropped n) b
out_dropped Ready b n o h k = absurd k
out_dropped Running b n o h k = h
out_dropped Blocked b n o h k = absurd k
out_dropped Starved b n o h k = absurd k
out_dropped Closed b n o h k = absurd k
out_dropped (Dropped m) b n o h k = k

module _ {T : Type 0} where
  same_stays : (e : Entry T) → Stays e e
  same_stays e = record {
    parent = refl;
    root = refl;
    grant = refl;
    spent = refl;
    lent = refl;
    waiting = refl;
    payload = refl;
    out = λ h. h;
    status = λ _. refl;
    left = λ _. refl;
  }

  pub all_stay : (es : List (Entry T)) (id : ℕ) → OthersStay es es id
  all_stay es id = record { stays = λ i e a _. (e, a, same_stays e) }

  -- of what is seen as the entries before and after
  pub stay_seen : (es fs vs ws : List (Entry T)) (id : ℕ) → es ≡ vs → ws ≡ fs → OthersStay es fs id → OthersStay vs ws id
  stay_seen es fs vs ws id h k s = subst (λ xs. OthersStay xs ws id) h (subst (λ ys. OthersStay es ys id) (sym k) s)

  pub stay_at : (es fs vs ws : List (Entry T)) (i j : ℕ) → es ≡ vs → ws ≡ fs → j ≡ i → OthersStay es fs i → OthersStay vs ws j
  stay_at es fs vs ws i j h k d s = subst (OthersStay vs ws) (sym d) (stay_seen es fs vs ws i h k s)

  changed_stay : (es : List (Entry T)) (f : ℕ → Entry T → Entry T) (id : ℕ) → ((k : ℕ) (e : Entry T) → slice_get es k ≡ Some e →
      (k ≡ id → ⊥) → Stays e (f k e)) → OthersStay es (changed f es) id
  changed_stay es f id each = record { stays = λ i e a d. (f i e, to_changed f es i e a, each i e a d) }

  pushed_stay : (es fs : List (Entry T)) (x : Entry T) (id : ℕ) → OthersStay es fs id → OthersStay es (fs ++ x ∷ []) id
  pushed_stay es fs x id h = record {
    stays = λ i e a d. let r = h.stays i e a d in (r.0, to_pushed fs x i r.0 r.1, r.2);
  }

  then_stays : (e f g : Entry T) → Stays e f → Stays f g → Stays e g
  then_stays e f g s t =
      let opened : is_open e.status ≡ false → is_open f.status ≡ false = λ h. ap is_open (s.status h) ∙ h in
      record {
        parent = t.parent ∙ s.parent;
        root = t.root ∙ s.root;
        grant = t.grant ∙ s.grant;
        spent = t.spent ∙ s.spent;
        lent = t.lent ∙ s.lent;
        waiting = t.waiting ∙ s.waiting;
        payload = t.payload ∙ s.payload;
        out = λ h. subst (λ o. Out g.status (is_none o)) s.payload
            (t.out (subst (λ o. Out f.status (is_none o)) (sym s.payload) (s.out h)));
        status = λ h. t.status (opened h) ∙ s.status h;
        left = λ h. t.left (opened h) ∙ s.left h;
      }

  stir_stays : (e : Entry T) → Stays e (stir e)
  stir_stays e = record {
    parent = refl;
    root = refl;
    grant = refl;
    spent = refl;
    lent = refl;
    waiting = refl;
    payload = refl;
    out = out_woken e.status (is_none e.payload);
    status = ended_woken e.status;
    left = λ _. refl;
  }

  fed_stays : (e : Entry T) (n : ℕ) → (is_open e.status ≡ false → n ≡ 0) →
      Stays e (record e { left = e.left + n; status = fed (e.left + n) e.status })
  fed_stays e n none = record {
    parent = refl;
    root = refl;
    grant = refl;
    spent = refl;
    lent = refl;
    waiting = refl;
    payload = refl;
    out = out_fed (e.left + n) e.status (is_none e.payload);
    status = ended_fed (e.left + n) e.status;
    left = λ h. omega (arith, none h);
  }

  pub take_stay : (es : List (Entry T)) (i : ℕ) → OthersStay es (after_take es i) i
  take_stay es i = changed_stay es (take_at i (has_live_child es i)) i (λ k e a d. cond_eq (Stays e) k i _ e (λ s. absurd (d s))
      (λ _. same_stays e))

  -- what was taken is out
  pub taken_out : (es : List (Entry T)) (i : ℕ) (own : Entry T) → slice_get es i ≡ Some own →
      IsLent (after_take es i) i own.left (has_live_child es i)
  taken_out es i own at = record {
    own = take_at i (has_live_child es i) i own;
    at = to_changed (take_at i (has_live_child es i)) es i own at;
    left_is = rw (eq-eqb i i refl) refl;
    waiting_is = rw (eq-eqb i i refl) refl;
    out = rw (eq-eqb i i refl) tt;
  }

  rest_stay : (es : List (Entry T)) (own : Entry T) (i : ℕ) (st : Status) (left s : ℕ) (p : T) →
      OthersStay es (changed (rest_at own i st left s p) es) i
  rest_stay es own i st left s p = changed_stay es (rest_at own i st left s p) i (λ k e a d. cond_eq (Stays e) k i _ _ (λ q. absurd (d q))
      (λ _. cond_both (is_place own.parent k && is_starved st) (stir e) e (Stays e) (λ _. stir_stays e) (λ _. same_stays e)))

  pub back_stay : (es : List (Entry T)) (own : Entry T) (i s : ℕ) (rest : Rest) (p : T) → OthersStay es (after_back es own i s rest p) i
  back_stay es own i s rest p = rest_stay es own i _ _ s p

  pub ask_stay : (es : List (Entry T)) (own : Entry T) (i s : ℕ) (p c : T) → OthersStay es (after_ask es own i s p c) i
  ask_stay es own i s p c = pushed_stay es (changed (less_at own i s p (part (own.left - s))) es) (child_of own i s c) i
      (rest_stay es own i _ _ s p)

  pub root_stay : (es : List (Entry T)) (grant : ℕ) (p : T) → OthersStay es (after_root es grant p) (length es)
  root_stay es grant p = pushed_stay es es (root_of (length es) grant p) (length es) (all_stay es (length es))

  module _ (es : List (Entry T)) (own : Entry T) (i : ℕ) (at : slice_get es i ≡ Some own) (runs : own.status ≡ Running) (s : ℕ)
      (p : T) where
    pub feed_stay : s ≤ own.lent → (c : ℕ) (child : Entry T) → slice_get es c ≡ Some child → child.parent ≡ Some i → IsKept es →
        OthersStay es (after_feed es own i s p c child) i
    feed_stay le c child at_c is_child h =
        let n : ℕ = share child (own.left - s) in
        let fs : List (Entry T) = changed (less_at own i s p n) es in
        let there : slice_get fs c ≡ Some child = child_there es own i at runs s p le c child at_c is_child h in
        let first : OthersStay es fs i = rest_stay es own i _ _ s p in
        record {
          stays = λ k e a d.
              let r = first.stays k e a d in
              let more : Stays r.0 (fed_at c n k r.0) = cond_eq (Stays r.0) k c _ r.0
              (λ q. fed_stays r.0 n (λ z. share_none child (own.left - s) (ap (λ (x : Entry T). is_open x.status)
              (sym (one_at fs c k child r.0 there r.1 q))
              ∙ z)))
              (λ _. same_stays r.0) in
              (fed_at c n k r.0, to_changed (fed_at c n) fs k r.0 r.1, then_stays e r.0 _ r.2 more);
        }

    pub close_stay : (stamp : ℕ) → IsKept es → OthersStay es (after_close es own i s p stamp) i
    close_stay stamp h = changed_stay es _ i (λ k e a d. close_cases (Stays e) es own i s p stamp k e
        (λ q. absurd (d q))
        (λ _ lost.
        let opened : is_open e.status ≡ true = (and_parts (is_open e.status) (is_under es k i k) lost).0 in
        record {
          parent = refl;
          root = refl;
          grant = refl;
          spent = refl;
          lent = refl;
          waiting = refl;
          payload = refl;
          out = out_dropped e.status (is_none e.payload) stamp opened ((h.each.fine k e a).held);
          status = λ z. absurd (both_ways (is_open e.status) z opened);
          left = λ z. absurd (both_ways (is_open e.status) z opened);
        })
        (λ _ _ u.
        let opened : is_open e.status ≡ true = parent_open es own i at runs s p stamp h.shut k e a u in
        record {
          parent = refl;
          root = refl;
          grant = refl;
          spent = refl;
          lent = refl;
          waiting = refl;
          payload = refl;
          out = λ o. out_fed (e.left + purse es own i s) (woken e.status) (is_none e.payload)
              (out_woken e.status (is_none e.payload) o);
          status = λ z. absurd (both_ways (is_open e.status) z opened);
          left = λ z. absurd (both_ways (is_open e.status) z opened);
        })
        (λ _ _ _. same_stays e))

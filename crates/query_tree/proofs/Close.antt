-- A query closes, and the open queries under it are dropped.
use Rattle.std.proofs.Common.{◌≡◌, ℕ, zero, suc, ◌+◌, ◌-◌, ◌<◌, ◌≤◌, List, Bool, true, false, cond, Option, Some, None, refl, sym, ap, ◌∙◌, subst, ◌⊎◌, inl, inr, ⊎_elim, arith}
use Rattle.std.specs.Prelude.{slice_get, ◌==◌}
use Rattle.std.proofs.lemmas.Bool.{cond_both, and_parts, and_from, or_cases, or_left, or_right, both_ways, cases_Bool, eq-eqb, ne_eqb, eqb-true, false_from_ne_true}
use Rattle.query_tree.specs.declared.Status.TheVariants.{Running, Closed, Dropped}
use Rattle.query_tree.specs.declared.Entry.{Entry}
use Rattle.query_tree.specs.Forest.{tally, is_open, is_live, is_none, is_place, woken, fed, given, is_above, parent_of, is_under, is_lost, lost_left, purse, paid, close_at, after_close}
use Rattle.query_tree.specs.Kept.{leans, Ended, EndedAbove, HasEnded, worth, IsFine, Rooted, OpenAbove, IsTree, IsShut, IsLeaning, AreFine, IsKept}
use Rattle.query_tree.proofs.Lists.{from_changed, tally_changed, tally_same, tally_plus, tally_one}
use Rattle.query_tree.proofs.Keeps.{SameFrame, tree_changed, lean_changed, fine_changed, roots_changed, granted_same}
use Rattle.query_tree.proofs.Ended.{ended_shut, dropped_shut, woken_dropped, fed_dropped, above_changed, ended_each}
use Rattle.query_tree.proofs.Tests.{cond_eq, place_is, is_place_at, one_at, leans_open, live_woken, open_woken, leans_paid, holds_woken, open_fed, live_fed, holds_fed, held_fed, held_woken}

above_more : (f g : ℕ → Bool) (i : ℕ) (o : Option ℕ) → ((p : ℕ) → f p ≡ true → g p ≡ true) → is_above f i o ≡ true → is_above g i o ≡ true
above_more f g i None h a = a
above_more f g i (Some p) h a = ⊎_elim (λ e. or_left (p == i) (g p) e) (λ e. or_right (p == i) (g p) (h p e)) (or_cases (p == i) (f p) a)

-- above by a parent
pub record Above (f : ℕ → Bool) (i : ℕ) (o : Option ℕ) : Type 0 where
  pub parent : ℕ
  pub is : o ≡ Some parent
  pub here : (parent ≡ i) ⊎ (f parent ≡ true)

above_cases : (f : ℕ → Bool) (i : ℕ) (o : Option ℕ) → is_above f i o ≡ true → Above f i o
above_cases f i None a = absurd (cc)
above_cases f i (Some p) a = record {
  parent = p;
  is = refl;
  here = ⊎_elim (λ e. inl (eqb-true p i e)) (λ e. inr e)
      (or_cases (p == i) (f p) a);
}

above_from : (f : ℕ → Bool) (i p : ℕ) (o : Option ℕ) → o ≡ Some p → (p ≡ i) ⊎ (f p ≡ true) → is_above f i o ≡ true
above_from f i p o is h = rw is (⊎_elim (λ e. or_left (p == i) (f p) (eq-eqb p i e)) (λ e. or_right (p == i) (f p) e) h)

-- where what is left goes
abbrev target : ℕ → Option ℕ → ℕ
target i None = i
target i (Some q) = q

module _ {T : Type 0} where
  under_suc : (es : List (Entry T)) (n i k : ℕ) → is_under es n i k ≡ true → is_under es (suc n) i k ≡ true
  under_suc es zero i k h = absurd (cc)
  under_suc es (suc n) i k h = above_more (is_under es n i) (is_under es (suc n) i) i (parent_of (slice_get es k)) (λ p. under_suc es n i p)
      h

  under_more : (es : List (Entry T)) (d n i k : ℕ) → is_under es n i k ≡ true → is_under es (n + d) i k ≡ true
  under_more es zero n i k h = let e : n + 0 ≡ n = omega arith in rw e h
  under_more es (suc d) n i k h = let e : n + suc d ≡ suc (n + d) = omega arith in rw e (under_suc es (n + d) i k (under_more es d n i k h))

  under_le : (es : List (Entry T)) (m n i k : ℕ) → n ≤ m → is_under es n i k ≡ true → is_under es m i k ≡ true
  under_le es m n i k le h = let e : n + (m - n) ≡ m = omega arith in rw e at (under_more es (m - n) n i k h)

  pub under_step : (es : List (Entry T)) (i k : ℕ) (e : Entry T) (p : ℕ) → slice_get es k ≡ Some e → e.parent ≡ Some p → p < k →
      (p ≡ i) ⊎ (is_under es p i p ≡ true) → is_under es k i k ≡ true
  under_step es i zero e p a n lt h = absurd (omega arith)
  under_step es i (suc k) e p a n lt h =
      above_from (is_under es k i) i p (parent_of (slice_get es (suc k))) (ap parent_of a ∙ n)
      (⊎_elim (λ d. inl d) (λ u. inr (under_le es k p i p (omega arith) u)) h)

  -- the entry whose parent hears of it
  held : (o : Option (Entry T)) (p : ℕ) → parent_of o ≡ Some p → (e : Entry T) × (o ≡ Some e) × (e.parent ≡ Some p)
  held None p h = absurd (cc)
  held (Some e) p h = (e, refl, h)

  pub rooted_parent : (es : List (Entry T)) → IsTree es → (k : ℕ) (e : Entry T) (p : ℕ) → slice_get es k ≡ Some e → e.parent ≡ Some p →
      Rooted es k (Some p) e.root
  rooted_parent es t k e p a n = rw n at (t.rooted k e a)

  pub under_own : (es : List (Entry T)) → IsTree es → (n i k : ℕ) → is_under es n i k ≡ true → is_under es k i k ≡ true
  under_own es t zero i k h = absurd (cc)
  under_own es t (suc n) i k h =
      let b = above_cases (is_under es n i) i (parent_of (slice_get es k)) h in
      let e = held (slice_get es k) b.parent b.is in
      let r = rooted_parent es t k e.0 b.parent e.1 e.2 in
      under_step es i k e.0 b.parent e.1 e.2 r.0 (⊎_elim (λ d. inl d) (λ u. inr (under_own es t n i b.parent u)) b.here)

  pub under_parent : (es : List (Entry T)) → IsTree es → (i c : ℕ) (e : Entry T) (q : ℕ) → slice_get es c ≡ Some e → e.parent ≡ Some q →
      is_under es c i c ≡ true → (q ≡ i) ⊎ (is_under es q i q ≡ true)
  under_parent es t i zero e q a n u = absurd (cc)
  under_parent es t i (suc m) e q a n u =
      let b = above_cases (is_under es m i) i (parent_of (slice_get es (suc m))) u in
      let same : b.parent ≡ q = let s1 : Some b.parent ≡ Some q = sym b.is ∙ (ap parent_of a ∙ n) in cc in
      subst (λ z. (z ≡ i) ⊎ (is_under es z i z ≡ true)) same (⊎_elim (λ d. inl d) (λ k. inr (under_own es t m i b.parent k)) b.here)

  -- what is under i has its root
  pub under_root : (es : List (Entry T)) → IsTree es → (n i k : ℕ) (own e : Entry T) → slice_get es i ≡ Some own → slice_get es k ≡ Some e →
      is_under es n i k ≡ true → e.root ≡ own.root
  under_root es t zero i k own e at a h = absurd (cc)
  under_root es t (suc n) i k own e at a h =
      let b = above_cases (is_under es n i) i (parent_of (slice_get es k)) h in
      let n' : e.parent ≡ Some b.parent = sym (ap parent_of a) ∙ b.is in
      let r = rooted_parent es t k e b.parent a n' in
      sym r.3 ∙ ⊎_elim (λ d. ap (λ (x : Entry T). x.root) (one_at es i b.parent own r.1 at r.2 d))
      (λ u. under_root es t n i b.parent own r.1 at r.2 u) b.here

  -- i itself is not under i
  pub under_below : (es : List (Entry T)) → IsTree es → (n i k : ℕ) → is_under es n i k ≡ true → i < k
  under_below es t zero i k h = absurd (cc)
  under_below es t (suc n) i k h =
      let b = above_cases (is_under es n i) i (parent_of (slice_get es k)) h in
      let e = held (slice_get es k) b.parent b.is in
      let r = rooted_parent es t k e.0 b.parent e.1 e.2 in
      ⊎_elim (λ d. omega (arith, d, r.0)) (λ u. omega (arith, under_below es t n i b.parent u, r.0)) b.here

  close_frame : (es : List (Entry T)) (own : Entry T) (i s : ℕ) (p : T) (stamp k : ℕ) (e : Entry T) →
      SameFrame e (close_at es own i s p stamp k e)
  close_frame es own i s p stamp k e = cond_eq (SameFrame e) k i _ _ (λ _. record { parent = refl; root = refl; grant = refl })
      (λ _. cond_both (is_lost es i k e) _ _ (SameFrame e) (λ _. record { parent = refl; root = refl; grant = refl })
      (λ _. cond_both (is_place own.parent k) _ e (SameFrame e) (λ _. record { parent = refl; root = refl; grant = refl })
      (λ _. record { parent = refl; root = refl; grant = refl })))

  -- What an entry becomes, by cases
  pub close_cases : (P : Entry T → Type 0) (es : List (Entry T)) (own : Entry T) (i s : ℕ) (p : T) (stamp k : ℕ) (e : Entry T)
      → (k ≡ i → P (given Closed (cond (is_none own.parent) (purse es own i s) 0) s p e))
      → ((k ≡ i → ⊥) → is_lost es i k e ≡ true → P (record e { status = Dropped stamp; left = 0 }))
      → ((k ≡ i → ⊥) → is_lost es i k e ≡ false → is_place own.parent k ≡ true → P (paid (purse es own i s) e))
      → ((k ≡ i → ⊥) → is_lost es i k e ≡ false → is_place own.parent k ≡ false → P e)
      → P (close_at es own i s p stamp k e)
  close_cases P es own i s p stamp k e c l u o = cond_eq P k i _ _ c
      (λ d. cond_both (is_lost es i k e) _ _ P (l d) (λ f. cond_both (is_place own.parent k) _ e P (u d f) (o d f)))

  module _ (es : List (Entry T)) (own : Entry T) (i : ℕ) (at : slice_get es i ≡ Some own) (runs : own.status ≡ Running) (s : ℕ) (p : T)
      (stamp : ℕ) where
    -- an open child of i or of what is lost is lost
    lost_step : IsTree es → (k : ℕ) (e : Entry T) (q : ℕ) (x : Entry T) → slice_get es k ≡ Some e → slice_get es q ≡ Some x →
        e.parent ≡ Some q → is_open e.status ≡ true → (q ≡ i) ⊎ (is_lost es i q x ≡ true) → is_lost es i k e ≡ true
    lost_step t k e q x a b n o h =
        let r = rooted_parent es t k e q a n in
        and_from (is_open e.status) (is_under es k i k) o
        (under_step es i k e q a n r.0 (⊎_elim (λ d. inl d) (λ l. inr (and_parts (is_open x.status) (is_under es q i q) l).1) h))

    -- a parent that stays, of what stays and is open, is open still
    open_stays : IsTree es → (k : ℕ) (e : Entry T) (q : ℕ) (x : Entry T) → slice_get es k ≡ Some e → slice_get es q ≡ Some x →
        e.parent ≡ Some q → is_open e.status ≡ true → is_lost es i k e ≡ false → is_open x.status ≡ true →
        is_open (close_at es own i s p stamp q x).status ≡ true
    open_stays t k e q x a b n o kept ox = close_cases (λ (y : Entry T). is_open y.status ≡ true) es own i s p stamp q x
        (λ d. absurd (both_ways (is_lost es i k e) kept (lost_step t k e q x a b n o (inl d))))
        (λ d l. absurd (both_ways (is_lost es i k e) kept (lost_step t k e q x a b n o (inr l))))
        (λ _ _ _. open_fed (x.left + purse es own i s) (woken x.status) ∙ (open_woken x.status ∙ ox))
        (λ _ _ _. ox)

    above_stays : IsTree es → IsShut es → (k : ℕ) (e : Entry T) → slice_get es k ≡ Some e → is_open e.status ≡ true → is_lost es i k e
        ≡ false → (o : Option ℕ) → e.parent ≡ o → OpenAbove (after_close es own i s p stamp) o
    above_stays t h k e a o kept None n = tt
    above_stays t h k e a o kept (Some q) n = λ y b.
        let r = from_changed (close_at es own i s p stamp) es q y b in
        let up : OpenAbove es (Some q) = subst (OpenAbove es) n (h.above k e a o) in
        subst (λ (z : Entry T). is_open z.status ≡ true) (sym r.2) (open_stays t k e q r.0 a r.1 n o kept (up r.0 r.1))

    -- what is open after the close was open, and is not lost
    was_open : (k : ℕ) (e : Entry T) → is_open (close_at es own i s p stamp k e).status ≡ true → (is_open e.status ≡ true)
        × (is_lost es i k e ≡ false)
    was_open k e = close_cases (λ (y : Entry T). is_open y.status ≡ true → (is_open e.status ≡ true) × (is_lost es i k e ≡ false)) es own i
        s p stamp k e
        (λ _ o. absurd (cc))
        (λ _ _ o. absurd (cc))
        (λ _ l _ o. (sym (open_fed (e.left + purse es own i s) (woken e.status) ∙ open_woken e.status) ∙ o, l))
        (λ _ l _ o. (o, l))

    close_shut : IsTree es → IsShut es → IsShut (after_close es own i s p stamp)
    close_shut t h = record {
      above = λ k y a o.
          let r = from_changed (close_at es own i s p stamp) es k y a in
          let w = was_open k r.0 (subst (λ (z : Entry T). is_open z.status ≡ true) r.2 o) in
          let n : y.parent ≡ r.0.parent = ap (λ (z : Entry T). z.parent) r.2 ∙ (close_frame es own i s p stamp k r.0).parent in
          subst (OpenAbove (after_close es own i s p stamp)) (sym n) (above_stays t h k r.0 r.1 w.0 w.1 r.0.parent refl);
    }

    -- what leans after the close leaned before it, and is neither i, nor lost, nor the parent of i
    still_leans : (k : ℕ) (e : Entry T) → let y = close_at es own i s p stamp k e in leans y.status y.waiting y.stirred ≡ true →
        (leans e.status e.waiting e.stirred ≡ true) × (k ≡ i → ⊥) × (is_lost es i k e ≡ false) × (is_place own.parent k ≡ false)
    still_leans k e = close_cases (λ (y : Entry T). leans y.status y.waiting y.stirred ≡ true → (leans e.status e.waiting e.stirred ≡ true)
        × (k ≡ i → ⊥) × (is_lost es i k e ≡ false) × (is_place own.parent k ≡ false)) es own i s p stamp k e
        (λ _ l. absurd (cc))
        (λ _ _ l. absurd (cc))
        (λ _ _ _ l. absurd (both_ways (leans (fed (e.left + purse es own i s) (woken e.status)) e.waiting true)
        (leans_paid (e.left + purse es own i s) e.status e.waiting) l))
        (λ d l u h. (h, d, l, u))

    lives : IsTree es → (c q : ℕ) (e x : Entry T) → slice_get es c ≡ Some e → slice_get es q ≡ Some x → e.parent ≡ Some q → is_live e.status
        ≡ true → let y = close_at es own i s p stamp q x in leans y.status y.waiting y.stirred ≡ true →
        is_live (close_at es own i s p stamp c e).status ≡ true
    lives t c q e x a b n live l =
        let w = still_leans q x l in
        close_cases (λ (y : Entry T). is_live y.status ≡ true) es own i s p stamp c e
        (λ d. let n' : own.parent ≡ Some q = ap (λ (y : Entry T). y.parent) (sym (one_at es i c own e at a d)) ∙ n in
        absurd (both_ways (is_place own.parent q) w.3 (is_place_at own.parent q n')))
        (λ d lost.
        let r = rooted_parent es t c e q a n in
        let u = (and_parts (is_open e.status) (is_under es c i c) lost).1 in
        absurd (⊎_elim (λ k. w.1 k)
        (λ k. both_ways (is_lost es i q x) w.2 (and_from (is_open x.status) (is_under es q i q)
        (leans_open x.status x.waiting x.stirred w.0)
        k))
        (under_parent es t i c e q a n u)))
        (λ _ _ _. live_fed (e.left + purse es own i s) (woken e.status) (live_woken e.status live))
        (λ _ _ _. live)

    close_leaning : IsTree es → IsLeaning es → IsLeaning (after_close es own i s p stamp)
    close_leaning t h = lean_changed es (close_at es own i s p stamp) (close_frame es own i s p stamp)
        (λ k e a l. h.leaning k e a (still_leans k e l).0) (lives t)

    -- the parent of i is open
    pub parent_open : IsShut es → (q : ℕ) (x : Entry T) → slice_get es q ≡ Some x → is_place own.parent q ≡ true → is_open x.status ≡ true
    parent_open h q x b u =
        let o : OpenAbove es (Some q) = subst (OpenAbove es) (place_is own.parent q u) (h.above i own at (rw runs refl)) in
        o x b

    -- what ended before the close stays so
    close_ends : IsShut es → (n k : ℕ) (e : Entry T) → slice_get es k ≡ Some e → Ended n e.status →
        Ended n (close_at es own i s p stamp k e).status
    close_ends h n k e a d = close_cases (λ (y : Entry T). Ended n y.status) es own i s p stamp k e
        (λ _. tt)
        (λ _ l. absurd (ended_shut n e.status (and_parts (is_open e.status) (is_under es k i k) l).0 d))
        (λ _ _ u. absurd (ended_shut n e.status (parent_open h k e a u) d))
        (λ _ _ _. d)

    -- the parent of what is lost has ended after the close
    lost_above : IsTree es → IsShut es → (k : ℕ) (e : Entry T) → slice_get es k ≡ Some e → is_lost es i k e ≡ true → (o : Option ℕ) →
        e.parent ≡ o → EndedAbove (after_close es own i s p stamp) stamp o
    lost_above t h k e a l None m =
        let u = (and_parts (is_open e.status) (is_under es k i k) l).1 in
        absurd (under_none k u (ap parent_of a ∙ m))
      where
        under_none : (k : ℕ) → is_under es k i k ≡ true → parent_of (slice_get es k) ≡ None → ⊥
        under_none zero u z = absurd (cc)
        under_none (suc m) u z = let w : is_above (is_under es m i) i None ≡ true = rw z at u in absurd (cc)
    lost_above t h k e a l (Some q) m = λ y b.
        let parts = and_parts (is_open e.status) (is_under es k i k) l in
        let r = from_changed (close_at es own i s p stamp) es q y b in
        let up = under_parent es t i k e q a m parts.1 in
        let above : OpenAbove es (Some q) = subst (OpenAbove es) m (h.above k e a parts.0) in
        let x : Entry T = r.0 in
        let lost : (q ≡ i → ⊥) → is_lost es i q x ≡ true = λ d.
        ⊎_elim (λ z. absurd (d z)) (λ z. and_from (is_open x.status) (is_under es q i q) (above x r.1) z) up in
        subst (λ (z : Entry T). Ended stamp z.status) (sym r.2) (close_cases (λ (z : Entry T). Ended stamp z.status) es own i s p stamp q x
        (λ _. tt)
        (λ _ _. refl)
        (λ d f _. absurd (both_ways (is_lost es i q x) f (lost d)))
        (λ d f _. absurd (both_ways (is_lost es i q x) f (lost d))))

    close_ended : IsTree es → IsShut es → HasEnded es → HasEnded (after_close es own i s p stamp)
    close_ended t h d = ended_each es (close_at es own i s p stamp) (close_frame es own i s p stamp) (λ k e n a.
        close_cases (λ (y : Entry T). y.status ≡ Dropped n → EndedAbove (after_close es own i s p stamp) n e.parent) es own i s p stamp k e
        (λ _ z. absurd (cc))
        (λ _ l z. let same : stamp ≡ n = let w : Dropped stamp ≡ Dropped n = z in cc in
        subst (λ m. EndedAbove (after_close es own i s p stamp) m e.parent) same (lost_above t h k e a l e.parent refl))
        (λ _ _ u z. absurd (dropped_shut n e.status (parent_open h k e a u)
        (woken_dropped n e.status (fed_dropped n (e.left + purse es own i s) (woken e.status) z))))
        (λ _ _ _ z. above_changed es (close_at es own i s p stamp) (close_frame es own i s p stamp) n (close_ends h n) e.parent
        (d.ended k e n a z)))

    close_fine : IsShut es → AreFine es → AreFine (after_close es own i s p stamp)
    close_fine h = fine_changed es (close_at es own i s p stamp) (close_frame es own i s p stamp) (λ k e a fine.
        close_cases IsFine es own i s p stamp k e
        (λ d. record {
          holds = λ r. let z : is_none own.parent ≡ false = ap (λ (y : Entry T). is_none y.parent)
              (sym (one_at es i k own e at a d)) ∙ r in rw z refl;
          held = refl;
        })
        (λ _ _. record { holds = refl; held = tt })
        (λ _ _ u. record {
          holds = holds_fed (woken e.status) e.left e.lent (purse es own i s) (is_none e.parent)
              (λ z. absurd (both_ways (is_open (woken e.status)) z (open_woken e.status ∙ parent_open h k e a u)))
              (holds_woken e.status e.left e.lent (is_none e.parent) fine.holds);
          held = held_fed (e.left + purse es own i s) (woken e.status) (is_none e.payload)
              (held_woken e.status (is_none e.payload) fine.held);
        })
        (λ _ _ _. fine))

    pub not_itself : IsTree es → (e : Entry T) → is_lost es i i e ≡ false
    not_itself t e = false_from_ne_true (is_lost es i i e) (λ l. let lt : i < i = under_below es t i i i
        (and_parts (is_open e.status) (is_under es i i i) l).1 in omega arith)

    -- in another tree nothing changes
    elsewhere : IsTree es → (sel : ℕ → Bool) → sel own.root ≡ false → (k : ℕ) (e : Entry T) → slice_get es k ≡ Some e →
        worth sel k (close_at es own i s p stamp k e) ≡ worth sel k e
    elsewhere t sel no' k e a =
        let zero_at : (l m : ℕ) → e.root ≡ own.root → cond (sel e.root) l 0 ≡ cond (sel e.root) m 0 = λ l m d. rw (d, no') refl in
        close_cases (λ (y : Entry T). worth sel k y ≡ worth sel k e) es own i s p stamp k e
        (λ d. zero_at _ _ (ap (λ (y : Entry T). y.root) (one_at es i k own e at a d)))
        (λ d l. zero_at _ _ (under_root es t k i k own e at a (and_parts (is_open e.status) (is_under es k i k) l).1))
        (λ d l u. zero_at _ _ (parent_root t k e a u))
        (λ _ _ _. refl)
      where
        parent_root : IsTree es → (k : ℕ) (e : Entry T) → slice_get es k ≡ Some e → is_place own.parent k ≡ true → e.root ≡ own.root
        parent_root t k e a u =
            let r = rooted_parent es t i own k at (place_is own.parent k u) in
            ap (λ (y : Entry T). y.root) (one_at es k k r.1 e r.2 a refl) ∙ r.3

    target_le : IsTree es → (o : Option ℕ) → own.parent ≡ o → target i o ≤ i
    target_le t None n = omega arith
    target_le t (Some q) n = let r = rooted_parent es t i own q at n in omega (arith, r.0)

    not_target : (o : Option ℕ) → own.parent ≡ o → (k : ℕ) → (k ≡ i → ⊥) → is_place own.parent k ≡ false → k ≡ target i o → ⊥
    not_target None n k d u x = d x
    not_target (Some q) n k d u x = both_ways (is_place own.parent k) u (is_place_at own.parent k (n ∙ ap Some (sym x)))

    -- what the entry of i keeps
    own_keeps : IsTree es → s ≤ own.left → (o : Option ℕ) → own.parent ≡ o →
        (cond (is_none own.parent) (purse es own i s) 0 + (own.spent + s))
        + ((own.left - s) + 0) ≡ (own.left + own.spent) + cond (i == target i o) (purse es own i s) 0
    own_keeps t le None n = rw (n, eq-eqb i i refl) (omega arith)
    own_keeps t le (Some q) n =
        let r = rooted_parent es t i own q at n in
        rw (n, ne_eqb i q (λ x. omega (arith, r.0, x))) (omega arith)

    own_case : (sel : ℕ → Bool) → sel own.root ≡ true → IsTree es → s ≤ own.left → (o : Option ℕ) → own.parent ≡ o → (k : ℕ) (e : Entry T) →
        slice_get es k ≡ Some e → k ≡ i
        → worth sel k (given Closed (cond (is_none own.parent) (purse es own i s) 0) s p e)
        + (cond (k == i) (own.left - s) 0 + lost_left es i k e) ≡ worth sel k e + cond (k == target i o) (purse es own i s) 0
    own_case sel yes' t le o n k e a d =
        let same : e ≡ own = one_at es i k own e at a d in
        let none : is_lost es i i own ≡ false = not_itself t own in
        rw (same, d, yes', eq-eqb i i refl, none) (own_keeps t le o n)

    -- in the tree of i, all that is left goes to one entry
    within_at : (sel : ℕ → Bool) → sel own.root ≡ true → IsTree es → s ≤ own.left → (o : Option ℕ) → own.parent ≡ o →
        (k : ℕ) (e : Entry T) →
        slice_get es k ≡ Some e
        → worth sel k (close_at es own i s p stamp k e) + (cond (k == i) (own.left - s) 0 + lost_left es i k e) ≡ worth sel k e
        + cond (k == target i o) (purse es own i s) 0
    within_at sel yes' t le o n k e a = close_cases (λ (y : Entry T). worth sel k y + (cond (k == i) (own.left - s) 0 + lost_left es i k e)
        ≡ worth sel k e + cond (k == target i o) (purse es own i s) 0) es own i s p stamp k e
        (λ d. own_case sel yes' t le o n k e a d)
        (λ d l. let u = (and_parts (is_open e.status) (is_under es k i k) l).1 in
        let root : e.root ≡ own.root = under_root es t k i k own e at a u in
        let lt : i < k = under_below es t k i k u in
        let off : (k == target i o) ≡ false = ne_eqb k (target i o) (λ x. omega (arith, target_le t o n, x, lt)) in
        rw (root, yes', ne_eqb k i d, l, off) (omega arith))
        (λ d l u. let q : own.parent ≡ Some k = place_is own.parent k u in
        let r = rooted_parent es t i own k at q in
        let root : e.root ≡ own.root = ap (λ (y : Entry T). y.root) (one_at es k k r.1 e r.2 a refl) ∙ r.3 in
        let on : target i o ≡ k = ap (target i) (sym n ∙ q) in
        rw (root, yes', ne_eqb k i d, l, on, eq-eqb k k refl) (omega arith))
        (λ d l u. let off : (k == target i o) ≡ false = ne_eqb k (target i o) (λ x. not_target o n k d u x) in
        rw (ne_eqb k i d, l, off) (omega arith))

    target_at : IsTree es → (o : Option ℕ) → own.parent ≡ o → (x : Entry T) × (slice_get es (target i o) ≡ Some x)
    target_at t None n = (own, at)
    target_at t (Some q) n = let r = rooted_parent es t i own q at n in (r.1, r.2)

    close_sum : IsTree es → s ≤ own.left → (sel : ℕ → Bool) → tally (worth sel) (after_close es own i s p stamp) ≡ tally (worth sel) es
    close_sum t le sel = tally_changed (worth sel) (close_at es own i s p stamp) 0 es ∙ ⊎_elim (λ d. here sel d)
        (λ d. tally_same _ _ es (elsewhere t sel d)) (cases_Bool (sel own.root))
      where
        here : (sel : ℕ → Bool) → sel own.root ≡ true → tally (λ k e. worth sel k (close_at es own i s p stamp k e)) es ≡ tally (worth sel)
            es
        here sel d =
            let x = target_at t own.parent refl in
            omega (
              arith,
              tally_same _ _ es (within_at sel d t le own.parent refl),
              tally_plus (λ k e. worth sel k (close_at es own i s p stamp k e)) (λ k e. cond (k == i) (own.left - s) 0 + lost_left es i k e)
                  0 es,
              tally_plus (λ k e. cond (k == i) (own.left - s) 0) (lost_left es i) 0 es,
              tally_plus (worth sel) (λ k e. cond (k == target i own.parent) (purse es own i s) 0) 0 es,
              tally_one (own.left - s) i es own at,
              tally_one (purse es own i s) (target i own.parent) es x.0 x.1,
            )

    pub close_kept : s ≤ own.lent → IsKept es → IsKept (after_close es own i s p stamp)
    close_kept le h =
        let le2 : own.lent ≤ own.left = rw runs at ((h.each.fine i own at).holds) in
        record {
          tree = tree_changed es _ (close_frame es own i s p stamp) h.tree;
          shut = close_shut h.tree h.shut;
          leaning = close_leaning h.tree h.leaning;
          granted = granted_same es _ (roots_changed es _ (close_frame es own i s p stamp)) (close_sum h.tree (omega arith)) h.granted;
          each = close_fine h.shut h.each;
          ended = close_ended h.tree h.shut h.ended;
        }

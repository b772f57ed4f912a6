-- The code of a close, part by part.
use Rattle.std.proofs.Common.{◌≡◌, ℕ, ◌+◌, ◌^◌, ◌<◌, ◌≤◌, List, false, cond, Option, Some, None, refl, sym, ap, ◌∙◌, arith}
use Rattle.std.specs.Prelude.{slice_get, get_or, ◌==◌}
use Rattle.std.proofs.lemmas.Bool.{and_parts, both_ways, eq-eqb, ne_eqb, false_from_ne_true}
use Rattle.std.proofs.lemmas.Option.{get_or_from_slice_get}
use Rattle.query_tree.specs.declared.Status.TheVariants.{Running, Closed}
use Rattle.query_tree.specs.declared.Entry.{Entry}
use Rattle.query_tree.specs.Forest.{changed, tally, is_open, is_place, is_none, given, paid, purse, is_under, is_lost, lost_left, dropped_at, close_at, after_close}
use Rattle.query_tree.specs.Kept.{IsKept}
use Rattle.query_tree.proofs.Lists.{to_changed, changed_changed, changed_same}
use Rattle.query_tree.proofs.Tests.{cond_eq, is_place_at, one_at}
use Rattle.query_tree.proofs.Close.{rooted_parent, under_below, close_cases, close_kept}
use Rattle.query_tree.proofs.Feed.{one_le}

module _ {T : Type 0} where
  module _ (es : List (Entry T)) (own : Entry T) (i : ℕ) (at : slice_get es i ≡ Some own) (runs : own.status ≡ Running) (s : ℕ) (p : T)
      (stamp : ℕ) (le : s ≤ own.lent) (h : IsKept es) where
    abbrev pub dropped : List (Entry T)
    dropped = changed (dropped_at es i stamp) es

    -- what stands at i or below is not dropped
    below_stays : (k : ℕ) (e : Entry T) → k ≤ i → slice_get es k ≡ Some e → dropped_at es i stamp k e ≡ e
    below_stays k e le a = rw (not_lost k e le) refl
      where
        not_lost : (k : ℕ) (e : Entry T) → k ≤ i → is_lost es i k e ≡ false
        not_lost k e le = false_from_ne_true (is_lost es i k e)
            (λ l. absurd (omega (arith, under_below es h.tree k i k (and_parts (is_open e.status) (is_under es k i k) l).1)))

    pub own_stays : slice_get dropped i ≡ Some own
    own_stays = to_changed (dropped_at es i stamp) es i own at ∙ ap Some (below_stays i own (omega arith) at)

    left_le : s ≤ own.left
    left_le = let l : own.lent ≤ own.left = rw runs at ((h.each.fine i own at).holds) in omega arith

    pub spent_fits : own.spent + s < 2 ^ 32
    spent_fits = omega (arith, one_le es i own at, h.granted.small own.root, left_le)

    pub left_fits : s ≤ own.left
    left_fits = left_le

    -- the entry that gets it shows that what a close gives fits
    pub root_fits : own.parent ≡ None → purse es own i s < 2 ^ 32
    root_fits n =
        let k = close_kept es own i at runs s p stamp le h in
        let x : Entry T = given Closed (cond (is_none own.parent) (purse es own i s) 0) s p own in
        let a : slice_get (after_close es own i s p stamp) i ≡ Some x = to_changed (close_at es own i s p stamp) es i own at
        ∙ rw (eq-eqb i i refl) refl in
        let e : x.left ≡ purse es own i s = rw n refl in
        omega (arith, one_le (after_close es own i s p stamp) i x a, k.granted.small x.root, e)

    pub paid_fits : (q : ℕ) (x : Entry T) → own.parent ≡ Some q → slice_get es q ≡ Some x → x.left + purse es own i s < 2 ^ 32
    paid_fits q x n b =
        let k = close_kept es own i at runs s p stamp le h in
        let r = rooted_parent es h.tree i own q at n in
        let y : Entry T = paid (purse es own i s) x in
        let is : close_at es own i s p stamp q x ≡ y = close_cases (λ (z : Entry T). z ≡ y) es own i s p stamp q x
        (λ d. absurd (omega (arith, d, r.0)))
        (λ _ l. absurd (omega (arith, r.0, under_below es h.tree q i q (and_parts (is_open x.status) (is_under es q i q) l).1)))
        (λ _ _ _. refl)
        (λ _ _ u. absurd (both_ways (is_place own.parent q) u (is_place_at own.parent q n))) in
        let a : slice_get (after_close es own i s p stamp) q ≡ Some y = to_changed (close_at es own i s p stamp) es q x b ∙ ap Some is in
        omega (arith, one_le (after_close es own i s p stamp) q y a, k.granted.small y.root)

    pub purse_fits : (o : Option ℕ) → own.parent ≡ o → purse es own i s < 2 ^ 32
    purse_fits None n = root_fits n
    purse_fits (Some q) n = let r = rooted_parent es h.tree i own q at n in omega (arith, paid_fits q r.1 n r.2)

    pub closes_root : own.parent ≡ None → changed (λ k e. cond (k == i) (given Closed (purse es own i s) s p e) e) dropped ≡ after_close es
        own i s p stamp
    closes_root n =
        changed_changed (dropped_at es i stamp) (λ k e. cond (k == i) (given Closed (purse es own i s) s p e) e) 0 es
        ∙ changed_same _ (close_at es own i s p stamp) es (λ k e a. cond_eq (λ (y : Entry T). y ≡ close_at es own i s p stamp k e) k i _ _
        (λ d. rw (eq-eqb k i d, n, one_at es i k own e at a d, d, below_stays i own (omega arith) at) refl)
        (λ d. rw (ne_eqb k i d, n) refl))

    pub closes_child : (q : ℕ) → own.parent ≡ Some q → changed (λ k e. cond (k == q) (paid (purse es own i s) e) e)
        (changed (λ k e. cond (k == i) (given Closed 0 s p e) e) dropped) ≡ after_close es own i s p stamp
    closes_child q n =
        let r = rooted_parent es h.tree i own q at n in
        ap (changed (λ k e. cond (k == q) (paid (purse es own i s) e) e)) (changed_changed (dropped_at es i stamp)
        (λ k e. cond (k == i) (given Closed 0 s p e) e) 0 es)
        ∙ (changed_changed (λ k e. cond (k == i) (given Closed 0 s p (dropped_at es i stamp k e))
        (dropped_at es i stamp k e)) (λ k e. cond (k == q) (paid (purse es own i s) e) e) 0 es
        ∙ changed_same _ (close_at es own i s p stamp) es (λ k e a. at_each q n r.0 k e a))
      where
        paid_here : (q : ℕ) → own.parent ≡ Some q → q < i → (k : ℕ) (e : Entry T) → slice_get es k ≡ Some e → k ≡ q →
            close_at es own i s p stamp k e ≡ paid (purse es own i s) e
        paid_here q n lt k e a d = close_cases (λ (z : Entry T). z ≡ paid (purse es own i s) e) es own i s p stamp k e
            (λ x. absurd (omega (arith, d, x, lt)))
            (λ _ l. absurd (omega (arith, d, lt, under_below es h.tree k i k (and_parts (is_open e.status) (is_under es k i k) l).1)))
            (λ _ _ _. refl)
            (λ _ _ u. absurd (both_ways (is_place own.parent k) u (is_place_at own.parent k (n ∙ ap Some (sym d)))))

        at_each : (q : ℕ) → own.parent ≡ Some q → q < i → (k : ℕ) (e : Entry T) → slice_get es k ≡ Some e
            → cond (k == q) (paid (purse es own i s) (cond (k == i) (given Closed 0 s p (dropped_at es i stamp k e))
            (dropped_at es i stamp k e))) (cond (k == i) (given Closed 0 s p (dropped_at es i stamp k e))
            (dropped_at es i stamp k e)) ≡ close_at es own i s p stamp k e
        at_each q n lt k e a = cond_eq (λ (y : Entry T). y ≡ close_at es own i s p stamp k e) k q _ _
            (λ d. ap (paid (purse es own i s)) (cond_eq (λ (y : Entry T). y ≡ e) k i _ _ (λ x. absurd (omega (arith, x, d, lt)))
            (λ _. below_stays k e (omega (arith, d, lt)) a)) ∙ sym (paid_here q n lt k e a d))
            (λ d. cond_eq (λ (y : Entry T). y ≡ close_at es own i s p stamp k e) k i _ _
            (λ x. rw (eq-eqb k i x, n, one_at es i k own e at a x, x, below_stays i own (omega arith) at) refl)
            (λ x. rw (ne_eqb k i x, n, ne_eqb k q d) refl))

    -- after the drops
    pub own_now : (fs : List (Entry T)) → fs ≡ dropped → (d : Entry T) → get_or fs i d ≡ own
    own_now fs is d = ap (λ xs. get_or xs i d) is ∙ get_or_from_slice_get dropped i own d own_stays

    pub own_only : (fs : List (Entry T)) → fs ≡ dropped → (x : Entry T) → slice_get fs i ≡ Some x → x ≡ own
    own_only fs is x a = one_at dropped i i own x own_stays (sym (ap (λ xs. slice_get xs i) is) ∙ a) refl

    pub lost_fits : tally (lost_left es i) es < 2 ^ 32
    lost_fits = omega (arith, purse_fits own.parent refl)

    -- the parent, after the job was put back
    pub parent_now : (q : ℕ) → own.parent ≡ Some q → (fs gs : List (Entry T)) → fs ≡ dropped →
        gs ≡ changed (λ k e. cond (k == i) (given Closed 0 s p e) e) fs → (x : Entry T) → slice_get gs q ≡ Some x →
        x.left + purse es own i s < 2 ^ 32
    parent_now q n fs gs is is2 x a =
        let r = rooted_parent es h.tree i own q at n in
        let f : ℕ → Entry T → Entry T = λ k e. cond (k == i) (given Closed 0 s p e) e in
        let b : slice_get dropped q ≡ Some r.1 = to_changed (dropped_at es i stamp) es q r.1 r.2
        ∙ ap Some (below_stays q r.1 (omega (arith, r.0)) r.2) in
        let c : slice_get (changed f dropped) q ≡ Some r.1 = to_changed f dropped q r.1 b ∙ rw (ne_eqb q i (λ d. omega (arith, d, r.0)))
        refl
        in
        let same : x ≡ r.1 = one_at (changed f dropped) q q r.1 x c (sym (ap (λ xs. slice_get xs q) (is2 ∙ ap (changed f) is)) ∙ a) refl in
        omega (arith, paid_fits q r.1 n r.2, ap (λ (y : Entry T). y.left) same)

    pub parent_below : (q : ℕ) → own.parent ≡ Some q → q < i
    parent_below q n = let r = rooted_parent es h.tree i own q at n in r.0

-- Entries and nodes stay paired, whatever event comes.
use Rattle.std.proofs.Common.{◌≡◌, ℕ, ◌+◌, ◌-◌, List, [], ◌∷◌, ◌++◌, Bool, true, false, Some, None, refl, sym, ap, ◌∙◌, subst, ⊎_elim, arith}
use Rattle.std.specs.Prelude.{slice_get, ◌&&◌, ◌↔◌}
use Rattle.std.proofs.lemmas.List.{length_push}
use Rattle.std.proofs.lemmas.Bool.{and_parts, cond_both}
use Rattle.query_tree.specs.declared.Entry.{Entry}
use Rattle.query_tree.specs.declared.Rest.{Rest}
use Rattle.query_tree.specs.declared.Status.{Status}
use Rattle.query_tree.specs.declared.Status.TheVariants.{Ready, Running, Blocked, Starved, Closed, Dropped}
use Rattle.query_tree.specs.Forest.{after_back, after_close, after_feed, after_take, changed, close_at, fed, fed_at, has_live_child, is_lost, is_none, is_open, is_place, is_starved, is_under, less_at, purse, rest_at, share, stir, take_at, woken, at_rest, back_as}
use Rattle.query_tree.proofs.Close.{close_cases}
use Rattle.query_tree.proofs.Lists.{from_changed, from_pushed, length_changed, within}
use Rattle.query_tree.proofs.Tests.{cond_eq, one_at, open_back, open_rest}
use Rattle.bolt_core.specs.declared.slot.ClosedAs.{ClosedAs}
use Rattle.bolt_core.specs.Groups.{Node, closed_at, is_member, leads}
use Rattle.bolt_core.specs.Keeps.{ArePaired}

pub closed_shut : (s : Status) → is_open s ≡ true → s ≡ Closed → ⊥
closed_shut s o h = let z : is_open Closed ≡ true = ap is_open (sym h) ∙ o in absurd (cc)

-- a status that is closed exactly where the other is
pub record StaysAs (s t : Status) : Type 0 where
  pub closed : t ≡ Closed → s ≡ Closed
  pub still : s ≡ Closed → t ≡ Closed

stays_same : (s : Status) → StaysAs s s
stays_same s = record { closed = λ h. h; still = λ h. h }

pub stays_open : (s t : Status) → is_open s ≡ true → is_open t ≡ true → StaysAs s t
stays_open s t o p = record {
  closed = λ h. absurd (closed_shut t p h);
  still = λ h. absurd (closed_shut s o h);
}

stays_woken : (s : Status) → StaysAs s (woken s)
stays_woken Ready = stays_same Ready
stays_woken Running = stays_same Running
stays_woken Blocked = stays_open Blocked Ready refl refl
stays_woken Starved = stays_same Starved
stays_woken Closed = stays_same Closed
stays_woken (Dropped n) = stays_same (Dropped n)

stays_fed : (m : ℕ) (s : Status) → StaysAs s (fed m s)
stays_fed m Ready = stays_same Ready
stays_fed m Running = stays_same Running
stays_fed m Blocked = stays_same Blocked
stays_fed m Starved = stays_open Starved (at_rest m) refl (open_rest m)
stays_fed m Closed = stays_same Closed
stays_fed m (Dropped n) = stays_same (Dropped n)

stays_both : (s t u : Status) → StaysAs s t → StaysAs t u → StaysAs s u
stays_both s t u h k = record {
  closed = λ e. h.closed (k.closed e);
  still = λ e. k.still (h.still e);
}

module _ {S : Type 0} where
  pub record StaysPaired (e f : Entry S) : Type 0 where
    pub parent : f.parent ≡ e.parent
    pub status : StaysAs e.status f.status

  unmoved : (e : Entry S) → StaysPaired e e
  unmoved e = record { parent = refl; status = stays_same e.status }

  module _ (es : List (Entry S)) (f : ℕ → Entry S → Entry S)
      (stays : (k : ℕ) (e : Entry S) → slice_get es k ≡ Some e → StaysPaired e (f k e)) where
    pub paired_changed : (ns : List Node) → ArePaired es ns → ArePaired (changed f es) ns
    paired_changed ns p = record {
      count = length_changed f 0 es ∙ p.count;
      parents = λ i y n a b. let r = from_changed f es i y a in
          ap (λ (z : Entry S). z.parent) r.2 ∙ ((stays i r.0 r.1).parent ∙ p.parents i r.0 n r.1 b);
      closed = λ i y n a b. let r = from_changed f es i y a in
          subst (λ (z : Entry S). (z.status ≡ Closed) ↔ (is_none n.closed ≡ false)) (sym r.2) (
            λ h. (p.closed i r.0 n r.1 b).0 ((stays i r.0 r.1).status.closed h),
            λ h. (stays i r.0 r.1).status.still ((p.closed i r.0 n r.1 b).1 h),
          );
    }

  -- Each call

  take_stays : (es : List (Entry S)) (i : ℕ) (waiting : Bool) (own : Entry S) → slice_get es i ≡ Some own → own.status ≡ Ready →
      (k : ℕ) (e : Entry S) → slice_get es k ≡ Some e → StaysPaired e (take_at i waiting k e)
  take_stays es i waiting own at ready k e a = cond_eq (StaysPaired e) k i _ e
      (λ d. record {
        parent = refl;
        status = stays_open e.status Running (rw (one_at es i k own e at a d, ready) refl) refl;
      })
      (λ _. unmoved e)

  rest_stays : (es : List (Entry S)) (i : ℕ) (own : Entry S) → slice_get es i ≡ Some own → own.status ≡ Running →
      (status : Status) → is_open status ≡ true → (left steps : ℕ) (p : S) → (k : ℕ) (e : Entry S) → slice_get es k ≡ Some e →
      StaysPaired e (rest_at own i status left steps p k e)
  rest_stays es i own at runs status opens left steps p k e a = cond_eq (StaysPaired e) k i _ _
      (λ d. record {
        parent = refl;
        status = stays_open e.status status (rw (one_at es i k own e at a d, runs) refl) opens;
      })
      (λ _. cond_both (is_place own.parent k && is_starved status) (stir e) e (StaysPaired e)
      (λ _. record { parent = refl; status = stays_woken e.status }) (λ _. unmoved e))

  fed_stays : (c n k : ℕ) (e : Entry S) → StaysPaired e (fed_at c n k e)
  fed_stays c n k e = cond_eq (StaysPaired e) k c _ e (λ _. record { parent = refl; status = stays_fed (e.left + n) e.status })
      (λ _. unmoved e)

  module _ (es : List (Entry S)) (ns : List Node) (p : ArePaired es ns) (i : ℕ) (own : Entry S) (at : slice_get es i ≡ Some own) where
    pub take_paired : own.status ≡ Ready → ArePaired (after_take es i) ns
    take_paired ready = paired_changed es (take_at i (has_live_child es i)) (take_stays es i (has_live_child es i) own at ready) ns p

    rest_paired : own.status ≡ Running → (status : Status) → is_open status ≡ true → (left steps : ℕ) (s : S) →
        ArePaired (changed (rest_at own i status left steps s) es) ns
    rest_paired runs status opens left steps s = paired_changed es (rest_at own i status left steps s)
        (rest_stays es i own at runs status opens left steps s) ns p

    pub back_paired : own.status ≡ Running → (steps : ℕ) (r : Rest) (s : S) → ArePaired (after_back es own i steps r s) ns
    back_paired runs steps r s = rest_paired runs (back_as r own.stirred (own.left - steps))
        (open_back r own.stirred (own.left - steps)) (own.left - steps) steps s

    pub less_paired : own.status ≡ Running → (steps : ℕ) (s : S) (n : ℕ) → ArePaired (changed (less_at own i steps s n) es) ns
    less_paired runs steps s n = rest_paired runs (at_rest ((own.left - steps) - n)) (open_rest ((own.left - steps) - n))
        ((own.left - steps) - n) steps s

    pub feed_paired : own.status ≡ Running → (steps : ℕ) (s : S) (c : ℕ) (child : Entry S) →
        ArePaired (after_feed es own i steps s c child) ns
    feed_paired runs steps s c child =
        let n : ℕ = share child (own.left - steps) in
        paired_changed (changed (less_at own i steps s n) es) (fed_at c n) (λ k e _. fed_stays c n k e) ns (less_paired runs steps s n)

  module _ (es : List (Entry S)) (ns : List Node) (x : Entry S) (m : Node) where
    pub paired_pushed : x.parent ≡ m.parent → is_open x.status ≡ true → m.closed ≡ None → ArePaired es ns →
        ArePaired (es ++ x ∷ []) (ns ++ m ∷ [])
    paired_pushed up opens none p = record {
      count = length_push es x ∙ (ap (λ n. n + 1) p.count ∙ sym (length_push ns m));
      parents = λ i e n a b. both (λ (e : Entry S) (n : Node). e.parent ≡ n.parent) i e n a b (p.parents i e n) up;
      closed = λ i e n a b. both (λ (e : Entry S) (n : Node). (e.status ≡ Closed) ↔ (is_none n.closed ≡ false)) i e n a b (p.closed i e n)
          (λ h. absurd (closed_shut x.status opens h), λ h. let z : true ≡ false = ap is_none (sym none) ∙ h in absurd (cc));
    }
      where
        both : (P : Entry S → Node → Type 0) (i : ℕ) (e : Entry S) (n : Node) → slice_get (es ++ x ∷ []) i ≡ Some e →
            slice_get (ns ++ m ∷ []) i ≡ Some n → (slice_get es i ≡ Some e → slice_get ns i ≡ Some n → P e n) → P x m → P e n
        both P i e n a b old new = ⊎_elim
            (λ c. ⊎_elim (λ d. old c d) (λ d. absurd (omega (arith, within es i e c, d.0, p.count))) (from_pushed ns m i n b))
            (λ c. ⊎_elim (λ d. absurd (omega (arith, within ns i n d, c.0, p.count)))
            (λ d. subst (λ (y : Entry S). P y n) (sym c.1) (subst (P x) (sym d.1) new)) (from_pushed ns m i n b))
            (from_pushed es x i e a)

  -- a Close
  module _ (es : List (Entry S)) (i : ℕ) (own : Entry S) (at : slice_get es i ≡ Some own) (runs : own.status ≡ Running)
      (steps : ℕ) (s : S) (stamp : ℕ) where
    lost_open : (k : ℕ) (e : Entry S) → is_lost es i k e ≡ true → is_open e.status ≡ true
    lost_open k e l = (and_parts (is_open e.status) (is_under es k i k) l).0

    own_open : (k : ℕ) (e : Entry S) → slice_get es k ≡ Some e → k ≡ i → is_open e.status ≡ true
    own_open k e a d = rw (one_at es i k own e at a d, runs) refl

    abbrev shut_at : ℕ → Entry S → Entry S
    shut_at = close_at es own i steps s stamp

    parent_kept : (k : ℕ) (e : Entry S) → (shut_at k e).parent ≡ e.parent
    parent_kept k e = close_cases (λ (y : Entry S). y.parent ≡ e.parent) es own i steps s stamp k e (λ _. refl) (λ _ _. refl)
        (λ _ _ _. refl) (λ _ _ _. refl)

    abbrev ClosedAlike : Entry S → Node → Type 0
    ClosedAlike e n = (e.status ≡ Closed) ↔ (is_none n.closed ≡ false)

    node_alike : (ns : List Node) (how : ClosedAs) (shown : Bool) (l k : ℕ) (e : Entry S) (n : Node) → (k ≡ i → ⊥) →
        ClosedAlike e n → ClosedAlike e (closed_at ns i how shown l k n)
    node_alike ns how shown l k e n ne h = cond_eq (ClosedAlike e) k i _ _ (λ d. absurd (ne d))
        (λ _. cond_both (leads how && is_member ns i l k) _ n (ClosedAlike e) (λ _. h) (λ _. h))

    alike : (ns : List Node) (how : ClosedAs) (shown : Bool) (l k : ℕ) (e : Entry S) (n : Node) → slice_get es k ≡ Some e →
        ClosedAlike e n → ClosedAlike (shut_at k e) (closed_at ns i how shown l k n)
    alike ns how shown l k e n a h = close_cases (λ (y : Entry S). ClosedAlike y (closed_at ns i how shown l k n)) es own i steps s stamp k
        e
        (λ d. (
          λ _. cond_eq (λ (y : Node). is_none y.closed ≡ false) k i _ _ (λ _. refl) (λ ne. absurd (ne d)),
          λ _. refl,
        ))
        (λ ne l2. let m = node_alike ns how shown l k e n ne h in (
          λ c. absurd (cc),
          λ c. absurd (closed_shut e.status (lost_open k e l2) (m.1 c)),
        ))
        (λ ne _ _. let m = node_alike ns how shown l k e n ne h in
        let b = stays_both e.status (woken e.status) _ (stays_woken e.status) (stays_fed (e.left + purse es own i steps) (woken e.status))
        in
        (λ c. m.0 (b.closed c), λ c. b.still (m.1 c)))
        (λ ne _ _. node_alike ns how shown l k e n ne h)

    node_parent : (ns : List Node) (how : ClosedAs) (shown : Bool) (l k : ℕ) (n : Node) →
        (closed_at ns i how shown l k n).parent ≡ n.parent
    node_parent ns how shown l k n = cond_eq (λ (y : Node). y.parent ≡ n.parent) k i _ _ (λ _. refl)
        (λ _. cond_both (leads how && is_member ns i l k) _ n (λ (y : Node). y.parent ≡ n.parent) (λ _. refl) (λ _. refl))

    pub close_paired : (ns : List Node) (how : ClosedAs) (shown : Bool) (l : ℕ) → ArePaired es ns →
        ArePaired (after_close es own i steps s stamp) (changed (closed_at ns i how shown l) ns)
    close_paired ns how shown l p = record {
      count = length_changed (shut_at) 0 es ∙ (p.count ∙ sym (length_changed (closed_at ns i how shown l) 0 ns));
      parents = λ k y m a b.
          let r = from_changed (shut_at) es k y a in
          let q = from_changed (closed_at ns i how shown l) ns k m b in
          ap (λ (z : Entry S). z.parent) r.2 ∙ (parent_kept k r.0 ∙ (p.parents k r.0 q.0 r.1 q.1
          ∙ (sym (node_parent ns how shown l k q.0) ∙ ap (λ (z : Node). z.parent) (sym q.2))));
      closed = λ k y m a b.
          let r = from_changed (shut_at) es k y a in
          let q = from_changed (closed_at ns i how shown l) ns k m b in
          subst (λ (z : Entry S). ClosedAlike z m) (sym r.2)
          (subst (ClosedAlike (shut_at k r.0)) (sym q.2) (alike ns how shown l k r.0 q.0 r.1 (p.closed k r.0 q.0 r.1 q.1)));
    }

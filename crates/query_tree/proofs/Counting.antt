-- The counts of live queries, as entries change and are added.
use Rattle.std.proofs.Common.{◌≡◌, ℕ, suc, ◌+◌, ◌-◌, ◌^◌, ◌<◌, ◌≤◌, List, [], ◌∷◌, ◌++◌, length, Bool, true, false, cond, Option, Some, None, refl, sym, ap, ◌∙◌, ⊎_elim, arith}
use Rattle.std.specs.Prelude.{slice_get, slice_set, get_or, ◌==◌, ◌&&◌, ◌||◌, nat_lt}
use Rattle.std.proofs.lemmas.Bool.{cond_both, cases_eq, eq-eqb, ne_eqb, lt-ltb, and_right, false_from_ne_true}
use Rattle.std.proofs.lemmas.List.{length_push}
use Rattle.query_tree.specs.declared.Status.{Status}
use Rattle.query_tree.specs.declared.Status.TheVariants.{Ready, Running, Blocked, Starved, Closed, Dropped}
use Rattle.query_tree.specs.declared.Entry.{Entry}
use Rattle.query_tree.specs.Forest.{changed, tally_from, tally, any, is_live, is_starved, is_place, is_live_child, is_live_entry, has_live_child, has_live, woken, stir, rest_at, take_at}
use Rattle.query_tree.specs.Live.{Counted, one, moved, moved_at, settled, grown, MayMove, MaySettle, of_any, of_one, counted, Counts}
use Rattle.query_tree.proofs.Lists.{from_changed, from_pushed, length_changed, within, tally_changed, tally_plus, tally_same, tally_le, tally_zero, tally_one, tally_pushed, set_changed, unchanged, at_place, present}
use Rattle.query_tree.proofs.Tests.{cond_eq, place_is, is_place_at, one_at}

-- Sums

-- one place alone changes what is counted
pub tally_swap : {X : Type 0} (f : ℕ → X → ℕ) (g : ℕ → X → X) (i : ℕ) (xs : List X) (x : X) → slice_get xs i ≡ Some x →
    ((j : ℕ) (y : X) → slice_get xs j ≡ Some y → (j ≡ i → ⊥) → f j (g j y) ≡ f j y) →
    tally f (changed g xs) + f i x ≡ tally f xs + f i (g i x)
tally_swap f g i xs x at others =
    let was : ℕ = f i x in
    let now : ℕ = f i (g i x) in
    let e : tally (λ j y. f j (g j y) + cond (j == i) was 0) xs ≡ tally (λ j y. f j y + cond (j == i) now 0) xs =
    tally_same _ _ xs (λ j y a. ⊎_elim
    (λ d. rw (one_at xs i j x y at a d, d, eq-eqb i i refl) (omega arith))
    (λ d. rw (ne_eqb j i d) (omega (arith, others j y a d)))
    (cases_eq j i)) in
    omega (
      arith,
      e,
      tally_changed f g 0 xs,
      tally_plus (λ j y. f j (g j y)) (λ j y. cond (j == i) was 0) 0 xs,
      tally_plus f (λ j y. cond (j == i) now 0) 0 xs,
      tally_one was i xs x at,
      tally_one now i xs x at,
    )

pub tally_has : {X : Type 0} (f : ℕ → X → ℕ) (i : ℕ) (xs : List X) (x : X) → slice_get xs i ≡ Some x → f i x ≤ tally f xs
tally_has f i xs x at = omega (
  arith,
  tally_one (f i x) i xs x at,
  tally_le (λ j y. cond (j == i) (f i x) 0) f xs (λ j y b. cond_eq (λ (m : ℕ). m ≤ f j y) j i (f i x) 0
      (λ d. rw (one_at xs i j x y at b d, d) (omega arith))
      (λ _. omega arith)),
)

one_most : (b : Bool) → one b ≤ 1
one_most true = omega arith
one_most false = omega arith

tally_most_from : {X : Type 0} (p : ℕ → X → Bool) (k : ℕ) (xs : List X) → tally_from k (λ j x. one (p j x)) xs ≤ length xs
tally_most_from p k [] = omega arith
tally_most_from p k (x ∷ xs) = omega (arith, one_most (p k x), tally_most_from p (suc k) xs)

pub tally_most : {X : Type 0} (p : ℕ → X → Bool) (xs : List X) → tally (λ j x. one (p j x)) xs ≤ length xs
tally_most p xs = tally_most_from p 0 xs

any_more : (b c : Bool) (n : ℕ) → nat_lt 0 n ≡ c → nat_lt 0 (one b + n) ≡ (b || c)
any_more true c n h = lt-ltb 0 (1 + n) (omega arith)
any_more false c n h = let e : 0 + n ≡ n = omega arith in rw e h

any_from : {X : Type 0} (p : X → Bool) (k : ℕ) (xs : List X) → nat_lt 0 (tally_from k (λ j x. one (p x)) xs) ≡ any p xs
any_from p k [] = refl
any_from p k (x ∷ xs) = any_more (p x) (any p xs) (tally_from (suc k) (λ j y. one (p y)) xs) (any_from p (suc k) xs)

-- Counts

moved_by : (b was now : Bool) (n : ℕ) → cond b (moved was now n) n ≡ (n - one (b && was)) + one (b && now)
moved_by true was now n = refl
moved_by false was now n = omega arith

pub live_woken_same : (s : Status) → is_live (woken s) ≡ is_live s
live_woken_same Ready = refl
live_woken_same Running = refl
live_woken_same Blocked = refl
live_woken_same Starved = refl
live_woken_same Closed = refl
live_woken_same (Dropped n) = refl

module _ {T : Type 0} where
  -- a change in which one query alone may become live or cease to be
  pub record Moves (es : List (Entry T)) (g : ℕ → Entry T → Entry T) (i : ℕ) (o : Option ℕ) (was now : Bool) : Type 0 where
    pub own : Entry T
    pub at : slice_get es i ≡ Some own
    pub frame : (k : ℕ) (e : Entry T) → (g k e).parent ≡ e.parent
    pub others : (k : ℕ) (e : Entry T) → (k ≡ i → ⊥) → is_live (g k e).status ≡ is_live e.status
    pub parent : own.parent ≡ o
    pub before : is_live own.status ≡ was
    pub after : is_live (g i own).status ≡ now

  pub write_moves : (es : List (Entry T)) (h : Entry T → Entry T) (i : ℕ) (own : Entry T) → slice_get es i ≡ Some own →
      ((e : Entry T) → (h e).parent ≡ e.parent) →
      Moves es (λ k e. cond (k == i) (h e) e) i own.parent (is_live own.status) (is_live (h own).status)
  write_moves es h i own at same = record {
    own = own;
    at = at;
    frame = λ k e. cond_eq (λ (x : Entry T). x.parent ≡ e.parent) k i (h e) e (λ _. same e) (λ _. refl);
    others = λ k e d. rw (ne_eqb k i d) refl;
    parent = refl;
    before = refl;
    after = rw (eq-eqb i i refl) refl;
  }

  pub rest_moves : (es : List (Entry T)) (own : Entry T) (i : ℕ) → slice_get es i ≡ Some own → (st : Status) (left steps : ℕ) (p : T) →
      Moves es (rest_at own i st left steps p) i own.parent (is_live own.status) (is_live st)
  rest_moves es own i at st left steps p = record {
    own = own;
    at = at;
    frame = λ k e. cond_eq (λ (x : Entry T). x.parent ≡ e.parent) k i _ _ (λ _. refl)
        (λ _. cond_both (is_place own.parent k && is_starved st) (stir e) e (λ (x : Entry T). x.parent ≡ e.parent) (λ _. refl) (λ _. refl));
    others = λ k e d. rw (ne_eqb k i d) (cond_both (is_place own.parent k && is_starved st) (stir e) e
        (λ (x : Entry T). is_live x.status ≡ is_live e.status) (λ _. live_woken_same e.status) (λ _. refl));
    parent = refl;
    before = refl;
    after = rw (eq-eqb i i refl) refl;
  }

  module _ (es : List (Entry T)) (c : Counted) (g : ℕ → Entry T → Entry T) (i : ℕ) (o : Option ℕ) (was now : Bool)
      (m : Moves es g i o was now)
      (h : Counts es c) where
    was_there : (sel : Option ℕ → Bool) → one (sel o && was) ≤ tally (counted sel) es
    was_there sel =
        let w : counted sel i m.own ≡ one (sel o && was) = rw (m.parent, m.before) refl in
        omega (arith, w, tally_has (counted sel) i es m.own m.at)

    counts_moved : (sel : Option ℕ → Bool) → tally (counted sel) (changed g es) ≡ (tally (counted sel) es - one (sel o && was))
        + one (sel o && now)
    counts_moved sel =
        let w : counted sel i m.own ≡ one (sel o && was) = rw (m.parent, m.before) refl in
        let n : counted sel i (g i m.own) ≡ one (sel o && now) = rw (m.frame i m.own, m.after, m.parent) refl in
        omega (
          arith,
          w,
          n,
          was_there sel,
          tally_swap (counted sel) g i es m.own m.at (λ j y a d. rw (m.frame j y, m.others j y d) refl),
        )

    within_size : (sel : Option ℕ → Bool) → tally (counted sel) (changed g es) < 2 ^ 32
    within_size sel = omega (
      arith,
      tally_most (λ j (e : Entry T). sel e.parent && is_live e.status) (changed g es),
      length_changed g 0 es,
      h.small,
    )

    pub may_settle : MaySettle c o was now
    may_settle = record {
      all = record {
        has = omega (arith, h.all, was_there of_any);
        fits = omega (arith, h.all, counts_moved of_any, within_size of_any);
      };
      here = λ p e. omega (arith, h.above i m.own p m.at (m.parent ∙ e), within es i m.own m.at, h.size);
      each = λ p n e a.
          let on : is_place o p ≡ true = is_place_at o p e in
          let was' : one (is_place o p && was) ≡ one was = rw on refl in
          let now' : one (is_place o p && now) ≡ one now = rw on refl in
          record {
            has = omega (arith, h.each p n a, was_there (of_one p), was');
            fits = omega (arith, h.each p n a, counts_moved (of_one p), within_size (of_one p), was', now');
          };
    }

    pub settled_counts : Counts (changed g es) (settled c o was now)
    settled_counts = record {
      size = length_changed (moved_at o was now) 0 c.under ∙ (h.size ∙ sym (length_changed g 0 es));
      all = omega (arith, h.all, counts_moved of_any);
      each = λ k n a.
          let r = from_changed (moved_at o was now) c.under k n a in
          omega (arith, r.2, moved_by (is_place o k) was now r.0, h.each k r.0 r.1, counts_moved (of_one k));
      above = λ k e p a n.
          let r = from_changed g es k e a in
          h.above k r.0 p r.1 (sym (m.frame k r.0) ∙ (ap (λ (x : Entry T). x.parent) (sym r.2) ∙ n));
      small = omega (arith, h.small, length_changed g 0 es);
    }

  module _ (es : List (Entry T)) (c : Counted) (x : Entry T) (o : Option ℕ) (now : Bool) (up : x.parent ≡ o)
      (lives : is_live x.status ≡ now)
      (below : (p : ℕ) → o ≡ Some p → p < length es) (small : length es + 1 < 2 ^ 32) (h : Counts es c) where
    counts_more : (sel : Option ℕ → Bool) → tally (counted sel) (es ++ x ∷ []) ≡ tally (counted sel) es + one (sel o && now)
    counts_more sel =
        let n : counted sel (length es) x ≡ one (sel o && now) = rw (up, lives) refl in
        omega (arith, n, tally_pushed (counted sel) es x)

    -- the new query has no child yet
    no_child : tally (counted (of_one (length es))) es ≡ 0
    no_child = tally_same (counted (of_one (length es))) (λ _ _. 0) es (λ k e a.
        let off : is_place e.parent (length es) ≡ false = cond_off k e a in
        rw off refl)
        ∙ tally_zero 0 es
      where
        cond_off : (k : ℕ) (e : Entry T) → slice_get es k ≡ Some e → is_place e.parent (length es) ≡ false
        cond_off k e a = false_from_ne_true (is_place e.parent (length es))
            (λ b. omega (arith, h.above k e (length es) a (place_is e.parent (length es) b), within es k e a))

    under_is : (k n : ℕ) → slice_get (c.under ++ 0 ∷ []) k ≡ Some n → n ≡ tally (counted (of_one k)) es
    under_is k n a = ⊎_elim (λ b. h.each k n b)
        (λ b. b.1 ∙ sym (ap (λ j. tally (counted (of_one j)) es) (b.0 ∙ h.size) ∙ no_child))
        (from_pushed c.under 0 k n a)

    most : (sel : Option ℕ → Bool) → tally (counted sel) es ≤ length es
    most sel = tally_most (λ j (e : Entry T). sel e.parent && is_live e.status) es

    pub may_add : MaySettle (grown c) o false now
    may_add = record {
      all = record { has = omega arith; fits = omega (arith, one_most now, h.all, most of_any, small) };
      here = λ p e. omega (arith, below p e, h.size, length_push c.under 0);
      each = λ p n e a. record { has = omega arith; fits = omega (arith, one_most now, under_is p n a, most (of_one p), small) };
    }

    pub added_counts : Counts (es ++ x ∷ []) (settled (grown c) o false now)
    added_counts = record {
      size = omega (
        arith,
        length_changed (moved_at o false now) 0 (c.under ++ 0 ∷ []),
        h.size,
        length_push c.under 0,
        length_push es x,
      );
      all = omega (arith, h.all, counts_more of_any);
      each = λ k n a.
          let r = from_changed (moved_at o false now) (c.under ++ 0 ∷ []) k n a in
          let z : one (is_place o k && false) ≡ 0 = ap one (and_right (is_place o k) false refl) in
          omega (arith, r.2, moved_by (is_place o k) false now r.0, under_is k r.0 r.1, counts_more (of_one k), z);
      above = λ k e p a n. ⊎_elim
          (λ b. h.above k e p b n)
          (λ b. omega (arith, b.0, below p (sym up ∙ (ap (λ (y : Entry T). y.parent) (sym b.1) ∙ n))))
          (from_pushed es x k e a);
      small = omega (arith, small, length_push es x);
    }

  -- Readings

  pub reads_live : (es : List (Entry T)) (c : Counted) → Counts es c → nat_lt 0 c.all ≡ has_live es
  reads_live es c h = ap (nat_lt 0) h.all ∙ any_from is_live_entry 0 es

  pub reads_child : (es : List (Entry T)) (c : Counted) (i n : ℕ) → Counts es c → slice_get c.under i ≡ Some n →
      nat_lt 0 n ≡ has_live_child es i
  reads_child es c i n h a = ap (nat_lt 0) (h.each i n a) ∙ any_from (is_live_child i) 0 es

-- The code

pub some_below : (i n : ℕ) → i < n → (p : ℕ) → Some i ≡ Some p → p < n
some_below i n lt p e = let d : i ≡ p = cc in omega (arith, d)

pub may_at : (c v : Counted) (o : Option ℕ) (was now : Bool) (p n : ℕ) → c ≡ v → MaySettle v o was now → o ≡ Some p →
    n ≡ get_or c.under p n → MayMove was now n
may_at c v o was now p n is h e read =
    let lt : p < length c.under = omega (arith, h.here p e, ap (λ (x : Counted). length x.under) is) in
    h.each p n e (ap (λ (x : Counted). slice_get x.under p) (sym is) ∙ (at_place c.under p n lt ∙ ap Some (sym read)))

pub settled_some : (c v : Counted) (o : Option ℕ) (was now : Bool) (p d n m : ℕ) → c ≡ v → MaySettle v o was now → o ≡ Some p →
    d ≡ get_or c.under p d → n ≡ moved was now d → m ≡ moved was now c.all →
    record { all = m; under = slice_set c.under p n; room = c.room } ≡ settled v o was now
settled_some c v o was now p d n m is h e read one' all' =
    let lt : p < length c.under = omega (arith, h.here p e, ap (λ (x : Counted). length x.under) is) in
    let to : n ≡ moved was now (get_or c.under p d) = one' ∙ ap (moved was now) read in
    let set : slice_set c.under p n ≡ changed (λ j x. cond (j == p) (moved was now x) x) c.under =
    ap (slice_set c.under p) to ∙ set_changed (moved was now) c.under p d lt in
    rw (← is, e, set, all') refl

pub settled_none : (c v : Counted) (o : Option ℕ) (was now : Bool) (m : ℕ) → c ≡ v → o ≡ None → m ≡ moved was now c.all →
    record { all = m; under = c.under; room = c.room } ≡ settled v o was now
settled_none c v o was now m is e all' =
    let same : changed (moved_at None was now) c.under ≡ c.under = unchanged (moved_at None was now) c.under (λ j x a. refl) in
    rw (← is, e, same, all') refl

module _ {T : Type 0} where
  module _ (es : List (Entry T)) (c : Counted) (i : ℕ) (d : Entry T) (lt : i < length es) (h : Counts es c) where
    abbrev seen : Entry T
    seen = get_or es i d

    -- one query is written
    pub write_may : (f : Entry T → Entry T) → ((e : Entry T) → (f e).parent ≡ e.parent) → (was now : Bool) → was ≡ is_live seen.status →
        now ≡ is_live (f seen).status → MaySettle c seen.parent was now
    write_may f same was now a b = rw (a, b)
        (may_settle es c _ i seen.parent (is_live seen.status) (is_live (f seen).status)
        (write_moves es f i seen (at_place es i d lt) same) h)

    pub write_counts : (f : Entry T → Entry T) → ((e : Entry T) → (f e).parent ≡ e.parent) → (was now : Bool) → was ≡ is_live seen.status →
        now ≡ is_live (f seen).status → (c2 : Counted) → c2 ≡ settled c seen.parent was now → Counts (slice_set es i (f seen)) c2
    write_counts f same was now a b c2 is = rw (is, a, b, set_changed f es i d lt)
        (settled_counts es c _ i seen.parent (is_live seen.status) (is_live (f seen).status)
        (write_moves es f i seen (at_place es i d lt) same) h)

    pub rest_may : (st : Status) (left steps : ℕ) (p : T) (was now : Bool) → was ≡ is_live seen.status → now ≡ is_live st →
        MaySettle c seen.parent was now
    rest_may st left steps p was now a b = rw (a, b)
        (may_settle es c _ i seen.parent (is_live seen.status) (is_live st) (rest_moves es seen i (at_place es i d lt) st left steps p) h)

    pub rest_counts : (st : Status) (left steps : ℕ) (p : T) (was now : Bool) → was ≡ is_live seen.status → now ≡ is_live st →
        (c2 : Counted) → c2 ≡ settled c seen.parent was now → (fs : List (Entry T)) →
        ((own : Entry T) → slice_get es i ≡ Some own → fs ≡ changed (rest_at own i st left steps p) es) → Counts fs c2
    rest_counts st left steps p was now a b c2 is fs becomes = rw (is, a, b, becomes seen (at_place es i d lt))
        (settled_counts es c _ i seen.parent (is_live seen.status) (is_live st) (rest_moves es seen i (at_place es i d lt) st left steps p)
        h)

  -- where no query becomes live or ceases to be
  pub counts_same : (es : List (Entry T)) (c : Counted) (g : ℕ → Entry T → Entry T) → ((k : ℕ) (e : Entry T) → (g k e).parent ≡ e.parent) →
      ((k : ℕ) (e : Entry T) → slice_get es k ≡ Some e → is_live (g k e).status ≡ is_live e.status) → Counts es c → Counts (changed g es) c
  counts_same es c g frame same h = record {
    size = h.size ∙ sym (length_changed g 0 es);
    all = h.all ∙ sym (sums of_any);
    each = λ k n a. h.each k n a ∙ sym (sums (of_one k));
    above = λ k e p a n.
        let r = from_changed g es k e a in
        h.above k r.0 p r.1 (sym (frame k r.0) ∙ (ap (λ (x : Entry T). x.parent) (sym r.2) ∙ n));
    small = omega (arith, h.small, length_changed g 0 es);
  }
    where
      sums : (sel : Option ℕ → Bool) → tally (counted sel) (changed g es) ≡ tally (counted sel) es
      sums sel = tally_changed (counted sel) g 0 es ∙ tally_same _ _ es (λ k e a. rw (frame k e, same k e a) refl)

  pub take_counts : (es : List (Entry T)) (id : ℕ) (own : Entry T) (w : Bool) (c : Counted) → slice_get es id ≡ Some own → own.status
      ≡ Ready →
      Counts es c → Counts (changed (take_at id w) es) c
  take_counts es id own w c at ready = counts_same es c (take_at id w)
      (λ k e. cond_eq (λ (x : Entry T). x.parent ≡ e.parent) k id _ e (λ _. refl) (λ _. refl))
      (λ k e a. cond_eq (λ (x : Entry T). is_live x.status ≡ is_live e.status) k id _ e
      (λ d. rw (one_at es id k own e at a d, ready) refl) (λ _. refl))

  pub no_counts : (es : List (Entry T)) (c : Counted) → es ≡ [] → c.all ≡ 0 → c.under ≡ [] → Counts es c
  no_counts es c is a b = record {
    size = ap length b ∙ sym (ap length is);
    all = a ∙ sym (ap (tally (counted of_any)) is);
    each = λ i n q. let z : slice_get [] i ≡ Some n = ap (λ xs. slice_get xs i) (sym b) ∙ q in absurd (cc);
    above = λ i e p q. let z : slice_get [] i ≡ Some e = ap (λ xs. slice_get xs i) (sym is) ∙ q in absurd (cc);
    small = omega (arith, ap length is);
  }

  pub child_is : (es : List (Entry T)) (c : Counted) (i : ℕ) (b : Bool) → Counts es c → i < length es →
      ((n : ℕ) → slice_get c.under i ≡ Some n → b ≡ nat_lt 0 n) → b ≡ has_live_child es i
  child_is es c i b h lt says =
      let n = present c.under i (omega (arith, lt, h.size)) in
      says n.0 n.1 ∙ reads_child es c i n.0 h n.1

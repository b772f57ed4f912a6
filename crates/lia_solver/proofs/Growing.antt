-- What becomes of a table while a column is eliminated.
use Rattle.std.proofs.Common.{◌≡◌, ◌⊎◌, inl, inr, ℕ, zero, suc, ◌<◌, ◌≤◌, ◌+◌, Bool, true, false, not, List, [], ◌∷◌, length, set, arith, refl, sym, ap, subst, ◌∙◌}
use Rattle.std.specs.Prelude.{IsTrue, filter, if◌then◌else◌}
use Rattle.std.proofs.lemmas.Bool.{cases_lt}
use Rattle.std.proofs.lemmas.Int.{ints}
use Rattle.std.proofs.lemmas.List.{length-append}
use Rattle.std.proofs.lemmas.List.Elements.{filter-append}
use Rattle.linear_formula.specs.LinearSum.{LinearSum, is_term, is_within}
use Rattle.linear_formula.proofs.Values.{chosen_of_two}
use Rattle.shadow_elim.specs.Division.{tightened}
use Rattle.shadow_elim.specs.Elimination.{pair_sum}
use Rattle.shadow_elim.specs.Reduction.{is_trivial}
use Rattle.shadow_elim.proofs.Staying.{can-fail}
use Rattle.lia_solver.specs.declared.table.Origin.{Origin}
use Rattle.lia_solver.specs.declared.table.Origin.TheVariants.{Made}
use Rattle.lia_solver.specs.steps.Entries.{Entry, entry_of, joined, entry_at, sum_at, making_by, making_of, bounds_above, bounds_below, IsAdded, ArePaired}
use Rattle.lia_solver.specs.steps.Tables.{starts_from, is_passed, passed, IsHeld, IsPut, AreRows, AreSameBelow, IsOld, IsMadeIn, IsGrown, IsSummed, AreLowerPlaces}
use Rattle.lia_solver.proofs.Adding.{IsStep, added-step, step-terms, joined-parts}
use Rattle.lia_solver.proofs.FirstColumns.{above-starts, below-starts, starts-higher}

apart : true ≡ false → ⊥
apart h = cc

-- Rows that are held

pub held-itself : (entries : List Entry) (i : ℕ) → i < length entries → IsHeld (sum_at entries i) entries
held-itself entries i h = inr (i, h, refl, omega (arith, ints))

pub held-then : (t : LinearSum) (old new : List Entry) → ((i : ℕ) → i < length old → IsHeld (sum_at old i) new) → IsHeld t old →
    IsHeld t new
held-then t old new g (inl e) = inl e
held-then t old new g (inr k) = by_value (is_trivial t) refl (g k.0 k.1) where
  by_value : (b : Bool) → is_trivial t ≡ b → IsHeld (sum_at old k.0) new → IsHeld t new
  by_value true e h = inl e
  by_value false e (inl h) =
      absurd (apart (sym h ∙ can-fail (sum_at old k.0) t (record { parts = k.2; constant = k.3 }) e))
  by_value false e (inr h) = inr (h.0, h.1, h.2 ∙ k.2, omega (arith, ints, h.3, k.3))

pub held-put : (t : LinearSum) (o : Origin) (old new : List Entry) → IsPut t o old new → IsHeld t new
held-put t o old new (inl h) = inl h.0
held-put t o old new (inr h) =
    let s = added-step t o old new h.1 in
    inr (s.place, s.inside, s.here, s.strong)

-- Counts

pub filter-no : (p : Entry → Bool) (e : Entry) (es : List Entry) → p e ≡ false → filter p (e ∷ es) ≡ filter p es
filter-no p e es h = ap (λ b. if b then (e ∷ filter p es) else filter p es) h

count-set : (p : Entry → Bool) (es : List Entry) (i : ℕ) (e : Entry) → i < length es → p (entry_at es i) ≡ false → p e ≡ false →
    length (filter p (set es i e)) ≡ length (filter p es)
count-set p [] i e h a b = refl
count-set p (x ∷ es) zero e h a b =
    ap (λ (xs : List Entry). length xs) (filter-no p e es b ∙ sym (filter-no p x es a))
count-set p (x ∷ es) (suc i) e h a b =
    by_test (p x) (count-set p es i e (omega (arith, h)) a b) where
      by_test : (c : Bool) → length (filter p (set es i e)) ≡ length (filter p es) →
          length (if c then (x ∷ filter p (set es i e)) else filter p (set es i e)) ≡ length (if c then (x ∷ filter p es) else filter p es)
      by_test true k = omega (arith, k)
      by_test false k = k

passed-added : (x : ℕ) (t : LinearSum) (o : Origin) (old new : List Entry) → IsAdded t o old new → starts_from x t.parts ≡ true →
    passed x new
    ≡ passed x old
passed-added x t o old new (inl j) h =
    ap (passed x) j.set ∙ count-set (is_passed x) old j.place (joined j.entry t o) j.inside
    (ap (λ ps. not (starts_from x ps)) (joined-parts t o old new j) ∙ ap not h)
    (ap (λ ps. not (starts_from x ps)) (joined_parts j.entry j.parts) ∙ ap not h) where
      joined_parts : (e : Entry) → e.sum.parts ≡ t.parts → (joined e t o).sum.parts ≡ t.parts
      joined_parts e k = chosen_of_two (λ (y : Entry). y.sum.parts ≡ t.parts) _ _ _ (λ _. refl) (λ _. k)
passed-added x t o old new (inr n) h =
    ap (passed x) n.pushed ∙ ap (λ (xs : List Entry). length xs) (filter-append (is_passed x) old (entry_of t o ∷ []))
    ∙ length-append (filter (is_passed x) old) (filter (is_passed x) (entry_of t o ∷ []))
    ∙ ap (λ n. passed x old + n) (ap (λ (xs : List Entry). length xs) (filter-no (is_passed x) (entry_of t o) [] (ap not h)))
    ∙ omega arith

-- The start

pub same-itself : (x : ℕ) (entries : List Entry) → AreSameBelow x entries entries
same-itself x entries = record { forth = λ i h k. (h, refl); back = λ i h k. (h, refl) }

pub grown-start : (x : ℕ) (entries : List Entry) → AreRows entries → IsGrown x entries entries
grown-start x entries r = record {
  count = omega arith;
  rows = r;
  held = held-itself entries;
  same = same-itself (x + 1) entries;
  passed = refl;
  from = λ i h. inl (record {
    place = i;
    inside = h;
    sum = refl;
    origin = refl;
  });
}

-- One more row

pub step-rows : (t : LinearSum) (o : Origin) (old new : List Entry) → IsStep t o old new → AreRows old → IsTrue (is_term t) →
    is_trivial t ≡ false → AreRows new
step-rows t o old new s r h n = record {
  terms = step-terms t o old new s h r.terms;
  apart = λ i j a b e. by_places i j a b e (cases_lt i (length old)) (cases_lt j (length old));
  real = λ i k. by_each i (s.each i k);
} where
  by_places : (i j : ℕ) → i < length new → j < length new → (sum_at new i).parts ≡ (sum_at new j).parts → (i < length old)
      ⊎ (length old ≤ i) → (j < length old) ⊎ (length old ≤ j) → i ≡ j
  by_places i j a b e (inl p) (inl q) = r.apart i j p q (sym (s.parts i p) ∙ e ∙ s.parts j q)
  by_places i j a b e (inl p) (inr q) = absurd (s.fresh j i q b p (sym (s.parts i p) ∙ e))
  by_places i j a b e (inr p) (inl q) = absurd (s.fresh i j p a q (sym (s.parts j q) ∙ sym e))
  by_places i j a b e (inr p) (inr q) = s.one i j p a q b

  by_each : (i : ℕ) → ((i < length old) × (sum_at new i ≡ sum_at old i) × ((entry_at new i).origin ≡ (entry_at old i).origin))
      ⊎ ((sum_at new i ≡ t) × ((entry_at new i).origin ≡ o)) → is_trivial (sum_at new i) ≡ false
  by_each i (inl e) = ap is_trivial e.1 ∙ r.real i e.0
  by_each i (inr e) = ap is_trivial e.0 ∙ n

step-same : (x : ℕ) (t : LinearSum) (o : Origin) (old new : List Entry) → IsStep t o old new → starts_from x t.parts ≡ true →
    AreSameBelow x old new
step-same x t o old new s h = record {
  forth = λ i k e. (omega (arith, k, s.count), s.other i k (not_here i e));
  back = λ i k e. by_each i e (s.each i k);
} where
  not_here : (i : ℕ) → starts_from x (sum_at old i).parts ≡ false → (sum_at old i).parts ≡ t.parts → ⊥
  not_here i e f = apart (sym h ∙ ap (starts_from x) (sym f) ∙ e)

  by_each : (i : ℕ) → starts_from x (sum_at new i).parts ≡ false → ((i < length old) × (sum_at new i ≡ sum_at old i)
      × ((entry_at new i).origin ≡ (entry_at old i).origin)) ⊎ ((sum_at new i ≡ t) × ((entry_at new i).origin ≡ o)) → (i < length old)
      × (entry_at new i ≡ entry_at old i)
  by_each i e (inl k) =
      (k.0, s.other i k.0 (not_here i (ap (λ (r : LinearSum). starts_from x r.parts) (sym k.1) ∙ e)))
  by_each i e (inr k) =
      absurd (apart (sym h ∙ ap (λ (r : LinearSum). starts_from x r.parts) (sym k.0) ∙ e))

pub grown-put : (x : ℕ) (t : LinearSum) (o : Origin) (old new : List Entry) → AreRows old → IsPut t o old new → IsTrue (is_term t) →
    starts_from (x + 1) t.parts ≡ true → ((e : Entry) → e.sum ≡ t → e.origin ≡ o → IsMadeIn x old e) → IsGrown x old new
grown-put x t o old new r (inl h) term k m =
    subst (λ (es : List Entry). IsGrown x old es) (sym h.1) (grown-start x old r)
grown-put x t o old new r (inr h) term k m =
    let s = added-step t o old new h.1 in
    record {
      count = s.count;
      rows = step-rows t o old new s r term h.0;
      held = λ i q. inr (i, omega (arith, q, s.count), s.parts i q, s.above i q);
      same = step-same (x + 1) t o old new s k;
      passed = passed-added (x + 1) t o old new h.1 k;
      from = λ i q. by_each i (s.each i q);
    } where
      by_each : (i : ℕ) → ((i < length old) × (sum_at new i ≡ sum_at old i) × ((entry_at new i).origin ≡ (entry_at old i).origin))
          ⊎ ((sum_at new i ≡ t) × ((entry_at new i).origin ≡ o)) → IsOld old (entry_at new i) ⊎ IsMadeIn x old (entry_at new i)
      by_each i (inl e) = inl (record {
        place = i;
        inside = e.0;
        sum = e.1;
        origin = e.2;
      })
      by_each i (inr e) = inr (m (entry_at new i) e.0 e.1)

-- Several rows more

pub same-then : (x : ℕ) (a b c : List Entry) → AreSameBelow x a b → AreSameBelow x b c → AreSameBelow x a c
same-then x a b c h k = record {
  forth = λ i q e.
      let f = h.forth i q e in
      let g = k.forth i f.0 (ap (λ (y : Entry). starts_from x y.sum.parts) f.1 ∙ e) in
      (g.0, g.1 ∙ f.1);
  back = λ i q e.
      let f = k.back i q e in
      let g = h.back i f.0 (ap (λ (y : Entry). starts_from x y.sum.parts) (sym f.1) ∙ e) in
      (g.0, f.1 ∙ g.1);
}

pub same-lower : (x y : ℕ) (a b : List Entry) → x ≤ y → AreSameBelow y a b → AreSameBelow x a b
same-lower x y a b h s = record {
  forth = λ i k e. s.forth i k (starts-higher x y (sum_at a i).parts h e);
  back = λ i k e. s.back i k (starts-higher x y (sum_at b i).parts h e);
}

-- a pair of the column stood where it stands
pub paired-back : (x : ℕ) (a b : List Entry) (u l : ℕ) → AreRows a → AreSameBelow (x + 1) a b → ArePaired x b u l → ArePaired x a u l
paired-back x a b u l r s p =
    let f = s.back u p.upper_place (above-starts x (x + 1) (sum_at b u).parts (omega arith) p.above) in
    let g = s.back l p.lower_place (below-starts x (x + 1) (sum_at b l).parts (omega arith) p.below) in
    record {
      terms = r.terms;
      upper_place = f.0;
      lower_place = g.0;
      above = subst (λ (e : Entry). IsTrue (bounds_above x e.sum.parts)) f.1 p.above;
      below = subst (λ (e : Entry). IsTrue (bounds_below x e.sum.parts)) g.1 p.below;
    }

pub paired-forth : (x : ℕ) (a b : List Entry) (u l : ℕ) → AreRows b → AreSameBelow (x + 1) a b → ArePaired x a u l → ArePaired x b u l
paired-forth x a b u l r s p =
    let f = s.forth u p.upper_place (above-starts x (x + 1) (sum_at a u).parts (omega arith) p.above) in
    let g = s.forth l p.lower_place (below-starts x (x + 1) (sum_at a l).parts (omega arith) p.below) in
    record {
      terms = r.terms;
      upper_place = f.0;
      lower_place = g.0;
      above = subst (λ (e : Entry). IsTrue (bounds_above x e.sum.parts)) (sym f.1) p.above;
      below = subst (λ (e : Entry). IsTrue (bounds_below x e.sum.parts)) (sym g.1) p.below;
    }

-- and both of its rows are the same
pub upper-stays : (x : ℕ) (a b : List Entry) (u l : ℕ) → AreSameBelow (x + 1) a b → ArePaired x a u l → sum_at b u ≡ sum_at a u
upper-stays x a b u l s p =
    ap (λ (e : Entry). e.sum) (s.forth u p.upper_place (above-starts x (x + 1) (sum_at a u).parts (omega arith) p.above)).1

pub lower-stays : (x : ℕ) (a b : List Entry) (u l : ℕ) → AreSameBelow (x + 1) a b → ArePaired x a u l → sum_at b l ≡ sum_at a l
lower-stays x a b u l s p =
    ap (λ (e : Entry). e.sum) (s.forth l p.lower_place (below-starts x (x + 1) (sum_at a l).parts (omega arith) p.below)).1

pair-stays : (x : ℕ) (a b : List Entry) (u l : ℕ) → AreSameBelow (x + 1) a b → ArePaired x a u l → ◌≡◌ {A = LinearSum × LinearSum}
    (sum_at b u, sum_at b l) (sum_at a u, sum_at a l)
pair-stays x a b u l s p =
    let whole : ◌≡◌ {A = LinearSum × LinearSum} (sum_at b u, sum_at b l) (sum_at a u, sum_at a l) = λ i.
    (upper-stays x a b u l s p i, lower-stays x a b u l s p i) in
    whole

-- how a row is made depends on both rows alone
making-same : (x : ℕ) (a b : List Entry) (u l : ℕ) → sum_at b u ≡ sum_at a u → sum_at b l ≡ sum_at a l → making_of x b u l ≡ making_of x a u
    l
making-same x a b u l e f = λ i. making_by x u l (e i) (f i)

pub made-forth : (x : ℕ) (a b : List Entry) (e : Entry) → AreRows b → AreSameBelow (x + 1) a b → IsMadeIn x a e → IsMadeIn x b e
made-forth x a b e r s m =
    let same = pair-stays x a b m.upper m.lower s m.paired in
    record {
      upper = m.upper;
      lower = m.lower;
      paired = paired-forth x a b m.upper m.lower r s m.paired;
      within = subst (λ (q : LinearSum × LinearSum). IsTrue (is_within (pair_sum x q))) (sym same) m.within;
      sum = m.sum ∙ ap (λ (q : LinearSum × LinearSum). tightened (pair_sum x q)) (sym same);
      origin = m.origin ∙ ap Made (sym (making-same x a b m.upper m.lower (upper-stays x a b m.upper m.lower s m.paired)
          (lower-stays x a b m.upper m.lower s m.paired)));
    }

made-back : (x : ℕ) (a b : List Entry) (e : Entry) → AreRows a → AreSameBelow (x + 1) a b → IsMadeIn x b e → IsMadeIn x a e
made-back x a b e r s m =
    let p = paired-back x a b m.upper m.lower r s m.paired in
    let same = pair-stays x a b m.upper m.lower s p in
    record {
      upper = m.upper;
      lower = m.lower;
      paired = p;
      within = subst (λ (q : LinearSum × LinearSum). IsTrue (is_within (pair_sum x q))) same m.within;
      sum = m.sum ∙ ap (λ (q : LinearSum × LinearSum). tightened (pair_sum x q)) same;
      origin = m.origin ∙ ap Made (making-same x a b m.upper m.lower (upper-stays x a b m.upper m.lower s p)
          (lower-stays x a b m.upper m.lower s p));
    }

pub grown-then : (x : ℕ) (a b c : List Entry) → AreRows a → IsGrown x a b → IsGrown x b c → IsGrown x a c
grown-then x a b c r h k = record {
  count = omega (arith, h.count, k.count);
  rows = k.rows;
  held = λ i q. held-then (sum_at a i) b c k.held (h.held i q);
  same = same-then (x + 1) a b c h.same k.same;
  passed = k.passed ∙ h.passed;
  from = λ i q. by_last (entry_at c i) (k.from i q);
} where
  by_last : (e : Entry) → IsOld b e ⊎ IsMadeIn x b e → IsOld a e ⊎ IsMadeIn x a e
  by_last e (inr m) = inr (made-back x a b e r h.same m)
  by_last e (inl o) = by_first (h.from o.place o.inside) where
    by_first : IsOld a (entry_at b o.place) ⊎ IsMadeIn x a (entry_at b o.place) → IsOld a e ⊎ IsMadeIn x a e
    by_first (inl p) = inl (record {
      place = p.place;
      inside = p.inside;
      sum = o.sum ∙ p.sum;
      origin = o.origin ∙ p.origin;
    })
    by_first (inr m) = inr (record {
      upper = m.upper;
      lower = m.lower;
      paired = m.paired;
      within = m.within;
      sum = o.sum ∙ m.sum;
      origin = o.origin ∙ m.origin;
    })

-- Pairs that are summed

pub summed-then : (x : ℕ) (a b : List Entry) (u l : ℕ) → IsGrown x a b → ArePaired x a u l → IsSummed x a u l → IsSummed x b u l
summed-then x a b u l g p s =
    let same = sym (pair-stays x a b u l g.same p) in
    record {
      within = subst (λ (q : LinearSum × LinearSum). IsTrue (is_within (pair_sum x q))) same s.within;
      held = subst (λ (q : LinearSum × LinearSum). IsHeld (tightened (pair_sum x q)) b) same
          (held-then (tightened (pair_sum x (sum_at a u, sum_at a l))) a b g.held s.held);
    }

pub lowers-then : (x : ℕ) (a b : List Entry) (places : List ℕ) → AreSameBelow (x + 1) a b → AreLowerPlaces x a places →
    AreLowerPlaces x b places
lowers-then x a b places s h = record {
  right = λ i k.
      let r = h.right i k in
      let f = s.forth i r.0 (below-starts x (x + 1) (sum_at a i).parts (omega arith) r.1) in
      (f.0, subst (λ (e : Entry). IsTrue (bounds_below x e.sum.parts)) (sym f.1) r.1);
  all = λ i q k.
      let f = s.back i q (below-starts x (x + 1) (sum_at b i).parts (omega arith) k) in
      h.all i f.0 (subst (λ (e : Entry). IsTrue (bounds_below x e.sum.parts)) f.1 k);
}

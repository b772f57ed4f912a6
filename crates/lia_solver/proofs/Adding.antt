-- What becomes of a table when a row is added.
use Rattle.std.proofs.Common.{◌≡◌, ◌⊎◌, inl, inr, ℕ, ◌<◌, ◌≤◌, ◌+◌, Bool, true, false, List, [], ◌∷◌, length, set, ℤ, arith, refl, sym, ap, subst, ◌∙◌}
use Rattle.std.specs.Int.{int_min}
use Rattle.std.specs.Prelude.{IsTrue, ◌≤ℤ◌, int_lt, if◌then◌else◌}
use Rattle.std.proofs.lemmas.Bool.{cases_lt, cases_eq}
use Rattle.std.proofs.lemmas.Int.{ints}
use Rattle.std.proofs.lemmas.List.{length-set, length-append, get_or_append_left, get_or_push, get_or_default, get_or-set_same, get_or-set_other}
use Rattle.linear_formula.specs.LinearSum.{LinearSum, is_term}
use Rattle.lia_solver.specs.declared.table.Origin.{Origin}
use Rattle.lia_solver.specs.steps.Entries.{Entry, entry_of, joined, no_entry, entry_at, sum_at, least_at, IsJoined, IsNew, IsAdded, AreTermEntries}

-- the row or one with its coefficients stands at each place that changed
pub record IsStep (t : LinearSum) (o : Origin) (old new : List Entry) : Type 0 where
  pub count : length old ≤ length new
  pub parts : (i : ℕ) → i < length old → (sum_at new i).parts ≡ (sum_at old i).parts
  pub above : (i : ℕ) → i < length old → (sum_at old i).constant ≤ℤ (sum_at new i).constant
  pub below : (i : ℕ) → i < length old → (entry_at new i).least ≤ℤ (entry_at old i).least
  pub other : (i : ℕ) → i < length old → ((sum_at old i).parts ≡ t.parts → ⊥) → entry_at new i ≡ entry_at old i
  pub each : (i : ℕ) → i < length new → ((i < length old) × (sum_at new i ≡ sum_at old i)
      × ((entry_at new i).origin ≡ (entry_at old i).origin)) ⊎ ((sum_at new i ≡ t) × ((entry_at new i).origin ≡ o))
  pub least : (i : ℕ) → i < length new → ((i < length old) × ((entry_at new i).least ≡ (entry_at old i).least))
      ⊎ (((sum_at new i).parts ≡ t.parts) × ((entry_at new i).least ≡ t.constant))
  pub place : ℕ
  pub inside : place < length new
  pub here : (sum_at new place).parts ≡ t.parts
  pub strong : t.constant ≤ℤ (sum_at new place).constant
  pub weak : (entry_at new place).least ≤ℤ t.constant
  pub fresh : (i j : ℕ) → length old ≤ i → i < length new → j < length old → (sum_at old j).parts ≡ (sum_at new i).parts → ⊥
  pub one : (i j : ℕ) → length old ≤ i → i < length new → length old ≤ j → j < length new → i ≡ j

-- Where a row of the coefficients stands

record IsBoth (e j : Entry) (t : LinearSum) (o : Origin) : Type 0 where
  pub parts : j.sum.parts ≡ t.parts
  pub above : e.sum.constant ≤ℤ j.sum.constant
  pub strong : t.constant ≤ℤ j.sum.constant
  pub each : ((j.sum ≡ e.sum) × (j.origin ≡ e.origin)) ⊎ ((j.sum ≡ t) × (j.origin ≡ o))
  pub below : j.least ≤ℤ e.least
  pub weak : j.least ≤ℤ t.constant
  pub least : (j.least ≡ e.least) ⊎ (j.least ≡ t.constant)

min-below : (a b : ℤ) → int_min a b ≤ℤ a
min-below a b = grind (arith, ints)

min-below_other : (a b : ℤ) → int_min a b ≤ℤ b
min-below_other a b = grind (arith, ints)

min-is : (a b : ℤ) → (int_min a b ≡ a) ⊎ (int_min a b ≡ b)
min-is a b = by_test (int_lt b a) where
  by_test : (c : Bool) → ((if c then b else a) ≡ a) ⊎ ((if c then b else a) ≡ b)
  by_test true = inr refl
  by_test false = inl refl

both-is : (e : Entry) (t : LinearSum) (o : Origin) → e.sum.parts ≡ t.parts → IsBoth e (joined e t o) t o
both-is e t o h = by_test (int_lt e.sum.constant t.constant) refl where
  least : ℤ
  least = int_min e.least t.constant

  by_test : (b : Bool) → int_lt e.sum.constant t.constant ≡ b → IsBoth e
      (if b then record { sum = t; least = least; origin = o } else record { sum = e.sum; least = least; origin = e.origin }) t o
  by_test true k = record {
    parts = refl;
    above = grind (arith, ints);
    strong = omega (arith, ints);
    each = inr (refl, refl);
    below = min-below e.least t.constant;
    weak = min-below_other e.least t.constant;
    least = min-is e.least t.constant;
  }
  by_test false k = record {
    parts = h;
    above = omega (arith, ints);
    strong = grind (arith, ints);
    each = inl (refl, refl);
    below = min-below e.least t.constant;
    weak = min-below_other e.least t.constant;
    least = min-is e.least t.constant;
  }

le-itself : (z : ℤ) → z ≤ℤ z
le-itself z = omega (arith, ints)

pub joined-parts : (t : LinearSum) (o : Origin) (old new : List Entry) (j : IsJoined t o old new) → (sum_at old j.place).parts ≡ t.parts
joined-parts t o old new j =
    ap (λ (x : Entry). x.sum.parts) (sym (j.here ∙ get_or_default old j.place j.entry no_entry j.inside)) ∙ j.parts

joined-step : (t : LinearSum) (o : Origin) (old new : List Entry) → IsJoined t o old new → IsStep t o old new
joined-step t o old new j = record {
  count = omega (arith, count);
  parts = λ i h. by_parts i (cases_eq i p);
  above = λ i h. by_above i (cases_eq i p);
  below = λ i h. by_below i (cases_eq i p);
  other = λ i h n. by_other i n (cases_eq i p);
  each = λ i h. by_each i (omega (arith, h, count)) (cases_eq i p);
  least = λ i h. by_least i (omega (arith, h, count)) (cases_eq i p);
  place = p;
  inside = omega (arith, count, j.inside);
  here = ap (λ (x : Entry). x.sum.parts) changed ∙ b.parts;
  strong = subst (λ (x : Entry). t.constant ≤ℤ x.sum.constant) (sym changed) b.strong;
  weak = subst (λ (x : Entry). x.least ≤ℤ t.constant) (sym changed) b.weak;
  fresh = λ i k a h q e. omega (arith, a, h, count);
  one = λ i k a h q g. omega (arith, a, h, count);
} where
  p : ℕ
  p = j.place

  e : Entry
  e = entry_at old p

  entry : j.entry ≡ e
  entry = j.here ∙ get_or_default old p j.entry no_entry j.inside

  b : IsBoth e (joined e t o) t o
  b = both-is e t o (ap (λ (x : Entry). x.sum.parts) (sym entry) ∙ j.parts)

  is : new ≡ set old p (joined e t o)
  is = j.set ∙ ap (λ (x : Entry). set old p (joined x t o)) entry

  count : length new ≡ length old
  count = ap (λ (es : List Entry). length es) is ∙ length-set old p (joined e t o)

  changed : entry_at new p ≡ joined e t o
  changed = ap (λ (es : List Entry). entry_at es p) is ∙ get_or-set_same old p (joined e t o) no_entry j.inside

  at : (i : ℕ) → i ≡ p → entry_at new i ≡ joined e t o
  at i same = ap (entry_at new) same ∙ changed

  was : (i : ℕ) → i ≡ p → entry_at old i ≡ e
  was i same = ap (entry_at old) same

  kept : (i : ℕ) → (i ≡ p → ⊥) → entry_at new i ≡ entry_at old i
  kept i n = ap (λ (es : List Entry). entry_at es i) is ∙ get_or-set_other old p i (joined e t o) no_entry n

  here_parts : (i : ℕ) → i ≡ p → (sum_at old i).parts ≡ t.parts
  here_parts i same = ap (λ (x : Entry). x.sum.parts) (was i same ∙ sym entry) ∙ j.parts

  by_parts : (i : ℕ) → (i ≡ p) ⊎ (i ≡ p → ⊥) → (sum_at new i).parts ≡ (sum_at old i).parts
  by_parts i (inl same) = ap (λ (x : Entry). x.sum.parts) (at i same) ∙ b.parts ∙ sym (here_parts i same)
  by_parts i (inr n) = ap (λ (x : Entry). x.sum.parts) (kept i n)

  by_above : (i : ℕ) → (i ≡ p) ⊎ (i ≡ p → ⊥) → (sum_at old i).constant ≤ℤ (sum_at new i).constant
  by_above i (inl same) =
      subst (λ (x : Entry). (sum_at old i).constant ≤ℤ x.sum.constant) (sym (at i same))
      (subst (λ (x : Entry). x.sum.constant ≤ℤ (joined e t o).sum.constant) (sym (was i same)) b.above)
  by_above i (inr n) =
      subst (λ (x : Entry). (sum_at old i).constant ≤ℤ x.sum.constant) (sym (kept i n)) (le-itself (sum_at old i).constant)

  by_below : (i : ℕ) → (i ≡ p) ⊎ (i ≡ p → ⊥) → (entry_at new i).least ≤ℤ (entry_at old i).least
  by_below i (inl same) =
      subst (λ (x : Entry). x.least ≤ℤ (entry_at old i).least) (sym (at i same))
      (subst (λ (x : Entry). (joined e t o).least ≤ℤ x.least) (sym (was i same)) b.below)
  by_below i (inr n) =
      subst (λ (x : Entry). x.least ≤ℤ (entry_at old i).least) (sym (kept i n)) (le-itself (entry_at old i).least)

  by_other : (i : ℕ) → ((sum_at old i).parts ≡ t.parts → ⊥) → (i ≡ p) ⊎ (i ≡ p → ⊥) → entry_at new i ≡ entry_at old i
  by_other i n (inl same) = absurd (n (here_parts i same))
  by_other i n (inr k) = kept i k

  by_each : (i : ℕ) → i < length old → (i ≡ p) ⊎ (i ≡ p → ⊥) → ((i < length old) × (sum_at new i ≡ sum_at old i)
      × ((entry_at new i).origin ≡ (entry_at old i).origin)) ⊎ ((sum_at new i ≡ t) × ((entry_at new i).origin ≡ o))
  by_each i h (inl same) = of_joined b.each where
    of_joined : (((joined e t o).sum ≡ e.sum) × ((joined e t o).origin ≡ e.origin)) ⊎ (((joined e t o).sum ≡ t)
        × ((joined e t o).origin ≡ o)) → ((i < length old) × (sum_at new i ≡ sum_at old i)
        × ((entry_at new i).origin ≡ (entry_at old i).origin)) ⊎ ((sum_at new i ≡ t) × ((entry_at new i).origin ≡ o))
    of_joined (inl s) = inl (
      h,
      ap (λ (x : Entry). x.sum) (at i same) ∙ s.0 ∙ sym (ap (λ (x : Entry). x.sum) (was i same)),
      ap (λ (x : Entry). x.origin) (at i same) ∙ s.1 ∙ sym (ap (λ (x : Entry). x.origin) (was i same)),
    )
    of_joined (inr s) =
        inr (ap (λ (x : Entry). x.sum) (at i same) ∙ s.0, ap (λ (x : Entry). x.origin) (at i same) ∙ s.1)
  by_each i h (inr n) =
      inl (h, ap (λ (x : Entry). x.sum) (kept i n), ap (λ (x : Entry). x.origin) (kept i n))

  by_least : (i : ℕ) → i < length old → (i ≡ p) ⊎ (i ≡ p → ⊥) → ((i < length old) × ((entry_at new i).least ≡ (entry_at old i).least))
      ⊎ (((sum_at new i).parts ≡ t.parts) × ((entry_at new i).least ≡ t.constant))
  by_least i h (inl same) = of_joined b.least where
    of_joined : ((joined e t o).least ≡ e.least) ⊎ ((joined e t o).least ≡ t.constant) → ((i < length old)
        × ((entry_at new i).least ≡ (entry_at old i).least)) ⊎ (((sum_at new i).parts ≡ t.parts) × ((entry_at new i).least ≡ t.constant))
    of_joined (inl s) =
        inl (h, ap (λ (x : Entry). x.least) (at i same) ∙ s ∙ sym (ap (λ (x : Entry). x.least) (was i same)))
    of_joined (inr s) =
        inr (ap (λ (x : Entry). x.sum.parts) (at i same) ∙ b.parts, ap (λ (x : Entry). x.least) (at i same) ∙ s)
  by_least i h (inr n) = inl (h, ap (λ (x : Entry). x.least) (kept i n))

new-step : (t : LinearSum) (o : Origin) (old new : List Entry) → IsNew t o old new → IsStep t o old new
new-step t o old new n = record {
  count = omega (arith, count);
  parts = λ i h. ap (λ (x : Entry). x.sum.parts) (kept i h);
  above = λ i h. subst (λ (x : Entry). (sum_at old i).constant ≤ℤ x.sum.constant) (sym (kept i h)) (le-itself (sum_at old i).constant);
  below = λ i h. subst (λ (x : Entry). x.least ≤ℤ (entry_at old i).least) (sym (kept i h)) (le-itself (entry_at old i).least);
  other = λ i h k. kept i h;
  each = λ i h. by_each i h (cases_lt i (length old));
  least = λ i h. by_least i h (cases_lt i (length old));
  place = length old;
  inside = omega (arith, count);
  here = ap (λ (x : Entry). x.sum.parts) (last (length old) refl);
  strong = subst (λ (x : Entry). t.constant ≤ℤ x.sum.constant) (sym (last (length old) refl)) (le-itself t.constant);
  weak = subst (λ (x : Entry). x.least ≤ℤ t.constant) (sym (last (length old) refl)) (le-itself t.constant);
  fresh = λ i j a h q e. n.other j no_entry q (e ∙ ap (λ (x : Entry). x.sum.parts) (last i (omega (arith, a, h, count))));
  one = λ i j a h q g. omega (arith, a, h, q, g, count);
} where
  count : length new ≡ length old + 1
  count = ap (λ (es : List Entry). length es) n.pushed ∙ length-append old (entry_of t o ∷ [])

  kept : (i : ℕ) → i < length old → entry_at new i ≡ entry_at old i
  kept i h =
      ap (λ (es : List Entry). entry_at es i) n.pushed ∙ get_or_append_left old (entry_of t o ∷ []) no_entry i h

  last : (i : ℕ) → i ≡ length old → entry_at new i ≡ entry_of t o
  last i e = ap (λ (es : List Entry). entry_at es i) n.pushed ∙ get_or_push old (entry_of t o) no_entry i (sym e)

  by_each : (i : ℕ) → i < length new → (i < length old) ⊎ (length old ≤ i) → ((i < length old) × (sum_at new i ≡ sum_at old i)
      × ((entry_at new i).origin ≡ (entry_at old i).origin)) ⊎ ((sum_at new i ≡ t) × ((entry_at new i).origin ≡ o))
  by_each i h (inl lt) = inl (lt, ap (λ (x : Entry). x.sum) (kept i lt), ap (λ (x : Entry). x.origin) (kept i lt))
  by_each i h (inr ge) =
      let e = last i (omega (arith, h, ge, count)) in
      inr (ap (λ (x : Entry). x.sum) e, ap (λ (x : Entry). x.origin) e)

  by_least : (i : ℕ) → i < length new → (i < length old) ⊎ (length old ≤ i) → ((i < length old)
      × ((entry_at new i).least ≡ (entry_at old i).least)) ⊎ (((sum_at new i).parts ≡ t.parts) × ((entry_at new i).least ≡ t.constant))
  by_least i h (inl lt) = inl (lt, ap (λ (x : Entry). x.least) (kept i lt))
  by_least i h (inr ge) =
      let e = last i (omega (arith, h, ge, count)) in
      inr (ap (λ (x : Entry). x.sum.parts) e, ap (λ (x : Entry). x.least) e)

pub added-step : (t : LinearSum) (o : Origin) (old new : List Entry) → IsAdded t o old new → IsStep t o old new
added-step t o old new (inl j) = joined-step t o old new j
added-step t o old new (inr n) = new-step t o old new n

-- Terms

pub row-same : (s t : LinearSum) → s.parts ≡ t.parts → s.constant ≡ t.constant → s ≡ t
row-same s t e f = λ i. record { parts = e i; constant = f i }

pub step-terms : (t : LinearSum) (o : Origin) (old new : List Entry) → IsStep t o old new → IsTrue (is_term t) → AreTermEntries old →
    AreTermEntries new
step-terms t o old new s h a = record {
  greatest = λ i k. by_each i (s.each i k);
  least = λ i k. by_least i (s.least i k);
} where
  by_each : (i : ℕ) → ((i < length old) × (sum_at new i ≡ sum_at old i) × ((entry_at new i).origin ≡ (entry_at old i).origin))
      ⊎ ((sum_at new i ≡ t) × ((entry_at new i).origin ≡ o)) → IsTrue (is_term (sum_at new i))
  by_each i (inl e) = subst (λ (r : LinearSum). IsTrue (is_term r)) (sym e.1) (a.greatest i e.0)
  by_each i (inr e) = subst (λ (r : LinearSum). IsTrue (is_term r)) (sym e.0) h

  by_least : (i : ℕ) → ((i < length old) × ((entry_at new i).least ≡ (entry_at old i).least)) ⊎ (((sum_at new i).parts ≡ t.parts)
      × ((entry_at new i).least ≡ t.constant)) → IsTrue (is_term (least_at new i))
  by_least i (inl e) =
      subst (λ (r : LinearSum). IsTrue (is_term r)) (row-same (least_at old i) (least_at new i) (sym (s.parts i e.0)) (sym e.1))
      (a.least i e.0)
  by_least i (inr e) =
      subst (λ (r : LinearSum). IsTrue (is_term r)) (row-same t (least_at new i) (sym e.0) (sym e.1)) h

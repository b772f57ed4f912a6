-- Where values are chosen for all columns, all rows hold.
use Rattle.std.proofs.Common.{◌≡◌, ◌⊎◌, inl, inr, ℕ, ◌<◌, ◌≤◌, ◌+◌, ◌==◌, nat_le, Bool, true, false, ◌&&◌, ◌||◌, List, [], ◌∷◌, map, ℤ, pos, ◌+ℤ◌, ◌-ℤ◌, ◌*ℤ◌, neg_ℤ, arith, refl, sym, ap, subst, ◌∙◌}
use Rattle.std.specs.Prelude.{IsTrue, ◌≤ℤ◌, int_le, int_lt, filter, if◌then◌else◌}
use Rattle.std.specs.List.{list_any}
use Rattle.std.proofs.lemmas.Int.{ints}
use borrow.Author.Tests.{eqb-true, ne_eqb, eq-eqb}
use Rattle.linear_formula.specs.LinearSum.{LinearSum, Valuation, value_of, value_of_parts, valuation, listed_at, coefficient, is_zero, is_ascending_from}
use Rattle.linear_formula.specs.steps.Order.{InOrder}
use Rattle.linear_formula.specs.Results.{valuation_with}
use Rattle.linear_formula.proofs.Ring.{mul-add, mul-zero, zero-mul}
use Rattle.linear_formula.proofs.Limits.{both, both_in, le_so, so_le}
use Rattle.infeasible_cert.proofs.Ascending.{Ascends}
use Rattle.infeasible_cert.proofs.Meeting.{AllMet}
use Rattle.infeasible_cert.proofs.Signs.{mul_nonpos}
use Rattle.shadow_elim.specs.Division.{floor_quotient, ceiling_quotient}
use Rattle.shadow_elim.specs.Elimination.{is_upper, is_lower, size_of, Remainder, remains, wide, too_many, after_column}
use Rattle.shadow_elim.specs.Points.{Outcome, chosen, refuted, split, too_wide, too_many_rows, least_value, greatest_value, rest_of, upper_bound, lower_bound, lower_floor, nearest, with_value, outcome_after, outcome}
use Rattle.shadow_elim.specs.Reduction.{is_contradiction, has_no_parts}
use Rattle.shadow_elim.proofs.Tightening.{floor-bounds, ceiling-bounds}
use Rattle.shadow_elim.proofs.PairSums.{upper-is, lower-is, free-is, rest_at, value-with_column, value-split}
use Rattle.shadow_elim.proofs.Members.{Among, among-filter, among-map}
use Rattle.shadow_elim.proofs.Staying.{same_parts-decides, met-from, covered-met}
use Rattle.shadow_elim.proofs.Keeping.{IsAfter, after-is}
use Rattle.shadow_elim.proofs.Naming.{AllTerms, term-order, after-terms, IsAbsent, after-absent, after-eliminated}
use Rattle.shadow_elim.proofs.Bests.{greatest-above, least-below, nearest-within}
use Rattle.shadow_elim.proofs.Tests.{le_from}
use Rattle.shadow_elim.proofs.PlanValues.{chosen_same}
use Rattle.shadow_elim.proofs.Exact.{neg-mul}
use Rattle.shadow_elim.proofs.Exact.{sign-cases}

-- Ascending columns

abbrev pub columns_of_values : List (ℕ × ℤ) → List ℕ
columns_of_values values = map (λ p. p.0) values

pub ascends-from_test : (low : ℕ) (xs : List ℕ) → IsTrue (is_ascending_from low (map (λ x. (x, pos 0)) xs)) → Ascends low xs
ascends-from_test low [] h = tt
ascends-from_test low (x ∷ xs) h =
    let k = both (nat_le low x) (is_ascending_from (x + 1) (map (λ y. (y, pos 0)) xs)) h in
    (le_so low x k.0, ascends-from_test (x + 1) xs k.1)

pub test-from_ascends : (low : ℕ) (xs : List ℕ) → Ascends low xs → IsTrue (is_ascending_from low (map (λ x. (x, pos 0)) xs))
test-from_ascends low [] h = refl
test-from_ascends low (x ∷ xs) h =
    both_in (nat_le low x) (is_ascending_from (x + 1) (map (λ y. (y, pos 0)) xs)) (so_le low x h.0) (test-from_ascends (x + 1) xs h.1)

-- values whose columns ascend
pub values-ascend : (low : ℕ) (values : List (ℕ × ℤ)) → Ascends low (columns_of_values values) → IsTrue (is_ascending_from low values)
values-ascend low [] h = refl
values-ascend low (p ∷ ps) h =
    both_in (nat_le low p.0) (is_ascending_from (p.0 + 1) ps) (so_le low p.0 h.0) (values-ascend (p.0 + 1) ps h.1)

pub ascends-from_lower : (low least : ℕ) (xs : List ℕ) → least ≤ low → Ascends low xs → Ascends least xs
ascends-from_lower low least [] h a = tt
ascends-from_lower low least (x ∷ xs) h a = (omega (arith, h, a.0), a.1)

pub ascends-above : (low : ℕ) (xs : List ℕ) (x : ℕ) → Ascends low xs → Among x xs → low ≤ x
ascends-above low [] x a h = absurd h
ascends-above low (y ∷ ys) x a (inl e) = omega (arith, a.0, e)
ascends-above low (y ∷ ys) x a (inr h) = omega (arith, a.0, ascends-above (y + 1) ys x a.1 h)

-- a column below the values counts 0
pub listed-below : (x low : ℕ) (values : List (ℕ × ℤ)) → x < low → Ascends low (columns_of_values values) → listed_at x values ≡ pos 0
listed-below x low [] h a = refl
listed-below x low (p ∷ ps) h a =
    let apart : (x == p.0) ≡ false = ne_eqb x p.0 (λ e. omega (arith, h, a.0, e)) in
    rw apart (listed-below x (p.0 + 1) ps (omega (arith, h, a.0)) a.1)

-- Columns that rows name

-- rows name no other columns
abbrev pub NamesOnly : List ℕ → List LinearSum → Type 0
NamesOnly columns rows = (y : ℕ) → (Among y columns → ⊥) → IsAbsent y rows

pub after-names_only : (x : ℕ) (xs : List ℕ) (rows next : List LinearSum) → IsAfter x rows next → AllTerms rows → NamesOnly (x ∷ xs) rows →
    NamesOnly xs next
after-names_only x xs rows next a k n y m = by_test (x == y) refl where
  neither : (x ≡ y → ⊥) → Among y (x ∷ xs) → ⊥
  neither d (inl e) = d e
  neither d (inr h) = m h

  two : true ≡ false → ⊥
  two h = cc

  by_test : (b : Bool) → (x == y) ≡ b → IsAbsent y next
  by_test true e = subst (λ z. IsAbsent z next) (eqb-true x y e) (after-eliminated x rows next a k)
  by_test false e =
      after-absent y x rows next a k (n y (neither (λ d. two (sym (eq-eqb x y d) ∙ e))))

pub nameless : (low : ℕ) (ps : List (ℕ × ℤ)) → InOrder low ps → ((y : ℕ) → listed_at y ps ≡ pos 0) → ps ≡ []
nameless low [] o h = refl
nameless low (p ∷ ps) o h =
    let here : (p.0 == p.0) ≡ true = eq-eqb p.0 p.0 refl in
    absurd (o.2 (rw here at (h p.0)))

not-positive : (c : ℤ) → int_lt (pos 0) c ≡ false → c ≤ℤ pos 0
not-positive c h = grind (arith, ints)

none-any : (rows : List LinearSum) (t : LinearSum) → list_any is_contradiction rows ≡ false → Among t rows → is_contradiction t ≡ false
none-any [] t h k = absurd k
none-any (r ∷ rows) t h (inl e) = ap is_contradiction (sym e) ∙ left (is_contradiction r) (list_any is_contradiction rows) h where
  left : (b c : Bool) → (b || c) ≡ false → b ≡ false
  left true c h = h
  left false c h = refl
none-any (r ∷ rows) t h (inr k) = none-any rows t (right (is_contradiction r) (list_any is_contradiction rows) h) k where
  right : (b c : Bool) → (b || c) ≡ false → c ≡ false
  right true c h = absurd (cc)
  right false c h = h

-- rows that name no column, and are no contradiction, hold
pub possible-met : (v : Valuation) (rows : List LinearSum) → AllTerms rows → NamesOnly [] rows → list_any is_contradiction rows ≡ false →
    AllMet v rows
possible-met v rows h n c = met-from v rows (λ t k. holds t (nameless 0 t.parts (term-order rows t h k) (λ y. n y (λ m. m) t k))
    (none-any rows t c k)) where
      low : (a b : Bool) → a ≡ true → (a && b) ≡ false → b ≡ false
      low true b e h = h
      low false b e h = absurd (cc)

      holds : (t : LinearSum) → t.parts ≡ [] → is_contradiction t ≡ false → value_of v t ≤ℤ pos 0
      holds t e k =
          omega (
            arith,
            ints,
            ap (value_of_parts v) e,
            not-positive t.constant (low (has_no_parts t) (int_lt (pos 0) t.constant)
                ((same_parts-decides t.parts []).1 e) k),
          )

-- One column

pub apart-back : (a b : ℤ) → (a -ℤ b) +ℤ b ≡ a
apart-back a b = omega (arith, ints)

pub mul-grows : (d : ℕ) (a b : ℤ) → a ≤ℤ b → (pos d *ℤ a) ≤ℤ (pos d *ℤ b)
mul-grows d a b h =
    omega (
      arith,
      ints,
      mul_nonpos (pos d) (a -ℤ b) (omega (arith, ints)) (omega (arith, ints, h)),
      mul-add (pos d) (a -ℤ b) b,
      ap (λ z. pos d *ℤ z) (apart-back a b),
    )

upper-holds : (a : ℕ) (c z r f : ℤ) → c ≡ pos a → (pos a *ℤ f) ≤ℤ neg_ℤ r → z ≤ℤ f → ((c *ℤ z) +ℤ r) ≤ℤ pos 0
upper-holds a c z r f e h k = omega (arith, ints, ap (λ y. y *ℤ z) e, h, mul-grows a z f k)

lower-holds : (b : ℕ) (c z r f : ℤ) → c ≡ neg_ℤ (pos b) → r ≤ℤ (pos b *ℤ f) → f ≤ℤ z → ((c *ℤ z) +ℤ r) ≤ℤ pos 0
lower-holds b c z r f e h k = omega (arith, ints, ap (λ y. y *ℤ z) e, neg-mul (pos b) z, h, mul-grows b f z k)

free-holds : (c y z r s : ℤ) → c ≡ pos 0 → s ≡ (c *ℤ y) +ℤ r → s ≤ℤ pos 0 → ((c *ℤ z) +ℤ r) ≤ℤ pos 0
free-holds c y z r s e f h =
    omega (arith, ints, ap (λ w. w *ℤ y) e, ap (λ w. w *ℤ z) e, zero-mul y, zero-mul z, f, h)

-- the rest of a row, where the column counts 0
pub rest-is : (values : List (ℕ × ℤ)) (x : ℕ) (t : LinearSum) → InOrder 0 t.parts → listed_at x values ≡ pos 0 → rest_of values t
    ≡ rest_at (valuation values) x t
rest-is values x t o h =
    omega (arith, ints, value-split (valuation values) x t o, ap (λ y. coefficient x t *ℤ y) h, mul-zero (coefficient x t))

with-value_is : (values : List (ℕ × ℤ)) (x : ℕ) (z : ℤ) → valuation ((x, z) ∷ values) ≡ valuation_with (valuation values) x z
with-value_is values x z = λ i y. at y i where
  turn : (y : ℕ) → (y == x) ≡ (x == y)
  turn y = by_test (y == x) refl where
    two : true ≡ false → ⊥
    two h = cc

    by_test : (b : Bool) → (y == x) ≡ b → b ≡ (x == y)
    by_test true e = sym (eq-eqb x y (sym (eqb-true y x e)))
    by_test false e = sym (ne_eqb x y (λ d. two (sym (eq-eqb y x (sym d)) ∙ e)))

  at : (y : ℕ) → valuation ((x, z) ∷ values) y ≡ valuation_with (valuation values) x z y
  at y = ap (λ b. if b then z else listed_at y values) (turn y)

pub with-value_met : (x : ℕ) (rows next : List LinearSum) (values : List (ℕ × ℤ)) (z : ℤ) → IsAfter x rows next → AllTerms rows →
    listed_at x values ≡ pos 0 → AllMet (valuation values) next → lower_bound x values rows ≤ℤ z → z ≤ℤ upper_bound x values rows →
    AllMet (valuation ((x, z) ∷ values)) rows
with-value_met x rows next values z a k none met low high =
    subst (λ w. AllMet w rows) (sym (with-value_is values x z))
    (met-from (valuation_with v x z) rows (λ t h. omega (
      arith,
      ints,
      value-with_column v x z t (term-order rows t k h),
      by_sign t h (sign-cases (coefficient x t)),
    ))) where
      v : Valuation
      v = valuation values

      by_sign : (t : LinearSum) → Among t rows → (int_lt (pos 0) (coefficient x t) ≡ true)
          ⊎ ((int_lt (coefficient x t) (pos 0) ≡ true) ⊎ (is_zero (coefficient x t) ≡ true)) →
          ((coefficient x t *ℤ z) +ℤ rest_at (valuation values) x t) ≤ℤ pos 0
      by_sign t h (inl i) =
          let u = upper-is x t i in
          let r = rest-is values x t (term-order rows t k h) none in
          let b = floor-bounds (neg_ℤ (rest_of values t)) (size_of x t) u.positive in
          let f = least-below greatest_value _ (floor_quotient (neg_ℤ (rest_of values t)) (size_of x t))
          (among-map (λ s. floor_quotient (neg_ℤ (rest_of values s)) (size_of x s)) (filter (is_upper x) rows) t
          (among-filter (is_upper x) rows t h i)) in
          upper-holds (size_of x t) (coefficient x t) z (rest_at v x t) (floor_quotient (neg_ℤ (rest_of values t)) (size_of x t)) u.same
          (omega (arith, ints, b.0, r)) (omega (arith, ints, f, high))
      by_sign t h (inr (inl i)) =
          let l = lower-is x t i in
          let r = rest-is values x t (term-order rows t k h) none in
          let b = ceiling-bounds (rest_of values t) (size_of x t) l.positive in
          let f = greatest-above least_value _ (ceiling_quotient (rest_of values t) (size_of x t))
          (among-map (λ s. ceiling_quotient (rest_of values s) (size_of x s)) (filter (is_lower x) rows) t
          (among-filter (is_lower x) rows t h i))
          in
          lower-holds (size_of x t) (coefficient x t) z (rest_at v x t) (ceiling_quotient (rest_of values t) (size_of x t)) l.same
          (omega (arith, ints, b.0, r)) (omega (arith, ints, f, low))
      by_sign t h (inr (inr i)) =
          free-holds (coefficient x t) (v x) z (rest_at v x t) (value_of v t) (free-is x t i) (value-split v x t (term-order rows t k h))
          (covered-met v next t met (a.free t (record { here = h; free = i })))

-- All columns

-- the values are of the columns, and all rows hold at them
pub record IsChosen (xs : List ℕ) (rows : List LinearSum) (values : List (ℕ × ℤ)) : Type 0 where
  pub columns : columns_of_values values ≡ xs
  pub met : AllMet (valuation values) rows

pub outcome-chosen : (columns : List ℕ) (rows : List LinearSum) (values : List (ℕ × ℤ)) → Ascends 0 columns → AllTerms rows →
    NamesOnly columns rows → outcome columns rows ≡ chosen values → IsChosen columns rows values
outcome-chosen [] rows values s k n h = by_test (list_any is_contradiction rows) refl h where
  by_test : (b : Bool) → list_any is_contradiction rows ≡ b → (if b then refuted else chosen []) ≡ chosen values → IsChosen [] rows values
  by_test true e d = absurd (cc)
  by_test false e d =
      subst (IsChosen [] rows) (chosen_same [] values d) (record {
        columns = refl;
        met = possible-met (valuation []) rows k n e;
      })
outcome-chosen (x ∷ xs) rows values s k n h =
    by_remainder (λ next old a i. outcome-chosen xs next old (ascends-from_lower (x + 1) 0 xs (omega arith) s.1)
    (after-terms x rows next a k)
    (after-names_only x xs rows next a k n) i) (after_column x rows) refl h where
      Rest : Type 0
      Rest =
          (next : List LinearSum) (old : List (ℕ × ℤ)) → IsAfter x rows next → outcome xs next ≡ chosen old → IsChosen xs next old

      one_more : (next : List LinearSum) (old : List (ℕ × ℤ)) → IsAfter x rows next → IsChosen xs next old → with_value x rows (chosen old)
          ≡ chosen values → IsChosen (x ∷ xs) rows values
      one_more next old a rest e =
          by_order (int_le (lower_bound x old rows) (upper_bound x old rows)) refl e where
            by_order : (b : Bool) → int_le (lower_bound x old rows) (upper_bound x old rows) ≡ b →
                (if b then chosen ((x, nearest (lower_bound x old rows) (upper_bound x old rows)) ∷ old) else split x
                (lower_floor x old rows))
                ≡ chosen values → IsChosen (x ∷ xs) rows values
            by_order true f d =
                let z = nearest (lower_bound x old rows) (upper_bound x old rows) in
                let w = nearest-within (lower_bound x old rows) (upper_bound x old rows) (le_from _ _ f) in
                let none = listed-below x (x + 1) old (omega arith) (subst (Ascends (x + 1)) (sym rest.columns) s.1) in
                subst (IsChosen (x ∷ xs) rows) (chosen_same ((x, z) ∷ old) values d) (record {
                  columns = ap (λ ys. x ∷ ys) rest.columns;
                  met = with-value_met x rows next old z a k none rest.met w.0 w.1;
                })
            by_order false f d = absurd (cc)

      by_outcome : Rest → (next : List LinearSum) → IsAfter x rows next → (o : Outcome) → outcome xs next ≡ o → with_value x rows o
          ≡ chosen values → IsChosen (x ∷ xs) rows values
      by_outcome r next a (chosen old) i e = one_more next old a (r next old a i) e
      by_outcome r next a refuted i e = absurd (cc)
      by_outcome r next a (split y m) i e = absurd (cc)
      by_outcome r next a too_wide i e = absurd (cc)
      by_outcome r next a too_many_rows i e = absurd (cc)

      by_remainder : Rest → (r : Remainder) → after_column x rows ≡ r → with_value x rows (outcome_after (outcome xs) r) ≡ chosen values →
          IsChosen (x ∷ xs) rows values
      by_remainder r (remains next) e d = by_outcome r next (after-is x rows next e) (outcome xs next) refl d
      by_remainder r wide e d = absurd (cc)
      by_remainder r too_many e d = absurd (cc)

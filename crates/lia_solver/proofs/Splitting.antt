-- A split leaves integers on both sides.
use Rattle.std.proofs.Common.{◌≡◌, ◌⊎◌, inl, inr, ℕ, ◌<◌, ◌==◌, true, List, map, ℤ, pos, negsuc, ◌+ℤ◌, ◌-ℤ◌, ◌*ℤ◌, neg_ℤ, arith, refl, sym, ap, ◌∙◌}
use Rattle.std.specs.Prelude.{◌≤ℤ◌, ◌<ℤ◌, filter}
use Rattle.std.proofs.lemmas.Int.{ints, by_lt_z}
use borrow.Author.Tests.{eq-eqb}
use Rattle.linear_formula.specs.LinearSum.{LinearSum, value_of_parts, valuation, listed_at, coefficient}
use Rattle.linear_formula.proofs.Ring.{mul-add, mul-comm, mul-assoc, one-mul}
use Rattle.infeasible_cert.specs.Right.{upper_range}
use Rattle.infeasible_cert.proofs.Meeting.{AllMet}
use Rattle.infeasible_cert.proofs.Signs.{below_multiplier}
use Rattle.shadow_elim.specs.Division.{floor_quotient, ceiling_quotient}
use Rattle.shadow_elim.specs.Elimination.{is_upper, is_lower, size_of}
use Rattle.shadow_elim.specs.Points.{least_value, greatest_value, rest_of, upper_bound, lower_bound, lower_floor}
use Rattle.shadow_elim.proofs.Tightening.{mul-neg, floor-bounds, ceiling-bounds}
use Rattle.shadow_elim.proofs.PairSums.{upper-is, lower-is}
use Rattle.shadow_elim.proofs.Members.{Among, filter-among, map-among}
use Rattle.shadow_elim.proofs.Staying.{IsAtLeast, HasAtLeast}
use Rattle.shadow_elim.proofs.Keeping.{IsAfter, IsPairOf}
use Rattle.shadow_elim.proofs.Naming.{AllTerms, term-order}
use Rattle.shadow_elim.proofs.Exact.{bounds-apart}
use Rattle.shadow_elim.proofs.Bests.{greatest-limit, greatest-reached, least-limit}
use Rattle.lia_solver.proofs.ChosenPoints.{mul-grows, rest-is}
use Rattle.lia_solver.proofs.ChosenPoints.{apart-back}

-- Numbers

-- a number of which a multiple is below that of the next one is at most the other
below-next : (d : ℕ) (a b : ℤ) → 0 < d → (pos d *ℤ a) <ℤ ((pos d *ℤ b) +ℤ pos d) → a ≤ℤ b
below-next d a b h k =
    let le = below_multiplier (pos d) (a -ℤ b) (omega (arith, ints, h))
    (omega (arith, ints, k, mul-add (pos d) (a -ℤ b) b, ap (λ z. pos d *ℤ z) (apart-back a b))) in
    omega (arith, ints, le)

-- what a lower row says of an upper row, where its bound is at least m
upper-allows : (a b : ℕ) (m u l f : ℤ) → 0 < a → 0 < b → ((pos b *ℤ u) +ℤ (pos a *ℤ l)) ≤ℤ pos 0 → (pos b *ℤ m) ≤ℤ l →
    neg_ℤ u <ℤ ((pos a *ℤ f) +ℤ pos a) → m ≤ℤ f
upper-allows a b m u l f ha hb met low high =
    let grown = mul-grows a (pos b *ℤ m) l low in
    let turned : pos a *ℤ (pos b *ℤ m) ≡ pos b *ℤ (pos a *ℤ m) = sym (mul-assoc (pos a) (pos b) m) ∙ ap (λ z. z *ℤ m)
    (mul-comm (pos a) (pos b))
    ∙ mul-assoc (pos b) (pos a) m in
    let least = below-next b (pos a *ℤ m) (neg_ℤ u) hb (omega (arith, ints, met, grown, turned, mul-neg (pos b) u, hb)) in
    below-next a m f ha (omega (arith, ints, least, high))

-- what an upper row with the coefficient 1 and at most m says of a lower row
lower-allows : (b : ℕ) (m u l k : ℤ) → 0 < b → ((pos b *ℤ u) +ℤ (pos 1 *ℤ l)) ≤ℤ pos 0 → neg_ℤ m ≤ℤ u → (pos b *ℤ k) <ℤ (l +ℤ pos b) →
    k ≤ℤ m
lower-allows b m u l k hb met low high =
    below-next b k m hb (omega (arith, ints, met, mul-grows b (neg_ℤ m) u low, mul-neg (pos b) m, one-mul l, high))

-- Rows

-- pairs, at values that give the column 0
pair-bound : (x : ℕ) (rows next : List LinearSum) (values : List (ℕ × ℤ)) → IsAfter x rows next → AllTerms rows → listed_at x values
    ≡ pos 0 →
    AllMet (valuation values) next → (u l : LinearSum) → IsPairOf x rows u l →
    ((pos (size_of x l) *ℤ rest_of values u) +ℤ (pos (size_of x u) *ℤ rest_of values l)) ≤ℤ pos 0
pair-bound x rows next values a k none met u l p =
    let b = bounds-apart (valuation values) x rows next a k met u l p in
    let e = rest-is values x u (term-order rows u k p.upper) none in
    let f = rest-is values x l (term-order rows l k p.lower) none in
    omega (arith, ints, b, ap (λ z. pos (size_of x l) *ℤ z) e, ap (λ z. pos (size_of x u) *ℤ z) f)

-- the row of the range, or a stronger one
range-upper : (x : ℕ) (u : LinearSum) → IsAtLeast u (upper_range x) → (is_upper x u ≡ true) × (size_of x u ≡ 1)
range-upper x u h =
    let here : (x == x) ≡ true = eq-eqb x x refl in
    let one : coefficient x u ≡ pos 1 = ap (listed_at x) h.parts ∙ rw here refl in
    (rw one refl, rw one refl)

range-rest : (x : ℕ) (values : List (ℕ × ℤ)) (u : LinearSum) → listed_at x values ≡ pos 0 → IsAtLeast u (upper_range x) →
    negsuc 9223372036854775806 ≤ℤ rest_of values u
range-rest x values u none h =
    omega (arith, ints, ap (value_of_parts (valuation values)) h.parts, h.constant, none, one-mul (listed_at x values))

-- where the floor of the lower bound is the greatest value, so are both bounds
all-at_greatest : (x : ℕ) (rows next : List LinearSum) (values : List (ℕ × ℤ)) → IsAfter x rows next → AllTerms rows → listed_at x values
    ≡ pos 0 → AllMet (valuation values) next → HasAtLeast (upper_range x) rows → greatest_value ≤ℤ lower_floor x values rows →
    (lower_bound x values rows ≤ℤ greatest_value) × (greatest_value ≤ℤ upper_bound x values rows)
all-at_greatest x rows next values a k none met range h = (
  greatest-limit least_value _ greatest_value (omega (arith, ints))
      (λ w m. low w (map-among (λ t. ceiling_quotient (rest_of values t) (size_of x t)) (filter (is_lower x) rows) w m)),
  by_reach (greatest-reached least_value _ greatest_value h),
) where
  low : (w : ℤ) → ((t : LinearSum) × Among t (filter (is_lower x) rows) × (ceiling_quotient (rest_of values t) (size_of x t) ≡ w)) →
      w ≤ℤ greatest_value
  low w m =
      let f = filter-among (is_lower x) rows m.0 m.1 in
      let l = lower-is x m.0 f.1 in
      let r = range-upper x range.0 range.2 in
      let p = pair-bound x rows next values a k none met range.0 m.0 (record {
        upper = range.1;
        lower = f.0;
        is_upper = r.0;
        is_lower = f.1;
      }) in
      let c = ceiling-bounds (rest_of values m.0) (size_of x m.0) l.positive in
      let le = lower-allows (size_of x m.0) greatest_value (rest_of values range.0) (rest_of values m.0)
      (ceiling_quotient (rest_of values m.0) (size_of x m.0)) l.positive (omega (arith, ints, p, ap (λ n. pos n *ℤ rest_of values m.0) r.1))
      (range-rest x values range.0 none range.2) c.1 in
      omega (arith, ints, le, m.2)

  high : (t : LinearSum) → Among t (filter (is_lower x) rows) → greatest_value ≤ℤ floor_quotient (rest_of values t) (size_of x t) →
      (w : ℤ) → ((s : LinearSum) × Among s (filter (is_upper x) rows) × (floor_quotient (neg_ℤ (rest_of values s)) (size_of x s) ≡ w)) →
      greatest_value ≤ℤ w
  high t m g w n =
      let f = filter-among (is_lower x) rows t m in
      let e = filter-among (is_upper x) rows n.0 n.1 in
      let l = lower-is x t f.1 in
      let u = upper-is x n.0 e.1 in
      let p = pair-bound x rows next values a k none met n.0 t (record {
        upper = e.0;
        lower = f.0;
        is_upper = e.1;
        is_lower = f.1;
      }) in
      let c = floor-bounds (rest_of values t) (size_of x t) l.positive in
      let d = floor-bounds (neg_ℤ (rest_of values n.0)) (size_of x n.0) u.positive in
      let grown = mul-grows (size_of x t) greatest_value (floor_quotient (rest_of values t) (size_of x t)) g in
      let le = upper-allows (size_of x n.0) (size_of x t) greatest_value (rest_of values n.0) (rest_of values t)
      (floor_quotient (neg_ℤ (rest_of values n.0)) (size_of x n.0)) u.positive l.positive p (omega (arith, ints, grown, c.0)) d.1 in
      omega (arith, ints, le, n.2)

  by_reach : (greatest_value ≤ℤ least_value)
      ⊎ ((w : ℤ) × Among w (map (λ t. floor_quotient (rest_of values t) (size_of x t)) (filter (is_lower x) rows))
      × (greatest_value ≤ℤ w)) →
      greatest_value ≤ℤ upper_bound x values rows
  by_reach (inl e) = absurd (omega (arith, ints, e))
  by_reach (inr e) =
      let m = map-among (λ t. floor_quotient (rest_of values t) (size_of x t)) (filter (is_lower x) rows) e.0 e.1 in
      least-limit greatest_value _ greatest_value (omega (arith, ints)) (λ w n. high m.0 m.1 (omega (arith, ints, e.2, m.2)) w
      (map-among (λ s. floor_quotient (neg_ℤ (rest_of values s)) (size_of x s)) (filter (is_upper x) rows) w n))

pub split-inside : (x : ℕ) (rows next : List LinearSum) (values : List (ℕ × ℤ)) → IsAfter x rows next → AllTerms rows → listed_at x values
    ≡ pos 0 → AllMet (valuation values) next → HasAtLeast (upper_range x) rows → upper_bound x values rows <ℤ lower_bound x values rows →
    lower_floor x values rows <ℤ greatest_value
split-inside x rows next values a k none met range h =
    by_lt_z (lower_floor x values rows) greatest_value (λ lt. lt) (λ le. let b = all-at_greatest x rows next values a k none met range le in
    absurd (omega (arith, ints, h, b.0, b.1)))

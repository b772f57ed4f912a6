-- Rows that say as much as others, before a column and after it.
use Rattle.std.proofs.Common.{◌≡◌, ◌⊎◌, inl, inr, ℕ, ◌<◌, Bool, true, false, List, ℤ, pos, ◌+ℤ◌, ◌-ℤ◌, ◌*ℤ◌, arith, refl, sym, ap, subst, ◌∙◌}
use Rattle.std.specs.Prelude.{IsTrue, ◌≤ℤ◌, ◌<ℤ◌, nat_lt, int_lt, unsigned_abs, if◌then◌else◌}
use Rattle.std.proofs.lemmas.Bool.{ltb-true}
use Rattle.std.proofs.lemmas.Int.{ints}
use Rattle.linear_formula.specs.LinearSum.{LinearSum, listed_at, is_zero}
use Rattle.linear_formula.proofs.Ring.{mul-add}
use Rattle.infeasible_cert.proofs.Signs.{below_multiplier}
use Rattle.shadow_elim.specs.Division.{parts_divisor, ceiling_quotient, divided, tightened}
use Rattle.shadow_elim.specs.Elimination.{is_upper, is_lower, is_free, size_of, upper_multiple, lower_multiple, pair_sum}
use Rattle.shadow_elim.specs.Reduction.{is_trivial}
use Rattle.shadow_elim.proofs.Keeping.{IsPairOf, IsFreeIn, IsMadeOf, IsAfter}
use Rattle.shadow_elim.proofs.Members.{Among}
use Rattle.shadow_elim.proofs.Staying.{IsAtLeast, at-least-of, at-least-itself, trivial-parts, can-fail, HasAtLeast, IsCovered}
use Rattle.shadow_elim.proofs.Tightening.{ceiling-bounds}

-- each of the others always holds, or one of the rows is at least as strong
abbrev pub Covers : List LinearSum → List LinearSum → Type 0
Covers rows others = (t : LinearSum) → Among t others → IsCovered t rows

pub covered-weaker : (rows : List LinearSum) (s t : LinearSum) → IsAtLeast s t → IsCovered s rows → IsCovered t rows
covered-weaker rows s t h k = by_value (is_trivial t) refl k where
  by_value : (b : Bool) → is_trivial t ≡ b → IsCovered s rows → IsCovered t rows
  by_value true e c = inl e
  by_value false e (inl c) = absurd (apart (sym c ∙ can-fail s t h e)) where
    apart : true ≡ false → ⊥
    apart n = cc
  by_value false e (inr c) = inr (c.0, c.1, at-least-of c.0 s t c.2 h)

pub covered-then : (rows others : List LinearSum) (t : LinearSum) → Covers rows others → IsCovered t others → IsCovered t rows
covered-then rows others t h (inl e) = inl e
covered-then rows others t h (inr g) = covered-weaker rows g.0 t g.2 (h g.0 g.1)

pub covers-among : (rows others : List LinearSum) → ((t : LinearSum) → Among t others → Among t rows) → Covers rows others
covers-among rows others h = λ t a. inr (t, h t a, at-least-itself t)

-- What looks at the coefficients alone

pub upper-same : (x : ℕ) (s t : LinearSum) → IsAtLeast s t → is_upper x s ≡ is_upper x t
upper-same x s t h = ap (λ ps. int_lt (pos 0) (listed_at x ps)) h.parts

pub lower-same : (x : ℕ) (s t : LinearSum) → IsAtLeast s t → is_lower x s ≡ is_lower x t
lower-same x s t h = ap (λ ps. int_lt (listed_at x ps) (pos 0)) h.parts

pub free-same : (x : ℕ) (s t : LinearSum) → IsAtLeast s t → is_free x s ≡ is_free x t
free-same x s t h = ap (λ ps. is_zero (listed_at x ps)) h.parts

pub size-same : (x : ℕ) (s t : LinearSum) → IsAtLeast s t → size_of x s ≡ size_of x t
size-same x s t h = ap (λ ps. unsigned_abs (listed_at x ps)) h.parts

-- a row that bounds a column can fail
pub covered-upper : (x : ℕ) (rows : List LinearSum) (t : LinearSum) → IsTrue (is_upper x t) → IsCovered t rows → HasAtLeast t rows
covered-upper x rows t u (inl e) = absurd (apart (sym u ∙ ap (λ ps. int_lt (pos 0) (listed_at x ps)) (trivial-parts t e))) where
  apart : true ≡ false → ⊥
  apart n = cc
covered-upper x rows t u (inr g) = g

pub covered-lower : (x : ℕ) (rows : List LinearSum) (t : LinearSum) → IsTrue (is_lower x t) → IsCovered t rows → HasAtLeast t rows
covered-lower x rows t l (inl e) = absurd (apart (sym l ∙ ap (λ ps. int_lt (listed_at x ps) (pos 0)) (trivial-parts t e))) where
  apart : true ≡ false → ⊥
  apart n = cc
covered-lower x rows t l (inr g) = g

-- Sums of stronger rows

-- the sum of rows with these coefficients
abbrev parts_of_sum : ℕ → List (ℕ × ℤ) → List (ℕ × ℤ) → List (ℕ × ℤ)
parts_of_sum x ps qs = (pair_sum x (record { parts = ps; constant = pos 0 }, record { parts = qs; constant = pos 0 })).parts

pub sum-parts : (x : ℕ) (s u r l : LinearSum) → IsAtLeast s u → IsAtLeast r l → (pair_sum x (s, r)).parts ≡ (pair_sum x (u, l)).parts
sum-parts x s u r l h k = ap (λ ps. parts_of_sum x ps r.parts) h.parts ∙ ap (λ qs. parts_of_sum x u.parts qs) k.parts

product-grows : (m a b : ℤ) → pos 0 ≤ℤ m → a ≤ℤ b → (m *ℤ a) ≤ℤ (m *ℤ b)
product-grows m a b h k =
    let e : b ≡ (b -ℤ a) +ℤ a = omega (arith, ints) in
    let f : pos 0 ≤ℤ (m *ℤ (b -ℤ a)) = not_below m (b -ℤ a) h (omega (arith, ints, k)) in
    omega (arith, ints, f, mul-add m (b -ℤ a) a, ap (λ z. m *ℤ z) e) where
      not_below : (y z : ℤ) → pos 0 ≤ℤ y → pos 0 ≤ℤ z → pos 0 ≤ℤ (y *ℤ z)
      not_below y z p q = grind (arith, ints)

sum-constant : (x : ℕ) (s u r l : LinearSum) → IsAtLeast s u → IsAtLeast r l →
    (pair_sum x (u, l)).constant ≤ℤ (pair_sum x (s, r)).constant
sum-constant x s u r l h k =
    let m = λ (y z : ℕ). pos (upper_multiple y z) in
    let n = λ (y z : ℕ). pos (lower_multiple y z) in
    let em : m (size_of x s) (size_of x r) ≡ m (size_of x u) (size_of x l) = ap (λ y. m y (size_of x r)) (size-same x s u h)
    ∙ ap (λ z. m (size_of x u) z) (size-same x r l k) in
    let en : n (size_of x s) (size_of x r) ≡ n (size_of x u) (size_of x l) = ap (λ y. n y (size_of x r)) (size-same x s u h)
    ∙ ap (λ z. n (size_of x u) z) (size-same x r l k) in
    let a = product-grows (m (size_of x u) (size_of x l)) u.constant s.constant (positive _) h.constant in
    let b = product-grows (n (size_of x u) (size_of x l)) l.constant r.constant (positive _) k.constant in
    omega (arith, ints, a, b, ap (λ z. z *ℤ s.constant) em, ap (λ z. z *ℤ r.constant) en) where
      positive : (j : ℕ) → pos 0 ≤ℤ pos j
      positive j = omega (arith, ints)

pub sum-stronger : (x : ℕ) (s u r l : LinearSum) → IsAtLeast s u → IsAtLeast r l → IsAtLeast (pair_sum x (s, r)) (pair_sum x (u, l))
sum-stronger x s u r l h k =
    record { parts = sum-parts x s u r l h k; constant = sum-constant x s u r l h k }

pub ceiling-grows : (a b : ℤ) (d : ℕ) → 0 < d → a ≤ℤ b → ceiling_quotient a d ≤ℤ ceiling_quotient b d
ceiling-grows a b d h k =
    let c = ceiling_quotient a d in
    let e = ceiling_quotient b d in
    let p = ceiling-bounds a d h in
    let q = ceiling-bounds b d h in
    let f : c ≡ (c -ℤ e) +ℤ e = omega (arith, ints) in
    let g : (pos d *ℤ (c -ℤ e)) <ℤ pos d = omega (arith, ints, p.1, q.0, k, mul-add (pos d) (c -ℤ e) e, ap (λ z. pos d *ℤ z) f) in
    let i = below_multiplier (pos d) (c -ℤ e) (omega (arith, ints, h)) g in
    omega (arith, ints, i)

tightened-grows : (ps : List (ℕ × ℤ)) (a b : ℤ) → a ≤ℤ b → IsAtLeast (tightened (record { parts = ps; constant = b }))
    (tightened (record { parts = ps; constant = a }))
tightened-grows ps a b h = by_test (nat_lt 1 (parts_divisor ps)) refl where
  row : ℤ → LinearSum
  row c = record { parts = ps; constant = c }

  by_test : (t : Bool) → nat_lt 1 (parts_divisor ps) ≡ t → IsAtLeast (if t then divided (parts_divisor ps) (row b) else row b)
      (if t then divided (parts_divisor ps) (row a) else row a)
  by_test true e = record {
    parts = refl;
    constant = ceiling-grows a b (parts_divisor ps) (omega (arith, ltb-true 1 (parts_divisor ps) e)) h;
  }
  by_test false e = record { parts = refl; constant = h }

pub tightened-stronger : (s t : LinearSum) → IsAtLeast s t → IsAtLeast (tightened s) (tightened t)
tightened-stronger s t h =
    subst (λ (ps : List (ℕ × ℤ)). IsAtLeast (tightened (record { parts = ps; constant = s.constant })) (tightened t)) (sym h.parts)
    (tightened-grows t.parts t.constant s.constant h.constant)

-- The rows after a column

-- stronger rows of a pair
pub record IsPairAbove (x : ℕ) (rows : List LinearSum) (u l : LinearSum) : Type 0 where
  pub first : LinearSum
  pub second : LinearSum
  pub pair : IsPairOf x rows first second
  pub upper : IsAtLeast first u
  pub lower : IsAtLeast second l

pub pair-above : (x : ℕ) (rows others : List LinearSum) (u l : LinearSum) → Covers rows others → IsPairOf x others u l →
    IsPairAbove x rows u l
pair-above x rows others u l h p =
    let a = covered-upper x rows u p.is_upper (h u p.upper) in
    let b = covered-lower x rows l p.is_lower (h l p.lower) in
    record {
      first = a.0;
      second = b.0;
      pair = record {
        upper = a.1;
        lower = b.1;
        is_upper = upper-same x a.0 u a.2 ∙ p.is_upper;
        is_lower = lower-same x b.0 l b.2 ∙ p.is_lower;
      };
      upper = a.2;
      lower = b.2;
    }

-- what covers the rows before a column covers them after it
pub covers-behind : (x : ℕ) (rows others next beyond : List LinearSum) → Covers rows others → IsAfter x rows next →
    IsAfter x others beyond → Covers next beyond
covers-behind x rows others next beyond h a b = λ t k. by_origin t (b.from t k) where
  free_row : (t : LinearSum) → IsTrue (is_free x t) → IsCovered t rows → IsCovered t next
  free_row t f (inl e) = inl e
  free_row t f (inr g) =
      covered-weaker next g.0 t g.2 (a.free g.0 (record { here = g.1; free = free-same x g.0 t g.2 ∙ f }))

  by_origin : (t : LinearSum) → IsFreeIn x others t ⊎ IsMadeOf x others t → IsCovered t next
  by_origin t (inl f) = free_row t f.free (h t f.here)
  by_origin t (inr m) =
      let p = pair-above x rows others m.first m.second h m.pair in
      subst (λ (r : LinearSum). IsCovered r next) m.same (covered-weaker next (tightened (pair_sum x (p.first, p.second)))
      (tightened (pair_sum x (m.first, m.second))) (tightened-stronger (pair_sum x (p.first, p.second)) (pair_sum x (m.first, m.second))
      (sum-stronger x p.first m.first p.second m.second p.upper p.lower)) (a.made p.first p.second p.pair))

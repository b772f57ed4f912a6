-- The greatest and the least of integers, and the integer nearest to 0 between bounds.
use Rattle.std.proofs.Common.{◌≡◌, ◌⊎◌, inl, inr, Bool, true, false, List, [], ◌∷◌, ℤ, pos, arith, refl}
use Rattle.std.specs.Prelude.{◌≤ℤ◌, int_lt, if◌then◌else◌}
use Rattle.std.specs.Int.{int_max, int_min}
use Rattle.std.proofs.lemmas.Int.{ints}
use Rattle.shadow_elim.specs.Points.{greatest_of, least_of, nearest}
use Rattle.shadow_elim.proofs.Members.{Among}

max-cases : (a b : ℤ) → ((int_max a b ≡ a) × (b ≤ℤ a)) ⊎ ((int_max a b ≡ b) × (a ≤ℤ b))
max-cases a b = grind (arith, ints)

min-cases : (a b : ℤ) → ((int_min a b ≡ a) × (a ≤ℤ b)) ⊎ ((int_min a b ≡ b) × (b ≤ℤ a))
min-cases a b = grind (arith, ints)

max-left : (a b : ℤ) → a ≤ℤ int_max a b
max-left a b = by_side (max-cases a b) where
  by_side : ((int_max a b ≡ a) × (b ≤ℤ a)) ⊎ ((int_max a b ≡ b) × (a ≤ℤ b)) → a ≤ℤ int_max a b
  by_side (inl h) = omega (arith, ints, h.0)
  by_side (inr h) = omega (arith, ints, h.0, h.1)

max-right : (a b : ℤ) → b ≤ℤ int_max a b
max-right a b = by_side (max-cases a b) where
  by_side : ((int_max a b ≡ a) × (b ≤ℤ a)) ⊎ ((int_max a b ≡ b) × (a ≤ℤ b)) → b ≤ℤ int_max a b
  by_side (inl h) = omega (arith, ints, h.0, h.1)
  by_side (inr h) = omega (arith, ints, h.0)

min-left : (a b : ℤ) → int_min a b ≤ℤ a
min-left a b = by_side (min-cases a b) where
  by_side : ((int_min a b ≡ a) × (a ≤ℤ b)) ⊎ ((int_min a b ≡ b) × (b ≤ℤ a)) → int_min a b ≤ℤ a
  by_side (inl h) = omega (arith, ints, h.0)
  by_side (inr h) = omega (arith, ints, h.0, h.1)

min-right : (a b : ℤ) → int_min a b ≤ℤ b
min-right a b = by_side (min-cases a b) where
  by_side : ((int_min a b ≡ a) × (a ≤ℤ b)) ⊎ ((int_min a b ≡ b) × (b ≤ℤ a)) → int_min a b ≤ℤ b
  by_side (inl h) = omega (arith, ints, h.0, h.1)
  by_side (inr h) = omega (arith, ints, h.0)

-- The greatest

pub greatest-start : (z : ℤ) (ys : List ℤ) → z ≤ℤ greatest_of z ys
greatest-start z [] = omega (arith, ints)
greatest-start z (y ∷ ys) = omega (arith, ints, max-left z y, greatest-start (int_max z y) ys)

pub greatest-above : (z : ℤ) (ys : List ℤ) (w : ℤ) → Among w ys → w ≤ℤ greatest_of z ys
greatest-above z [] w h = absurd h
greatest-above z (y ∷ ys) w (inl e) =
    omega (arith, ints, e, max-right z y, greatest-start (int_max z y) ys)
greatest-above z (y ∷ ys) w (inr h) = greatest-above (int_max z y) ys w h

pub greatest-limit : (z : ℤ) (ys : List ℤ) (m : ℤ) → z ≤ℤ m → ((w : ℤ) → Among w ys → w ≤ℤ m) → greatest_of z ys ≤ℤ m
greatest-limit z [] m h k = h
greatest-limit z (y ∷ ys) m h k = greatest-limit (int_max z y) ys m (by_side (max-cases z y)) (λ w a. k w (inr a)) where
  by_side : ((int_max z y ≡ z) × (y ≤ℤ z)) ⊎ ((int_max z y ≡ y) × (z ≤ℤ y)) → int_max z y ≤ℤ m
  by_side (inl e) = omega (arith, ints, e.0, h)
  by_side (inr e) = omega (arith, ints, e.0, k y (inl refl))

-- the start or one of these reaches the greatest
pub greatest-reached : (z : ℤ) (ys : List ℤ) (m : ℤ) → m ≤ℤ greatest_of z ys → (m ≤ℤ z) ⊎ ((w : ℤ) × Among w ys × (m ≤ℤ w))
greatest-reached z [] m h = inl h
greatest-reached z (y ∷ ys) m h = by_reach (greatest-reached (int_max z y) ys m h) (max-cases z y) where
  by_reach : (m ≤ℤ int_max z y) ⊎ ((w : ℤ) × Among w ys × (m ≤ℤ w)) → ((int_max z y ≡ z) × (y ≤ℤ z)) ⊎ ((int_max z y ≡ y) × (z ≤ℤ y)) →
      (m ≤ℤ z) ⊎ ((w : ℤ) × Among w (y ∷ ys) × (m ≤ℤ w))
  by_reach (inl k) (inl e) = inl (omega (arith, ints, e.0, k))
  by_reach (inl k) (inr e) = inr (y, inl refl, omega (arith, ints, e.0, k))
  by_reach (inr k) e = inr (k.0, inr k.1, k.2)

-- The least

pub least-start : (z : ℤ) (ys : List ℤ) → least_of z ys ≤ℤ z
least-start z [] = omega (arith, ints)
least-start z (y ∷ ys) = omega (arith, ints, min-left z y, least-start (int_min z y) ys)

pub least-below : (z : ℤ) (ys : List ℤ) (w : ℤ) → Among w ys → least_of z ys ≤ℤ w
least-below z [] w h = absurd h
least-below z (y ∷ ys) w (inl e) = omega (arith, ints, e, min-right z y, least-start (int_min z y) ys)
least-below z (y ∷ ys) w (inr h) = least-below (int_min z y) ys w h

pub least-limit : (z : ℤ) (ys : List ℤ) (m : ℤ) → m ≤ℤ z → ((w : ℤ) → Among w ys → m ≤ℤ w) → m ≤ℤ least_of z ys
least-limit z [] m h k = h
least-limit z (y ∷ ys) m h k = least-limit (int_min z y) ys m (by_side (min-cases z y)) (λ w a. k w (inr a)) where
  by_side : ((int_min z y ≡ z) × (z ≤ℤ y)) ⊎ ((int_min z y ≡ y) × (y ≤ℤ z)) → m ≤ℤ int_min z y
  by_side (inl e) = omega (arith, ints, e.0, h)
  by_side (inr e) = omega (arith, ints, e.0, k y (inl refl))

-- The nearest

pub nearest-within : (low high : ℤ) → low ≤ℤ high → (low ≤ℤ nearest low high) × (nearest low high ≤ℤ high)
nearest-within low high h = by_tests (int_lt (pos 0) low) (int_lt high (pos 0)) refl refl where
  above : int_lt (pos 0) low ≡ false → low ≤ℤ pos 0
  above e = grind (arith, ints)

  below : int_lt high (pos 0) ≡ false → pos 0 ≤ℤ high
  below e = grind (arith, ints)

  by_tests : (s t : Bool) → int_lt (pos 0) low ≡ s → int_lt high (pos 0) ≡ t → (low ≤ℤ (if s then low else (if t then high else pos 0)))
      × ((if s then low else (if t then high else pos 0)) ≤ℤ high)
  by_tests true t e f = (omega (arith, ints), h)
  by_tests false true e f = (h, omega (arith, ints))
  by_tests false false e f = (above e, below f)

-- Constants as the code computes them, and whole results.
use Rattle.std.proofs.Common.{◌≡◌, ℕ, zero, suc, ◌<◌, ◌≤◌, ◌+◌, ◌*◌, ◌^◌, List, [], ◌∷◌, ◌++◌, length, get_or, set, take, drop, map, ℤ, pos, negsuc, ◌+ℤ◌, ◌-ℤ◌, ◌*ℤ◌, neg_ℤ, to_z, of_z, FitsSigned, arith, refl, ◌∙◌, ap, sym, subst, to_z-of_z}
use Rattle.std.specs.Int.{w64, w128}
use Rattle.std.specs.Prelude.{unsigned_abs, IsTrue, ◌≤ℤ◌, ◌↔◌, int_le, Bool, true, false}
use Rattle.std.proofs.lemmas.Int.{ints, unsigned_abs-mul, fits_signed_from_abs}
use Rattle.std.proofs.Math.Nat.{mul-le-mul}
use Rattle.std.proofs.lemmas.List.Edits.{map_over_more}
use Rattle.linear_formula.specs.LinearSum.{LinearSum, is_within, is_term, coefficient}
use Rattle.linear_formula.specs.steps.Order.{AllWithin}
use Rattle.linear_formula.specs.Results.{plus_multiple, plus_parts, plus_both, combination, negated, negated_parts, substituted, without_part, without_column}
use Rattle.linear_formula.proofs.Fronts.{both_left}
use Rattle.linear_formula.proofs.Limits.{IsTerm, Within-from_test, IsTerm-from_test}
use Rattle.linear_formula.proofs.Merging.{at}
use Rattle.linear_formula.proofs.Order.{plus_parts-negated, plus_parts-once, plus_parts-zero, without_part-absent, InOrder-without, InOrder-negated, AllWithin-negated, length-negated}
use Rattle.linear_formula.proofs.Ring.{one-mul, zero-mul}

pub cast_wide : (z : ℤ) → unsigned_abs z ≤ 2 ^ 126 → to_z w128 (of_z w128 z) ≡ z
cast_wide z h = to_z-of_z (fits_signed_from_abs w128 z (omega (arith, h)))

pub fits_wide : (z : ℤ) → unsigned_abs z ≤ 2 ^ 126 → FitsSigned w128 z
fits_wide z h = fits_signed_from_abs w128 z (omega (arith, h))

pub product_wide : (m a : ℤ) → unsigned_abs m ≤ 2 ^ 40 → unsigned_abs a ≤ 2 ^ 84 → unsigned_abs (m *ℤ a) ≤ 2 ^ 124
product_wide m a h k =
    let e : unsigned_abs m * unsigned_abs a ≤ 2 ^ 40 * 2 ^ 84 = mul-le-mul h k in
    omega (arith, unsigned_abs-mul m a, e)

sum_wide : (a b : ℤ) → unsigned_abs a ≤ 2 ^ 124 → unsigned_abs b ≤ 2 ^ 124 → unsigned_abs (a +ℤ b) ≤ 2 ^ 126
sum_wide a b h k = omega (arith, ints, h, k)

-- m times a constant, in the code's words
abbrev pub scaled_constant : ℤ → ℤ → ℤ
scaled_constant m a = to_z w128 (of_z w128 m) *ℤ to_z w128 (of_z w128 a)

scaled_is : (m a : ℤ) → unsigned_abs m ≤ 2 ^ 40 → unsigned_abs a ≤ 2 ^ 84 → scaled_constant m a ≡ m *ℤ a
scaled_is m a h k = rw (cast_wide m (omega (arith, h)), cast_wide a (omega (arith, k))) refl

pub fits_scaled_constant : (m a : ℤ) → unsigned_abs m ≤ 2 ^ 40 → unsigned_abs a ≤ 2 ^ 84 → FitsSigned w128 (scaled_constant m a)
fits_scaled_constant m a h k =
    rw (scaled_is m a h k) (fits_wide (m *ℤ a) (omega (arith, product_wide m a h k)))

scaled_cast : (m a : ℤ) → unsigned_abs m ≤ 2 ^ 40 → unsigned_abs a ≤ 2 ^ 84 → to_z w128 (of_z w128 (scaled_constant m a)) ≡ m *ℤ a
scaled_cast m a h k =
    rw (scaled_is m a h k) (cast_wide (m *ℤ a) (omega (arith, product_wide m a h k)))

-- both multiples of constants
abbrev pub both_constants : ℤ → ℤ → ℤ → ℤ → ℤ
both_constants m a n b = to_z w128 (of_z w128 (scaled_constant m a)) +ℤ to_z w128 (of_z w128 (scaled_constant n b))

both_is : (m a n b : ℤ) → unsigned_abs m ≤ 2 ^ 40 → unsigned_abs a ≤ 2 ^ 84 → unsigned_abs n ≤ 2 ^ 40 → unsigned_abs b ≤ 2 ^ 84 →
    both_constants m a n b ≡ (m *ℤ a) +ℤ (n *ℤ b)
both_is m a n b hm ha hn hb = rw (scaled_cast m a hm ha, scaled_cast n b hn hb) refl

pub fits_both_constants : (m a n b : ℤ) → unsigned_abs m ≤ 2 ^ 40 → unsigned_abs a ≤ 2 ^ 84 → unsigned_abs n ≤ 2 ^ 40 →
    unsigned_abs b ≤ 2 ^ 84 → FitsSigned w128 (both_constants m a n b)
fits_both_constants m a n b hm ha hn hb =
    rw (both_is m a n b hm ha hn hb)
    (fits_wide ((m *ℤ a) +ℤ (n *ℤ b)) (sum_wide (m *ℤ a) (n *ℤ b) (product_wide m a hm ha) (product_wide n b hn hb)))

pub both_cast : (m a n b : ℤ) → unsigned_abs m ≤ 2 ^ 40 → unsigned_abs a ≤ 2 ^ 84 → unsigned_abs n ≤ 2 ^ 40 → unsigned_abs b ≤ 2 ^ 84 →
    to_z w128 (of_z w128 (both_constants m a n b)) ≡ (m *ℤ a) +ℤ (n *ℤ b)
both_cast m a n b hm ha hn hb =
    rw (both_is m a n b hm ha hn hb)
    (cast_wide ((m *ℤ a) +ℤ (n *ℤ b)) (sum_wide (m *ℤ a) (n *ℤ b) (product_wide m a hm ha) (product_wide n b hn hb)))

pub both_parts_same : (m m' n n' : ℤ) (ps ps' qs : List (ℕ × ℤ)) → m' ≡ m → n' ≡ n → ps' ≡ ps → both_left m' ps' n' qs ≡ both_left m ps n qs
both_parts_same m m' n n' ps ps' qs a b e = cc

abbrev pub SameSum : LinearSum → LinearSum → Type 0
SameSum s t = s ≡ t

pub one_less : (c : ℤ) → unsigned_abs c ≤ 2 ^ 84 → to_z w128 (of_z w128 (pos 1 -ℤ to_z w128 (of_z w128 c))) ≡ pos 1 -ℤ c
one_less c h =
    rw (cast_wide c (omega (arith, h))) (cast_wide (pos 1 -ℤ c) (omega (arith, ints, h)))

pub sum_same : (ps qs : List (ℕ × ℤ)) (c d : ℤ) → ps ≡ qs → c ≡ d → let s : LinearSum = record { parts = ps; constant = c } in
    let t : LinearSum = record { parts = qs; constant = d } in s ≡ t
sum_same ps qs c d e f = cc

-- The results in other words

pub combination-both : (m : ℤ) (t : LinearSum) (n : ℤ) (u : LinearSum) → plus_both m t n u ≡ combination ((m, t) ∷ (n, u) ∷ []) (pos 0)
combination-both m t n u =
    sum_same (both_left m t.parts n u.parts) (both_left m t.parts n u.parts) ((m *ℤ t.constant) +ℤ (n *ℤ u.constant))
    ((m *ℤ t.constant) +ℤ ((n *ℤ u.constant) +ℤ pos 0)) refl (omega (arith, ints))

pub substituted-both : (x : ℕ) (by t : LinearSum) → IsTerm t → plus_both (coefficient x t) by (pos 1) (without_column x t) ≡ substituted x
    by t
substituted-both x by t k =
    sum_same (both_left (coefficient x t) by.parts (pos 1) (without_part x t.parts))
    (plus_parts (coefficient x t) by.parts (without_part x t.parts)) ((coefficient x t *ℤ by.constant) +ℤ (pos 1 *ℤ t.constant))
    ((coefficient x t *ℤ by.constant) +ℤ t.constant)
    (ap (plus_parts (coefficient x t) by.parts) (plus_parts-once 0 (without_part x t.parts) (InOrder-without 0 x t.parts k.order)))
    (omega (arith, ints, one-mul t.constant))

-- a multiple, and another sum once
pub both-once : (m : ℤ) (t u : LinearSum) → IsTerm u → plus_both m t (pos 1) u ≡ plus_multiple m t u
both-once m t u k =
    sum_same (both_left m t.parts (pos 1) u.parts) (plus_parts m t.parts u.parts) ((m *ℤ t.constant) +ℤ (pos 1 *ℤ u.constant))
    ((m *ℤ t.constant) +ℤ u.constant) (ap (plus_parts m t.parts) (plus_parts-once 0 u.parts k.order))
    (omega (arith, ints, one-mul u.constant))

pub substituted-absent : (x : ℕ) (by t : LinearSum) → IsTerm t → coefficient x t ≡ pos 0 → t ≡ substituted x by t
substituted-absent x by t k e =
    let w : without_part x t.parts ≡ t.parts = without_part-absent 0 x t.parts k.order e in
    let p : plus_parts (coefficient x t) by.parts (without_part x t.parts)
    ≡ t.parts = ap (λ z. plus_parts z by.parts (without_part x t.parts))
    e ∙ plus_parts-zero 0 by.parts (without_part x t.parts) (InOrder-without 0 x t.parts k.order) ∙ w in
    let q : t.constant ≡ (coefficient x t *ℤ by.constant) +ℤ t.constant = omega (
      arith,
      ints,
      ap (λ z. z *ℤ by.constant) e,
      zero-mul by.constant,
    )
    in
    sum_same t.parts (plus_parts (coefficient x t) by.parts (without_part x t.parts)) t.constant
    ((coefficient x t *ℤ by.constant) +ℤ t.constant)
    (sym p) q

pub negated-is : (t : LinearSum) → IsTerm t → let s : LinearSum = record { parts = negated_parts t.parts; constant = pos 1 -ℤ t.constant }
    in
    s ≡ negated t
negated-is t k =
    sum_same (negated_parts t.parts) (plus_parts (negsuc 0) t.parts []) (pos 1 -ℤ t.constant) ((negsuc 0 *ℤ t.constant) +ℤ pos 1)
    (sym (plus_parts-negated 0 t.parts k.order)) (omega (arith, ints))

pub IsTerm-negated : (t : LinearSum) (c : ℤ) → IsTerm t → unsigned_abs c ≤ 2 ^ 84 →
    let s : LinearSum = record { parts = negated_parts t.parts; constant = c } in IsTerm s
IsTerm-negated t c k h = record {
  order = InOrder-negated 0 t.parts k.order;
  within = record {
    count = omega (arith, length-negated t.parts, k.within.count);
    coefficients = AllWithin-negated t.parts k.within.coefficients;
    constant_limit = h;
  };
}

-- The signs, in place

pub negated_parts-map : (ps : List (ℕ × ℤ)) → negated_parts ps ≡ map (λ p. (p.0, neg_ℤ p.1)) ps
negated_parts-map [] = refl
negated_parts-map (p ∷ ps) = ap (λ l. (p.0, neg_ℤ p.1) ∷ l) (negated_parts-map ps)

pub AllWithin-at : (ps : List (ℕ × ℤ)) (k : ℕ) → k < length ps → AllWithin ps → unsigned_abs (at ps k).1 ≤ 2 ^ 40
AllWithin-at [] k h w = absurd (omega (arith, h))
AllWithin-at (p ∷ ps) zero h w = w.0
AllWithin-at (p ∷ ps) (suc k) h w = AllWithin-at ps k (omega (arith, h)) w.1

pub AllWithin-set : (ps : List (ℕ × ℤ)) (k : ℕ) (q : ℕ × ℤ) → unsigned_abs q.1 ≤ 2 ^ 40 → AllWithin ps → AllWithin (set ps k q)
AllWithin-set [] k q h w = tt
AllWithin-set (p ∷ ps) zero q h w = (h, w.1)
AllWithin-set (p ∷ ps) (suc k) q h w = (w.0, AllWithin-set ps k q h w.1)

any_default : (ps : List (ℕ × ℤ)) (k : ℕ) (d e : ℕ × ℤ) → k < length ps → get_or ps k d ≡ get_or ps k e
any_default [] k d e h = absurd (omega (arith, h))
any_default (p ∷ ps) zero d e h = refl
any_default (p ∷ ps) (suc k) d e h = any_default ps k d e (omega (arith, h))

pub negate-step : (start now : List (ℕ × ℤ)) (k : ℕ) (a : ℤ) → k < length start → length now ≡ length start →
    now ≡ negated_parts (take k start) ++ drop k start → a ≡ neg_ℤ (at now k).1 → set now k ((at now k).0, a) ≡ negated_parts
    (take (k + 1) start) ++ drop (k + 1) start
negate-step start now k a h l e n =
    let f : ℕ × ℤ → ℕ × ℤ = λ p. (p.0, neg_ℤ p.1) in
    let so_far : now ≡ map f (take k start) ++ drop k start = e ∙ ap (λ r. r ++ drop k start) (negated_parts-map (take k start)) in
    let there : at now k ≡ get_or now k (at now k) = any_default now k (0, pos 0) (at now k) (omega (arith, h, l)) in
    ap (λ z. set now k ((at now k).0, z)) n ∙ map_over_more f start now k (at now k) h so_far there ∙ ap (λ r. r ++ drop (k + 1) start)
    (sym (negated_parts-map (take (k + 1) start)))

-- a sign changed, in the code's words
pub cast_sign : (a : ℤ) → unsigned_abs a ≤ 2 ^ 40 → to_z w128 (of_z w128 (pos 0 -ℤ to_z w128 (of_z w128 a))) ≡ neg_ℤ a
cast_sign a h =
    rw (cast_wide a (omega (arith, h))) (cast_wide (pos 0 -ℤ a) (omega (arith, ints, h)) ∙ omega (arith, ints))

pub fits_sign : (a : ℤ) → unsigned_abs a ≤ 2 ^ 40 → FitsSigned w128 (pos 0 -ℤ to_z w128 (of_z w128 a))
fits_sign a h = rw (cast_wide a (omega (arith, h))) (fits_wide (pos 0 -ℤ a) (omega (arith, ints, h)))

pub sign_small : (a : ℤ) → unsigned_abs a ≤ 2 ^ 40 → unsigned_abs (to_z w128 (of_z w128 (pos 0 -ℤ to_z w128 (of_z w128 a)))) ≤ 2 ^ 40
sign_small a h = rw (cast_sign a h) (omega (arith, ints, h))

pub constant_limit : (t : LinearSum) (c : ℤ) → c ≡ t.constant → IsTrue (is_term t) → unsigned_abs c ≤ 2 ^ 84
constant_limit t c e k = subst (λ z. unsigned_abs z ≤ 2 ^ 84) (sym e) (IsTerm-from_test t k).within.constant_limit

pub both_same : (m m' : ℤ) (t : LinearSum) (n n' : ℤ) (u : LinearSum) (ps : List (ℕ × ℤ)) (c : ℤ) → m' ≡ m → n' ≡ n → ps ≡ u.parts →
    c ≡ u.constant → plus_both m' t n' (record { parts = ps; constant = c }) ≡ plus_both m t n u
both_same m m' t n n' u ps c em en ep ec =
    let P : ℤ → ℤ → LinearSum → Type 0 = λ x y z. plus_both m' t n' (record { parts = ps; constant = c }) ≡ plus_both x t y z in
    subst (λ x. P x n u) em (subst (λ y. P m' y u) en (ap (plus_both m' t n') (sum_same ps u.parts c u.constant ep ec)))

-- a multiplier and a constant as the code passes them
pub first_is : (m n : ℤ) → FitsSigned w64 m → n ≡ to_z w64 (of_z w64 m) → to_z w128 (of_z w128 n) ≡ m
first_is m n f e = omega (arith, ints, f, e)

pub constant_is : (t : LinearSum) (c : ℤ) → c ≡ t.constant → IsTrue (is_term t) → to_z w128 (of_z w128 c) ≡ t.constant
constant_is t c e k = cast_wide c (omega (arith, constant_limit t c e k)) ∙ e

-- a sum that is not above 0 and the negated one
pub negated_holds : (a b : ℤ) → b ≡ pos 1 -ℤ a → (b ≤ℤ pos 0) ↔ (¬ (a ≤ℤ pos 0))
negated_holds a b e = ((λ h k. omega (arith, ints, e, h, k)), (λ h. by_sign (int_le a (pos 0)) refl h)) where
  by_sign : (s : Bool) → int_le a (pos 0) ≡ s → (¬ (a ≤ℤ pos 0)) → b ≤ℤ pos 0
  by_sign true d h = absurd (h (omega (arith, ints, d)))
  by_sign false d h = omega (arith, ints, e, d)

pub negate-within : (t : LinearSum) (c : ℤ) → IsTrue (is_within (negated t)) → c ≡ pos 1 -ℤ t.constant → unsigned_abs c ≤ 2 ^ 84
negate-within t c h e =
    let w = (Within-from_test (negated t) h).constant_limit in
    let d : (negsuc 0 *ℤ t.constant) +ℤ pos 1 ≡ c = omega (arith, ints, e) in
    subst (λ z. unsigned_abs z ≤ 2 ^ 84) d w

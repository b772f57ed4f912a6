-- Rows divided by a common divisor of their coefficients.
use Rattle.std.proofs.Common.{◌≡◌, ◌≢◌, ℕ, suc, zero, ◌<◌, ◌≤◌, ◌+◌, ◌^◌, List, [], ◌∷◌, ◌++◌, length, get_or, take, drop, ℤ, pos, negsuc, to_z, of_z, to_z-of_z, FitsSigned, arith, refl, sym, ap, ◌∙◌, subst}
use Rattle.std.specs.Prelude.{unsigned_abs, IsTrue}
use Rattle.std.specs.Int.{w128, int_div_euclid, ◌∣◌}
use Rattle.std.proofs.Math.Nat.{div-le_self, div-eq-sub-div}
use Rattle.std.proofs.Math.Numerals.{add-one}
use Rattle.std.proofs.lemmas.Int.{ints}
use Rattle.std.proofs.lemmas.Nat.Gcd.{dvd_refl, dvd_trans, le_of_dvd}
use Rattle.linear_formula.specs.LinearSum.{LinearSum, is_term}
use Rattle.linear_formula.specs.steps.Order.{InOrder, AllWithin}
use Rattle.linear_formula.proofs.Limits.{IsTerm, IsTerm-from_test, test-from_IsTerm}
use Rattle.linear_formula.proofs.Finishing.{cast_wide}
use Rattle.shadow_elim.specs.Division.{common_divisor, parts_divisor, divided_parts, divided, floor_quotient, ceiling_quotient}
use Rattle.shadow_elim.proofs.Divisors.{IsGcd-common_divisor, common_divisor-one}

-- the earlier parts don't matter where the later ones have no common divisor
pub parts_divisor-one : (k : ℕ) (ps : List (ℕ × ℤ)) → parts_divisor (drop k ps) ≡ 1 → parts_divisor ps ≡ 1
parts_divisor-one zero ps h = h
parts_divisor-one (suc k) [] h = h
parts_divisor-one (suc k) (p ∷ ps) h =
    ap (common_divisor (unsigned_abs p.1)) (parts_divisor-one k ps h) ∙ common_divisor-one (unsigned_abs p.1)

divided_parts-next : (d k : ℕ) (ps : List (ℕ × ℤ)) (q : ℕ × ℤ) → k < length ps → divided_parts d (take (suc k) ps) ≡ divided_parts d
    (take k ps) ++ ((get_or ps k q).0, floor_quotient (get_or ps k q).1 d) ∷ []
divided_parts-next d k [] q h = absurd (omega (arith, h))
divided_parts-next d zero (p ∷ ps) q h = refl
divided_parts-next d (suc k) (p ∷ ps) q h =
    ap (λ l. (p.0, floor_quotient p.1 d) ∷ l) (divided_parts-next d k ps q (omega (arith, h)))

pub divided_parts-more : (d k : ℕ) (ps : List (ℕ × ℤ)) (q : ℕ × ℤ) (a : ℤ) (now next : List (ℕ × ℤ)) → k < length ps →
    a ≡ floor_quotient (get_or ps k q).1 d → now ≡ divided_parts d (take k ps) → next ≡ now ++ ((get_or ps k q).0, a) ∷ [] →
    next ≡ divided_parts d (take (k + 1) ps)
divided_parts-more d k ps q a now next h e f g =
    g ∙ ap (λ l. l ++ ((get_or ps k q).0, a) ∷ []) f ∙ ap (λ z. divided_parts d (take k ps) ++ ((get_or ps k q).0, z) ∷ []) e
    ∙ sym (divided_parts-next d k ps q h) ∙ ap (λ n. divided_parts d (take n ps)) (sym (add-one k))

-- the number divides each coefficient
abbrev pub DividesAll : ℕ → List (ℕ × ℤ) → Type 0
DividesAll d [] = Unit {0}
DividesAll d (p ∷ ps) = (d ∣ unsigned_abs p.1) × DividesAll d ps

pub DividesAll-divisor : (d : ℕ) (ps : List (ℕ × ℤ)) → d ∣ parts_divisor ps → DividesAll d ps
DividesAll-divisor d [] h = tt
DividesAll-divisor d (p ∷ ps) h =
    let g = IsGcd-common_divisor (unsigned_abs p.1) (parts_divisor ps) in
    (dvd_trans d h g.0, DividesAll-divisor d ps (dvd_trans d h g.1))

floor-small : (z : ℤ) (d : ℕ) → unsigned_abs (floor_quotient z d) ≤ unsigned_abs z
floor-small (pos a) d = div-le_self a d
floor-small (negsuc a) d = omega (arith, div-le_self a d)

floor-fits : (z : ℤ) (d : ℕ) → FitsSigned w128 z → FitsSigned w128 (floor_quotient z d)
floor-fits (pos a) d h = omega (arith, ints, h, div-le_self a d)
floor-fits (negsuc a) d h = omega (arith, ints, h, div-le_self a d)

-- a quotient in the code's words
pub quotient_is : (z q f : ℤ) (d : ℕ) → FitsSigned w128 z → d < 2 ^ 64 → f ≡ pos d → q ≡ int_div_euclid (to_z w128 (of_z w128 z))
    (to_z w128 (of_z w128 f)) → to_z w128 (of_z w128 q) ≡ floor_quotient z d
quotient_is z q f d h k e g =
    let same : to_z w128 (of_z w128 z) ≡ z = to_z-of_z h in
    let by : to_z w128 (of_z w128 f) ≡ pos d = omega (arith, ints, e) in
    let r : q ≡ floor_quotient z d = g ∙ ap (λ y. int_div_euclid y (to_z w128 (of_z w128 f))) same ∙ ap (int_div_euclid z) by in
    ap (λ y. to_z w128 (of_z w128 y)) r ∙ to_z-of_z (floor-fits z d h)

floor-apart : (z : ℤ) (d : ℕ) → 0 < d → d ∣ unsigned_abs z → z ≢ pos 0 → floor_quotient z d ≢ pos 0
floor-apart (pos zero) d h k n = absurd (n refl)
floor-apart (pos (suc a)) d h k n =
    let le : d ≤ suc a = le_of_dvd (omega arith) k in
    λ e. omega (arith, ints, e, div-eq-sub-div {m = d} {n = suc a} h le)
floor-apart (negsuc a) d h k n = λ e. cc

pub ceiling-small : (z : ℤ) (d : ℕ) → unsigned_abs (ceiling_quotient z d) ≤ unsigned_abs z
ceiling-small (pos zero) d = omega (arith, ints, div-le_self 0 d)
ceiling-small (pos (suc a)) d = omega (arith, ints, div-le_self a d)
ceiling-small (negsuc a) d = omega (arith, ints, div-le_self (suc a) d)

InOrder-divided : (low d : ℕ) (ps : List (ℕ × ℤ)) → 0 < d → DividesAll d ps → InOrder low ps → InOrder low (divided_parts d ps)
InOrder-divided low d [] h k o = tt
InOrder-divided low d (p ∷ ps) h k o =
    (o.0, o.1, floor-apart p.1 d h k.0 o.2, InOrder-divided (p.0 + 1) d ps h k.1 o.3)

AllWithin-divided : (d : ℕ) (ps : List (ℕ × ℤ)) → AllWithin ps → AllWithin (divided_parts d ps)
AllWithin-divided d [] h = tt
AllWithin-divided d (p ∷ ps) h = (omega (arith, h.0, floor-small p.1 d), AllWithin-divided d ps h.1)

pub length-divided : (d : ℕ) (ps : List (ℕ × ℤ)) → length (divided_parts d ps) ≡ length ps
length-divided d [] = refl
length-divided d (p ∷ ps) = ap suc (length-divided d ps)

pub IsTerm-divided : (d : ℕ) (t : LinearSum) → 0 < d → d ∣ parts_divisor t.parts → IsTerm t → IsTerm (divided d t)
IsTerm-divided d t h k i = record {
  order = InOrder-divided 0 d t.parts h (DividesAll-divisor d t.parts k) i.order;
  within = record {
    count = omega (arith, length-divided d t.parts, i.within.count);
    coefficients = AllWithin-divided d t.parts i.within.coefficients;
    constant_limit = omega (arith, ceiling-small t.constant d, i.within.constant_limit);
  };
}

-- the divided row in the code's words
pub is_term-divided : (d : ℕ) (t : LinearSum) (ps : List (ℕ × ℤ)) (c : ℤ) → 0 < d → d ≡ parts_divisor t.parts → IsTrue (is_term t) →
    ps ≡ divided_parts d t.parts → c ≡ ceiling_quotient t.constant d →
    IsTrue (is_term (record { parts = ps; constant = to_z w128 (of_z w128 c) }))
is_term-divided d t ps c h e k p q =
    let i = IsTerm-from_test t k in
    let small : unsigned_abs c ≤ 2 ^ 84 = omega (arith, ap unsigned_abs q, ceiling-small t.constant d, i.within.constant_limit) in
    let same : divided d t ≡ record { parts = ps; constant = to_z w128 (of_z w128 c) } = cc (cast_wide c (omega (arith, small))) in
    subst (λ (s : LinearSum). IsTrue (is_term s)) same
    (test-from_IsTerm (divided d t) (IsTerm-divided d t h (subst (λ (n : ℕ). d ∣ n) e (dvd_refl d)) i))

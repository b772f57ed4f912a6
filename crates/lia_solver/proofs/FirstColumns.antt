-- Rows by the first column that they name.
use Rattle.std.proofs.Common.{◌≡◌, ◌⊎◌, inl, inr, ℕ, ◌<◌, ◌≤◌, ◌+◌, ◌==◌, nat_le, Bool, true, false, List, [], ◌∷◌, length, get_or, ℤ, pos, arith, refl, sym, ap, subst, ◌∙◌}
use Rattle.std.specs.Prelude.{IsTrue, int_lt, if◌then◌else◌}
use Rattle.std.proofs.lemmas.Bool.{cases_lt}
use Rattle.std.proofs.lemmas.Bool.Decides.{nat_tests}
use borrow.Author.Tests.{eqb-true, eq-eqb}
use Rattle.linear_formula.specs.LinearSum.{LinearSum, coefficient, listed_at, is_term, is_within}
use Rattle.linear_formula.specs.steps.Order.{InOrder}
use Rattle.linear_formula.proofs.Limits.{IsTerm-from_test}
use Rattle.linear_formula.proofs.Order.{listed-absent}
use Rattle.shadow_elim.specs.Division.{tightened}
use Rattle.shadow_elim.specs.Elimination.{is_upper, is_lower, pair_sum}
use Rattle.shadow_elim.proofs.PairSums.{upper-is, lower-is, pair_sum-term, pair_sum-absent, pair_sum-eliminates}
use Rattle.shadow_elim.proofs.Tests.{first_true, second_true, at_most_yes, at_most_no}
use Rattle.shadow_elim.proofs.Tightening.{tightened-term, tightened-absent}
use Rattle.lia_solver.specs.steps.Entries.{first_of, bounds_above, bounds_below}
use Rattle.lia_solver.specs.steps.Tables.{starts_from}

-- the first coefficient is that of the column
pub record IsFirstOf (x : ℕ) (ps : List (ℕ × ℤ)) : Type 0 where
  pub some : 0 < length ps
  pub first : (get_or ps 0 (0, pos 0)).1 ≡ listed_at x ps

first-of : (x : ℕ) (p : ℕ × ℤ) (ps : List (ℕ × ℤ)) → (x == p.0) ≡ true → IsFirstOf x (p ∷ ps)
first-of x p ps e = record {
  some = omega arith;
  first = sym (ap (λ b. if b then p.1 else listed_at x ps) e);
}

pub above-first : (x : ℕ) (ps : List (ℕ × ℤ)) → IsTrue (bounds_above x ps) → IsFirstOf x ps
above-first x [] h = absurd (cc)
above-first x (p ∷ ps) h = first-of x p ps (first_true (x == p.0) (int_lt (pos 0) p.1) h)

pub below-first : (x : ℕ) (ps : List (ℕ × ℤ)) → IsTrue (bounds_below x ps) → IsFirstOf x ps
below-first x [] h = absurd (cc)
below-first x (p ∷ ps) h = first-of x p ps (first_true (x == p.0) (int_lt p.1 (pos 0)) h)

pub above-upper : (x : ℕ) (t : LinearSum) → IsTrue (bounds_above x t.parts) → IsTrue (is_upper x t)
above-upper x t h = of_parts t.parts h where
  of_parts : (ps : List (ℕ × ℤ)) → IsTrue (bounds_above x ps) → IsTrue (int_lt (pos 0) (listed_at x ps))
  of_parts [] k = absurd (cc)
  of_parts (p ∷ ps) k =
      ap (λ b. int_lt (pos 0) (if b then p.1 else listed_at x ps)) (first_true (x == p.0) (int_lt (pos 0) p.1) k)
      ∙ second_true (x == p.0) (int_lt (pos 0) p.1) k

pub below-lower : (x : ℕ) (t : LinearSum) → IsTrue (bounds_below x t.parts) → IsTrue (is_lower x t)
below-lower x t h = of_parts t.parts h where
  of_parts : (ps : List (ℕ × ℤ)) → IsTrue (bounds_below x ps) → IsTrue (int_lt (listed_at x ps) (pos 0))
  of_parts [] k = absurd (cc)
  of_parts (p ∷ ps) k =
      ap (λ b. int_lt (if b then p.1 else listed_at x ps) (pos 0)) (first_true (x == p.0) (int_lt p.1 (pos 0)) k)
      ∙ second_true (x == p.0) (int_lt p.1 (pos 0)) k

-- The first column that a row names

above-named : (x : ℕ) (ps : List (ℕ × ℤ)) → IsTrue (bounds_above x ps) → first_of ps ≡ x
above-named x [] h = absurd (cc)
above-named x (p ∷ ps) h = sym (eqb-true x p.0 (first_true (x == p.0) (int_lt (pos 0) p.1) h))

below-named : (x : ℕ) (ps : List (ℕ × ℤ)) → IsTrue (bounds_below x ps) → first_of ps ≡ x
below-named x [] h = absurd (cc)
below-named x (p ∷ ps) h = sym (eqb-true x p.0 (first_true (x == p.0) (int_lt p.1 (pos 0)) h))

-- a row that bounds x names it first
pub bounding-named : (x : ℕ) (ps : List (ℕ × ℤ)) → IsTrue (bounds_above x ps) ⊎ IsTrue (bounds_below x ps) → first_of ps ≡ x
bounding-named x ps (inl h) = above-named x ps h
bounding-named x ps (inr h) = below-named x ps h

pub above-other : (x : ℕ) (ps : List (ℕ × ℤ)) → (first_of ps ≡ x → ⊥) → bounds_above x ps ≡ false
above-other x ps h = by_value (bounds_above x ps) refl where
  by_value : (b : Bool) → bounds_above x ps ≡ b → b ≡ false
  by_value true e = absurd (h (bounding-named x ps (inl e)))
  by_value false e = refl

pub below-other : (x : ℕ) (ps : List (ℕ × ℤ)) → (first_of ps ≡ x → ⊥) → bounds_below x ps ≡ false
below-other x ps h = by_value (bounds_below x ps) refl where
  by_value : (b : Bool) → bounds_below x ps ≡ b → b ≡ false
  by_value true e = absurd (h (bounding-named x ps (inr e)))
  by_value false e = refl

-- Rows that name no column before one

abbrev pub starts : ℕ → LinearSum → Bool
starts x t = starts_from x t.parts

pub above-starts : (x y : ℕ) (ps : List (ℕ × ℤ)) → x < y → IsTrue (bounds_above x ps) → starts_from y ps ≡ false
above-starts x y [] h k = absurd (cc)
above-starts x y (p ∷ ps) h k =
    let e = eqb-true x p.0 (first_true (x == p.0) (int_lt (pos 0) p.1) k) in
    at_most_no y p.0 (omega (arith, h, e))

pub below-starts : (x y : ℕ) (ps : List (ℕ × ℤ)) → x < y → IsTrue (bounds_below x ps) → starts_from y ps ≡ false
below-starts x y [] h k = absurd (cc)
below-starts x y (p ∷ ps) h k =
    let e = eqb-true x p.0 (first_true (x == p.0) (int_lt p.1 (pos 0)) k) in
    at_most_no y p.0 (omega (arith, h, e))

pub above-from : (x y : ℕ) (ps : List (ℕ × ℤ)) → y ≤ x → IsTrue (bounds_above x ps) → starts_from y ps ≡ true
above-from x y [] h k = refl
above-from x y (p ∷ ps) h k =
    let e = eqb-true x p.0 (first_true (x == p.0) (int_lt (pos 0) p.1) k) in
    at_most_yes y p.0 (omega (arith, h, e))

pub below-from : (x y : ℕ) (ps : List (ℕ × ℤ)) → y ≤ x → IsTrue (bounds_below x ps) → starts_from y ps ≡ true
below-from x y [] h k = refl
below-from x y (p ∷ ps) h k =
    let e = eqb-true x p.0 (first_true (x == p.0) (int_lt p.1 (pos 0)) k) in
    at_most_yes y p.0 (omega (arith, h, e))

le-from_test : (a b : ℕ) → nat_le a b ≡ true → a ≤ b
le-from_test a b h = grind (arith, nat_tests)

lt-from_test : (a b : ℕ) → nat_le a b ≡ false → b < a
lt-from_test a b h = grind (arith, nat_tests)

-- it names none before y where its first one isn't before y
pub starts-first : (y : ℕ) (ps : List (ℕ × ℤ)) → y ≤ 4294967296 → nat_le y (first_of ps) ≡ starts_from y ps
starts-first y [] h = at_most_yes y 4294967296 h
starts-first y (p ∷ ps) h = refl

-- a row that names no column before y names none before x
pub starts-lower : (x y : ℕ) (ps : List (ℕ × ℤ)) → x ≤ y → starts_from y ps ≡ true → starts_from x ps ≡ true
starts-lower x y [] h k = refl
starts-lower x y (p ∷ ps) h k = at_most_yes x p.0 (omega (arith, h, le-from_test y p.0 k))

pub starts-higher : (x y : ℕ) (ps : List (ℕ × ℤ)) → x ≤ y → starts_from x ps ≡ false → starts_from y ps ≡ false
starts-higher x y [] h k = k
starts-higher x y (p ∷ ps) h k = at_most_no y p.0 (omega (arith, h, lt-from_test x p.0 k))

pub starts-order : (x : ℕ) (ps : List (ℕ × ℤ)) → InOrder 0 ps → starts_from x ps ≡ true → InOrder x ps
starts-order x [] o h = tt
starts-order x (p ∷ ps) o h = (le-from_test x p.0 h, o.1, o.2, o.3)

-- where it names no column before y, it names none before y
pub absent-starts : (y : ℕ) (ps : List (ℕ × ℤ)) → InOrder 0 ps → ((z : ℕ) → z < y → listed_at z ps ≡ pos 0) → starts_from y ps ≡ true
absent-starts y [] o h = refl
absent-starts y (p ∷ ps) o h = by_test (nat_le y p.0) refl where
  by_test : (b : Bool) → nat_le y p.0 ≡ b → b ≡ true
  by_test true e = refl
  by_test false e =
      let here : listed_at p.0 (p ∷ ps) ≡ p.1 = ap (λ b. if b then p.1 else listed_at p.0 ps) (eq-eqb p.0 p.0 refl) in
      absurd (o.2 (sym here ∙ h p.0 (lt-from_test y p.0 e)))

pub starts-absent : (x z : ℕ) (ps : List (ℕ × ℤ)) → InOrder 0 ps → starts_from x ps ≡ true → z < x → listed_at z ps ≡ pos 0
starts-absent x z ps o h k = listed-absent z x ps k (starts-order x ps o h)

-- the sum of two rows of a column names neither it nor a column before it
pub sum-starts : (x : ℕ) (u l : LinearSum) → IsTrue (is_term u) → IsTrue (is_term l) → IsTrue (bounds_above x u.parts) →
    IsTrue (bounds_below x l.parts) → IsTrue (is_within (pair_sum x (u, l))) → IsTrue (is_term (tightened (pair_sum x (u, l))))
    × (starts (x + 1) (tightened (pair_sum x (u, l))) ≡ true)
sum-starts x u l tu tl hu hl w = (
  term,
  absent-starts (x + 1) (tightened (pair_sum x (u, l))).parts (IsTerm-from_test (tightened (pair_sum x (u, l))) term).order
      none,
) where
  term : IsTrue (is_term (tightened (pair_sum x (u, l))))
  term = tightened-term (pair_sum x (u, l)) (pair_sum-term x u l tu tl w)

  ou : InOrder 0 u.parts
  ou = (IsTerm-from_test u tu).order

  ol : InOrder 0 l.parts
  ol = (IsTerm-from_test l tl).order

  none : (z : ℕ) → z < x + 1 → listed_at z (tightened (pair_sum x (u, l))).parts ≡ pos 0
  none z h = by_place (cases_lt z x) where
    by_place : (z < x) ⊎ (x ≤ z) → coefficient z (tightened (pair_sum x (u, l))) ≡ pos 0
    by_place (inl lt) =
        tightened-absent z (pair_sum x (u, l)) (pair_sum-absent z x u l ou ol
        (starts-absent x z u.parts ou (above-from x x u.parts (omega arith) hu) lt)
        (starts-absent x z l.parts ol (below-from x x l.parts (omega arith) hl) lt))
    by_place (inr ge) =
        let same : x ≡ z = omega (arith, h, ge) in
        subst (λ (y : ℕ). coefficient y (tightened (pair_sum x (u, l))) ≡ pos 0) same (tightened-absent x (pair_sum x (u, l))
        (pair_sum-eliminates x u l ou ol (upper-is x u (above-upper x u hu)) (lower-is x l (below-lower x l hl))))

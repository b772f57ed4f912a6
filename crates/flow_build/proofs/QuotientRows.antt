-- The rows of quotients: two different slots with their coefficients, in order.
use Rattle.std.proofs.Common.{◌≡◌, ℕ, suc, ◌+◌, ◌^◌, ◌<◌, ◌≤◌, nat_lt, nat_le, ◌==◌, List, [], ◌∷◌, length, Bool, true, false, not, ◌&&◌, ℤ, pos, negsuc, ◌+ℤ◌, ◌-ℤ◌, ◌*ℤ◌, IsTrue, refl, sym, ap, ◌∙◌, subst, arith}
use Rattle.std.specs.Prelude.{unsigned_abs, if◌then◌else◌}
use Rattle.std.specs.List.{list_all}
use Rattle.std.proofs.lemmas.Int.{ints}
use Rattle.std.proofs.lemmas.Bool.{lt-ltb, ltb-true, ltb-false, le-leb, eqb-true}
use Rattle.linear_formula.specs.LinearSum.{is_zero, is_within, is_ascending, has_no_zero, has_columns, are_coefficients_within}
use Rattle.linear_formula.specs.Formula.{are_terms}
use Rattle.linear_formula.specs.Results.{with_part, put_part}
use Rattle.linear_formula.specs.declared.formula.Atom.{Atom}
use Rattle.linear_formula.proofs.Limits.{both, both_in}
use Rattle.linear_formula.proofs.Ring.{mul-zero}
use Rattle.flow_graph.specs.WellFormed.{names_slots, max_slots}
use Rattle.flow_build.specs.steps.Operands.{multiple_row}
use Rattle.flow_build.proofs.Terms.{columns}
use Rattle.flow_build.proofs.SmallRows.{abs_within}

-- a term, but for its columns
abbrev pub is_ordered_row : Atom → Bool
is_ordered_row r = is_ascending r.term.parts && has_no_zero r.term.parts && is_within r.term

abbrev pub are_ordered_rows : List Atom → Bool
are_ordered_rows rows = list_all is_ordered_row rows

pub ordered_terms : (slots : ℕ) → slots ≤ max_slots → (rows : List Atom) → IsTrue (list_all (names_slots slots) rows) →
    IsTrue (are_ordered_rows rows) → IsTrue (are_terms rows)
ordered_terms slots few [] named ordered = refl
ordered_terms slots few (r ∷ rows) named ordered =
    let ps = r.term.parts in
    let n = both (names_slots slots r) (list_all (names_slots slots) rows) named in
    let o = both (is_ordered_row r) (are_ordered_rows rows) ordered in
    let p = both (is_ascending ps && has_no_zero ps) (is_within r.term) o.0 in
    both_in (is_ascending ps && has_no_zero ps && has_columns ps && is_within r.term) (are_terms rows)
    (both_in (is_ascending ps && has_no_zero ps && has_columns ps) (is_within r.term)
    (both_in (is_ascending ps && has_no_zero ps) (has_columns ps) p.0 (columns slots few ps n.0)) p.1)
    (ordered_terms slots few rows n.1 o.1)

-- Parts

once : (c : ℤ) → (c *ℤ pos 1) ≡ c
once c = omega (arith, ints)

put_some : (x : ℕ) (c : ℤ) (ps : List (ℕ × ℤ)) → is_zero c ≡ false → put_part x c ps ≡ (x, c) ∷ ps
put_some x c ps h = rw h refl

-- in slots below a bound, with coefficients that pass a test
module _ (slots : ℕ) (f : ℤ → Bool) where
  record AreParts (ps : List (ℕ × ℤ)) : Type 0 where
    named : IsTrue (list_all (λ p. nat_lt p.0 slots) ps)
    few : length ps ≤ 2
    allowed : IsTrue (list_all (λ p. f p.1) ps)
    ascending : IsTrue (is_ascending ps)
    no_zero : IsTrue (has_no_zero ps)
    within : IsTrue (are_coefficients_within ps)

  record IsPart (x : ℕ) (c : ℤ) : Type 0 where
    slot : x < slots
    passes : f c ≡ true
    nonzero : is_zero c ≡ false
    small : unsigned_abs c ≤ 2 ^ 40

  two : (x y : ℕ) (c d : ℤ) → x < y → IsPart x c → IsPart y d → AreParts ((x, c) ∷ (y, d) ∷ [])
  two x y c d lt h k = record {
    named = both_in (nat_lt x slots) (nat_lt y slots && true) (lt-ltb x slots h.slot)
        (both_in (nat_lt y slots) true (lt-ltb y slots k.slot) refl);
    few = omega arith;
    allowed = both_in (f c) (f d && true) h.passes (both_in (f d) true k.passes refl);
    ascending = both_in (nat_le 0 x) (nat_le (x + 1) y && true) (le-leb 0 x (omega arith))
        (both_in (nat_le (x + 1) y) true (le-leb (x + 1) y (omega (arith, lt))) refl);
    no_zero = both_in (not (is_zero c)) (not (is_zero d) && true) (ap not h.nonzero)
        (both_in (not (is_zero d)) true (ap not k.nonzero) refl);
    within = both_in (nat_le (unsigned_abs c) (2 ^ 40)) (nat_le (unsigned_abs d) (2 ^ 40) && true)
        (le-leb (unsigned_abs c) (2 ^ 40) h.small)
        (both_in (nat_le (unsigned_abs d) (2 ^ 40)) true (le-leb (unsigned_abs d) (2 ^ 40) k.small) refl);
  }

  -- a row of two such parts, and of a constant of magnitude at most 2^64
  pub record FitsRow (r : Atom) : Type 0 where
    pub named : IsTrue (names_slots slots r)
    pub few : IsTrue (nat_le (length r.term.parts) 2)
    pub allowed : IsTrue (list_all (λ p. f p.1) r.term.parts)
    pub small : IsTrue (nat_le (unsigned_abs r.term.constant) (2 ^ 64))
    pub ordered : IsTrue (is_ordered_row r)

  module _ (x y : ℕ) (c d : ℤ) (h : IsPart x c) (k : IsPart y d) (apart : x ≡ y → ⊥) where
    by_tests : (b e : Bool) → nat_lt x y ≡ b → (x == y) ≡ e →
        AreParts (if b then put_part x c ((y, d) ∷ []) else (if e then put_part x (c +ℤ d) [] else ((y, d) ∷ put_part x c [])))
    by_tests true e i j = subst AreParts (sym (put_some x c ((y, d) ∷ []) h.nonzero)) (two x y c d (ltb-true x y i) h k)
    by_tests false true i j = absurd (apart (eqb-true x y j))
    by_tests false false i j =
        let before : y < x = omega (arith, ltb-false x y i, apart) in
        subst (λ ps. AreParts ((y, d) ∷ ps)) (sym (put_some x c [] h.nonzero)) (two y x d c before k h)

    parts_fit : (z : ℤ) → AreParts (multiple_row c d x y z).term.parts
    parts_fit z =
        let e = ap (λ a. with_part x a (put_part y (d *ℤ pos 1) [])) (once c) ∙ ap (λ a. with_part x c (put_part y a [])) (once d)
        ∙ ap (with_part x c) (put_some y d [] k.nonzero) in
        subst AreParts (sym e) (by_tests (nat_lt x y) (x == y) refl refl)

    row_fits : (z : ℤ) → unsigned_abs z ≤ 2 ^ 64 → FitsRow (multiple_row c d x y z)
    row_fits z less =
        let r = multiple_row c d x y z in
        let ps = parts_fit z in
        let at : r.term.constant ≡ z = omega (arith, ints, mul-zero c, mul-zero d) in
        let low : unsigned_abs r.term.constant ≤ 2 ^ 64 = subst (λ a. unsigned_abs a ≤ 2 ^ 64) (sym at) less in
        let count = ps.few in
        let n = length r.term.parts in
        let m = unsigned_abs r.term.constant in
        record {
          named = ps.named;
          few = le-leb n 2 count;
          allowed = ps.allowed;
          small = le-leb m (2 ^ 64) low;
          ordered = both_in (is_ascending r.term.parts && has_no_zero r.term.parts) (is_within r.term)
              (both_in (is_ascending r.term.parts) (has_no_zero r.term.parts) ps.ascending ps.no_zero)
              (both_in (nat_le n 1024 && are_coefficients_within r.term.parts) (nat_le m (2 ^ 84))
              (both_in (nat_le n 1024) (are_coefficients_within r.term.parts) (le-leb n 1024 (omega (arith, count))) ps.within)
              (le-leb m (2 ^ 84) (omega (arith, low))));
        }

  -- the rows of a quotient by a magnitude
  module _ (b a t : ℕ) (few : suc b ≤ 2 ^ 40) (apart : a ≡ t → ⊥) (la : a < slots) (lt : t < slots) (one : f (pos 1) ≡ true)
      (minus : f (negsuc 0) ≡ true) (times : f (pos (suc b)) ≡ true) (less : f (negsuc b) ≡ true) where
    many : IsPart t (pos (suc b))
    many = record { slot = lt; passes = times; nonzero = refl; small = few }

    taken : IsPart a (negsuc 0)
    taken = record { slot = la; passes = minus; nonzero = refl; small = omega arith }

    added : IsPart a (pos 1)
    added = record { slot = la; passes = one; nonzero = refl; small = omega arith }

    many_taken : IsPart t (negsuc b)
    many_taken = record { slot = lt; passes = less; nonzero = refl; small = few }

    turned : t ≡ a → ⊥
    turned e = apart (sym e)

    below_one : unsigned_abs (pos 1 -ℤ pos (suc b)) ≤ 2 ^ 64
    below_one = abs_within (pos 1 -ℤ pos (suc b)) (2 ^ 64) (omega (arith, ints, few)) (omega (arith, ints, few))

    pub above_fits : FitsRow (multiple_row (pos (suc b)) (negsuc 0) t a (pos 0))
        × FitsRow (multiple_row (pos 1) (negsuc b) a t (pos 1 -ℤ pos (suc b)))
    above_fits = (
      row_fits t a (pos (suc b)) (negsuc 0) many taken turned (pos 0) (omega arith),
      row_fits a t (pos 1) (negsuc b) added many_taken apart (pos 1 -ℤ pos (suc b)) below_one,
    )

    pub below_fits : FitsRow (multiple_row (pos 1) (negsuc b) a t (pos 0))
        × FitsRow (multiple_row (pos (suc b)) (negsuc 0) t a (pos 1 -ℤ pos (suc b)))
    below_fits = (
      row_fits a t (pos 1) (negsuc b) added many_taken apart (pos 0) (omega arith),
      row_fits t a (pos (suc b)) (negsuc 0) many taken turned (pos 1 -ℤ pos (suc b)) below_one,
    )

-- The bounds of a column, row by row.
use Rattle.std.proofs.Common.{◌≡◌, ℕ, ◌<◌, ◌≤◌, ◌+◌, ◌-◌, ◌==◌, ◌&&◌, nat_le, Bool, true, false, List, [], ◌∷◌, ◌++◌, length, map, take, drop, get_or, ℤ, pos, ◌+ℤ◌, ◌*ℤ◌, arith, refl, sym, ap, subst, ◌∙◌}
use Rattle.std.specs.Int.{int_max, int_min}
use Rattle.std.specs.Prelude.{IsTrue, filter, int_lt, unsigned_abs, if◌then◌else◌}
use Rattle.std.proofs.lemmas.Int.{ints}
use Rattle.std.proofs.lemmas.List.{take_more, take_all, map-append}
use Rattle.std.proofs.lemmas.List.Elements.{filter-append}
use borrow.Author.Tests.{eqb-true, ne_eqb}
use Rattle.linear_formula.specs.LinearSum.{LinearSum, Valuation, value_of_parts, listed_at, is_ascending_from}
use Rattle.linear_formula.specs.steps.Order.{AllWithin}
use Rattle.linear_formula.proofs.Limits.{both, le_so}
use Rattle.linear_formula.proofs.Merging.{AllWithin-drop, slice_rest}
use Rattle.shadow_elim.proofs.Tests.{first_true}
use Rattle.shadow_elim.specs.Elimination.{size_of}
use Rattle.shadow_elim.specs.Points.{least_value, greatest_value, greatest_of, least_of}
use Rattle.lia_solver.specs.declared.bounds.Bounds.{Bounds}
use Rattle.lia_solver.specs.steps.Bounded.{with_row}
use Rattle.lia_solver.specs.steps.Entries.{Entry, no_entry, entry_at, sum_at, first_of, bounds_above, bounds_below}
use Rattle.lia_solver.specs.steps.Solved.{upper_of, lower_of, floor_of, high_in, low_in, floor_in}
use Rattle.lia_solver.specs.steps.Tables.{sums_of}
use Rattle.lia_solver.proofs.FirstColumns.{above-first, below-first, above-other, below-other}

-- One row

pub with-above : (x : ℕ) (values : List (ℕ × ℤ)) (t : LinearSum) (b : Bounds) → bounds_above x t.parts ≡ true → with_row x values t b
    ≡ record b { high = int_min b.high (upper_of x values t) }
with-above x values t b h = rw h refl

pub with-below : (x : ℕ) (values : List (ℕ × ℤ)) (t : LinearSum) (b : Bounds) → bounds_above x t.parts ≡ false →
    bounds_below x t.parts ≡ true → with_row x values t b
    ≡ record b { low = int_max b.low (lower_of x values t); floor = int_max b.floor (floor_of x values t) }
with-below x values t b h k = rw h (rw k refl)

with-neither : (x : ℕ) (values : List (ℕ × ℤ)) (t : LinearSum) (b : Bounds) → bounds_above x t.parts ≡ false →
    bounds_below x t.parts ≡ false → with_row x values t b ≡ b
with-neither x values t b h k = rw h (rw k refl)

pub size-above : (x : ℕ) (t : LinearSum) → IsTrue (bounds_above x t.parts) → unsigned_abs (get_or t.parts 0 (0, pos 0)).1 ≡ size_of x t
size-above x t h = ap unsigned_abs (above-first x t.parts h).first

pub size-below : (x : ℕ) (t : LinearSum) → IsTrue (bounds_below x t.parts) → unsigned_abs (get_or t.parts 0 (0, pos 0)).1 ≡ size_of x t
size-below x t h = ap unsigned_abs (below-first x t.parts h).first

-- The first part where its column has no value

without-first : (v : Valuation) (x : ℕ) (p : ℕ × ℤ) (ps : List (ℕ × ℤ)) → (x == p.0) ≡ true → v x ≡ pos 0 → value_of_parts v ps
    ≡ (p.1 *ℤ v p.0) +ℤ value_of_parts v ps
without-first v x p ps e h =
    let none : p.1 *ℤ v p.0 ≡ p.1 *ℤ pos 0 = ap (λ z. p.1 *ℤ z) (ap v (sym (eqb-true x p.0 e)) ∙ h) in
    omega (arith, ints, none)

-- the parts after the first one, as the code takes them
abbrev pub behind_first : List (ℕ × ℤ) → List (ℕ × ℤ)
behind_first ps = take (length ps - 1) (drop 1 ps)

pub value-above : (v : Valuation) (x : ℕ) (ps : List (ℕ × ℤ)) → bounds_above x ps ≡ true → v x ≡ pos 0 → value_of_parts v (behind_first ps)
    ≡ value_of_parts v ps
value-above v x [] h k = refl
value-above v x (p ∷ ps) h k = ap (value_of_parts v) (slice_rest (p ∷ ps) 1)
    ∙ without-first v x p ps (first_true (x == p.0) (int_lt (pos 0) p.1) h) k

pub value-below : (v : Valuation) (x : ℕ) (ps : List (ℕ × ℤ)) → bounds_below x ps ≡ true → v x ≡ pos 0 → value_of_parts v (behind_first ps)
    ≡ value_of_parts v ps
value-below v x [] h k = refl
value-below v x (p ∷ ps) h k = ap (value_of_parts v) (slice_rest (p ∷ ps) 1)
    ∙ without-first v x p ps (first_true (x == p.0) (int_lt p.1 (pos 0)) h) k

pub behind-within : (ps : List (ℕ × ℤ)) → AllWithin ps → AllWithin (behind_first ps)
behind-within ps h = subst AllWithin (sym (slice_rest ps 1)) (AllWithin-drop 1 ps h)

pub unlisted : (x low : ℕ) (values : List (ℕ × ℤ)) → x < low → IsTrue (is_ascending_from low values) → listed_at x values ≡ pos 0
unlisted x low [] h k = refl
unlisted x low (p ∷ ps) h k =
    let b = both (nat_le low p.0) (is_ascending_from (p.0 + 1) ps) k in
    let beyond : low ≤ p.0 = le_so low p.0 b.0 in
    ap (λ d. if d then p.1 else listed_at x ps) (ne_eqb x p.0 (λ e. omega (arith, h, beyond, e)))
    ∙ unlisted x (p.0 + 1) ps (omega (arith, h, beyond)) b.1

-- One more row

least-more : (z : ℤ) (ys : List ℤ) (y : ℤ) → least_of z (ys ++ y ∷ []) ≡ int_min (least_of z ys) y
least-more z [] y = refl
least-more z (x ∷ ys) y = least-more (int_min z x) ys y

greatest-more : (z : ℤ) (ys : List ℤ) (y : ℤ) → greatest_of z (ys ++ y ∷ []) ≡ int_max (greatest_of z ys) y
greatest-more z [] y = refl
greatest-more z (x ∷ ys) y = greatest-more (int_max z x) ys y

-- the values of the rows that pass a test
abbrev tested : (LinearSum → Bool) → (LinearSum → ℤ) → List Entry → List ℤ
tested p f entries = map f (filter p (sums_of entries))

tested-more : (p : LinearSum → Bool) (f : LinearSum → ℤ) (entries : List Entry) (n : ℕ) → n < length entries →
    tested p f (take (n + 1) entries)
    ≡ tested p f (take n entries) ++ map f (if p (sum_at entries n) then (sum_at entries n ∷ []) else [])
tested-more p f entries n h =
    ap (tested p f) (take_more entries n no_entry h)
    ∙ ap (λ ts. map f (filter p ts)) (map-append (λ (e : Entry). e.sum) (take n entries) (entry_at entries n ∷ []))
    ∙ ap (map f) (filter-append p (sums_of (take n entries)) (sum_at entries n ∷ []))
    ∙ map-append f (filter p (sums_of (take n entries))) (filter p (sum_at entries n ∷ []))

none : {X : Type 0} (xs : List X) → xs ++ [] ≡ xs
none [] = refl
none (x ∷ xs) = ap (λ ys. x ∷ ys) (none xs)

tested-yes : (p : LinearSum → Bool) (f : LinearSum → ℤ) (entries : List Entry) (n : ℕ) → n < length entries → p (sum_at entries n) ≡ true →
    tested p f (take (n + 1) entries) ≡ tested p f (take n entries) ++ f (sum_at entries n) ∷ []
tested-yes p f entries n h k =
    tested-more p f entries n h
    ∙ ap (λ b. tested p f (take n entries) ++ map f (if b then (sum_at entries n ∷ []) else [])) k

tested-no : (p : LinearSum → Bool) (f : LinearSum → ℤ) (entries : List Entry) (n : ℕ) → n < length entries → p (sum_at entries n) ≡ false →
    tested p f (take (n + 1) entries) ≡ tested p f (take n entries)
tested-no p f entries n h k =
    tested-more p f entries n h
    ∙ ap (λ b. tested p f (take n entries) ++ map f (if b then (sum_at entries n ∷ []) else [])) k ∙ none (tested p f (take n entries))

-- the bounds by the first rows
pub record AreBounds (x : ℕ) (values : List (ℕ × ℤ)) (entries : List Entry) (n : ℕ) (b : Bounds) : Type 0 where
  pub low : b.low ≡ low_in x values (take n entries)
  pub floor : b.floor ≡ floor_in x values (take n entries)
  pub high : b.high ≡ high_in x values (take n entries)

pub bounds-more : (x : ℕ) (values : List (ℕ × ℤ)) (entries : List Entry) (n : ℕ) (b c : Bounds) → n < length entries →
    AreBounds x values entries n b → c ≡ with_row x values (sum_at entries n) b → AreBounds x values entries (n + 1) c
bounds-more x values entries n b c h a e =
    subst (AreBounds x values entries (n + 1)) (sym e)
    (by_tests (bounds_above x t.parts) (bounds_below x t.parts) refl refl) where
      t : LinearSum
      t = sum_at entries n

      above : LinearSum → Bool
      above s = bounds_above x s.parts

      below : LinearSum → Bool
      below s = bounds_below x s.parts

      both : bounds_above x t.parts ≡ true → bounds_below x t.parts ≡ false
      both k = not_both x t.parts k where
        not_both : (y : ℕ) (ps : List (ℕ × ℤ)) → bounds_above y ps ≡ true → bounds_below y ps ≡ false
        not_both y [] q = refl
        not_both y (p ∷ ps) q = signs (y == p.0) p.1 q where
          signs : (d : Bool) (z : ℤ) → (d && int_lt (pos 0) z) ≡ true → (d && int_lt z (pos 0)) ≡ false
          signs true z r = grind (arith, ints)
          signs false z r = refl

      by_tests : (p q : Bool) → bounds_above x t.parts ≡ p → bounds_below x t.parts ≡ q → AreBounds x values entries (n + 1)
          (if p then record b { high = int_min b.high (upper_of x values t) } else (if q then record b {
            low = int_max b.low (lower_of x values t);
            floor = int_max b.floor (floor_of x values t);
          } else b))
      by_tests true q f g = record {
        low = a.low ∙ sym (ap (greatest_of least_value) (tested-no below (lower_of x values) entries n h (both f)));
        floor = a.floor ∙ sym (ap (greatest_of least_value) (tested-no below (floor_of x values) entries n h (both f)));
        high = ap (λ z. int_min z (upper_of x values t)) a.high
            ∙ sym (ap (least_of greatest_value) (tested-yes above (upper_of x values) entries n h f)
            ∙ least-more greatest_value (tested above (upper_of x values) (take n entries)) (upper_of x values t));
      }
      by_tests false true f g = record {
        low = ap (λ z. int_max z (lower_of x values t)) a.low
            ∙ sym (ap (greatest_of least_value) (tested-yes below (lower_of x values) entries n h g)
            ∙ greatest-more least_value (tested below (lower_of x values) (take n entries)) (lower_of x values t));
        floor = ap (λ z. int_max z (floor_of x values t)) a.floor
            ∙ sym (ap (greatest_of least_value) (tested-yes below (floor_of x values) entries n h g)
            ∙ greatest-more least_value (tested below (floor_of x values) (take n entries)) (floor_of x values t));
        high = a.high ∙ sym (ap (least_of greatest_value) (tested-no above (upper_of x values) entries n h f));
      }
      by_tests false false f g = record {
        low = a.low ∙ sym (ap (greatest_of least_value) (tested-no below (lower_of x values) entries n h g));
        floor = a.floor ∙ sym (ap (greatest_of least_value) (tested-no below (floor_of x values) entries n h g));
        high = a.high ∙ sym (ap (least_of greatest_value) (tested-no above (upper_of x values) entries n h f));
      }

-- one more row, whose first column is another one
pub bounds-skip : (x : ℕ) (values : List (ℕ × ℤ)) (entries : List Entry) (n : ℕ) (b : Bounds) → n < length entries →
    AreBounds x values entries n b → (first_of (sum_at entries n).parts ≡ x → ⊥) → AreBounds x values entries (n + 1) b
bounds-skip x values entries n b h a k =
    bounds-more x values entries n b b h a (sym (with-neither x values (sum_at entries n) b (above-other x (sum_at entries n).parts k)
    (below-other x (sum_at entries n).parts k)))

pub bounds-low : (x : ℕ) (values : List (ℕ × ℤ)) (entries : List Entry) (n : ℕ) (b : Bounds) → length entries ≤ n →
    AreBounds x values entries n b → b.low ≡ low_in x values entries
bounds-low x values entries n b h a = a.low ∙ ap (low_in x values) (take_all n entries h)

pub bounds-floor : (x : ℕ) (values : List (ℕ × ℤ)) (entries : List Entry) (n : ℕ) (b : Bounds) → length entries ≤ n →
    AreBounds x values entries n b → b.floor ≡ floor_in x values entries
bounds-floor x values entries n b h a = a.floor ∙ ap (floor_in x values) (take_all n entries h)

pub bounds-high : (x : ℕ) (values : List (ℕ × ℤ)) (entries : List Entry) (n : ℕ) (b : Bounds) → length entries ≤ n →
    AreBounds x values entries n b → b.high ≡ high_in x values entries
bounds-high x values entries n b h a = a.high ∙ ap (high_in x values) (take_all n entries h)

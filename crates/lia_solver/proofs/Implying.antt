-- An atom that one row of a simple cube entails: what the plan says of it, and its certificate.
use Rattle.std.proofs.Common.{◌≡◌, ◌⊎◌, inl, inr, Bool, ℕ, zero, suc, ◌+◌, ◌^◌, ◌<◌, ◌≤◌, List, [], ◌∷◌, ◌++◌, length, get_or, ℤ, pos, negsuc, ◌+ℤ◌, ◌*ℤ◌, arith, refl, sym, ap, subst, ◌∙◌}
use Rattle.std.specs.Prelude.{IsTrue, ◌≤ℤ◌, unsigned_abs, if◌then◌else◌}
use Rattle.std.proofs.Math.Seq.{get_or-append_seam}
use Rattle.std.proofs.lemmas.Int.{ints}
use borrow.Author.Tests.{eq-eqb}
use Rattle.std.proofs.lemmas.List.{map-append, length-append, length-map, get_or_append_left}
use Rattle.linear_formula.specs.LinearSum.{LinearSum, coefficient, listed_at}
use Rattle.linear_formula.specs.steps.Order.{InOrder}
use Rattle.linear_formula.specs.Results.{negated, plus_parts, put_part, combination}
use Rattle.linear_formula.specs.declared.formula.Atom.{Atom}
use Rattle.linear_formula.proofs.Limits.{IsTerm-from_test, test-from_IsTerm, AllWithin-listed}
use Rattle.linear_formula.proofs.Ring.{one-mul}
use Rattle.infeasible_cert.specs.Right.{columns_of, rows_of, base_rows, range_rows, with_columns, row_at, column_products, constant_products, FitsAlong, IsRoundedUp, IsRightStep, Refutes}
use Rattle.infeasible_cert.specs.declared.certificate.Derived.{Derived}
use Rattle.infeasible_cert.specs.Refutation.{close}
use Rattle.infeasible_cert.specs.Terms.{HasTerms}
use Rattle.infeasible_cert.proofs.Ranges.{base-atom, length-ranges}
use Rattle.shadow_elim.specs.Plan.{outcome_of}
use Rattle.shadow_elim.specs.Points.{refuted, outcome}
use Rattle.shadow_elim.specs.Questions.{with_negation, IsNever}
use Rattle.shadow_elim.specs.Reduction.{is_as_strong}
use Rattle.shadow_elim.specs.steps.Plain.{IsPlain}
use Rattle.shadow_elim.proofs.Members.{Among, among-append_left, among-append_right, among-append_cases, among-map, map-among}
use Rattle.shadow_elim.proofs.NamedColumns.{IsNamed, named-among, columns-last, columns-kept}
use Rattle.shadow_elim.proofs.PlainRows.{parts-cancel, ArePlain, IsDoomed, doomed-refuted, few-bear}
use Rattle.shadow_elim.proofs.Strength.{AsStrong-from_test}
use Rattle.lia_solver.specs.steps.Implied.{IsShort, IsSimple, sum_of_two}
use Rattle.lia_solver.proofs.Ranges.{all-at}
use Rattle.lia_solver.proofs.Sides.{search-refuted}
use Rattle.lia_solver.proofs.Solving.{few-columns}

-- The negation of a row of at most one column

none-negated : (t : LinearSum) → t.parts ≡ [] → (negated t).parts ≡ []
none-negated t e = ap (λ ps. plus_parts (negsuc 0) ps []) e

upper-negated : (t : LinearSum) (x n : ℕ) → t.parts ≡ (x, pos (suc n)) ∷ [] → (negated t).parts ≡ (x, negsuc n) ∷ []
upper-negated t x n e =
    let turned : negsuc 0 *ℤ pos (suc n) ≡ negsuc n = omega (arith, ints) in
    ap (λ ps. plus_parts (negsuc 0) ps []) e ∙ ap (λ z. put_part x z []) turned

lower-negated : (t : LinearSum) (x n : ℕ) → t.parts ≡ (x, negsuc n) ∷ [] → (negated t).parts ≡ (x, pos (suc n)) ∷ []
lower-negated t x n e =
    let turned : negsuc 0 *ℤ negsuc n ≡ pos (suc n) = omega (arith, ints) in
    ap (λ ps. plus_parts (negsuc 0) ps []) e ∙ ap (λ z. put_part x z []) turned

-- a row with the coefficients of t and a constant as great, and the negation of t
record IsPair (r t : LinearSum) : Type 0 where
  same : r.parts ≡ t.parts
  above : t.constant ≤ℤ r.constant

pair-above : (r t : LinearSum) → IsPair r t → pos 1 ≤ℤ (r.constant +ℤ (negated t).constant)
pair-above r t h = omega (arith, ints, h.above)

rows-are : (left : List Atom) (atom : Atom) → rows_of (with_negation left atom) ≡ rows_of left ++ negated atom.term ∷ []
rows-are left atom = map-append (λ (a : Atom). a.term) left (record { term = negated atom.term } ∷ [])

-- the case of a row: no column, or one with a number above or below 0
data Shape (t : LinearSum) : Type 0 where
  bare : t.parts ≡ [] → Shape t
  upper : (x n : ℕ) → t.parts ≡ (x, pos (suc n)) ∷ [] → Shape t
  lower : (x n : ℕ) → t.parts ≡ (x, negsuc n) ∷ [] → Shape t

shape-of : (t : LinearSum) → IsShort t → Shape t
shape-of t s = by_plain s.plain where
  by_number : (x : ℕ) (a : ℤ) → t.parts ≡ (x, a) ∷ [] → Shape t
  by_number x (pos zero) e = absurd ((subst (λ ps. InOrder 0 ps) e (IsTerm-from_test t s.term).order).2 refl)
  by_number x (pos (suc n)) e = upper x n e
  by_number x (negsuc n) e = lower x n e

  by_plain : IsPlain t → Shape t
  by_plain (inl e) = bare e
  by_plain (inr h) = by_number h.0 h.1 h.2

-- the question names no other column
columns-same : (left : List Atom) (atom : Atom) (r : LinearSum) → Among r (rows_of left) → IsPair r atom.term → Shape r →
    columns_of (rows_of left ++ negated atom.term ∷ []) ≡ columns_of (rows_of left)
columns-same left atom r k h (bare e) =
    columns-last (rows_of left) (negated atom.term) ∙ ap (λ ps. with_columns ps (columns_of (rows_of left)))
    (none-negated atom.term (sym h.same ∙ e))
columns-same left atom r k h (upper x n e) =
    columns-kept (rows_of left) (negated atom.term) x (negsuc n) (upper-negated atom.term x n (sym h.same ∙ e))
    (named-among x (rows_of left) r k (subst (λ ps. IsNamed x ps) (sym e) (inl refl)))
columns-same left atom r k h (lower x n e) =
    columns-kept (rows_of left) (negated atom.term) x (pos (suc n)) (lower-negated atom.term x n (sym h.same ∙ e))
    (named-among x (rows_of left) r k (subst (λ ps. IsNamed x ps) (sym e) (inl refl)))

doomed-pair : (xs : List ℕ) (rows : List LinearSum) (r t : LinearSum) → Among r rows → Among (negated t) rows → IsPair r t →
    ((x : ℕ) → IsNamed x r.parts → Among x xs) → Shape r → IsDoomed xs rows
doomed-pair xs rows r t hr hn h named (bare e) = by_constant r.constant refl where
  by_constant : (c : ℤ) → r.constant ≡ c → IsDoomed xs rows
  by_constant (pos (suc k)) f = inl (r, hr, e, omega (arith, ints, f))
  by_constant (pos zero) f = inl (negated t, hn, none-negated t (sym h.same ∙ e), omega (arith, ints, f, pair-above r t h))
  by_constant (negsuc k) f = inl (negated t, hn, none-negated t (sym h.same ∙ e), omega (arith, ints, f, pair-above r t h))
doomed-pair xs rows r t hr hn h named (upper x n e) =
    inr (record {
      column = x;
      named = named x (subst (λ ps. IsNamed x ps) (sym e) (inl refl));
      less = n;
      upper = r;
      lower = negated t;
      has_upper = hr;
      has_lower = hn;
      upper_parts = e;
      lower_parts = upper-negated t x n (sym h.same ∙ e);
      above = pair-above r t h;
    })
doomed-pair xs rows r t hr hn h named (lower x n e) =
    inr (record {
      column = x;
      named = named x (subst (λ ps. IsNamed x ps) (sym e) (inl refl));
      less = n;
      upper = negated t;
      lower = r;
      has_upper = hn;
      has_lower = hr;
      upper_parts = lower-negated t x n (sym h.same ∙ e);
      lower_parts = e;
      above = omega (arith, ints, pair-above r t h);
    })

-- Plain rows

ranges-plain : (xs : List ℕ) (t : LinearSum) → Among t (range_rows xs) → IsPlain t
ranges-plain [] t h = absurd h
ranges-plain (x ∷ xs) t (inl e) =
    subst (λ (u : LinearSum). IsPlain u) e (inr (x, pos 1, refl, record { size = small (pos 1) (omega arith); constant = omega arith }))
  where
    small : (a : ℤ) → unsigned_abs a ≤ 2 ^ 19 → unsigned_abs (listed_at x ((x, a) ∷ [])) ≤ 2 ^ 19
    small a h = omega (arith, h, ap (λ (b : Bool). unsigned_abs (if b then a else pos 0)) (eq-eqb x x refl))
ranges-plain (x ∷ xs) t (inr (inl e)) =
    subst (λ (u : LinearSum). IsPlain u) e
    (inr (x, negsuc 0, refl, record { size = small (negsuc 0) (omega arith); constant = omega arith }))
  where
    small : (a : ℤ) → unsigned_abs a ≤ 2 ^ 19 → unsigned_abs (listed_at x ((x, a) ∷ [])) ≤ 2 ^ 19
    small a h = omega (arith, h, ap (λ (b : Bool). unsigned_abs (if b then a else pos 0)) (eq-eqb x x refl))
ranges-plain (x ∷ xs) t (inr (inr h)) = ranges-plain xs t h

-- The plan

-- what is known where a row of a simple cube entails the atom
pub record IsFound (left : List Atom) (columns : List ℕ) (atom : Atom) (place : ℕ) : Type 0 where
  pub simple : IsSimple left columns
  pub columns_are : columns ≡ columns_of (rows_of left)
  pub inside : place < length left
  pub strong : (d : Atom) → IsTrue (is_as_strong atom.term (get_or left place d).term)
  pub short : IsShort (negated atom.term)

module _ (left : List Atom) (columns : List ℕ) (atom : Atom) (place : ℕ) (f : IsFound left columns atom place) where
  abbrev row : LinearSum
  row = (get_or left place atom).term

  abbrev negation : LinearSum
  negation = negated atom.term

  pair : IsPair row atom.term
  pair =
      let a = AsStrong-from_test atom.term row (f.strong atom) in
      record { same = a.parts; above = a.constant }

  row-short : IsShort row
  row-short = f.simple.short place atom f.inside

  row-among : Among row (rows_of left)
  row-among = among-map (λ (a : Atom). a.term) left (get_or left place atom) (among-at left place atom f.inside) where
    among-at : (xs : List Atom) (k : ℕ) (d : Atom) → k < length xs → Among (get_or xs k d) xs
    among-at [] k d l = absurd (omega (arith, l))
    among-at (x ∷ xs) zero d l = inl refl
    among-at (x ∷ xs) (suc k) d l = inr (among-at xs k d (omega (arith, l)))

  abbrev asked : List LinearSum
  asked = rows_of left ++ negation ∷ []

  same-columns : columns_of asked ≡ columns
  same-columns = columns-same left atom row row-among pair (shape-of row row-short) ∙ sym f.columns_are

  abbrev base : List LinearSum
  base = asked ++ range_rows columns

  base-is : base_rows (with_negation left atom) ≡ base
  base-is = ap (λ ts. ts ++ range_rows (columns_of ts)) (rows-are left atom) ∙ ap (λ xs. asked ++ range_rows xs) same-columns

  asked-plain : (t : LinearSum) → Among t asked → IsPlain t
  asked-plain t k = by_side (among-append_cases (rows_of left) (negation ∷ []) t k) where
    by_side : Among t (rows_of left) ⊎ Among t (negation ∷ []) → IsPlain t
    by_side (inl h) =
        let r = map-among (λ (a : Atom). a.term) left t h in
        subst (λ (u : LinearSum). IsPlain u) r.2 (all-at (λ a. IsShort a.term) left f.simple.short r.0 r.1).plain
    by_side (inr (inl e)) = subst (λ (u : LinearSum). IsPlain u) e f.short.plain
    by_side (inr (inr h)) = absurd h

  base-plain : ArePlain base
  base-plain t k = by_side (among-append_cases asked (range_rows columns) t k) where
    by_side : Among t asked ⊎ Among t (range_rows columns) → IsPlain t
    by_side (inl h) = asked-plain t h
    by_side (inr h) = ranges-plain columns t h

  base-few : length base ≤ 4095
  base-few =
      omega (
        arith,
        f.simple.rows_few,
        length-append asked (range_rows columns),
        length-append (rows_of left) (negation ∷ []),
        length-map left (λ (a : Atom). a.term),
        length-ranges columns,
      )

  base-doomed : IsDoomed columns base
  base-doomed =
      doomed-pair columns base row atom.term
      (among-append_left asked (range_rows columns) row (among-append_left (rows_of left) (negation ∷ []) row row-among))
      (among-append_left asked (range_rows columns) negation (among-append_right (rows_of left) (negation ∷ []) negation (inl refl))) pair
      (λ x n. subst (λ (xs : List ℕ). Among x xs) (sym f.columns_are) (named-among x (rows_of left) row row-among n))
      (shape-of row row-short)

  pub found-refuted : outcome_of (with_negation left atom) ≡ refuted
  found-refuted =
      ap (λ ts. outcome (columns_of ts) (ts ++ range_rows (columns_of ts))) (rows-are left atom)
      ∙ ap (λ xs. outcome xs (asked ++ range_rows xs)) same-columns
      ∙ doomed-refuted columns base base-plain (few-bear base base-few) base-doomed

  pub found-never : IsNever (with_negation left atom)
  found-never = (
    [],
    few-columns (with_negation left atom)
        (omega (arith, f.simple.columns_few, ap length (ap columns_of (rows-are left atom) ∙ same-columns)))
        ∙ search-refuted 512 [] (with_negation left atom) found-refuted,
  )

  -- Its certificate

  two-small : (p q : ℤ) → unsigned_abs p ≤ 2 ^ 84 → unsigned_abs q ≤ 2 ^ 84 → FitsAlong (pos 0) (p ∷ q ∷ [])
  two-small p q h k = (
    (omega (arith, ints, h), omega (arith, ints, h)),
    (omega (arith, ints, h), omega (arith, ints, h)),
    ((omega (arith, ints, k), omega (arith, ints, k)), (omega (arith, ints, h, k), omega (arith, ints, h, k)), tt),
  )

  abbrev step : Derived
  step = sum_of_two place (length left) (row.constant +ℤ negation.constant)

  first-is : row_at (base_rows (with_negation left atom)) place ≡ row
  first-is =
      sym (base-atom (with_negation left atom) place atom (omega (arith, f.inside, length-append left (record { term = negation } ∷ []))))
      ∙ ap (λ (a : Atom). a.term) (get_or_append_left left (record { term = negation } ∷ []) atom place f.inside)

  second-is : row_at (base_rows (with_negation left atom)) (length left) ≡ negation
  second-is =
      sym (base-atom (with_negation left atom) (length left) atom (omega (arith, length-append left (record { term = negation } ∷ []))))
      ∙ ap (λ (a : Atom). a.term) (get_or-append_seam left (record { term = negation }) [] atom)

  -- the parts of the sum
  parts-none : Shape row → plus_parts (pos 1) row.parts (plus_parts (pos 1) negation.parts []) ≡ []
  parts-none (bare e) =
      ap (λ ps. plus_parts (pos 1) ps (plus_parts (pos 1) negation.parts [])) e
      ∙ ap (λ ps. plus_parts (pos 1) ps []) (none-negated atom.term (sym pair.same ∙ e))
  parts-none (upper x n e) =
      ap (λ ps. plus_parts (pos 1) ps (plus_parts (pos 1) negation.parts [])) e
      ∙ ap (λ ps. plus_parts (pos 1) ((x, pos (suc n)) ∷ []) (plus_parts (pos 1) ps [])) (upper-negated atom.term x n (sym pair.same ∙ e))
      ∙ parts-cancel x (pos 1 *ℤ pos (suc n)) (pos 1 *ℤ negsuc n) (omega (arith, ints))
  parts-none (lower x n e) =
      ap (λ ps. plus_parts (pos 1) ps (plus_parts (pos 1) negation.parts [])) e
      ∙ ap (λ ps. plus_parts (pos 1) ((x, negsuc n) ∷ []) (plus_parts (pos 1) ps [])) (lower-negated atom.term x n (sym pair.same ∙ e))
      ∙ parts-cancel x (pos 1 *ℤ negsuc n) (pos 1 *ℤ pos (suc n)) (omega (arith, ints))

  abbrev two : LinearSum → LinearSum → List (ℤ × LinearSum)
  two t u = (pos 1, t) ∷ (pos 1, u) ∷ []

  within : (t : LinearSum) → IsShort t → (x : ℕ) → unsigned_abs (pos 1 *ℤ coefficient x t) ≤ 2 ^ 84
  within t s x =
      omega (arith, AllWithin-listed x t.parts (IsTerm-from_test t s.term).within.coefficients, ap unsigned_abs (one-mul (coefficient x t)))

  abbrev IsSumOf : LinearSum → LinearSum → Type 0
  IsSumOf t u =
      ((x : ℕ) → FitsAlong (pos 0) (column_products x (two t u))) × FitsAlong (pos 0) (constant_products (two t u))
      × ((x : ℕ) → coefficient x (combination (two t u) (pos 0)) ≡ pos 1 *ℤ pos 0)
      × IsRoundedUp (combination (two t u) (pos 0)).constant (pos 1) (row.constant +ℤ negation.constant)

  sum-right : IsSumOf row negation
  sum-right =
      let one_row = one-mul row.constant in
      let one_negation = one-mul negation.constant in (
        (λ x. two-small (pos 1 *ℤ coefficient x row) (pos 1 *ℤ coefficient x negation) (within row row-short x)
            (within negation f.short x)),
        two-small (pos 1 *ℤ row.constant) (pos 1 *ℤ negation.constant) (omega (arith, ap unsigned_abs one_row, row-short.constant))
            (omega (arith, ap unsigned_abs one_negation, f.short.constant)),
        (λ x. ap (λ ps. listed_at x ps) (parts-none (shape-of row row-short))),
        (
          omega (arith, ints, one_row, one_negation, one-mul (row.constant +ℤ negation.constant)),
          omega (
            arith,
            ints,
            one_row,
            one_negation,
            one-mul (row.constant +ℤ negation.constant),
          ),
        ),
      )

  step-right : IsRightStep (base_rows (with_negation left atom)) step
  step-right =
      let rows = base_rows (with_negation left atom) in
      let long : length rows ≡ length left + 1 + length (range_rows columns) = ap length base-is
      ∙ omega (
        arith,
        length-append asked (range_rows columns),
        length-append (rows_of left) (negation ∷ []),
        length-map left (λ (a : Atom). a.term),
      ) in
      let s : IsSumOf (row_at rows place) (row_at rows (length left)) = subst (λ (t : LinearSum). IsSumOf t (row_at rows (length left)))
      (sym first-is) (subst (λ (u : LinearSum). IsSumOf row u) (sym second-is) sum-right) in
      record {
        named = (omega (arith, f.inside, long), omega (arith, ints), (omega (arith, long), omega (arith, ints), tt));
        columns_fit = s.0;
        constant_fits = s.1;
        divisor = omega (arith, ints);
        divided = s.2;
        rounded = s.3;
      }

  pub found-refutes : Refutes (with_negation left atom) (close (step ∷ []))
  found-refutes = record {
    shallow = omega arith;
    right = ((step-right, tt), (refl, pair-above row atom.term pair));
  }

  pub found-terms : HasTerms (close (step ∷ []))
  found-terms = (
    test-from_IsTerm step.row.term (record {
      order = tt;
      within = record {
        count = omega arith;
        coefficients = tt;
        constant_limit = omega (arith, ints, row-short.constant, f.short.constant);
      };
    }),
    tt,
  )

-- The rows of ranges by their numbers.
use Rattle.std.proofs.Common.{◌≡◌, ℕ, suc, zero, ◌<◌, ◌≤◌, ◌+◌, ◌-◌, ◌*◌, ◌/◌, ◌%◌, Bool, true, false, Result, Ok, Err, List, [], ◌∷◌, ◌++◌, length, get_or, pos, arith, refl, sym, ap, ◌∙◌}
use Rattle.std.specs.Prelude.{if◌then◌else◌, ◌==◌, MatchResult}
use Rattle.std.proofs.lemmas.List.{append-nil, append_assoc, length-append, get_or_append_left, get_or-append_right}
use borrow.Author.Tests.{eqb-true, eqb_apart}
use Rattle.linear_formula.specs.LinearSum.{LinearSum}
use Rattle.linear_formula.specs.Results.{constant_sum}
use Rattle.linear_formula.specs.declared.formula.Atom.{Atom}
use Rattle.infeasible_cert.specs.Right.{upper_range, lower_range, range_rows, columns_of, rows_of, base_rows, row_at}
use Rattle.infeasible_cert.specs.declared.rows.Nodes.{Nodes}
use Rattle.infeasible_cert.specs.declared.rows.Nodes.TheVariants.{Top, Steps', Bound'}
use Rattle.infeasible_cert.specs.declared.rows.Row.{Row}
use Rattle.infeasible_cert.specs.steps.Known.{rows_below, single, terms_of, sum_of}

pub length-ranges : (xs : List ℕ) → length (range_rows xs) ≡ 2 * length xs
length-ranges [] = refl
length-ranges (x ∷ xs) = omega (arith, length-ranges xs)

pub range-upper : (xs : List ℕ) (i : ℕ) → i < length xs → row_at (range_rows xs) (2 * i) ≡ upper_range (get_or xs i 0)
range-upper [] i h = absurd (omega (arith, h))
range-upper (x ∷ xs) zero h = refl
range-upper (x ∷ xs) (suc i) h =
    ap (row_at (range_rows (x ∷ xs))) (twice i) ∙ range-upper xs i (omega (arith, h)) where
      twice : (n : ℕ) → 2 * suc n ≡ suc (suc (2 * n))
      twice n = omega arith

pub range-lower : (xs : List ℕ) (i : ℕ) → i < length xs → row_at (range_rows xs) (2 * i + 1) ≡ lower_range (get_or xs i 0)
range-lower [] i h = absurd (omega (arith, h))
range-lower (x ∷ xs) zero h = refl
range-lower (x ∷ xs) (suc i) h =
    ap (row_at (range_rows (x ∷ xs))) (twice i) ∙ range-lower xs i (omega (arith, h)) where
      twice : (n : ℕ) → 2 * suc n + 1 ≡ suc (suc (2 * n + 1))
      twice n = omega arith

length-rows : (atoms : List Atom) → length (rows_of atoms) ≡ length atoms
length-rows [] = refl
length-rows (a ∷ atoms) = omega (arith, length-rows atoms)

pub length-base : (atoms : List Atom) → length (base_rows atoms) ≡ length atoms + 2 * length (columns_of (rows_of atoms))
length-base atoms =
    omega (
      arith,
      length-append (rows_of atoms) (range_rows (columns_of (rows_of atoms))),
      length-rows atoms,
      length-ranges (columns_of (rows_of atoms)),
    )

-- the row of an atom
pub base-atom : (atoms : List Atom) (n : ℕ) (e : Atom) → n < length atoms → (get_or atoms n e).term ≡ row_at (base_rows atoms) n
base-atom atoms n e h = in_front atoms n (range_rows (columns_of (rows_of atoms))) h where
  in_front : (as_ : List Atom) (k : ℕ) (more : List LinearSum) → k < length as_ → (get_or as_ k e).term ≡ row_at (rows_of as_ ++ more) k
  in_front [] k more d = absurd (omega (arith, d))
  in_front (a ∷ as_) zero more d = refl
  in_front (a ∷ as_) (suc k) more d = in_front as_ k more (omega (arith, d))

behind-atoms : (as_ : List Atom) (k : ℕ) (more : List LinearSum) → row_at (rows_of as_ ++ more) (length as_ + k) ≡ row_at more k
behind-atoms [] k more = ap (row_at more) (none k) where
  none : (n : ℕ) → 0 + n ≡ n
  none n = omega arith
behind-atoms (a ∷ as_) k more =
    ap (row_at (rows_of (a ∷ as_) ++ more)) (one (length as_) k) ∙ behind-atoms as_ k more where
      one : (m n : ℕ) → suc m + n ≡ suc (m + n)
      one m n = omega arith

pub base-range : (atoms : List Atom) (n : ℕ) (x : ℕ) (b : Bool) → length atoms ≤ n → let cols = columns_of (rows_of atoms) in
    let i = (n - length atoms) / 2 in b ≡ ((n - length atoms) % 2 == 0) → i < length cols → x ≡ get_or cols i 0 →
    (if b then upper_range x else lower_range x) ≡ row_at (base_rows atoms) n
base-range atoms n x b le eb lt ex =
    by_side b eb ∙ sym (behind-atoms atoms (n - length atoms) (range_rows (columns_of (rows_of atoms)))) ∙ ap (row_at (base_rows atoms))
    back where
      back : length atoms + (n - length atoms) ≡ n
      back = omega (arith, le)

      by_side : (c : Bool) → c ≡ ((n - length atoms) % 2 == 0) → (if c then upper_range x else lower_range x)
          ≡ row_at (range_rows (columns_of (rows_of atoms))) (n - length atoms)
      by_side true e =
          let even : 2 * ((n - length atoms) / 2) ≡ n - length atoms = omega (arith, eqb-true ((n - length atoms) % 2) 0 (sym e)) in
          ap upper_range ex ∙ sym (range-upper (columns_of (rows_of atoms)) ((n - length atoms) / 2) lt)
          ∙ ap (row_at (range_rows (columns_of (rows_of atoms)))) even
      by_side false e =
          let odd : 2 * ((n - length atoms) / 2) + 1 ≡ n - length atoms = omega (arith, eqb_apart ((n - length atoms) % 2) 0 (sym e)) in
          ap lower_range ex ∙ sym (range-lower (columns_of (rows_of atoms)) ((n - length atoms) / 2) lt)
          ∙ ap (row_at (range_rows (columns_of (rows_of atoms)))) odd

-- the rows of nodes are after the others
pub below-apart : (rows : List LinearSum) (nodes : Nodes) → rows_below rows nodes ≡ rows ++ rows_below [] nodes
below-apart rows Top = sym (append-nil rows)
below-apart rows (Steps' p above derived) =
    ap (λ ts. ts ++ terms_of derived.now) (below-apart rows above) ∙ append_assoc rows (rows_below [] above) (terms_of derived.now)
below-apart rows (Bound' p above x a c) =
    ap (λ ts. ts ++ single x a c ∷ []) (below-apart rows above) ∙ append_assoc rows (rows_below [] above) (single x a c ∷ [])

-- a row with its number, or how far the number is past the last one
abbrev pub IsFound : List LinearSum → ℕ → Result Row ℕ → Type 0
IsFound rows n r =
    MatchResult r (λ row. (n < length rows) × (sum_of row ≡ row_at rows n)) (λ behind. n ≡ length rows + behind)

pub found-before : (rows : List LinearSum) (nodes : Nodes) (n : ℕ) (t : LinearSum) → (n < length rows) × (t ≡ row_at rows n) →
    (n < length (rows_below rows nodes)) × (t ≡ row_at (rows_below rows nodes) n)
found-before rows nodes n t h =
    let e = below-apart rows nodes in (
      omega (arith, h.0, ap length e, length-append rows (rows_below [] nodes)),
      h.1 ∙ sym (get_or_append_left rows (rows_below [] nodes) (constant_sum (pos 0)) n h.0) ∙ ap (λ ts. row_at ts n) (sym e),
    )

pub found-below : (rows : List LinearSum) (nodes : Nodes) (n k : ℕ) (r : Result Row ℕ) → n ≡ length rows + k → IsFound (rows_below [] nodes)
    k r → IsFound (rows_below rows nodes) n r
found-below rows nodes n k (Ok row) en h =
    let e = below-apart rows nodes in
    let back : n - length rows ≡ k = omega (arith, en) in (
      omega (arith, en, h.0, ap length e, length-append rows (rows_below [] nodes)),
      h.1 ∙ ap (row_at (rows_below [] nodes)) (sym back)
          ∙ sym (get_or-append_right rows (rows_below [] nodes) (length rows) n (constant_sum (pos 0)) refl (omega (arith, en)))
          ∙ ap (λ ts. row_at ts n) (sym e),
    )
found-below rows nodes n k (Err behind) en h =
    let e = below-apart rows nodes in
    omega (arith, en, h, ap length e, length-append rows (rows_below [] nodes))

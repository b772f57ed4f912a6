-- Pairs of extreme rows.
use Rattle.std.specs.Prelude.{◌≡◌, ◌⊎◌, ℕ, ◌==◌, List, [], ◌∷◌, ◌++◌, length, All, Contains, Some, slice_get, flat_map, unwrap_or, option_map, if◌then◌else◌, ◌≤ℤ◌}
use Rattle.linear_formula.specs.LinearSum.{LinearSum}
use Rattle.linear_formula.specs.Extremes.{IsAsStrong}
use Rattle.linear_formula.specs.declared.formula.Atom.{Atom}
use Rattle.linear_formula.specs.declared.extremes.NumberedAtom.{NumberedAtom}
use Rattle.linear_formula.specs.declared.extremes.ExtremePair.{ExtremePair}
use Rattle.linear_formula.specs.declared.extremes.Outline.{Outline}

abbrev pub older_of : Outline → List (List ExtremePair)
older_of o = unwrap_or (option_map (λ a. a.value.items) o.older) []

abbrev pub newest_of : Outline → List ExtremePair
newest_of o = unwrap_or o.newest []

abbrev pub pairs_of : Outline → List ExtremePair
pairs_of o = flat_map (λ l. l) (older_of o) ++ newest_of o

-- a pair of a row with itself counts once
abbrev pub pair_numbers : ExtremePair → List ℕ
pair_numbers p = p.greatest.number ∷ (if p.least.number == p.greatest.number then [] else
    (p.least.number ∷ []))

abbrev pub pair_rows : ExtremePair → List Atom
pair_rows p = p.greatest.atom ∷ (if p.least.number == p.greatest.number then [] else
    (p.least.atom ∷ []))

abbrev pub numbers_of : List ExtremePair → List ℕ
numbers_of pairs = flat_map pair_numbers pairs

abbrev pub rows_of : List ExtremePair → List Atom
rows_of pairs = flat_map pair_rows pairs

-- two rows of the list, of which one is as strong as the other
pub record IsPair (all : List Atom) (p : ExtremePair) : Type 0 where
  pub greatest : slice_get all p.greatest.number ≡ Some p.greatest.atom
  pub least : slice_get all p.least.number ≡ Some p.least.atom
  pub ordered : IsAsStrong p.greatest.atom.term p.least.atom.term

-- the row lies between those of one of the pairs
pub record IsWithin (pairs : List ExtremePair) (t : LinearSum) : Type 0 where
  pub pair : ExtremePair
  pub there : Contains pairs pair
  pub above : IsAsStrong pair.greatest.atom.term t
  pub below : IsAsStrong t pair.least.atom.term

pub record ArePairs (pairs : List ExtremePair) (all : List Atom) : Type 0 where
  pub pairs_there : All (λ p. IsPair all p) pairs
  pub within : All (λ a. IsWithin pairs a.term) all

pub record Outlines (o : Outline) (all : List Atom) : Type 0 where
  pub count : o.count ≡ length all
  pub pairs : ArePairs (pairs_of o) all

-- the row is this one, or the one that it was
abbrev pub IsOneOf : NumberedAtom → NumberedAtom → ℕ → Atom → Type 0
IsOneOf m old n a = (m ≡ old) ⊎ ((m.number ≡ n) × (m.atom ≡ a))

-- the pair with one more row, where the greatest wasn't below the least
pub record IsWidened (p : ExtremePair) (n : ℕ) (a : Atom) (q : ExtremePair) : Type 0 where
  pub greatest : IsOneOf q.greatest p.greatest n a
  pub least : IsOneOf q.least p.least n a
  pub above : p.greatest.atom.term.constant ≤ℤ q.greatest.atom.term.constant
  pub at_most : a.term.constant ≤ℤ q.greatest.atom.term.constant
  pub below : q.least.atom.term.constant ≤ℤ p.least.atom.term.constant
  pub at_least : p.least.atom.term.constant ≤ℤ p.greatest.atom.term.constant →
      q.least.atom.term.constant ≤ℤ a.term.constant

-- Rows between which all rows of a list lie, with their numbers in it.
use Rattle.std.specs.Prelude.{◌≡◌, ℕ, List, [], ◌∷◌, length, All, Contains, Some, slice_get, ◌≤ℤ◌}
use Rattle.linear_formula.specs.LinearSum.{LinearSum}
use Rattle.linear_formula.specs.declared.formula.Atom.{Atom}
use Rattle.linear_formula.specs.declared.extremes.Extremes.{Extremes}

-- s has the coefficients of t, and a constant as great or greater
pub record IsAsStrong (s t : LinearSum) : Type 0 where
  pub parts : s.parts ≡ t.parts
  pub constant : t.constant ≤ℤ s.constant

-- the row lies between two of these
pub record IsBetween (rows : List Atom) (t : LinearSum) : Type 0 where
  pub upper : Atom
  pub upper_there : Contains rows upper
  pub above : IsAsStrong upper.term t
  pub lower : Atom
  pub lower_there : Contains rows lower
  pub below : IsAsStrong t lower.term

-- each row has its number in the list
abbrev pub HaveNumbers : List ℕ → List Atom → List Atom → Type 0
HaveNumbers [] [] all = Unit {0}
HaveNumbers [] (a ∷ rows) all = ⊥
HaveNumbers (n ∷ ns) [] all = ⊥
HaveNumbers (n ∷ ns) (a ∷ rows) all = (slice_get all n ≡ Some a) × HaveNumbers ns rows all

-- some rows of the list, by their numbers, between which all of them lie
pub record AreExtremes (numbers : List ℕ) (rows all : List Atom) : Type 0 where
  pub numbered : HaveNumbers numbers rows all
  pub between : All (λ a. IsBetween rows a.term) all

-- the same, by some numbers
pub record AreOuter (rows all : List Atom) : Type 0 where
  pub numbers : List ℕ
  pub extremes : AreExtremes numbers rows all

-- the same, with the number of all rows
pub record IsOutline (e : Extremes) (all : List Atom) : Type 0 where
  pub count : e.count ≡ length all
  pub extremes : AreExtremes e.numbers.items e.cube.atoms all

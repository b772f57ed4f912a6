-- What the plan decides of cubes without a limit.
use Rattle.std.specs.Prelude.{◌≡◌, ◌⊎◌, ℕ, ℤ, Bool, IsTrue, List, [], ◌∷◌, ◌++◌}
use Rattle.linear_formula.specs.LinearSum.{is_within}
use Rattle.linear_formula.specs.Results.{negated}
use Rattle.linear_formula.specs.declared.formula.Atom.{Atom}
use Rattle.linear_formula.specs.declared.formula.Cube.{Cube}
use Rattle.shadow_elim.specs.Plan.{Search, found, nothing, solution}

-- the search ends without a point
abbrev pub IsNothing : Search → Type 0
IsNothing search = (splits : List Cube) × (search ≡ nothing splits)

-- the plan finds a point of the atoms, or that there is none
abbrev pub IsMet : List Atom → Type 0
IsMet atoms = (values : List (ℕ × ℤ)) × (solution atoms ≡ found values)

abbrev pub IsNever : List Atom → Type 0
IsNever atoms = IsNothing (solution atoms)

-- the negation of t ≤ 0, 1 - t ≤ 0, is within the limits of a term
abbrev pub is_negatable : Atom → Bool
is_negatable atom = is_within (negated atom.term)

abbrev pub CanNegate : Atom → Type 0
CanNegate atom = IsTrue (is_negatable atom)

-- the left atoms and the negation of the right one
abbrev pub with_negation : List Atom → Atom → List Atom
with_negation left atom = left ++ record { term = negated atom.term } ∷ []

-- the plan finds no point of the left atoms with the negation of this one
abbrev pub IsEntailed : List Atom → Atom → Type 0
IsEntailed left atom = CanNegate atom × IsNever (with_negation left atom)

-- each atom's question ends without a point
abbrev pub IsShownToEntail : List Atom → List Atom → Type 0
IsShownToEntail left [] = Unit {0}
IsShownToEntail left (atom ∷ right) = IsEntailed left atom × IsShownToEntail left right

-- some atom's question ends with a point, and those before it without one
abbrev pub IsShownNotToEntail : List Atom → List Atom → Type 0
IsShownNotToEntail left [] = ⊥
IsShownNotToEntail left (atom ∷ right) =
    CanNegate atom × (IsMet (with_negation left atom)
    ⊎ (IsNever (with_negation left atom) × IsShownNotToEntail left right))

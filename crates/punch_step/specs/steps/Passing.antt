-- How many of the first atoms are some of those that were passed.
use Rattle.std.specs.Prelude.{◌≡◌, ◌+◌, ◌⊎◌, ℕ, List, Some, slice_get}
use Rattle.linear_formula.specs.declared.formula.Atom.{Atom}

-- so many as before, or one more where the next is the atom
abbrev pub IsPassed : List Atom → (next : ℕ) → Atom → (after : ℕ) → Type 0
IsPassed atoms next a after =
    (after ≡ next) ⊎ ((after ≡ next + 1) × (slice_get atoms next ≡ Some a))

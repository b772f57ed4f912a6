-- When atoms and cubes hold, and what is done to them.
use Rattle.std.specs.Prelude.{ℕ, ◌==◌, Bool, true, false, not, ◌&&◌, ◌||◌, List, [], ◌∷◌, pos, ◌≤ℤ◌}
use Rattle.linear_formula.specs.declared.formula.Atom.{Atom}
use Rattle.linear_formula.specs.LinearSum.{Valuation, value_of, is_within, is_term}
use Rattle.linear_formula.specs.Results.{renamed_column, renamed_by}

-- the term is at most 0
abbrev pub Holds : Valuation → Atom → Type 0
Holds v atom = value_of v atom.term ≤ℤ pos 0

abbrev pub HoldsAll : Valuation → List Atom → Type 0
HoldsAll v [] = Unit {0}
HoldsAll v (atom ∷ atoms) = Holds v atom × HoldsAll v atoms

abbrev pub renamed_atoms_by : (ℕ → ℕ) → List Atom → List Atom
renamed_atoms_by new_of [] = []
renamed_atoms_by new_of (atom ∷ atoms) = record { term = renamed_by new_of atom.term }
    ∷ renamed_atoms_by new_of atoms

abbrev pub renamed_atoms : List (ℕ × ℕ) → List Atom → List Atom
renamed_atoms map atoms = renamed_atoms_by (renamed_column map) atoms

-- each term is within the limits
abbrev pub are_within : List Atom → Bool
are_within [] = true
are_within (atom ∷ atoms) = is_within atom.term && are_within atoms

abbrev pub are_terms : List Atom → Bool
are_terms [] = true
are_terms (atom ∷ atoms) = is_term atom.term && are_terms atoms

abbrev pub is_renamed : ℕ → List (ℕ × ℕ) → Bool
is_renamed x [] = false
is_renamed x (p ∷ ps) = x == p.0 || is_renamed x ps

-- no column is listed twice on the left
abbrev pub is_renaming : List (ℕ × ℕ) → Bool
is_renaming [] = true
is_renaming (p ∷ ps) = not (is_renamed p.0 ps) && is_renaming ps

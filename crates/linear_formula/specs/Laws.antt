-- What renaming gives, and what comparisons say.
use Rattle.std.specs.Prelude.{◌≡◌, ◌↔◌, ℕ, IsTrue, List}
use Rattle.linear_formula.specs.LinearSum.{LinearSum, Valuation, value_of}
use Rattle.linear_formula.specs.Results.{renamed_by}
use Rattle.linear_formula.specs.Formula.{HoldsAll, renamed_atoms_by}
use Rattle.linear_formula.specs.Equality.{same_sum, same_atoms}
use Rattle.linear_formula.specs.declared.formula.Atom.{Atom}

-- a renamed sum has the value that the sum has where each column stands for the new one
abbrev pub RenamesValues : Type 0
RenamesValues =
    (v : Valuation) (f : ℕ → ℕ) (t : LinearSum) → value_of v (renamed_by f t)
    ≡ value_of (λ x. v (f x)) t

abbrev pub RenamesHolding : Type 0
RenamesHolding =
    (v : Valuation) (f : ℕ → ℕ) (atoms : List Atom) →
    HoldsAll v (renamed_atoms_by f atoms) ↔ HoldsAll (λ x. v (f x)) atoms

-- what `==` says of terms and of the atoms of cubes
abbrev pub ComparesSums : Type 0
ComparesSums = (t u : LinearSum) → IsTrue (same_sum t u) ↔ (t ≡ u)

abbrev pub ComparesAtoms : Type 0
ComparesAtoms = (as_ bs : List Atom) → IsTrue (same_atoms as_ bs) ↔ (as_ ≡ bs)

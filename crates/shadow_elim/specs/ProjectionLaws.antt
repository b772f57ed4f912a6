-- What sums and projections promise without a call.
use Rattle.std.specs.Prelude.{◌≡◌, ◌↔◌, ℕ, ◌<◌, ◌^◌, List, All, Contains, Option, None, pos, IsTrue}
use Rattle.linear_formula.specs.LinearSum.{LinearSum, Valuation, value_of, coefficient}
use Rattle.linear_formula.specs.Replaced.{column_sum, replaced_valuation}
use Rattle.linear_formula.specs.Formula.{HoldsAll, are_terms, renamed_atoms_by}
use Rattle.linear_formula.specs.declared.formula.Atom.{Atom}
use Rattle.infeasible_cert.specs.Right.{columns_of, rows_of}
use Rattle.shadow_elim.specs.Shadows.{KeepsAll, NamesNone, LosesNone}
use Rattle.shadow_elim.specs.Sums.{rows_of_sums, row_sums, renaming, equal_sums}
use Rattle.shadow_elim.specs.Projection.{projected, gives}

-- the columns are numbers of 32 bits, and the atoms are terms
pub record FitsProjection (columns : List ℕ) (atoms : List Atom) : Type 0 where
  pub terms : IsTrue (are_terms atoms)
  pub numbers : All (λ x. x < 2 ^ 32) columns

abbrev pub Pair : Type 0
Pair = Option (ℕ × (LinearSum × LinearSum))

-- each assignment that meets the atoms meets the rows
abbrev pub ProjectionsKeep : Type 0
ProjectionsKeep =
    (columns : List ℕ) (atoms rows : List Atom) (pair : Pair) → projected columns atoms
    ≡ gives rows pair →
    KeepsAll atoms rows

-- without an inexact pair, each assignment that meets the rows comes of one that meets the atoms
abbrev pub ProjectionsLoseNone : Type 0
ProjectionsLoseNone =
    (columns : List ℕ) (atoms rows : List Atom) → FitsProjection columns atoms →
    projected columns atoms ≡ gives rows None → LosesNone columns atoms rows

-- the rows name none of the columns
abbrev pub ProjectionsNameNone : Type 0
ProjectionsNameNone =
    (columns : List ℕ) (atoms rows : List Atom) (pair : Pair) → FitsProjection columns atoms →
    projected columns atoms ≡ gives rows pair → NamesNone columns rows

-- the rows name no column that the atoms don't name
abbrev pub IsUnnamed : ℕ → List Atom → Type 0
IsUnnamed x atoms = All (λ a. coefficient x a.term ≡ pos 0) atoms

abbrev pub ProjectionsNameNoOther : Type 0
ProjectionsNameNoOther =
    (columns : List ℕ) (atoms rows : List Atom) (pair : Pair) → FitsProjection columns atoms →
    projected columns atoms ≡ gives rows pair → (x : ℕ) → IsUnnamed x atoms → IsUnnamed x rows

-- each column that atoms name is among those that are listed
abbrev pub ListsNamed : Type 0
ListsNamed = (x : ℕ) (atoms : List Atom) → (¬ Contains (columns_of (rows_of atoms)) x) →
    IsUnnamed x atoms

abbrev pub ProjectionsAreTerms : Type 0
ProjectionsAreTerms =
    (columns : List ℕ) (atoms rows : List Atom) (pair : Pair) → FitsProjection columns atoms →
    projected columns atoms ≡ gives rows pair → IsTrue (are_terms rows)

-- the rows of sums hold where the atoms hold with each column read by its sum
abbrev pub SumsHold : Type 0
SumsHold =
    (v : Valuation) (by : ℕ → LinearSum) (atoms : List Atom) →
    HoldsAll v (rows_of_sums (row_sums by atoms)) ↔ HoldsAll (replaced_valuation by v) atoms

-- the two rows of an equality hold where it does
abbrev pub EqualRowsHold : Type 0
EqualRowsHold =
    (v : Valuation) (s t : LinearSum) → HoldsAll v (rows_of_sums (equal_sums s t)) ↔
    (value_of v s ≡ value_of v t)

-- atoms that are renamed by sums are the renamed atoms, and those read column by column stay
abbrev pub SumsRename : Type 0
SumsRename =
    (f : ℕ → ℕ) (atoms : List Atom) → rows_of_sums (row_sums (renaming f) atoms) ≡ renamed_atoms_by
    f atoms

abbrev pub SumsKeep : Type 0
SumsKeep = (atoms : List Atom) → IsTrue (are_terms atoms) → rows_of_sums (row_sums column_sum atoms)
    ≡ atoms

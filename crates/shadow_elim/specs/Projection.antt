-- The results of sums and of an elimination: rows with the first inexact pair, or the first limit.
use Rattle.std.specs.Prelude.{ℕ, List, map, Option, None, Some}
use Rattle.linear_formula.specs.LinearSum.{LinearSum}
use Rattle.linear_formula.specs.declared.formula.Atom.{Atom}
use Rattle.linear_formula.specs.declared.formula.Cube.{Cube}
use Rattle.linear_formula.specs.declared.question.Question.TheVariants as asks
use Rattle.shadow_elim.specs.Elimination.{Remainder, remains, wide, too_many, elimination, listed_rows, first_inexact}
use Rattle.shadow_elim.specs.Sums.{first_wide, rows_of_sums, wide_sum}
use Rattle.shadow_elim.specs.declared.limit.Limit.TheVariants.{Wide, Rows}
use Rattle.shadow_elim.specs.declared.limit.Kept.{Kept}
use Rattle.shadow_elim.specs.declared.projection.ProjectionError.{ProjectionError}
use Rattle.shadow_elim.specs.declared.projection.ProjectionError.TheVariants as refusal
use Rattle.shadow_elim.specs.declared.sum.Sum.{Sum}

-- the rows that are left with the first pair of rows that may let other points in, or the limit
-- that was met
pub data Projected : Type 0 where
  gives : (rows : List Atom) → (pair : Option (ℕ × (LinearSum × LinearSum))) → Projected
  refuses : Kept → Projected

abbrev pub cube_of : List Atom → Cube
cube_of atoms = record { atoms = atoms }

-- the limits of the elimination of columns: a row is too wide, or there are too many rows
abbrev pub wide_rows : List ℕ → List Atom → Kept
wide_rows columns atoms = record {
  question = asks.Eliminate (cube_of atoms) columns;
  limit = Wide (asks.Eliminate (cube_of atoms) columns);
}

abbrev pub long_rows : List ℕ → List Atom → Kept
long_rows columns atoms = record {
  question = asks.Eliminate (cube_of atoms) columns;
  limit = Rows (cube_of atoms);
}

-- the limit of the first wide sum, or what follows
abbrev pub unless_wide : Option Sum → Projected → Projected
unless_wide None next = next
unless_wide (Some s) next = refuses (wide_sum s)

-- what follows with the rows of the sums
abbrev pub summed : List Sum → (List Atom → Projected) → Projected
summed sums next = unless_wide (first_wide sums) (next (rows_of_sums sums))

abbrev pub atoms_of : List LinearSum → List Atom
atoms_of rows = map (λ t. record { term = t }) rows

abbrev pub left_by : List ℕ → List Atom → Remainder → Projected
left_by columns atoms (remains rows) =
    gives (atoms_of rows) (first_inexact columns (listed_rows atoms columns))
left_by columns atoms wide = refuses (wide_rows columns atoms)
left_by columns atoms too_many = refuses (long_rows columns atoms)

-- the atoms without the columns
abbrev pub projected : List ℕ → List Atom → Projected
projected columns atoms = left_by columns atoms (elimination columns (listed_rows atoms columns))

-- sums of the rows that are left, with the same pair
abbrev pub then_summed : (List Atom → List Sum) → Projected → Projected
then_summed sums_of (gives rows pair) = summed (sums_of rows) (λ atoms. gives atoms pair)
then_summed sums_of (refuses kept) = refuses kept

-- a fact of the limit, if the error is one
abbrev pub IfRefused : ProjectionError → (Kept → Type 0) → Type 0
IfRefused (refusal.Limit kept) P = P kept
IfRefused refusal.Memory P = Unit {0}

-- Whether parts, sums, atoms and lists of them are equal, as tests.
use Rattle.std.specs.Prelude.{ℕ, ◌==◌, Bool, ◌&&◌, List, ℤ}
use Rattle.std.specs.Ordering.{int_eq}
use Rattle.std.specs.Cmp.Lexicographic.{pointwise}
use Rattle.linear_formula.specs.LinearSum.{LinearSum}
use Rattle.linear_formula.specs.declared.formula.Atom.{Atom}

abbrev pub same_part : ℕ × ℤ → ℕ × ℤ → Bool
same_part p q = p.0 == q.0 && int_eq p.1 q.1

abbrev pub same_parts : List (ℕ × ℤ) → List (ℕ × ℤ) → Bool
same_parts = pointwise same_part

abbrev pub same_sum : LinearSum → LinearSum → Bool
same_sum t u = same_parts t.parts u.parts && int_eq t.constant u.constant

abbrev pub same_atom : Atom → Atom → Bool
same_atom a b = same_sum a.term b.term

abbrev pub same_atoms : List Atom → List Atom → Bool
same_atoms = pointwise same_atom

abbrev pub same_summand : ℤ × LinearSum → ℤ × LinearSum → Bool
same_summand s r = int_eq s.0 r.0 && same_sum s.1 r.1

abbrev pub same_summands : List (ℤ × LinearSum) → List (ℤ × LinearSum) → Bool
same_summands = pointwise same_summand

abbrev pub same_columns : List ℕ → List ℕ → Bool
same_columns = pointwise ◌==◌

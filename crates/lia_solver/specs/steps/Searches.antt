-- What a search of a question needs of a branch.
use Rattle.std.specs.Prelude.{◌≡◌, ◌≤◌, List, length, take, drop}
use Rattle.linear_formula.specs.declared.formula.Atom.{Atom}
use Rattle.infeasible_cert.specs.Right.{columns_of, rows_of}
use Rattle.lia_solver.specs.declared.search.Search.{Search}
use Rattle.lia_solver.specs.steps.Branches.{IsBranch}

-- the atoms are those of the question and of splits of its columns
pub record IsSearchable (s : Search) (atoms : List Atom) : Type 0 where
  pub question : s.atoms ≤ length atoms
  pub columns : s.columns.items ≡ columns_of (rows_of (take s.atoms atoms))
  pub branch : IsBranch (take s.atoms atoms) (drop s.atoms atoms)

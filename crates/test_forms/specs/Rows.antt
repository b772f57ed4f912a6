-- What rows name.
use Rattle.std.specs.Prelude.{ℕ, Bool, IsTrue, List}
use Rattle.linear_formula.specs.declared.formula.Atom.{Atom}
use Rattle.flow_graph.specs.Columns.{rows_name_only}

-- the rows name this column alone
abbrev pub NamesAlone : ℕ → List Atom → Type 0
NamesAlone x atoms =
    (allowed : ℕ → Bool) → IsTrue (allowed x) → IsTrue (rows_name_only allowed atoms)

-- What a call meets.
use Rattle.std.specs.Prelude.{ℕ, Bool, ◌||◌, List, [], ℤ}
use Rattle.c_tree.specs.Meaning.{State}
use Rattle.linear_formula.specs.Formula.{HoldsAll}
use Rattle.linear_formula.specs.declared.formula.Atom.{Atom}
use Rattle.flow_graph.specs.Runs.{with_slots}
use Rattle.flow_graph.specs.Columns.{columns_of, is_slot_column, is_entry_column, first_entry}
use Rattle.summary_form.specs.declared.query.ExitKind.{ExitKind}
use Rattle.summary_form.specs.declared.query.ExitKind.TheVariants as kind

-- the place after the call meets the rows: with its slots set, or as it failed
abbrev pub LiesBehind : ExitKind → (results : List ℕ) → State → (entry values : List ℤ) →
    List Atom →
    Type 0
LiesBehind kind.Return results s entry values target = HoldsAll
    (columns_of (with_slots s results values) entry []) target
LiesBehind (kind.Fail id) results s entry values target = HoldsAll (columns_of s entry []) target

-- slots and entry values
abbrev pub inner_column : ℕ → Bool
inner_column x = is_slot_column x || is_entry_column first_entry x

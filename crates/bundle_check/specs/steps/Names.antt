-- Columns of given numbers of slots, entry values and exit values.
use Rattle.std.specs.Prelude.{ℕ, nat_lt, Bool, ◌||◌}
use Rattle.summary_form.specs.declared.query.ExitKind.{ExitKind}
use Rattle.summary_form.specs.declared.query.ExitKind.TheVariants.{Return, Fail}
use Rattle.flow_graph.specs.Columns.{first_exit, is_among, is_entry_column}
use Rattle.bundle_check.specs.declared.columns.Allowed.{Allowed}

abbrev pub is_exit_column : (exits : ℕ) → ℕ → Bool
is_exit_column exits x = is_among first_exit exits x

abbrev pub is_allowed : Allowed → ℕ → Bool
is_allowed a x = nat_lt x a.slots || (is_entry_column a.entries x || is_exit_column a.exits x)

-- the exit values that the end of a query may name
abbrev pub exits_named : ExitKind → ℕ → ℕ
exits_named Return n = n
exits_named (Fail id) n = 0

-- The query that a call asks.
use Rattle.std.specs.Prelude.{◌≡◌, ℕ, ◌+◌, ◌-◌, ◌==◌, nat_lt, nat_le, Bool, not, IsTrue, List, [], ◌∷◌, ◌++◌, length, map, ℤ, ◌<◌, if◌then◌else◌, Some, slice_get}
use Rattle.std.specs.List.{list_any, filter}
use Rattle.c_tree.specs.Meaning.{State}
use Rattle.linear_formula.specs.Results.{renamed_column}
use Rattle.linear_formula.specs.Replaced.{column_sum}
use Rattle.linear_formula.specs.Formula.{HoldsAll}
use Rattle.linear_formula.specs.declared.formula.Atom.{Atom}
use Rattle.infeasible_cert.specs.Right.{columns_of as named_columns, rows_of}
use Rattle.flow_graph.specs.Calls.{CallSite}
use Rattle.flow_graph.specs.Columns.{first_exit, first_entry, first_asked, columns_of, valuation_of, rows_name_only, AreValues, AreAllValues}
use Rattle.summary_form.specs.declared.query.Query.{Query}
use Rattle.summary_form.specs.declared.query.ExitKind.{ExitKind}
use Rattle.summary_form.specs.declared.query.ExitKind.TheVariants as kind
use Rattle.shadow_elim.specs.declared.sum.Sum.{Sum}
use Rattle.shadow_elim.specs.Sums.{row_sums, rows_of_sums, renaming, equal_sums}
use Rattle.shadow_elim.specs.Projection.{Projected, summed, projected, then_summed}
use Rattle.call_bridge.specs.Calls.{LiesBehind, inner_column}

-- the column of argument i while the caller's columns are eliminated
abbrev pub first_argument : ℕ
first_argument = first_asked

-- each argument's slot by its column; of a slot at several places the first counts, since look-ups
-- take the first
abbrev pub argument_columns : (i : ℕ) → List ℕ → List (ℕ × ℕ)
argument_columns i [] = []
argument_columns i (x ∷ args) = (x, first_argument + i) ∷ argument_columns (i + 1) args

-- each later place of a slot equals its first place
abbrev pub place_sums : List (ℕ × ℕ) → (i : ℕ) → List ℕ → List Sum
place_sums columns i [] = []
place_sums columns i (x ∷ args) =
    (if renamed_column columns x == first_argument + i then [] else equal_sums
    (column_sum (first_argument + i)) (column_sum (renamed_column columns x))) ++ place_sums columns
    (i + 1) args

-- the exit value of each result's slot; of a slot at several places the first counts
abbrev pub result_columns : (i : ℕ) → List ℕ → List (ℕ × ℕ)
result_columns i [] = []
result_columns i (x ∷ results) = (x, first_exit + i) ∷ result_columns (i + 1) results

-- at the next node the call's slots are the exit values
abbrev pub exit_columns : ExitKind → (results : List ℕ) → List (ℕ × ℕ)
exit_columns kind.Return results = result_columns 0 results
exit_columns (kind.Fail id) results = []

abbrev pub exit_column : ExitKind → (results : List ℕ) → ℕ → ℕ
exit_column exit results x = renamed_column (exit_columns exit results) x

abbrev pub call_sums : ExitKind → CallSite → (source target : List Atom) → List Sum
call_sums exit site source target =
    row_sums (renaming (renamed_column (argument_columns 0 site.arguments))) source
    ++ (row_sums (renaming (λ x. renamed_column (argument_columns 0 site.arguments)
    (exit_column exit site.results x)))
    target ++ place_sums (argument_columns 0 site.arguments) 0 site.arguments)

abbrev pub call_rows : ExitKind → CallSite → (source target : List Atom) → List Atom
call_rows exit site source target = rows_of_sums (call_sums exit site source target)

-- the caller's columns that the rows name
abbrev pub caller_columns : List Atom → List ℕ
caller_columns rows = filter (λ x. nat_lt x first_exit) (named_columns (rows_of rows))

-- argument i as entry value i
abbrev pub as_entry : ℕ → ℕ
as_entry x = if nat_le first_argument x then x - (first_argument - first_entry) else x

abbrev pub names_exit : Atom → Bool
names_exit a = list_any (λ p. nat_le first_exit p.0) a.term.parts

-- the rows of the query, with the first inexact pair
abbrev pub asked : ExitKind → CallSite → (source target : List Atom) → Projected
asked exit site source target =
    summed (call_sums exit site source target)
    (λ rows. then_summed (row_sums (renaming as_entry)) (projected (caller_columns rows) rows))

-- the atoms without an exit value, and the others
abbrev pub start_of : List Atom → List Atom
start_of rows = filter (λ a. not (names_exit a)) rows

abbrev pub end_of : List Atom → List Atom
end_of rows = filter names_exit rows

-- the query of the rows
abbrev pub query_of : (proc : ℕ) → ExitKind → List Atom → Query
query_of proc exit rows = record {
  proc = proc;
  exit = exit;
  start = record { atoms = start_of rows };
  end = record { atoms = end_of rows };
}

-- the arguments and the results are slots, and the cubes name slots and entry values
pub record FitsCall (site : CallSite) (source target : List Atom) : Type 0 where
  pub are_slots : (j a : ℕ) → slice_get site.arguments j ≡ Some a → a < first_entry
  pub results_low : (j a : ℕ) → slice_get site.results j ≡ Some a → a < first_entry
  pub few : length site.arguments < first_entry + 1
  pub few_results : length site.results < first_entry + 1
  pub source_names : IsTrue (rows_name_only inner_column source)
  pub target_names : IsTrue (rows_name_only inner_column target)

-- every call from the source into the target meets the rows
abbrev pub HoldsCalls : ExitKind → CallSite → (source target rows : List Atom) →
    Type 0
HoldsCalls exit site source target rows =
    (s : State) (entry values : List ℤ) → AreValues s → AreAllValues entry → AreAllValues values →
    HoldsAll (columns_of s entry []) source → LiesBehind exit site.results s entry values target →
    HoldsAll (valuation_of (map s site.arguments) values) rows

-- entry and exit values are those of a call from the source into the target
pub record IsCalled (exit : ExitKind) (site : CallSite) (source target : List Atom)
    (called values : List ℤ) : Type 0 where
  pub state : State
  pub entry : List ℤ
  pub are_values : AreValues state
  pub entry_values : AreAllValues entry
  pub passes : map state site.arguments ≡ called
  pub from : HoldsAll (columns_of state entry []) source
  pub into : LiesBehind exit site.results state entry values target

-- all values that meet the rows are those of such a call
abbrev pub HoldsNoOtherCall : ExitKind → CallSite →
    (source target rows : List Atom) →
    Type 0
HoldsNoOtherCall exit site source target rows =
    (called values : List ℤ) → AreAllValues called → AreAllValues values → length called
    ≡ length site.arguments → HoldsAll (valuation_of called values) rows → IsCalled exit site source
    target called values

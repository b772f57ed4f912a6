-- The preimage of a target over a call by a must.
use Rattle.std.specs.Prelude.{◌≡◌, ℕ, zero, suc, nat_le, nat_lt, ◌^◌, Bool, true, false, not, ◌&&◌, IsTrue, List, [], ◌∷◌, ◌++◌, map, Option, None, Some, ℤ, pos, if◌then◌else◌, ◌<◌, length, slice_get}
use Rattle.std.specs.List.{filter}
use Rattle.c_tree.specs.Meaning.{State}
use Rattle.linear_formula.specs.LinearSum.{LinearSum, Valuation, Is64, is_zero}
use Rattle.linear_formula.specs.Results.{renamed_column}
use Rattle.linear_formula.specs.Formula.{HoldsAll, is_renamed}
use Rattle.linear_formula.specs.Replaced.{column_sum}
use Rattle.linear_formula.specs.declared.formula.Atom.{Atom}
use Rattle.linear_formula.specs.declared.formula.Cube.{Cube}
use Rattle.infeasible_cert.specs.Right.{columns_of as named_columns, rows_of}
use Rattle.flow_graph.specs.Calls.{CallSite}
use Rattle.flow_graph.specs.Columns.{first_symbol, first_entry, columns_of, rows_name_only, AreValues, AreAllValues}
use Rattle.flow_graph.specs.Readings.{results_reading}
use Rattle.summary_form.specs.declared.path.Path.{Path}
use Rattle.summary_form.specs.declared.query.ExitKind.{ExitKind}
use Rattle.summary_form.specs.declared.query.ExitKind.TheVariants as kind
use Rattle.summary_form.specs.Musts.{values_of}
use Rattle.summary_form.specs.Symbols.{all_name_only}
use Rattle.shadow_elim.specs.declared.sum.Sum.{Sum}
use Rattle.shadow_elim.specs.Sums.{first_wide, row_sums, rows_of_sums, renaming, equal_sums}
use Rattle.shadow_elim.specs.Projection.{Projected, summed, projected}
use Rattle.call_bridge.specs.Calls.{LiesBehind, inner_column}

abbrev pub is_one : ℤ → Bool
is_one (pos (suc zero)) = true
is_one _ = false

abbrev pub single_of : List (ℕ × ℤ) → ℤ → Option ℕ
single_of [] c = None
single_of (p ∷ []) c = if is_one p.1 && is_zero c then Some p.0 else None
single_of (p ∷ q ∷ ps) c = None

-- the column alone
abbrev pub single : LinearSum → Option ℕ
single t = single_of t.parts t.constant

abbrev pub is_new : List (ℕ × ℕ) → Option ℕ → Bool
is_new done None = false
is_new done (Some y) = not (is_renamed y done)

abbrev pub with_symbol : List (ℕ × ℕ) → Option ℕ → ℕ → List (ℕ × ℕ)
with_symbol done None x = done
with_symbol done (Some y) x = if is_renamed y done then done else (done ++ (y, x) ∷ [])

-- symbols that are entry terms, by their arguments' slots
abbrev pub replacing : List (ℕ × ℕ) → List ℕ → List LinearSum → List (ℕ × ℕ)
replacing done [] terms = done
replacing done (x ∷ args) [] = done
replacing done (x ∷ args) (t ∷ terms) = replacing (with_symbol done (single t) x) args terms

-- the rows of the other arguments
abbrev pub other_sums : List (ℕ × ℕ) → List ℕ → List LinearSum → List Sum
other_sums done [] terms = []
other_sums done (x ∷ args) [] = []
other_sums done (x ∷ args) (t ∷ terms) =
    (if is_new done (single t) then [] else equal_sums (column_sum x) t)
    ++ other_sums (with_symbol done (single t) x) args terms

-- at the next node the call's slots are the outcome terms
abbrev pub exit_reading : ExitKind → (results : List ℕ) → List LinearSum → ℕ → LinearSum
exit_reading kind.Return results outcome = results_reading results outcome
exit_reading (kind.Fail id) results outcome = column_sum

abbrev pub must_sums : Path → CallSite → List Atom → List Sum
must_sums must site target = other_sums [] site.arguments must.entry
    ++ row_sums (exit_reading must.exit site.results must.outcome) target

-- the rows before symbols are replaced
abbrev pub plain_rows : Path → CallSite → List Atom → List Atom
plain_rows must site target = must.guard.atoms ++ rows_of_sums
    (must_sums must site target)

abbrev pub slot_sums : Path → List ℕ → List Atom → List Sum
slot_sums must args rows = row_sums (renaming (renamed_column (replacing [] args must.entry))) rows

abbrev pub must_rows : Path → CallSite → List Atom → List Atom
must_rows must site target = rows_of_sums
    (slot_sums must site.arguments (plain_rows must site target))

abbrev pub symbol_columns : List Atom → List ℕ
symbol_columns rows = filter (λ x. nat_le first_symbol x) (named_columns (rows_of rows))

-- the rows by slots, without the symbols that are left
abbrev pub slotted : List (ℕ × ℕ) → List Atom → Projected
slotted columns plain = summed (row_sums (renaming (renamed_column columns)) plain)
    (λ rows. projected (symbol_columns rows) rows)

-- the rows with the first inexact pair
abbrev pub must_preimage : Path → CallSite → List Atom → Projected
must_preimage must site target =
    summed (must_sums must site target) (λ others. slotted (replacing [] site.arguments must.entry)
    (must.guard.atoms ++ others))

-- these are the must's rows by slots, and no sum of theirs is too wide
pub record AreMustRows (must : Path) (site : CallSite) (target : List Atom) (rows : Cube) : Type
    0 where
  pub sums : first_wide (must_sums must site target) ≡ None
  pub slots : first_wide (slot_sums must site.arguments (plain_rows must site target)) ≡ None
  pub same : rows.atoms ≡ must_rows must site target

-- some run that the must gives leads from the state into the target
pub record Leads (must : Path) (site : CallSite) (target : List Atom) (s : State)
    (entry : List ℤ) : Type 0 where
  pub symbols : Valuation
  pub bits : Is64 symbols
  pub guard : HoldsAll symbols must.guard.atoms
  pub passes : values_of symbols must.entry ≡ map s site.arguments
  pub into : LiesBehind must.exit site.results s entry (values_of symbols must.outcome) target

-- a number of 32 bits
abbrev pub is_number : ℕ → Bool
is_number x = nat_lt x (2 ^ 32)

-- the columns that the must names are numbers of 32 bits, as those of terms are
pub record NamesNumbers (must : Path) : Type 0 where
  pub guard : IsTrue (rows_name_only is_number must.guard.atoms)
  pub entry : IsTrue (all_name_only is_number must.entry)
  pub outcome : IsTrue (all_name_only is_number must.outcome)

-- the arguments and the results are slots, there is an entry term for each argument, and the target
-- names slots and entry values
pub record FitsTarget (must : Path) (site : CallSite) (target : List Atom) : Type 0 where
  pub are_slots : (j a : ℕ) → slice_get site.arguments j ≡ Some a → a < first_entry
  pub results_low : (j a : ℕ) → slice_get site.results j ≡ Some a → a < first_entry
  pub many : length must.entry ≡ length site.arguments
  pub names : IsTrue (rows_name_only inner_column target)

-- and the must names columns that terms can name
pub record FitsMust (must : Path) (site : CallSite) (target : List Atom) : Type 0 where
  pub behind : FitsTarget must site target
  pub numbers : NamesNumbers must

abbrev pub HoldsMust : Path → CallSite → (target rows : List Atom) → Type 0
HoldsMust must site target rows =
    (s : State) (entry : List ℤ) → AreValues s → AreAllValues entry → Leads must site target
    s
    entry → HoldsAll (columns_of s entry []) rows

abbrev pub HoldsNoOtherMust : Path → CallSite → (target rows : List Atom) → Type 0
HoldsNoOtherMust must site target rows =
    (s : State) (entry : List ℤ) → AreValues s → AreAllValues entry →
    HoldsAll (columns_of s entry []) rows → Leads must site target s entry

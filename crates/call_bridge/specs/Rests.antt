-- The rest of an atom over a call: what the call may do into a target without meeting the atom.
use Rattle.std.specs.Prelude.{◌≡◌, ℕ, ◌+◌, ◌<◌, nat_le, IsTrue, List, [], ◌∷◌, ◌++◌, length, map, ℤ, pos, negsuc, Some, slice_get}
use Rattle.std.specs.List.{filter}
use Rattle.c_tree.specs.Meaning.{State}
use Rattle.linear_formula.specs.Results.{renamed_column}
use Rattle.linear_formula.specs.Formula.{HoldsAll}
use Rattle.linear_formula.specs.declared.formula.Atom.{Atom}
use Rattle.infeasible_cert.specs.Right.{columns_of as named_columns, rows_of}
use Rattle.flow_graph.specs.Calls.{CallSite}
use Rattle.flow_graph.specs.Columns.{first_exit, first_entry, columns_of, valuation_of, rows_name_only, is_value_column, AreValues, AreAllValues}
use Rattle.shadow_elim.specs.declared.sum.Sum.{Sum}
use Rattle.shadow_elim.specs.Sums.{row_sums, renaming}
use Rattle.shadow_elim.specs.Projection.{Projected, summed, projected}
use Rattle.summary_form.specs.declared.query.ExitKind.{ExitKind}
use Rattle.call_bridge.specs.Asked.{exit_column}
use Rattle.call_bridge.specs.Calls.{LiesBehind, inner_column}

-- the slot of each argument by its entry value
abbrev pub entry_columns : (i : ℕ) → List ℕ → List (ℕ × ℕ)
entry_columns i [] = []
entry_columns i (x ∷ args) = (first_entry + i, x) ∷ entry_columns (i + 1) args

-- the negation of t ≤ 0 is 1 - t ≤ 0
abbrev pub negation : Atom → Sum
negation atom = record { summands = (negsuc 0, atom.term) ∷ []; constant = pos 1 }

-- the target with exit values for the results' slots, and then the atom's negation with arguments'
-- slots for the entry values: those of the target are the caller's own
abbrev pub rest_sums : ExitKind → CallSite → (target negated : List Atom) → List Sum
rest_sums exit site target negated =
    row_sums (renaming (exit_column exit site.results)) target
    ++ row_sums (renaming (renamed_column (entry_columns 0 site.arguments))) negated

-- the exit values that the rows name
abbrev pub exit_values : List Atom → List ℕ
exit_values rows = filter (λ x. nat_le first_exit x) (named_columns (rows_of rows))

-- the rows without exit values, with the first inexact pair
abbrev pub rest : ExitKind → CallSite → (target : List Atom) → Atom → Projected
rest exit site target atom =
    summed (negation atom ∷ []) (λ negated. summed (rest_sums exit site target negated)
    (λ rows. projected (exit_values rows) rows))

-- the arguments and the results are slots, the target names slots and entry values, and the atom
-- the entry values and exit values of the called procedure
pub record FitsRest (site : CallSite) (target : List Atom) (atom : Atom) : Type 0 where
  pub are_slots : (j a : ℕ) → slice_get site.arguments j ≡ Some a → a < first_entry
  pub results_low : (j a : ℕ) → slice_get site.results j ≡ Some a → a < first_entry
  pub few : length site.arguments < first_entry + 1
  pub few_results : length site.results < first_entry + 1
  pub target_names : IsTrue (rows_name_only inner_column target)
  pub atom_names : IsTrue (rows_name_only
      (is_value_column (length site.arguments) (length site.results)) (atom ∷ []))

-- every state from which the call leads into the target by a run that doesn't meet the atom meets
-- the rows
abbrev pub HoldsRest : ExitKind → CallSite → (target : List Atom) → Atom → (rows : List Atom) →
    Type 0
HoldsRest exit site target atom rows =
    (s : State) (entry values : List ℤ) → AreValues s → AreAllValues entry → AreAllValues values →
    LiesBehind exit site.results s entry values target →
    ¬ HoldsAll (valuation_of (map s site.arguments) values) (atom ∷ []) →
    HoldsAll (columns_of s entry []) rows

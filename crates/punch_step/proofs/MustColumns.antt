-- The columns that a preimage over a must names: where slots are allowed, and what the must and the target name, no others.
use Rattle.std.proofs.Common.{◌≡◌, ℕ, suc, ◌<◌, ◌^◌, Bool, true, false, ◌==◌, nat_le, Option, List, [], ◌∷◌, ◌++◌, drop, None, Some, refl, arith}
use Rattle.std.specs.Prelude.{IsTrue, slice_get, if◌then◌else◌}
use borrow.Author.Tests.{lt-ltb}
use Rattle.linear_formula.specs.LinearSum.{LinearSum}
use Rattle.linear_formula.specs.Formula.{is_renamed}
use Rattle.linear_formula.specs.Replaced.{column_sum}
use Rattle.linear_formula.specs.Results.{renamed_column}
use Rattle.linear_formula.specs.declared.formula.Atom.{Atom}
use Rattle.linear_formula.proofs.Limits.{both}
use Rattle.shadow_elim.specs.Projection.{gives, projected, summed}
use Rattle.shadow_elim.specs.ProjectionLaws.{FitsProjection, Pair}
use Rattle.shadow_elim.specs.Sums.{equal_sums, first_wide, renaming, row_sums, rows_of_sums}
use Rattle.flow_graph.specs.Calls.{CallSite}
use Rattle.flow_graph.specs.Readings.{term_at, results_reading}
use Rattle.shadow_elim.proofs.Projecting.{unless-none}
use Rattle.flow_graph.specs.Columns.{first_entry, first_symbol, names_only, rows_name_only}
use Rattle.summary_form.specs.Symbols.{all_name_only}
use Rattle.summary_form.specs.declared.path.Path.{Path}
use Rattle.summary_form.specs.declared.query.ExitKind.{ExitKind}
use Rattle.summary_form.specs.declared.query.ExitKind.TheVariants as kind
use Rattle.call_bridge.specs.Calls.{inner_column}
use Rattle.call_bridge.specs.Musts.{FitsMust, exit_reading, is_new, is_number, must_preimage, must_rows, must_sums, other_sums, plain_rows, replacing, single, slot_sums, symbol_columns, with_symbol}
use Rattle.call_bridge.proofs.Leaving.{kind_fits}
use Rattle.call_bridge.proofs.Naming.{column_named, equal_named, row_sums_named, rows_named, rows_named_append, rows_wider, sums_are_terms, sums_name_only, sums_named_append}
use Rattle.call_bridge.proofs.Queries.{inner_low}

-- The columns that are allowed
module _ (allowed : ℕ → Bool) (slots : (x : ℕ) → x < first_entry → IsTrue (allowed x)) where
  others_named : (done : List (ℕ × ℕ)) (args : List ℕ) (terms : List LinearSum) →
      ((j a : ℕ) → slice_get args j ≡ Some a → a < first_entry) →
      IsTrue (all_name_only allowed terms) → IsTrue (sums_name_only allowed (other_sums done args terms))
  others_named done [] terms k n = refl
  others_named done (x ∷ args) [] k n = refl
  others_named done (x ∷ args) (t ∷ terms) k n =
      let r = both (names_only allowed t) (all_name_only allowed terms) n in
      sums_named_append allowed (if is_new done (single t) then [] else equal_sums (column_sum x) t)
      (other_sums (with_symbol done (single t) x) args terms) (by_test r.0 (is_new done (single t)))
      (others_named (with_symbol done (single t) x) args terms (λ j a e. k (suc j) a e) r.1)
    where
      by_test : IsTrue (names_only allowed t) → (b : Bool) →
          IsTrue (sums_name_only allowed (if b then [] else equal_sums (column_sum x) t))
      by_test m true = refl
      by_test m false = equal_named allowed (column_sum x) t (column_named allowed x (slots x (k 0 x refl))) m

  first_named : (ts : List LinearSum) → IsTrue (all_name_only allowed ts) → IsTrue (names_only allowed (term_at ts 0))
  first_named [] h = refl
  first_named (t ∷ ts) h = (both (names_only allowed t) (all_name_only allowed ts) h).0

  others_named_too : (ts : List LinearSum) → IsTrue (all_name_only allowed ts) → IsTrue (all_name_only allowed (drop 1 ts))
  others_named_too [] h = h
  others_named_too (t ∷ ts) h = (both (names_only allowed t) (all_name_only allowed ts) h).1

  results_named : (results : List ℕ) (outcome : List LinearSum) → IsTrue (all_name_only allowed outcome) →
      (x : ℕ) → IsTrue (allowed x) → IsTrue (names_only allowed (results_reading results outcome x))
  results_named [] outcome n x h = column_named allowed x h
  results_named (y ∷ ys) outcome n x h = by_test (x == y) (results_named ys (drop 1 outcome) (others_named_too outcome n) x h) where
    by_test : (b : Bool) → IsTrue (names_only allowed (results_reading ys (drop 1 outcome) x)) →
        IsTrue (names_only allowed (if b then term_at outcome 0 else results_reading ys (drop 1 outcome) x))
    by_test true k = first_named outcome n
    by_test false k = k

  behind_named : (exit : ExitKind) (results : List ℕ) (outcome : List LinearSum) → IsTrue (all_name_only allowed outcome) →
      (x : ℕ) → IsTrue (allowed x) → IsTrue (names_only allowed (exit_reading exit results outcome x))
  behind_named kind.Return results outcome n x h = results_named results outcome n x h
  behind_named (kind.Fail id) results outcome n x h = column_named allowed x h

  -- symbols by slots
  appended_named : (done : List (ℕ × ℕ)) (z x : ℕ) → x < first_entry → (y : ℕ) → IsTrue (allowed y) →
      IsTrue (allowed (renamed_column done y)) → IsTrue (allowed (renamed_column (done ++ (z, x) ∷ []) y))
  appended_named [] z x l y n h = by_test (y == z) where
    by_test : (b : Bool) → IsTrue (allowed (if b then x else y))
    by_test true = slots x l
    by_test false = n
  appended_named (p ∷ done) z x l y n h = by_test (y == p.0) h (λ k. appended_named done z x l y n k) where
    by_test : (b : Bool) → IsTrue (allowed (if b then p.1 else renamed_column done y)) →
        (IsTrue (allowed (renamed_column done y)) → IsTrue (allowed (renamed_column (done ++ (z, x) ∷ []) y))) →
        IsTrue (allowed (if b then p.1 else renamed_column (done ++ (z, x) ∷ []) y))
    by_test true k rest = k
    by_test false k rest = rest k

  with_named : (done : List (ℕ × ℕ)) (o : Option ℕ) (x : ℕ) → x < first_entry → (y : ℕ) → IsTrue (allowed y) →
      IsTrue (allowed (renamed_column done y)) → IsTrue (allowed (renamed_column (with_symbol done o x) y))
  with_named done None x l y n h = h
  with_named done (Some z) x l y n h = by_test (is_renamed z done) where
    by_test : (b : Bool) → IsTrue (allowed (renamed_column (if b then done else (done ++ (z, x) ∷ [])) y))
    by_test true = h
    by_test false = appended_named done z x l y n h

  renamed_named : (done : List (ℕ × ℕ)) (args : List ℕ) (terms : List LinearSum) →
      ((j a : ℕ) → slice_get args j ≡ Some a → a < first_entry) →
      (y : ℕ) → IsTrue (allowed y) → IsTrue (allowed (renamed_column done y)) →
      IsTrue (allowed (renamed_column (replacing done args terms) y))
  renamed_named done [] terms k y n h = h
  renamed_named done (x ∷ args) [] k y n h = h
  renamed_named done (x ∷ args) (t ∷ terms) k y n h = renamed_named (with_symbol done (single t) x) args terms (λ j a e. k (suc j) a e) y n
      (with_named done (single t) x (k 0 x refl) y n h)

  -- A must and a target
  module _ (must : Path) (site : CallSite) (target : List Atom) (low : (j a : ℕ) → slice_get site.arguments j ≡ Some a →
      a < first_entry)
      (guard : IsTrue (rows_name_only allowed must.guard.atoms)) (entry : IsTrue (all_name_only allowed must.entry))
      (outcome : IsTrue (all_name_only allowed must.outcome)) (names : IsTrue (rows_name_only allowed target)) where
    plain_named : IsTrue (rows_name_only allowed (plain_rows must site target))
    plain_named =
        rows_named_append allowed must.guard.atoms (rows_of_sums (must_sums must site target)) guard
        (rows_named allowed (must_sums must site target)
        (sums_named_append allowed (other_sums [] site.arguments must.entry) (row_sums (exit_reading must.exit site.results must.outcome)
        target)
        (others_named [] site.arguments must.entry low entry)
        (row_sums_named allowed allowed (exit_reading must.exit site.results must.outcome) (behind_named must.exit site.results must.outcome
        outcome)
        target
        names)))

    pub slots_named : IsTrue (sums_name_only allowed (slot_sums must site.arguments (plain_rows must site target)))
    slots_named =
        row_sums_named allowed allowed (renaming (renamed_column (replacing [] site.arguments must.entry)))
        (λ x h. column_named allowed (renamed_column (replacing [] site.arguments must.entry) x)
        (renamed_named [] site.arguments must.entry low x h h))
        (plain_rows must site target) plain_named

    pub all_named : IsTrue (rows_name_only allowed (must_rows must site target))
    all_named = rows_named allowed (slot_sums must site.arguments (plain_rows must site target)) slots_named

-- The projection of the symbols that are left

pub record IsMustAnswer (must : Path) (site : CallSite) (target rows : List Atom) (pair : Pair) : Type 0 where
  pub fits : FitsProjection (symbol_columns (must_rows must site target)) (must_rows must site target)
  pub was : projected (symbol_columns (must_rows must site target)) (must_rows must site target) ≡ gives rows pair

pub must_answer : (must : Path) (site : CallSite) (target : List Atom) → FitsMust must site target →
    (rows : List Atom)
    (pair : Pair) → must_preimage must site target ≡ gives rows pair → IsMustAnswer must site target rows pair
must_answer must site target f rows pair e =
    let plain : List Atom = plain_rows must site target in
    let all : List Atom = must_rows must site target in
    let a = unless-none (first_wide (must_sums must site target))
    (summed (slot_sums must site.arguments plain) (λ rs. projected (symbol_columns rs) rs)) rows pair e in
    let b = unless-none (first_wide (slot_sums must site.arguments plain)) (projected (symbol_columns all) all) rows pair a.1 in
    let numbered = slots_named is_number (λ x l. lt-ltb x (2 ^ 32) (omega (arith, l))) must site target f.behind.are_slots
    f.numbers.guard f.numbers.entry f.numbers.outcome
    (rows_wider inner_column is_number (λ x h. let l = inner_low x h in lt-ltb x (2 ^ 32) (omega (arith, l))) target f.behind.names) in
    record {
      fits = kind_fits (λ x. nat_le first_symbol x) all (sums_are_terms (slot_sums must site.arguments plain) numbered b.0);
      was = b.1;
    }

-- The columns that a must's preimage names: those that its target and its arguments do, whichever they are.
use Rattle.std.proofs.Common.{◌≡◌, ◌⊎◌, inl, inr, ⊎_elim, ℕ, suc, ◌+◌, ◌≤◌, ◌^◌, List, [], ◌∷◌, ◌++◌, drop, Option, None, Some, Bool, true, false, not, ◌||◌, ◌&&◌, ◌==◌, nat_lt, nat_le, ℤ, arith, refl, sym, subst}
use Rattle.std.specs.Prelude.{slice_get, IsTrue, if◌then◌else◌}
use Rattle.std.specs.List.{list_all}
use borrow.Author.Tests.{lt-ltb, leb-true, leb-false}
use Rattle.linear_formula.specs.LinearSum.{LinearSum}
use Rattle.linear_formula.specs.Results.{renamed_column}
use Rattle.linear_formula.specs.Replaced.{column_sum}
use Rattle.linear_formula.specs.Formula.{are_terms, is_renamed}
use Rattle.linear_formula.specs.declared.formula.Atom.{Atom}
use Rattle.linear_formula.proofs.Limits.{both, both_in}
use Rattle.shadow_elim.specs.Sums.{first_wide, row_sums, rows_of_sums, renaming, equal_sums}
use Rattle.shadow_elim.specs.Projection.{gives, projected, summed}
use Rattle.shadow_elim.specs.ProjectionLaws.{FitsProjection, Pair}
use Rattle.shadow_elim.proofs.Projecting.{unless-none, or-cases}
use Rattle.flow_graph.specs.Calls.{CallSite}
use Rattle.flow_graph.specs.Columns.{first_symbol, names_only, rows_name_only}
use Rattle.flow_graph.specs.Readings.{term_at, results_reading}
use Rattle.summary_form.specs.declared.path.Path.{Path}
use Rattle.summary_form.specs.declared.query.ExitKind.{ExitKind}
use Rattle.summary_form.specs.declared.query.ExitKind.TheVariants as kind
use Rattle.summary_form.specs.Symbols.{all_name_only, is_symbol_column}
use Rattle.call_bridge.specs.Calls.{inner_column}
use Rattle.call_bridge.specs.Musts.{is_number, single, is_new, with_symbol, replacing, other_sums, exit_reading, must_sums, plain_rows, slot_sums, must_rows, symbol_columns, must_preimage, NamesNumbers}
use Rattle.call_bridge.proofs.Leaving.{kind_fits, left_names}
use Rattle.call_bridge.proofs.Naming.{sums_name_only, rows_named, rows_named_append, sums_are_terms, sums_named_append, row_sums_named, column_named, equal_named, rows_wider, sums_wider}
use Rattle.call_bridge.proofs.Queries.{either_in, inner_low}

-- symbols stand above the columns of a caller
pub symbol_high : (symbols x : ℕ) → IsTrue (is_symbol_column symbols x) → first_symbol ≤ x
symbol_high symbols x h = leb-true first_symbol x (both (nat_le first_symbol x) (nat_lt x (first_symbol + symbols)) h).0

-- What the answer says

pub record IsPreimageAnswer (must : Path) (site : CallSite) (target rows : List Atom) (pair : Pair) : Type 0 where
  pub decided : first_wide (slot_sums must site.arguments (plain_rows must site target)) ≡ None
  pub was : projected (symbol_columns (must_rows must site target)) (must_rows must site target) ≡ gives rows pair

pub must_answer : (must : Path) (site : CallSite) (target rows : List Atom) (pair : Pair) → must_preimage must site
    target
    ≡ gives rows pair → IsPreimageAnswer must site target rows pair
must_answer must site target rows pair e =
    let plain : List Atom = plain_rows must site target in
    let all : List Atom = must_rows must site target in
    let a = unless-none (first_wide (must_sums must site target))
    (summed (slot_sums must site.arguments plain) (λ rs. projected (symbol_columns rs) rs))
    rows pair e in
    let b = unless-none (first_wide (slot_sums must site.arguments plain)) (projected (symbol_columns all) all) rows pair a.1 in
    record { decided = b.0; was = b.1 }

-- Columns of one kind, all of them slots or entry values

-- the arguments and the target name columns of this kind alone, and the must names columns that terms can name
pub record MustNames (allowed : ℕ → Bool) (must : Path) (args : List ℕ) (target : List Atom) : Type 0 where
  pub args_allowed : (j a : ℕ) → slice_get args j ≡ Some a → IsTrue (allowed a)
  pub target_allowed : IsTrue (rows_name_only allowed target)
  pub numbers : NamesNumbers must

module _ (allowed : ℕ → Bool) (inner : (x : ℕ) → IsTrue (allowed x) → IsTrue (inner_column x)) where
  abbrev NamesAllowed : Path → List ℕ → List Atom → Type 0
  NamesAllowed must args target = MustNames allowed must args target

  -- columns of the kind, and the must's symbols
  abbrev pub is_must_column : Path → ℕ → Bool
  is_must_column must x = allowed x || (is_symbol_column must.symbols x && is_number x)

  allowed_must : (must : Path) (x : ℕ) → IsTrue (allowed x) → IsTrue (is_must_column must x)
  allowed_must must x h = either_in (allowed x) (is_symbol_column must.symbols x && is_number x) (inl h)

  allowed_left : (must : Path) (x : ℕ) → IsTrue (is_must_column must x && not (nat_le first_symbol x)) → IsTrue (allowed x)
  allowed_left must x h =
      let r = both (is_must_column must x) (not (nat_le first_symbol x)) h in
      ⊎_elim (λ k. k) (λ k. absurd (gone (both (is_symbol_column must.symbols x) (is_number x) k).0 (nat_le first_symbol x) refl r.1))
      (or-cases (allowed x) (is_symbol_column must.symbols x && is_number x) r.0) where
        gone : IsTrue (is_symbol_column must.symbols x) → (b : Bool) → nat_le first_symbol x ≡ b → IsTrue (not b) → ⊥
        gone k true e n = cc
        gone k false e n = let l = symbol_high must.symbols x k in omega (arith, l, leb-false first_symbol x e)

  must_number : (must : Path) (x : ℕ) → IsTrue (is_must_column must x) → IsTrue (is_number x)
  must_number must x h =
      ⊎_elim (λ k. let l = inner_low x (inner x k) in lt-ltb x (2 ^ 32) (omega (arith, l)))
      (λ k. (both (is_symbol_column must.symbols x) (is_number x) k).1)
      (or-cases (allowed x) (is_symbol_column must.symbols x && is_number x) h)

  both_parts : (must : Path) (ps : List (ℕ × ℤ)) → IsTrue (list_all (λ p. is_symbol_column must.symbols p.0) ps) →
      IsTrue (list_all (λ p. is_number p.0) ps) → IsTrue (list_all (λ p. is_must_column must p.0) ps)
  both_parts must [] h k = refl
  both_parts must (p ∷ ps) h k =
      let r = both (is_symbol_column must.symbols p.0) (list_all (λ q. is_symbol_column must.symbols q.0) ps) h in
      let u = both (is_number p.0) (list_all (λ q. is_number q.0) ps) k in
      both_in (is_must_column must p.0) (list_all (λ q. is_must_column must q.0) ps)
      (either_in (allowed p.0) (is_symbol_column must.symbols p.0 && is_number p.0)
      (inr (both_in (is_symbol_column must.symbols p.0) (is_number p.0) r.0 u.0))) (both_parts must ps r.1 u.1)

  both_rows : (must : Path) (atoms : List Atom) → IsTrue (rows_name_only (is_symbol_column must.symbols) atoms) →
      IsTrue (rows_name_only is_number atoms) → IsTrue (rows_name_only (is_must_column must) atoms)
  both_rows must [] h k = refl
  both_rows must (a ∷ atoms) h k =
      let r = both (names_only (is_symbol_column must.symbols) a.term) (rows_name_only (is_symbol_column must.symbols) atoms) h in
      let u = both (names_only is_number a.term) (rows_name_only is_number atoms) k in
      both_in (names_only (is_must_column must) a.term) (rows_name_only (is_must_column must) atoms) (both_parts must a.term.parts r.0 u.0)
      (both_rows must atoms r.1 u.1)

  both_terms : (must : Path) (ts : List LinearSum) → IsTrue (all_name_only (is_symbol_column must.symbols) ts) →
      IsTrue (all_name_only is_number ts) → IsTrue (all_name_only (is_must_column must) ts)
  both_terms must [] h k = refl
  both_terms must (t ∷ ts) h k =
      let r = both (names_only (is_symbol_column must.symbols) t) (all_name_only (is_symbol_column must.symbols) ts) h in
      let u = both (names_only is_number t) (all_name_only is_number ts) k in
      both_in (names_only (is_must_column must) t) (all_name_only (is_must_column must) ts) (both_parts must t.parts r.0 u.0)
      (both_terms must ts r.1 u.1)

  others_named : (must : Path) (done : List (ℕ × ℕ)) (args : List ℕ) (terms : List LinearSum) →
      ((j a : ℕ) → slice_get args j ≡ Some a → IsTrue (allowed a)) → IsTrue (all_name_only (is_must_column must) terms) →
      IsTrue (sums_name_only (is_must_column must) (other_sums done args terms))
  others_named must done [] terms k n = refl
  others_named must done (x ∷ args) [] k n = refl
  others_named must done (x ∷ args) (t ∷ terms) k n =
      let r = both (names_only (is_must_column must) t) (all_name_only (is_must_column must) terms) n in
      sums_named_append (is_must_column must) (if is_new done (single t) then [] else equal_sums (column_sum x) t)
      (other_sums (with_symbol done (single t) x) args terms) (by_test r.0 (is_new done (single t)))
      (others_named must (with_symbol done (single t) x) args terms (λ j a e. k (suc j) a e) r.1)
    where
      by_test : IsTrue (names_only (is_must_column must) t) → (b : Bool) →
          IsTrue (sums_name_only (is_must_column must) (if b then [] else equal_sums (column_sum x) t))
      by_test m true = refl
      by_test m false = equal_named (is_must_column must) (column_sum x) t
          (column_named (is_must_column must) x (allowed_must must x (k 0 x refl)))
          m

  outcome_named : (must : Path) (ts : List LinearSum) → IsTrue (all_name_only (is_must_column must) ts) →
      IsTrue (names_only (is_must_column must) (term_at ts 0))
  outcome_named must [] h = refl
  outcome_named must (t ∷ ts) h = (both (names_only (is_must_column must) t) (all_name_only (is_must_column must) ts) h).0

  outcomes_behind : (must : Path) (ts : List LinearSum) → IsTrue (all_name_only (is_must_column must) ts) →
      IsTrue (all_name_only (is_must_column must) (drop 1 ts))
  outcomes_behind must [] h = h
  outcomes_behind must (t ∷ ts) h = (both (names_only (is_must_column must) t) (all_name_only (is_must_column must) ts) h).1

  results_named : (must : Path) (results : List ℕ) (outcome : List LinearSum) → IsTrue (all_name_only (is_must_column must) outcome) →
      (x : ℕ) → IsTrue (allowed x) → IsTrue (names_only (is_must_column must) (results_reading results outcome x))
  results_named must [] outcome n x h = column_named (is_must_column must) x (allowed_must must x h)
  results_named must (y ∷ ys) outcome n x h = by_test (x == y) (results_named must ys (drop 1 outcome) (outcomes_behind must outcome n) x h)
    where
      by_test : (b : Bool) → IsTrue (names_only (is_must_column must) (results_reading ys (drop 1 outcome) x)) →
          IsTrue (names_only (is_must_column must) (if b then term_at outcome 0 else results_reading ys (drop 1 outcome) x))
      by_test true rest = outcome_named must outcome n
      by_test false rest = rest

  behind_named : (must : Path) (exit : ExitKind) (results : List ℕ) (outcome : List LinearSum) →
      IsTrue (all_name_only (is_must_column must) outcome) →
      (x : ℕ) → IsTrue (allowed x) → IsTrue (names_only (is_must_column must) (exit_reading exit results outcome x))
  behind_named must kind.Return results outcome n x h = results_named must results outcome n x h
  behind_named must (kind.Fail id) results outcome n x h = column_named (is_must_column must) x (allowed_must must x h)

  -- each symbol by an argument's column, or as it is
  abbrev StaysOrAllowed : List (ℕ × ℕ) → ℕ → Type 0
  StaysOrAllowed done y = (renamed_column done y ≡ y) ⊎ IsTrue (allowed (renamed_column done y))

  appended_columns : (done : List (ℕ × ℕ)) (z x : ℕ) → IsTrue (allowed x) → (y : ℕ) → StaysOrAllowed done y →
      StaysOrAllowed (done ++ (z, x) ∷ []) y
  appended_columns [] z x l y h = by_test (y == z) where
    by_test : (b : Bool) → ((if b then x else y) ≡ y) ⊎ IsTrue (allowed (if b then x else y))
    by_test true = inr l
    by_test false = inl refl
  appended_columns (p ∷ done) z x l y h = by_test (y == p.0) h (λ k. appended_columns done z x l y k) where
    by_test : (b : Bool) → ((if b then p.1 else renamed_column done y) ≡ y) ⊎ IsTrue (allowed (if b then p.1 else renamed_column done y)) →
        (StaysOrAllowed done y → StaysOrAllowed (done ++ (z, x) ∷ []) y) →
        ((if b then p.1 else renamed_column (done ++ (z, x) ∷ []) y) ≡ y)
        ⊎ IsTrue (allowed (if b then p.1 else renamed_column (done ++ (z, x) ∷ []) y))
    by_test true k rest = k
    by_test false k rest = rest k

  with_allowed : (done : List (ℕ × ℕ)) (o : Option ℕ) (x : ℕ) → IsTrue (allowed x) → ((y : ℕ) → StaysOrAllowed done y) → (y : ℕ) →
      StaysOrAllowed (with_symbol done o x) y
  with_allowed done None x l h y = h y
  with_allowed done (Some z) x l h y = by_test (is_renamed z done) where
    by_test : (b : Bool) → StaysOrAllowed (if b then done else (done ++ (z, x) ∷ [])) y
    by_test true = h y
    by_test false = appended_columns done z x l y (h y)

  replacing_allowed : (done : List (ℕ × ℕ)) (args : List ℕ) (terms : List LinearSum) →
      ((j a : ℕ) → slice_get args j ≡ Some a → IsTrue (allowed a)) → ((y : ℕ) → StaysOrAllowed done y) → (y : ℕ) →
      StaysOrAllowed (replacing done args terms) y
  replacing_allowed done [] terms k h y = h y
  replacing_allowed done (x ∷ args) [] k h y = h y
  replacing_allowed done (x ∷ args) (t ∷ terms) k h y = replacing_allowed (with_symbol done (single t) x) args terms
      (λ j a e. k (suc j) a e) (with_allowed done (single t) x (k 0 x refl) h) y

  renamed_must : (must : Path) (args : List ℕ) → ((j a : ℕ) → slice_get args j ≡ Some a → IsTrue (allowed a)) → (x : ℕ) →
      IsTrue (is_must_column must x) → IsTrue (is_must_column must (renamed_column (replacing [] args must.entry) x))
  renamed_must must args k x h =
      ⊎_elim (λ e. subst (λ y. IsTrue (is_must_column must y)) (sym e) h)
      (λ l. allowed_must must (renamed_column (replacing [] args must.entry) x) l)
      (replacing_allowed [] args must.entry k (λ y. inl refl) x)

  plain_named : (must : Path) (site : CallSite) (target : List Atom) → NamesAllowed must site.arguments target →
      IsTrue (rows_name_only (is_must_column must) (plain_rows must site target))
  plain_named must site target f =
      rows_named_append (is_must_column must) must.guard.atoms (rows_of_sums (must_sums must site target))
      (both_rows must must.guard.atoms must.well_formed.guard_names f.numbers.guard)
      (rows_named (is_must_column must) (must_sums must site target)
      (sums_named_append (is_must_column must) (other_sums [] site.arguments must.entry)
      (row_sums (exit_reading must.exit site.results must.outcome)
      target)
      (others_named must [] site.arguments must.entry f.args_allowed (both_terms must must.entry must.well_formed.entry_names
      f.numbers.entry))
      (row_sums_named (is_must_column must) allowed (exit_reading must.exit site.results must.outcome)
      (behind_named must must.exit site.results must.outcome (both_terms must must.outcome must.well_formed.outcome_names
      f.numbers.outcome))
      target
      f.target_allowed)))

  slot_sums_named : (must : Path) (site : CallSite) (target : List Atom) → NamesAllowed must site.arguments target →
      IsTrue (sums_name_only (is_must_column must) (slot_sums must site.arguments (plain_rows must site target)))
  slot_sums_named must site target f =
      row_sums_named (is_must_column must) (is_must_column must) (renaming (renamed_column (replacing [] site.arguments must.entry)))
      (λ x h. column_named (is_must_column must) (renamed_column (replacing [] site.arguments must.entry) x)
      (renamed_must must site.arguments f.args_allowed x h))
      (plain_rows must site target) (plain_named must site target f)

  must_rows_named : (must : Path) (site : CallSite) (target : List Atom) → NamesAllowed must site.arguments target →
      IsTrue (rows_name_only (is_must_column must) (must_rows must site target))
  must_rows_named must site target f = rows_named (is_must_column must) (slot_sums must site.arguments (plain_rows must site target))
      (slot_sums_named must site target f)

  pub must_rows_terms : (must : Path) (site : CallSite) (target : List Atom) → NamesAllowed must site.arguments target →
      first_wide (slot_sums must site.arguments (plain_rows must site target)) ≡ None →
      IsTrue (are_terms (must_rows must site target))
  must_rows_terms must site target f e =
      sums_are_terms (slot_sums must site.arguments (plain_rows must site target))
      (sums_wider (is_must_column must) is_number (must_number must)
      (slot_sums must site.arguments (plain_rows must site target)) (slot_sums_named must site target f)) e

  -- what is left of the rows
  fits_allowed : (must : Path) (site : CallSite) (target rows : List Atom) (pair : Pair) → NamesAllowed must site.arguments target →
      IsPreimageAnswer must site target rows pair →
      FitsProjection (symbol_columns (must_rows must site target)) (must_rows must site target)
  fits_allowed must site target rows pair f answer = kind_fits (λ x. nat_le first_symbol x) (must_rows must site target)
      (must_rows_terms must site target f answer.decided)

  -- the preimage names no other columns
  pub preimage_names : (must : Path) (site : CallSite) (target rows : List Atom) (pair : Pair) →
      NamesAllowed must site.arguments target → must_preimage must site target ≡ gives rows pair → IsTrue (rows_name_only allowed rows)
  preimage_names must site target rows pair f is =
      let answer = must_answer must site target rows pair is in
      rows_wider (λ x. is_must_column must x && not (nat_le first_symbol x)) allowed (allowed_left must) rows
      (left_names (λ x. nat_le first_symbol x) (is_must_column must) (must_rows must site target) rows pair
      (fits_allowed must site target rows pair f answer) answer.was (must_rows_named must site target f))

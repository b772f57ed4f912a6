-- The columns that the rows of a call name, and that the query fits the called procedure.
use Rattle.std.proofs.Common.{◌≡◌, ◌⊎◌, inl, inr, ⊎_elim, ℕ, suc, ◌+◌, ◌-◌, ◌<◌, ◌≤◌, ◌^◌, List, [], ◌∷◌, ◌++◌, length, None, Some, Bool, true, false, cond, not, ◌||◌, ◌&&◌, ◌==◌, nat_lt, nat_le, ℤ, arith, refl, sym, subst, ◌∙◌}
use Rattle.std.specs.Prelude.{◌↔◌, slice_get, IsTrue, if◌then◌else◌}
use Rattle.std.specs.List.{list_any, list_all, filter}
use borrow.Author.Tests.{lt-ltb, ltb-true, ltb-false, le-leb, leb-true, leb-false}
use Rattle.linear_formula.specs.LinearSum.{Valuation, is_term}
use Rattle.linear_formula.specs.Results.{renamed_column}
use Rattle.linear_formula.specs.Replaced.{column_sum}
use Rattle.linear_formula.specs.Formula.{HoldsAll, are_terms}
use Rattle.linear_formula.specs.declared.formula.Atom.{Atom}
use Rattle.linear_formula.proofs.Limits.{both, both_in}
use Rattle.shadow_elim.specs.declared.sum.Sum.{Sum}
use Rattle.shadow_elim.specs.Sums.{first_wide, row_sums, rows_of_sums, renaming, equal_sums}
use Rattle.shadow_elim.specs.Projection.{gives, projected, then_summed}
use Rattle.shadow_elim.specs.ProjectionLaws.{Pair}
use Rattle.shadow_elim.proofs.Projecting.{unless-none, then-made, or-cases}
use Rattle.flow_graph.specs.Calls.{CallSite}
use Rattle.flow_graph.specs.Columns.{first_entry, first_exit, is_among, is_slot_column, is_entry_column, names_only, rows_name_only}
use Rattle.summary_form.specs.declared.query.ExitKind.{ExitKind}
use Rattle.summary_form.specs.declared.query.ExitKind.TheVariants as kind
use Rattle.summary_form.specs.Runs.{Arity}
use Rattle.summary_form.specs.NotMays.{is_end_column, Fits}
use Rattle.call_bridge.specs.Calls.{inner_column}
use Rattle.call_bridge.specs.Asked.{argument_columns, result_columns, first_argument, as_entry, place_sums, exit_column, call_sums, call_rows, caller_columns, asked, names_exit, start_of, end_of, query_of, FitsCall}
use Rattle.call_bridge.specs.Musts.{is_number}
use Rattle.call_bridge.proofs.Agreeing.{holds_append, holds_split}
use Rattle.call_bridge.proofs.Leaving.{kind_fits, left_names}
use Rattle.call_bridge.proofs.Naming.{sums_name_only, sums_named_append, row_sums_named, column_named, equal_named, rows_named, sums_are_terms, sums_wider}

-- What the answer says

pub record IsAnswer (exit : ExitKind) (site : CallSite) (source target rows : List Atom) (pair : Pair) : Type 0 where
  pub decided : first_wide (call_sums exit site source target) ≡ None
  pub left : List Atom
  pub was : projected (caller_columns (call_rows exit site source target)) (call_rows exit site source target)
      ≡ gives left pair
  pub renamed : first_wide (row_sums (renaming as_entry) left) ≡ None
  pub made : rows ≡ rows_of_sums (row_sums (renaming as_entry) left)

pub answer_is : (exit : ExitKind) (site : CallSite) (source target rows : List Atom) (pair : Pair) →
    asked exit site source
    target ≡ gives rows pair → IsAnswer exit site source target rows pair
answer_is exit site source target rows pair e =
    let all : List Atom = call_rows exit site source target in
    let u = unless-none (first_wide (call_sums exit site source target)) (then_summed (row_sums (renaming as_entry))
    (projected (caller_columns all) all)) rows pair e in
    let m = then-made (row_sums (renaming as_entry)) (projected (caller_columns all) all) rows pair u.1 in
    record { decided = u.0; left = m.left; was = m.is; renamed = m.decided; made = m.made }

-- The columns

abbrev pub is_exit_of : ExitKind → (exits : ℕ) → ℕ → Bool
is_exit_of kind.Return exits x = is_among first_exit exits x
is_exit_of (kind.Fail id) exits x = false

-- slots and entry values, the exit value, and the arguments
abbrev pub is_call_column : ExitKind → (count exits : ℕ) → ℕ → Bool
is_call_column exit count exits x = inner_column x || (is_exit_of exit exits x || is_among first_argument count x)

pub either_in : (a b : Bool) → IsTrue a ⊎ IsTrue b → IsTrue (a || b)
either_in true b h = refl
either_in false b (inl h) = absurd cc
either_in false b (inr h) = h

among_in : (first count j : ℕ) → j < count → IsTrue (is_among first count (first + j))
among_in first count j h =
    both_in (nat_le first (first + j)) (nat_lt (first + j) (first + count)) (le-leb first (first + j) (omega arith))
    (lt-ltb (first + j) (first + count) (omega (arith, h)))

pub among_out : (first count x : ℕ) → IsTrue (is_among first count x) → (first ≤ x) × (x < first + count)
among_out first count x h =
    let r = both (nat_le first x) (nat_lt x (first + count)) h in
    (leb-true first x r.0, ltb-true x (first + count) r.1)

pub inner_low : (x : ℕ) → IsTrue (inner_column x) → x < first_exit
inner_low x h = by_slot (nat_lt x first_entry) refl h where
  by_slot : (b : Bool) → nat_lt x first_entry ≡ b → IsTrue (b || is_entry_column first_entry x) → x < first_exit
  by_slot true e k = omega (arith, ltb-true x first_entry e)
  by_slot false e k = (among_out first_entry first_entry x k).1

argument_is : (exit : ExitKind) (count exits j : ℕ) → j < count → IsTrue (is_call_column exit count exits (first_argument + j))
argument_is exit count exits j h =
    either_in (inner_column (first_argument + j)) (is_exit_of exit exits (first_argument + j) || is_among first_argument count
    (first_argument + j))
    (inr (either_in (is_exit_of exit exits (first_argument + j)) (is_among first_argument count (first_argument + j))
    (inr (among_in first_argument count j h))))

-- a column as it is, or by the number of an argument
argument_cases : (i : ℕ) (some : List ℕ) (x : ℕ) → (renamed_column (argument_columns i some) x ≡ x) ⊎ ((j : ℕ) × (j < length some)
    × (renamed_column (argument_columns i some) x ≡ first_argument + (i + j)))
argument_cases i [] x = inl refl
argument_cases i (a ∷ some) x = by_test (x == a) (argument_cases (i + 1) some x) where
  by_test : (b : Bool) → (renamed_column (argument_columns (i + 1) some) x ≡ x) ⊎ ((j : ℕ) × (j < length some)
      × (renamed_column (argument_columns (i + 1) some) x ≡ first_argument + ((i + 1) + j))) →
      ((if b then (first_argument + i) else renamed_column (argument_columns (i + 1) some) x) ≡ x) ⊎ ((j : ℕ) × (j < suc (length some))
      × ((if b then (first_argument + i) else renamed_column (argument_columns (i + 1) some) x) ≡ first_argument + (i + j)))
  by_test true r = inr (0, omega arith, omega arith)
  by_test false (inl e) = inl e
  by_test false (inr r) = inr (suc r.0, omega (arith, r.1), omega (arith, r.2))

renamed_named : (exit : ExitKind) (site : CallSite) (x : ℕ) → IsTrue (is_call_column exit (length site.arguments) (length site.results) x) →
    IsTrue
    (is_call_column exit (length site.arguments) (length site.results) (renamed_column (argument_columns 0 site.arguments) x))
renamed_named exit site x h =
    ⊎_elim (λ e. subst (λ y. IsTrue (is_call_column exit (length site.arguments) (length site.results) y)) (sym e) h)
    (λ r. let n : renamed_column (argument_columns 0 site.arguments) x ≡ first_argument + r.0 = omega (arith, r.2) in
    subst (λ y. IsTrue (is_call_column exit (length site.arguments) (length site.results) y)) (sym n)
    (argument_is exit (length site.arguments) (length site.results) r.0
    r.1))
    (argument_cases 0 site.arguments x)

pub inner_named : (exit : ExitKind) (count exits x : ℕ) → IsTrue (inner_column x) → IsTrue (is_call_column exit count exits x)
inner_named exit count exits x h = either_in (inner_column x) (is_exit_of exit exits x || is_among first_argument count x) (inl h)

pub exit_is : (count exits j : ℕ) → j < exits → IsTrue (is_call_column kind.Return count exits (first_exit + j))
exit_is count exits j h =
    either_in (inner_column (first_exit + j)) (is_exit_of kind.Return exits (first_exit + j) || is_among first_argument count
    (first_exit + j))
    (inr (either_in (is_exit_of kind.Return exits (first_exit + j)) (is_among first_argument count (first_exit + j))
    (inl (among_in first_exit exits j h))))

-- a column as it is, or that of an exit value
result_cases : (i : ℕ) (some : List ℕ) (x : ℕ) → (renamed_column (result_columns i some) x ≡ x) ⊎ ((j : ℕ) × (j < length some)
    × (renamed_column (result_columns i some) x ≡ first_exit + (i + j)))
result_cases i [] x = inl refl
result_cases i (a ∷ some) x = by_test (x == a) (result_cases (i + 1) some x) where
  by_test : (b : Bool) → (renamed_column (result_columns (i + 1) some) x ≡ x) ⊎ ((j : ℕ) × (j < length some)
      × (renamed_column (result_columns (i + 1) some) x ≡ first_exit + ((i + 1) + j))) →
      ((if b then (first_exit + i) else renamed_column (result_columns (i + 1) some) x) ≡ x) ⊎ ((j : ℕ) × (j < suc (length some))
      × ((if b then (first_exit + i) else renamed_column (result_columns (i + 1) some) x) ≡ first_exit + (i + j)))
  by_test true r = inr (0, omega arith, omega arith)
  by_test false (inl e) = inl e
  by_test false (inr r) = inr (suc r.0, omega (arith, r.1), omega (arith, r.2))

pub behind_named : (exit : ExitKind) (count : ℕ) (results : List ℕ) (x : ℕ) → IsTrue (inner_column x) →
    IsTrue (is_call_column exit count (length results) (exit_column exit results x))
behind_named kind.Return count results x h =
    ⊎_elim (λ e. subst (λ y. IsTrue (is_call_column kind.Return count (length results) y)) (sym e)
    (inner_named kind.Return count (length results) x h))
    (λ r. let n : renamed_column (result_columns 0 results) x ≡ first_exit + r.0 = omega (arith, r.2) in
    subst (λ y. IsTrue (is_call_column kind.Return count (length results) y)) (sym n) (exit_is count (length results) r.0 r.1))
    (result_cases 0 results x)
behind_named (kind.Fail id) count results x h = inner_named (kind.Fail id) count (length results) x h

pub slot_inner : (a : ℕ) → a < first_entry → IsTrue (inner_column a)
slot_inner a h = either_in (is_slot_column a) (is_entry_column first_entry a) (inl (lt-ltb a first_entry h))

places_named : (exit : ExitKind) (site : CallSite) (i : ℕ) (some : List ℕ) → i + length some ≡ length site.arguments →
    ((j a : ℕ) → slice_get some j ≡ Some a → a < first_entry) → IsTrue
    (sums_name_only (is_call_column exit (length site.arguments) (length site.results)) (place_sums (argument_columns 0 site.arguments) i
    some))
places_named exit site i [] n k = refl
places_named exit site i (a ∷ some) n k =
    sums_named_append (is_call_column exit (length site.arguments) (length site.results))
    (if renamed_column (argument_columns 0 site.arguments) a == first_argument
    + i then []
    else equal_sums (column_sum (first_argument + i)) (column_sum (renamed_column (argument_columns 0 site.arguments) a)))
    (place_sums (argument_columns 0 site.arguments) (i + 1) some)
    (by_test (renamed_column (argument_columns 0 site.arguments) a == first_argument + i))
    (places_named exit site (i + 1) some (omega (arith, n)) (λ j b e. k (suc j) b e)) where
      by_test : (b : Bool) → IsTrue (sums_name_only (is_call_column exit (length site.arguments) (length site.results))
          (if b then [] else equal_sums
          (column_sum (first_argument + i)) (column_sum (renamed_column (argument_columns 0 site.arguments) a))))
      by_test true = refl
      by_test false =
          equal_named (is_call_column exit (length site.arguments) (length site.results)) (column_sum (first_argument + i))
          (column_sum (renamed_column (argument_columns 0 site.arguments) a))
          (column_named (is_call_column exit (length site.arguments) (length site.results))
          (first_argument + i)
          (argument_is exit (length site.arguments) (length site.results) i (omega (arith, n)))) (column_named
          (is_call_column exit (length site.arguments) (length site.results))
          (renamed_column (argument_columns 0 site.arguments) a) (renamed_named exit site a
          (inner_named exit (length site.arguments) (length site.results) a (slot_inner a (k 0 a refl)))))

call_sums_named : (exit : ExitKind) (site : CallSite) (source target : List Atom) → FitsCall site source target →
    IsTrue
    (sums_name_only (is_call_column exit (length site.arguments) (length site.results)) (call_sums exit site source target))
call_sums_named exit site source target f =
    let by : ℕ → ℕ = renamed_column (argument_columns 0 site.arguments) in
    let ok : ℕ → Bool = is_call_column exit (length site.arguments) (length site.results) in
    let places : List Sum = place_sums (argument_columns 0 site.arguments) 0 site.arguments in
    sums_named_append ok (row_sums (renaming by) source) (row_sums (renaming (λ x. by (exit_column exit site.results x))) target ++ places)
    (row_sums_named ok inner_column (renaming by)
    (λ x h. column_named ok (by x) (renamed_named exit site x (inner_named exit (length site.arguments) (length site.results) x h))) source
    f.source_names)
    (sums_named_append ok (row_sums (renaming (λ x. by (exit_column exit site.results x))) target) places
    (row_sums_named ok inner_column (renaming (λ x. by (exit_column exit site.results x)))
    (λ x h. column_named ok (by (exit_column exit site.results x)) (renamed_named exit site (exit_column exit site.results x)
    (behind_named exit (length site.arguments) site.results x h))) target f.target_names)
    (places_named exit site 0 site.arguments (omega arith) f.are_slots))

pub call_rows_named : (exit : ExitKind) (site : CallSite) (source target : List Atom) → FitsCall site source
    target →
    IsTrue
    (rows_name_only (is_call_column exit (length site.arguments) (length site.results)) (call_rows exit site source target))
call_rows_named exit site source target f =
    rows_named (is_call_column exit (length site.arguments) (length site.results)) (call_sums exit site source target)
    (call_sums_named exit site source target f)

pub call_number : (exit : ExitKind) (count exits x : ℕ) → count < first_entry + 1 → exits < first_entry + 1 →
    IsTrue (is_call_column exit count exits x) → IsTrue (is_number x)
call_number exit count exits x few few_exits h =
    lt-ltb x (2 ^ 32) (⊎_elim (λ k. let l = inner_low x k in omega (arith, l)) (λ k. ⊎_elim (λ m. by_exit exit m)
    (λ m. let l = among_out first_argument count x m in omega (arith, l.1, few))
    (or-cases (is_exit_of exit exits x) (is_among first_argument count x) k))
    (or-cases (inner_column x) (is_exit_of exit exits x || is_among first_argument count x) h)) where
      by_exit : (o : ExitKind) → IsTrue (is_exit_of o exits x) → x < 2 ^ 32
      by_exit kind.Return m = let l = among_out first_exit exits x m in omega (arith, l.1, few_exits)
      by_exit (kind.Fail id) m = absurd cc

pub call_rows_terms : (exit : ExitKind) (site : CallSite) (source target : List Atom) → FitsCall site source
    target →
    first_wide (call_sums exit site source target) ≡ None → IsTrue (are_terms (call_rows exit site source target))
call_rows_terms exit site source target f e =
    sums_are_terms (call_sums exit site source target) (sums_wider (is_call_column exit (length site.arguments) (length site.results))
    is_number
    (λ x h. call_number exit (length site.arguments) (length site.results) x f.few f.few_results h) (call_sums exit site source target)
    (call_sums_named exit site source target f)) e

-- The query

abbrev is_asked_column : ExitKind → (count exits : ℕ) → ℕ → Bool
is_asked_column exit count exits x = is_call_column exit count exits x && not (nat_lt x first_exit)

abbrev arity : (count exits : ℕ) → Arity
arity count exits = record { entries = count; exits = exits }

entry_end : (exit : ExitKind) (count exits x : ℕ) → IsTrue (is_entry_column count x) → IsTrue (is_end_column (arity count exits) exit x)
entry_end kind.Return count exits x h = either_in (is_among first_entry count x) (is_among first_exit exits x) (inl h)
entry_end (kind.Fail id) count exits x h = h

pub below_argument : (x : ℕ) → x < first_argument → as_entry x ≡ x
below_argument x h = by_test (nat_le first_argument x) refl where
  by_test : (b : Bool) → nat_le first_argument x ≡ b → (if b then (x - (first_argument - first_entry)) else x) ≡ x
  by_test true e = absurd (omega (arith, h, leb-true first_argument x e))
  by_test false e = refl

exit_end : (exit : ExitKind) (count exits x : ℕ) → exits < first_entry + 1 → IsTrue (is_exit_of exit exits x) →
    IsTrue (is_end_column (arity count exits) exit (as_entry x))
exit_end kind.Return count exits x few h =
    let l = among_out first_exit exits x h in
    subst (λ y. IsTrue (is_end_column (arity count exits) kind.Return y)) (sym (below_argument x (omega (arith, l.1, few))))
    (either_in (is_among first_entry count x) (is_among first_exit exits x) (inr h))
exit_end (kind.Fail id) count exits x few h = absurd cc

argument_end : (exit : ExitKind) (count exits x : ℕ) → IsTrue (is_among first_argument count x) → IsTrue
    (is_end_column (arity count exits) exit (as_entry x))
argument_end exit count exits x h =
    let l = among_out first_argument count x h in
    let e : as_entry x ≡ x - (first_argument - first_entry) = rw (le-leb first_argument x l.0) refl in
    let n : x - (first_argument - first_entry) ≡ first_entry + (x - first_argument) = omega (arith, l.0) in
    subst (λ y. IsTrue (is_end_column (arity count exits) exit y)) (sym (e ∙ n))
    (entry_end exit count exits (first_entry + (x - first_argument))
    (among_in first_entry count (x - first_argument) (omega (arith, l.0, l.1))))

asked_end : (exit : ExitKind) (count exits x : ℕ) → exits < first_entry + 1 → IsTrue (is_asked_column exit count exits x) →
    IsTrue (is_end_column (arity count exits) exit (as_entry x))
asked_end exit count exits x few h =
    let r = both (is_call_column exit count exits x) (not (nat_lt x first_exit)) h in
    ⊎_elim (λ k. absurd (not_low (inner_low x k) (nat_lt x first_exit) refl r.1)) (λ k. ⊎_elim (exit_end exit count exits x few)
    (argument_end exit count exits x) (or-cases (is_exit_of exit exits x) (is_among first_argument count x) k))
    (or-cases (inner_column x) (is_exit_of exit exits x || is_among first_argument count x) r.0) where
      not_low : x < first_exit → (b : Bool) → nat_lt x first_exit ≡ b → IsTrue (not b) → ⊥
      not_low l true e k = cc
      not_low l false e k = omega (arith, l, ltb-false x first_exit e)

end_number : (exit : ExitKind) (count exits x : ℕ) → count < first_entry + 1 → exits < first_entry + 1 →
    IsTrue (is_end_column (arity count exits) exit x) → IsTrue (is_number x)
end_number kind.Return count exits x few few_exits h =
    lt-ltb x (2 ^ 32) (⊎_elim (λ k. let l = among_out first_entry count x k in omega (arith, l.1, few))
    (λ k. let l = among_out first_exit exits x k in omega (arith, l.1, few_exits))
    (or-cases (is_among first_entry count x) (is_among first_exit exits x) h))
end_number (kind.Fail id) count exits x few few_exits h = let l = among_out first_entry count x h in
    lt-ltb x (2 ^ 32) (omega (arith, l.1, few))

-- a row without an exit value names entry values alone
entry_parts : (exit : ExitKind) (count exits : ℕ) (ps : List (ℕ × ℤ)) → count < first_entry + 1 → IsTrue
    (list_all (λ p. is_end_column (arity count exits) exit p.0) ps) → list_any (λ p. nat_le first_exit p.0) ps ≡ false → IsTrue
    (list_all (λ p. is_entry_column count p.0) ps)
entry_parts exit count exits [] few h e = refl
entry_parts exit count exits (p ∷ ps) few h e =
    let r = both (is_end_column (arity count exits) exit p.0) (list_all (λ q. is_end_column (arity count exits) exit q.0) ps) h in
    by_test exit (nat_le first_exit p.0) refl r.0 e (λ k. entry_parts exit count exits ps few r.1 k) where
      by_test : (o : ExitKind) (b : Bool) → nat_le first_exit p.0 ≡ b → IsTrue (is_end_column (arity count exits) o p.0) →
          (b || list_any (λ q. nat_le first_exit q.0) ps) ≡ false → (list_any (λ q. nat_le first_exit q.0) ps ≡ false →
          IsTrue (list_all (λ q. is_entry_column count q.0) ps)) → IsTrue
          (is_entry_column count p.0 && list_all (λ q. is_entry_column count q.0) ps)
      by_test o true g n k rest = absurd cc
      by_test kind.Return false g n k rest =
          both_in (is_entry_column count p.0) (list_all (λ q. is_entry_column count q.0) ps) (⊎_elim (λ m. m)
          (λ m. let l = among_out first_exit exits p.0 m in absurd (omega (arith, l.0, leb-false first_exit p.0 g)))
          (or-cases (is_among first_entry count p.0) (is_among first_exit exits p.0) n)) (rest k)
      by_test (kind.Fail id) false g n k rest =
          both_in (is_entry_column count p.0) (list_all (λ q. is_entry_column count q.0) ps) n (rest k)

start_names : (exit : ExitKind) (count exits : ℕ) (rows : List Atom) → count < first_entry + 1 → IsTrue
    (rows_name_only (is_end_column (arity count exits) exit) rows) → IsTrue (rows_name_only (is_entry_column count) (start_of rows))
start_names exit count exits [] few h = refl
start_names exit count exits (a ∷ rows) few h =
    let r = both (names_only (is_end_column (arity count exits) exit) a.term) (rows_name_only (is_end_column (arity count exits) exit) rows)
    h in
    by_test (names_exit a) refl r.0 (start_names exit count exits rows few r.1) where
      by_test : (b : Bool) → names_exit a ≡ b → IsTrue (names_only (is_end_column (arity count exits) exit) a.term) → IsTrue
          (rows_name_only (is_entry_column count) (start_of rows)) → IsTrue (rows_name_only (is_entry_column count)
          (cond (not b) (a ∷ start_of rows) (start_of rows)))
      by_test true e n k = k
      by_test false e n k =
          both_in (names_only (is_entry_column count) a.term) (rows_name_only (is_entry_column count) (start_of rows))
          (entry_parts exit count exits a.term.parts few n e) k

filter_names : (allowed : ℕ → Bool) (p : Atom → Bool) (rows : List Atom) → IsTrue (rows_name_only allowed rows) → IsTrue
    (rows_name_only allowed (filter p rows))
filter_names allowed p [] h = refl
filter_names allowed p (a ∷ rows) h =
    let r = both (names_only allowed a.term) (rows_name_only allowed rows) h in
    by_test (p a) r.0 (filter_names allowed p rows r.1) where
      by_test : (b : Bool) → IsTrue (names_only allowed a.term) → IsTrue (rows_name_only allowed (filter p rows)) → IsTrue
          (rows_name_only allowed (cond b (a ∷ filter p rows) (filter p rows)))
      by_test true n k = both_in (names_only allowed a.term) (rows_name_only allowed (filter p rows)) n k
      by_test false n k = k

filter_terms : (p : Atom → Bool) (rows : List Atom) → IsTrue (are_terms rows) → IsTrue (are_terms (filter p rows))
filter_terms p [] h = refl
filter_terms p (a ∷ rows) h =
    let r = both (is_term a.term) (are_terms rows) h in
    by_test (p a) r.0 (filter_terms p rows r.1) where
      by_test : (b : Bool) → IsTrue (is_term a.term) → IsTrue (are_terms (filter p rows)) → IsTrue
          (are_terms (cond b (a ∷ filter p rows) (filter p rows)))
      by_test true n k = both_in (is_term a.term) (are_terms (filter p rows)) n k
      by_test false n k = k

pub asked_fits : (proc : ℕ) (exit : ExitKind) (site : CallSite) (source target rows : List Atom) (pair : Pair) →
    FitsCall site source target → asked exit site source target ≡ gives rows pair →
    Fits proc (arity (length site.arguments) (length site.results))
    (query_of proc exit rows)
asked_fits proc exit site source target rows pair f e = record {
  of_procedure = refl;
  start_names = start_names exit (length site.arguments) (length site.results) rows f.few named;
  end_names = filter_names (is_end_column (arity (length site.arguments) (length site.results)) exit) names_exit rows named;
  start_terms = filter_terms (λ a. not (names_exit a)) rows terms;
  end_terms = filter_terms names_exit rows terms;
}
  where
    answer : IsAnswer exit site source target rows pair
    answer = answer_is exit site source target rows pair e

    left_named : IsTrue (rows_name_only (is_asked_column exit (length site.arguments) (length site.results)) answer.left)
    left_named = left_names (λ x. nat_lt x first_exit) (is_call_column exit (length site.arguments) (length site.results))
        (call_rows exit site source target)
        answer.left
        pair (kind_fits (λ x. nat_lt x first_exit) (call_rows exit site source target)
        (call_rows_terms exit site source target f
        answer.decided)) answer.was (call_rows_named exit site source target f)

    sums_named : IsTrue (sums_name_only (is_end_column (arity (length site.arguments) (length site.results)) exit)
        (row_sums (renaming as_entry) answer.left))
    sums_named = row_sums_named (is_end_column (arity (length site.arguments) (length site.results)) exit)
        (is_asked_column exit (length site.arguments) (length site.results))
        (renaming as_entry)
        (λ x h. column_named (is_end_column (arity (length site.arguments) (length site.results)) exit) (as_entry x)
        (asked_end exit (length site.arguments) (length site.results) x f.few_results h)) answer.left
        left_named

    named : IsTrue (rows_name_only (is_end_column (arity (length site.arguments) (length site.results)) exit) rows)
    named = subst (λ (l : List Atom). IsTrue (rows_name_only (is_end_column (arity (length site.arguments) (length site.results)) exit) l))
        (sym answer.made)
        (rows_named (is_end_column (arity (length site.arguments) (length site.results)) exit) (row_sums (renaming as_entry) answer.left)
        sums_named)

    terms : IsTrue (are_terms rows)
    terms = subst (λ (l : List Atom). IsTrue (are_terms l)) (sym answer.made) (sums_are_terms (row_sums (renaming as_entry) answer.left)
        (sums_wider (is_end_column (arity (length site.arguments) (length site.results)) exit) is_number
        (λ x h. end_number exit (length site.arguments) (length site.results) x f.few f.few_results h)
        (row_sums (renaming as_entry) answer.left) sums_named) answer.renamed)

-- The answer of the call

start_end_hold : (v : Valuation) (rows : List Atom) → HoldsAll v rows → HoldsAll v (start_of rows) × HoldsAll v (end_of rows)
start_end_hold v [] h = (tt, tt)
start_end_hold v (a ∷ rows) h = by_test (names_exit a) (start_end_hold v rows h.1) where
  by_test : (b : Bool) → HoldsAll v (start_of rows) × HoldsAll v (end_of rows) → HoldsAll v (cond (not b) (a ∷ start_of rows)
      (start_of rows)) × HoldsAll v (cond b (a ∷ end_of rows) (end_of rows))
  by_test true r = (r.0, (h.0, r.1))
  by_test false r = ((h.0, r.0), r.1)

hold_start_end : (v : Valuation) (rows : List Atom) → HoldsAll v (start_of rows) → HoldsAll v (end_of rows) → HoldsAll v rows
hold_start_end v [] h k = tt
hold_start_end v (a ∷ rows) h k = by_test (names_exit a) h k (λ m n. hold_start_end v rows m n) where
  by_test : (b : Bool) → HoldsAll v (cond (not b) (a ∷ start_of rows) (start_of rows)) → HoldsAll v (cond b (a ∷ end_of rows)
      (end_of rows)) → (HoldsAll v (start_of rows) → HoldsAll v (end_of rows) → HoldsAll v rows) → HoldsAll v (a ∷ rows)
  by_test true m n rest = (n.0, rest m n.1)
  by_test false m n rest = (m.0, rest m.1 n)

-- the query is met where its rows hold
pub query_holds : (v : Valuation) (rows : List Atom) → HoldsAll v (start_of rows ++ end_of rows) ↔ HoldsAll v rows
query_holds v rows = (
  λ h. let r = holds_split v (start_of rows) (end_of rows) h in hold_start_end v rows r.0 r.1,
  λ h. let r = start_end_hold v rows h in holds_append v (start_of rows) (end_of rows) r.0 r.1,
)

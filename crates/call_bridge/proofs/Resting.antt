-- The rest of an atom over a call holds of every state from which the call leads into the target without meeting the atom.
use Rattle.std.proofs.Common.{◌≡◌, ⊎_elim, ℕ, zero, suc, ◌+◌, ◌-◌, ◌<◌, ◌≤◌, List, [], ◌∷◌, length, map, None, Some, Bool, true, false, not, ◌||◌, ◌&&◌, ◌==◌, nat_lt, nat_le, ℤ, get_or, arith, refl, sym, subst, ap, ◌∙◌}
use Rattle.std.specs.Prelude.{slice_get, IsTrue}
use Rattle.std.proofs.lemmas.Option.{same_Some, none-some, slice_get-get_or}
use borrow.Author.Tests.{eq-eqb, ne_eqb, lt-ltb, le-ltb, le-leb}
use Rattle.c_tree.specs.Meaning.{State}
use Rattle.linear_formula.specs.LinearSum.{Valuation, Is64, value_of}
use Rattle.linear_formula.specs.Results.{renamed_column}
use Rattle.linear_formula.specs.Formula.{HoldsAll, are_terms}
use Rattle.linear_formula.specs.declared.formula.Atom.{Atom}
use Rattle.linear_formula.proofs.Finishing.{negated_holds}
use Rattle.linear_formula.proofs.Limits.{both, both_in}
use Rattle.linear_formula.proofs.Values.{value-negated}
use Rattle.shadow_elim.specs.Sums.{first_wide, row_sums, rows_of_sums, renaming, total}
use Rattle.shadow_elim.specs.Projection.{gives, summed, projected}
use Rattle.shadow_elim.specs.ProjectionLaws.{FitsProjection, Pair}
use Rattle.shadow_elim.proofs.Projecting.{unless-none, projections-keep, projections-terms, or-cases}
use Rattle.shadow_elim.proofs.Summing.{renaming-hold, sums-append}
use Rattle.flow_graph.specs.Calls.{CallSite}
use Rattle.flow_graph.specs.Columns.{first_entry, first_exit, columns_of, valuation_of, value_at, no_slots, is_among, is_value_column, names_only, rows_name_only}
use Rattle.flow_graph.proofs.Numbers.{columns_64}
use Rattle.summary_form.specs.declared.query.ExitKind.{ExitKind}
use Rattle.summary_form.specs.declared.query.ExitKind.TheVariants as kind
use Rattle.call_bridge.specs.Calls.{LiesBehind, inner_column}
use Rattle.call_bridge.specs.Asked.{first_argument, exit_column, FitsCall}
use Rattle.call_bridge.specs.Laws.{IsRegion}
use Rattle.call_bridge.specs.Musts.{is_number}
use Rattle.call_bridge.specs.Rests.{entry_columns, negation, rest_sums, exit_values, rest, FitsRest, HoldsRest}
use Rattle.call_bridge.proofs.Agreeing.{holds_agree, slot_at}
use Rattle.call_bridge.proofs.Calling.{entry_column, exit_column_value, map_at, target_in}
use Rattle.call_bridge.proofs.Leaving.{kind_fits, left_names}
use Rattle.call_bridge.proofs.Naming.{sums_name_only, sums_named_append, row_sums_named, column_named, rows_named, rows_wider, sums_are_terms, sums_wider}
use Rattle.call_bridge.proofs.Queries.{is_exit_of, is_call_column, among_out, inner_low, inner_named, exit_is, behind_named, slot_inner, call_number}

-- What the answer says

abbrev pub negated_row : Atom → List Atom
negated_row atom = rows_of_sums (negation atom ∷ [])

abbrev pub rest_rows : ExitKind → CallSite → (target : List Atom) → Atom → List Atom
rest_rows exit site target atom = rows_of_sums (rest_sums exit site target (negated_row atom))

record IsRestAnswer (exit : ExitKind) (site : CallSite) (target : List Atom) (atom : Atom) (rows : List Atom) (pair : Pair) : Type 0 where
  pub decided : first_wide (rest_sums exit site target (negated_row atom)) ≡ None
  pub was : projected (exit_values (rest_rows exit site target atom)) (rest_rows exit site target atom) ≡ gives rows pair

rest_answer : (exit : ExitKind) (site : CallSite) (target : List Atom) (atom : Atom) (rows : List Atom) (pair : Pair) →
    rest exit site target atom ≡ gives rows pair → IsRestAnswer exit site target atom rows pair
rest_answer exit site target atom rows pair e =
    let all : List Atom = rest_rows exit site target atom in
    let n = unless-none (first_wide (negation atom ∷ [])) (summed (rest_sums exit site target (negated_row atom))
    (λ rs. projected (exit_values rs) rs)) rows pair e in
    let u = unless-none (first_wide (rest_sums exit site target (negated_row atom))) (projected (exit_values all) all) rows pair n.1 in
    record { decided = u.0; was = u.1 }

-- The slots of entry values

entry_slot : (i : ℕ) (some : List ℕ) (j a : ℕ) → slice_get some j ≡ Some a →
    renamed_column (entry_columns i some) (first_entry + (i + j)) ≡ a
entry_slot i [] j a e = absurd (none-some a e)
entry_slot i (b ∷ some) zero a e =
    let here : (first_entry + (i + 0) == first_entry + i) ≡ true = eq-eqb (first_entry + (i + 0)) (first_entry + i) (omega arith) in
    rw here (same_Some b a e)
entry_slot i (b ∷ some) (suc j) a e =
    let apart : (first_entry + (i + suc j) == first_entry + i) ≡ false = ne_eqb (first_entry + (i + suc j)) (first_entry + i)
    (λ q. omega (arith, q)) in
    let n : i + suc j ≡ (i + 1) + j = omega arith in
    rw apart (ap (λ o. renamed_column (entry_columns (i + 1) some) (first_entry + o)) n ∙ entry_slot (i + 1) some j a e)

-- the columns after those of the arguments stay
no_slot : (i : ℕ) (some : List ℕ) (x : ℕ) → first_entry + (i + length some) ≤ x → renamed_column (entry_columns i some) x ≡ x
no_slot i [] x h = refl
no_slot i (b ∷ some) x h =
    let apart : (x == first_entry + i) ≡ false = ne_eqb x (first_entry + i) (λ q. omega (arith, q, h)) in
    rw apart (no_slot (i + 1) some x (omega (arith, h)))

-- The columns

-- slots, entry values and exit values
abbrev rest_column : (exits : ℕ) → ℕ → Bool
rest_column exits x = is_call_column kind.Return 0 exits x

target_named : (exit : ExitKind) (results : List ℕ) (x : ℕ) → IsTrue (inner_column x) →
    IsTrue (rest_column (length results) (exit_column exit results x))
target_named kind.Return results x h = behind_named kind.Return 0 results x h
target_named (kind.Fail id) results x h = inner_named kind.Return 0 (length results) x h

-- rows below the exit values name slots and entry values
inner_left : (exits x : ℕ) → IsTrue (rest_column exits x && not (nat_le first_exit x)) → IsTrue (inner_column x)
inner_left exits x h =
    let r = both (rest_column exits x) (not (nat_le first_exit x)) h in
    let low : (first_exit ≤ x) → ⊥ = λ k. high (nat_le first_exit x) (le-leb first_exit x k) r.1 in
    ⊎_elim (λ k. k) (λ k. absurd (⊎_elim (λ m. low (among_out first_exit exits x m).0) (λ m.
    let l = among_out first_argument 0 x m in low (omega (arith, l.0)))
    (or-cases (is_exit_of kind.Return exits x) (is_among first_argument 0 x) k)))
    (or-cases (inner_column x) (is_exit_of kind.Return exits x || is_among first_argument 0 x) r.0) where
      high : (b : Bool) → b ≡ true → IsTrue (not b) → ⊥
      high true e k = cc
      high false e k = cc

module _ (exit : ExitKind) (site : CallSite) (target : List Atom) (atom : Atom) (f : FitsRest site target atom) where
  abbrev by : ℕ → ℕ
  by x = renamed_column (entry_columns 0 site.arguments) x

  abbrev is_value : ℕ → Bool
  is_value x = is_value_column (length site.arguments) (length site.results) x

  -- the argument whose entry value the column is
  entry_is : (x : ℕ) → IsTrue (is_among first_entry (length site.arguments) x) → (j : ℕ) × (a : ℕ) × (x ≡ first_entry + j)
      × (slice_get site.arguments j ≡ Some a) × (by x ≡ a)
  entry_is x h =
      let l = among_out first_entry (length site.arguments) x h in
      let j : ℕ = x - first_entry in
      let e : x ≡ first_entry + j = omega (arith, l.0) in
      let s : slice_get site.arguments j ≡ Some (get_or site.arguments j 0) = slice_get-get_or site.arguments j 0
      (omega (arith, l.0, l.1)) in
      let n : x ≡ first_entry + (0 + j) = omega (arith, l.0) in (
        j,
        get_or site.arguments j 0,
        e,
        s,
        ap (renamed_column (entry_columns 0 site.arguments)) n
            ∙ entry_slot 0 site.arguments j (get_or site.arguments j 0) s,
      )

  exit_stays : (x : ℕ) → IsTrue (is_among first_exit (length site.results) x) → by x ≡ x
  exit_stays x h =
      let l = among_out first_exit (length site.results) x h in
      no_slot 0 site.arguments x (omega (arith, l.0, f.few))

  value_named : (x : ℕ) → IsTrue (is_value x) → IsTrue (rest_column (length site.results) (by x))
  value_named x h = ⊎_elim of_entry of_exit (or-cases (is_among first_entry (length site.arguments) x) (is_among first_exit
      (length site.results) x) h) where
        of_entry : IsTrue (is_among first_entry (length site.arguments) x) → IsTrue (rest_column (length site.results) (by x))
        of_entry k =
            let r = entry_is x k in
            subst (λ y. IsTrue (rest_column (length site.results) y)) (sym r.4)
            (inner_named kind.Return 0 (length site.results) r.1 (slot_inner r.1 (f.are_slots r.0 r.1 r.3)))

        of_exit : IsTrue (is_among first_exit (length site.results) x) → IsTrue (rest_column (length site.results) (by x))
        of_exit k =
            let l = among_out first_exit (length site.results) x k in
            let n : first_exit + (x - first_exit) ≡ x = omega (arith, l.0) in
            subst (λ y. IsTrue (rest_column (length site.results) y)) (n ∙ sym (exit_stays x k))
            (exit_is 0 (length site.results) (x - first_exit) (omega (arith, l.0, l.1)))

  negated_named : IsTrue (rows_name_only is_value (negated_row atom))
  negated_named = rows_named is_value (negation atom ∷ []) (both_in (names_only is_value atom.term && true) true f.atom_names refl)

  rest_named : IsTrue (sums_name_only (rest_column (length site.results)) (rest_sums exit site target (negated_row atom)))
  rest_named =
      let ok : ℕ → Bool = rest_column (length site.results) in
      sums_named_append ok (row_sums (renaming (exit_column exit site.results)) target) (row_sums (renaming by) (negated_row atom))
      (row_sums_named ok inner_column (renaming (exit_column exit site.results))
      (λ x h. column_named ok (exit_column exit site.results x) (target_named exit site.results x h)) target f.target_names)
      (row_sums_named ok is_value (renaming by) (λ x h. column_named ok (by x) (value_named x h)) (negated_row atom) negated_named)

  rest_terms : first_wide (rest_sums exit site target (negated_row atom)) ≡ None → IsTrue (are_terms (rest_rows exit site target atom))
  rest_terms e = sums_are_terms (rest_sums exit site target (negated_row atom)) (sums_wider (rest_column (length site.results)) is_number
      (λ x h. call_number kind.Return 0 (length site.results) x (omega arith) f.few_results h)
      (rest_sums exit site target (negated_row atom)) rest_named) e

  -- The rows at a run of the call

  module _ (s : State) (entry values : List ℤ) where
    -- a value of the called procedure by its column of the caller
    value_agrees : (x : ℕ) → IsTrue (is_value x) → valuation_of (map s site.arguments) values x ≡ columns_of s entry values (by x)
    value_agrees x h = ⊎_elim of_entry of_exit (or-cases (is_among first_entry (length site.arguments) x) (is_among first_exit
        (length site.results) x) h) where
          of_entry : IsTrue (is_among first_entry (length site.arguments) x) → valuation_of (map s site.arguments) values x
              ≡ columns_of s entry values (by x)
          of_entry k =
              let r = entry_is x k in
              let l = among_out first_entry (length site.arguments) x k in
              let n : x - first_entry ≡ r.0 = omega (arith, r.2) in
              entry_column no_slots (map s site.arguments) values x l.0 (omega (arith, l.1, f.few))
              ∙ ap (value_at (map s site.arguments)) n ∙ map_at s site.arguments r.0 r.1 r.3
              ∙ sym (ap (columns_of s entry values) r.4 ∙ slot_at s entry values r.1 (lt-ltb r.1 first_entry (f.are_slots r.0 r.1 r.3)))

          of_exit : IsTrue (is_among first_exit (length site.results) x) → valuation_of (map s site.arguments) values x
              ≡ columns_of s entry values (by x)
          of_exit k =
              let l = among_out first_exit (length site.results) x k in
              let a : nat_lt x first_entry ≡ false = le-ltb x first_entry (omega (arith, l.0)) in
              let b : nat_lt x first_exit ≡ false = le-ltb x first_exit l.0 in
              let here : valuation_of (map s site.arguments) values x ≡ columns_of s entry values x = rw (a, b) refl in
              here ∙ ap (columns_of s entry values) (sym (exit_stays x k))

    negated_in : (¬ HoldsAll (valuation_of (map s site.arguments) values) (atom ∷ [])) → HoldsAll (columns_of s entry values)
        (rows_of_sums (row_sums (renaming by) (negated_row atom)))
    negated_in h =
        let w : Valuation = valuation_of (map s site.arguments) values in
        let n : HoldsAll w (negated_row atom) = (
          (negated_holds (value_of w atom.term) (value_of w (total (negation atom)))
              (value-negated w atom.term)).1 (λ k. h (k, tt)),
          tt,
        ) in
        renaming-hold (columns_of s entry values) by (negated_row atom)
        (holds_agree is_value w (λ x. columns_of s entry values (by x)) (negated_row atom) value_agrees negated_named n)

    -- exit values are forgotten
    low_same : (x : ℕ) → x < first_exit → columns_of s entry values x ≡ columns_of s entry [] x
    low_same x h = let e : nat_lt x first_exit ≡ true = lt-ltb x first_exit h in rw e refl

    -- the call without its arguments: they aren't columns here
    abbrev bare : CallSite
    bare = record { procedure = site.procedure; arguments = []; results = site.results }

    bare_fits : FitsCall bare [] target
    bare_fits = record {
      are_slots = λ j a e. absurd (none-some a e);
      results_low = f.results_low;
      few = omega arith;
      few_results = f.few_results;
      source_names = refl;
      target_names = f.target_names;
    }

    behind_in : LiesBehind exit site.results s entry values target → HoldsAll (columns_of s entry values)
        (rows_of_sums (row_sums (renaming (exit_column exit site.results)) target))
    behind_in l = target_in bare [] target bare_fits s entry values (columns_of s entry values) low_same
        (λ i h. exit_column_value s entry values i h) exit l

  -- The laws

  module _ (rows : List Atom) (pair : Pair) (is : rest exit site target atom ≡ gives rows pair) where
    answer : IsRestAnswer exit site target atom rows pair
    answer = rest_answer exit site target atom rows pair is

    fits : FitsProjection (exit_values (rest_rows exit site target atom)) (rest_rows exit site target atom)
    fits = kind_fits (λ x. nat_le first_exit x) (rest_rows exit site target atom) (rest_terms answer.decided)

    -- the rows are terms that name slots and entry values alone
    pub rest_region : IsRegion rows
    rest_region = record {
      names = rows_wider (λ x. rest_column (length site.results) x && not (nat_le first_exit x)) inner_column
          (inner_left (length site.results)) rows (left_names (λ x. nat_le first_exit x) (rest_column (length site.results))
          (rest_rows exit site target atom) rows pair fits answer.was (rows_named (rest_column (length site.results))
          (rest_sums exit site target (negated_row atom)) rest_named));
      terms = projections-terms (exit_values (rest_rows exit site target atom)) (rest_rows exit site target atom) rows pair fits answer.was;
    }

    -- every state from which the call leads into the target without meeting the atom meets the rows
    pub rest_holds : HoldsRest exit site target atom rows
    rest_holds s entry values vs ve vx l n =
        let v : Valuation = columns_of s entry values in
        let bits : Is64 v = columns_64 s entry values vs ve vx in
        let all : HoldsAll v (rest_rows exit site target atom) = sums-append v (row_sums (renaming (exit_column exit site.results)) target)
        (row_sums (renaming by) (negated_row atom)) (behind_in s entry values l) (negated_in s entry values n) in
        holds_agree inner_column v (columns_of s entry []) rows (λ x h. low_same s entry values x (inner_low x h)) rest_region.names
        (projections-keep (exit_values (rest_rows exit site target atom)) (rest_rows exit site target atom) rows pair answer.was v bits all)

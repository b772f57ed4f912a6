-- Every call from the source into the target meets the rows that are asked for, and where no pair is given all values that meet them are
-- those of such a call.
use Rattle.std.proofs.Common.{◌≡◌, ℕ, zero, suc, ◌+◌, ◌-◌, ◌<◌, ◌≤◌, List, [], ◌∷◌, ◌++◌, length, drop, map, None, Some, Bool, true, false, not, ◌&&◌, ◌==◌, nat_lt, nat_le, ℤ, arith, refl, sym, subst, ap, ◌∙◌}
use Rattle.std.specs.Prelude.{slice_get, IsTrue, Contains, if◌then◌else◌}
use Rattle.std.proofs.lemmas.Option.{same_Some, none-some, slice_get_within}
use borrow.Author.Tests.{eqb-true, ne_eqb, lt-ltb, le-ltb, ltb-true, ltb-false, le-leb, leb-true}
use Rattle.c_tree.specs.Meaning.{State, with_slot, is_value}
use Rattle.flow_graph.specs.Calls.{CallSite}
use Rattle.flow_graph.specs.Runs.{with_slots}
use Rattle.linear_formula.specs.LinearSum.{Valuation, Is64, is64}
use Rattle.linear_formula.specs.Results.{renamed_column}
use Rattle.linear_formula.specs.Replaced.{column_sum}
use Rattle.linear_formula.specs.Formula.{HoldsAll}
use Rattle.linear_formula.specs.declared.formula.Atom.{Atom}
use Rattle.linear_formula.proofs.Replacing.{value-column}
use Rattle.linear_formula.proofs.Limits.{both}
use Rattle.infeasible_cert.specs.Right.{columns_of as named_columns, rows_of}
use Rattle.shadow_elim.specs.Sums.{row_sums, rows_of_sums, renaming, equal_sums}
use Rattle.shadow_elim.specs.Projection.{gives}
use Rattle.shadow_elim.specs.ProjectionLaws.{FitsProjection, Pair}
use Rattle.shadow_elim.proofs.Projecting.{projections-keep, projections-lose-none}
use Rattle.shadow_elim.proofs.Summing.{renaming-hold, hold-renaming, sums-append, sums-split, equal-hold, hold-equal}
use Rattle.shadow_elim.proofs.Members.{contains-among, filter-among}
use Rattle.flow_graph.specs.Columns.{columns_of, valuation_of, value_at, no_slots, first_entry, first_exit, first_symbol, rows_name_only, AreAllValues}
use Rattle.flow_graph.proofs.Numbers.{value_of_64, columns_64, values_64, none_values}
use Rattle.flow_graph.proofs.Values.{values_map}
use Rattle.summary_form.specs.declared.query.ExitKind.{ExitKind}
use Rattle.summary_form.specs.declared.query.ExitKind.TheVariants as kind
use Rattle.call_bridge.specs.Calls.{LiesBehind, inner_column}
use Rattle.call_bridge.specs.Asked.{argument_columns, first_argument, result_columns, as_entry, place_sums, exit_column, call_rows, caller_columns, asked, FitsCall, HoldsCalls, IsCalled, HoldsNoOtherCall}
use Rattle.call_bridge.proofs.Agreeing.{holds_agree, agree_back, slot_at}
use Rattle.call_bridge.proofs.Leaving.{kind_fits, left_names}
use Rattle.call_bridge.proofs.Naming.{rows_wider}
use Rattle.call_bridge.proofs.Queries.{IsAnswer, answer_is, call_rows_named, call_rows_terms, is_call_column, inner_low, below_argument}

pub entry_column : (s : State) (entry exit : List ℤ) (x : ℕ) → first_entry ≤ x → x < first_exit → columns_of s entry exit x ≡ value_at entry
    (x - first_entry)
entry_column s entry exit x low high =
    let a : nat_lt x first_entry ≡ false = le-ltb x first_entry low in
    let b : nat_lt x first_exit ≡ true = lt-ltb x first_exit high in
    rw (a, b) refl

-- the value of a place among the arguments
pub map_at : (s : State) (args : List ℕ) (j a : ℕ) → slice_get args j ≡ Some a → value_at (map s args) j ≡ s a
map_at s [] j a e = absurd (none-some a e)
map_at s (x ∷ args) zero a e = ap s (same_Some x a e)
map_at s (x ∷ args) (suc j) a e = map_at s args j a e

-- the value of the column of argument j
argument_value : (called values : List ℤ) (j : ℕ) → j < first_entry → valuation_of called values (as_entry (first_argument + j))
    ≡ value_at called j
argument_value called values j h =
    let b : as_entry (first_argument + j) ≡ (first_argument + j) - 30000 = rw (le-leb first_argument (first_argument + j) (omega arith))
    refl
    in
    let c : (first_argument + j) - 30000 ≡ first_entry + j = omega arith in
    let d : valuation_of called values (first_entry + j) ≡ value_at called ((first_entry + j) - first_entry) = entry_column no_slots called
    values (first_entry + j) (omega arith) (omega (arith, h)) in
    let e : (first_entry + j) - first_entry ≡ j = omega arith in
    ap (valuation_of called values) (b ∙ c) ∙ d ∙ ap (value_at called) e

-- the value of the column of result i
pub exit_column_value : (s : State) (entry exit : List ℤ) (i : ℕ) → i < first_entry → columns_of s entry exit (first_exit + i)
    ≡ value_at exit i
exit_column_value s entry exit i h =
    let a : nat_lt (first_exit + i) first_entry ≡ false = le-ltb (first_exit + i) first_entry (omega arith) in
    let b : nat_lt (first_exit + i) first_exit ≡ false = le-ltb (first_exit + i) first_exit (omega arith) in
    let c : nat_lt (first_exit + i) first_symbol ≡ true = lt-ltb (first_exit + i) first_symbol (omega (arith, h)) in
    let d : (first_exit + i) - first_exit ≡ i = omega arith in
    rw (a, b, c) (ap (value_at exit) d)

exit_value : (called values : List ℤ) (i : ℕ) → i < first_entry → valuation_of called values (as_entry (first_exit + i)) ≡ value_at values i
exit_value called values i h =
    ap (valuation_of called values) (below_argument (first_exit + i) (omega (arith, h))) ∙ exit_column_value no_slots called values i h

others_at : (values : List ℤ) (j : ℕ) → value_at (drop 1 values) j ≡ value_at values (suc j)
others_at [] j = refl
others_at (z ∷ zs) j = refl

-- the caller's columns, and from the exit values on the asked query's
abbrev asked_at : State → (entry values : List ℤ) → List ℕ → Valuation
asked_at s entry values args x = if nat_lt x first_exit then columns_of s entry [] x else valuation_of (map s args) values (as_entry x)

-- no column that is no slot is renamed
fixed_at : (i : ℕ) (some : List ℕ) → ((j a : ℕ) → slice_get some j ≡ Some a → a < first_entry) → (x : ℕ) → first_entry ≤ x →
    renamed_column (argument_columns i some) x ≡ x
fixed_at i [] k x h = refl
fixed_at i (a ∷ some) k x h =
    let apart : (x == a) ≡ false = ne_eqb x a (λ e. omega (arith, e, h, k 0 a refl)) in
    rw apart (fixed_at (i + 1) some (λ j b f. k (suc j) b f) x h)

module _ (s : State) (entry values : List ℤ) (args : List ℕ) where
  low_at : (x : ℕ) → x < first_exit → asked_at s entry values args x ≡ columns_of s entry [] x
  low_at x h = rw (lt-ltb x first_exit h) refl

  high_at : (x : ℕ) → first_exit ≤ x → asked_at s entry values args x ≡ valuation_of (map s args) values (as_entry x)
  high_at x h = rw (le-ltb x first_exit h) refl

  argument_at : (j : ℕ) → j < first_entry → asked_at s entry values args (first_argument + j) ≡ value_at (map s args) j
  argument_at j h = high_at (first_argument + j) (omega arith) ∙ argument_value (map s args) values j h

  -- a column of the caller by its new number
  renamed_at : (i : ℕ) (some : List ℕ) →
      ((j a : ℕ) → slice_get some j ≡ Some a → (asked_at s entry values args (first_argument + (i + j)) ≡ s a)
      × (a < first_entry)) → (x : ℕ) → x < first_exit → asked_at s entry values args (renamed_column (argument_columns i some) x)
      ≡ columns_of s entry [] x
  renamed_at i [] k x h = low_at x h
  renamed_at i (a ∷ some) k x h = by_test (x == a) refl (λ e. renamed_at (i + 1) some (λ j b f. moved j b (k (suc j) b f)) x h) where
    moved : (j b : ℕ) → (asked_at s entry values args (first_argument + (i + suc j)) ≡ s b) × (b < first_entry) →
        (asked_at s entry values args (first_argument + ((i + 1) + j)) ≡ s b) × (b < first_entry)
    moved j b m = let n : i + suc j ≡ (i + 1) + j = omega arith in (
      subst (λ o. asked_at s entry values args (first_argument + o) ≡ s b) n m.0,
      m.1,
    )

    by_test : (t : Bool) → (x == a) ≡ t →
        ((x == a) ≡ false → asked_at s entry values args (renamed_column (argument_columns (i + 1) some) x)
        ≡ columns_of s entry [] x) → asked_at s entry values args (if t then (first_argument + i) else renamed_column
        (argument_columns (i + 1) some) x) ≡ columns_of s entry [] x
    by_test true e rest =
        let m = k 0 a refl in
        let n : i + 0 ≡ i = omega arith in
        let there : asked_at s entry values args (first_argument + i) ≡ s a = subst (λ o. asked_at s entry values args (first_argument + o)
        ≡ s a) n m.0 in
        there ∙ ap s (sym (eqb-true x a e))
        ∙ sym (slot_at s entry [] x (lt-ltb x first_entry (subst (λ o. o < first_entry) (sym (eqb-true x a e)) m.1)))
    by_test false e rest = rest e

-- The rows of a call at a valuation that reads the caller's columns by their new numbers

module _ (site : CallSite) (source target : List Atom) (f : FitsCall site source target) (s : State)
    (entry values : List ℤ)
    (w : Valuation) (low : (x : ℕ) → x < first_exit → w (renamed_column (argument_columns 0 site.arguments) x) ≡ columns_of s entry [] x)
    (out : (i : ℕ) → i < first_entry → w (first_exit + i) ≡ value_at values i) where
  source_agrees : (x : ℕ) → IsTrue (inner_column x) → columns_of s entry [] x ≡ w (renamed_column (argument_columns 0 site.arguments) x)
  source_agrees x k = sym (low x (inner_low x k))

  -- each result's slot has the exit value of its column
  results_agree : (i : ℕ) (some : List ℕ) (vals : List ℤ) → ((j a : ℕ) → slice_get some j ≡ Some a → a < first_entry) →
      ((j : ℕ) → j < length some → w (first_exit + (i + j)) ≡ value_at vals j) → (x : ℕ) → IsTrue (inner_column x) →
      columns_of (with_slots s some vals) entry [] x
      ≡ w (renamed_column (argument_columns 0 site.arguments) (renamed_column (result_columns i some) x))
  results_agree i [] vals lows outs x k = source_agrees x k
  results_agree i (y ∷ ys) vals lows outs x k =
      by_test (x == y) refl
      (results_agree (i + 1) ys (drop 1 vals) (λ j a e. lows (suc j) a e) (λ j h. moved j (outs (suc j) (omega (arith, h)))) x k)
    where
      z : ℤ
      z = value_at vals 0

      moved : (j : ℕ) → w (first_exit + (i + suc j)) ≡ value_at vals (suc j) → w (first_exit + ((i + 1) + j)) ≡ value_at (drop 1 vals) j
      moved j e =
          let n : (i + 1) + j ≡ i + suc j = omega arith in
          ap (λ o. w (first_exit + o)) n ∙ e ∙ sym (others_at vals j)

      by_test : (t : Bool) → (x == y) ≡ t → columns_of (with_slots s ys (drop 1 vals)) entry [] x
          ≡ w (renamed_column (argument_columns 0 site.arguments) (renamed_column (result_columns (i + 1) ys) x)) →
          columns_of (with_slot (with_slots s ys (drop 1 vals)) y (value_at vals 0)) entry [] x
          ≡ w (renamed_column (argument_columns 0 site.arguments) (if t then (first_exit + i) else renamed_column
          (result_columns (i + 1) ys)
          x))
      by_test true e rest =
          let small : nat_lt x first_entry ≡ true = lt-ltb x first_entry
          (subst (λ o. o < first_entry) (sym (eqb-true x y e)) (lows 0 y refl)) in
          let here : with_slot (with_slots s ys (drop 1 vals)) y z x ≡ z = rw e refl in
          let n : i + 0 ≡ i = omega arith in
          slot_at (with_slot (with_slots s ys (drop 1 vals)) y z) entry [] x small ∙ here ∙ sym (outs 0 (omega arith))
          ∙ ap (λ o. w (first_exit + o)) n ∙ sym (ap w (fixed_at 0 site.arguments f.are_slots (first_exit + i) (omega arith)))
      by_test false e rest = changed (nat_lt x first_entry) refl ∙ rest where
        changed : (b : Bool) → nat_lt x first_entry ≡ b → columns_of (with_slot (with_slots s ys (drop 1 vals)) y (value_at vals 0)) entry
            []
            x ≡ columns_of (with_slots s ys (drop 1 vals)) entry [] x
        changed true g = slot_at (with_slot (with_slots s ys (drop 1 vals)) y (value_at vals 0)) entry [] x g ∙ rw e refl
            ∙ sym (slot_at (with_slots s ys (drop 1 vals)) entry [] x g)
        changed false g = rw g refl

  target_agrees : (x : ℕ) → IsTrue (inner_column x) → columns_of (with_slots s site.results values) entry [] x
      ≡ w (renamed_column (argument_columns 0 site.arguments) (exit_column kind.Return site.results x))
  target_agrees x k =
      results_agree 0 site.results values f.results_low
      (λ j h. let n : 0 + j ≡ j = omega arith in
      ap (λ o. w (first_exit + o)) n ∙ out j (omega (arith, h, f.few_results))) x k

  source_in : HoldsAll (columns_of s entry []) source →
      HoldsAll w (rows_of_sums (row_sums (renaming (renamed_column (argument_columns 0 site.arguments))) source))
  source_in h = renaming-hold w (renamed_column (argument_columns 0 site.arguments)) source
      (holds_agree inner_column (columns_of s entry [])
      (λ x. w (renamed_column (argument_columns 0 site.arguments) x)) source source_agrees f.source_names h)

  source_out : HoldsAll w (rows_of_sums (row_sums (renaming (renamed_column (argument_columns 0 site.arguments))) source)) →
      HoldsAll (columns_of s entry []) source
  source_out h = holds_agree inner_column (λ x. w (renamed_column (argument_columns 0 site.arguments) x)) (columns_of s entry []) source
      (agree_back inner_column (columns_of s entry []) (λ x. w (renamed_column (argument_columns 0 site.arguments) x)) source_agrees)
      f.source_names
      (hold-renaming w (renamed_column (argument_columns 0 site.arguments)) source h)

  pub target_in : (exit : ExitKind) → LiesBehind exit site.results s entry values target →
      HoldsAll w (rows_of_sums
      (row_sums (renaming (λ x. renamed_column (argument_columns 0 site.arguments) (exit_column exit site.results x)))
      target))
  target_in kind.Return h = renaming-hold w (λ x. renamed_column (argument_columns 0 site.arguments)
      (exit_column kind.Return site.results x))
      target
      (holds_agree inner_column (columns_of (with_slots s site.results values) entry [])
      (λ x. w (renamed_column (argument_columns 0 site.arguments) (exit_column kind.Return site.results x))) target target_agrees
      f.target_names h)
  target_in (kind.Fail id) h = renaming-hold w (renamed_column (argument_columns 0 site.arguments)) target
      (holds_agree inner_column (columns_of s entry []) (λ x. w (renamed_column (argument_columns 0 site.arguments) x)) target source_agrees
      f.target_names h)

  target_out : (exit : ExitKind) →
      HoldsAll w (rows_of_sums
      (row_sums (renaming (λ x. renamed_column (argument_columns 0 site.arguments) (exit_column exit site.results x)))
      target)) →
      LiesBehind exit site.results s entry values target
  target_out kind.Return h = holds_agree inner_column
      (λ x. w (renamed_column (argument_columns 0 site.arguments) (exit_column kind.Return site.results x)))
      (columns_of (with_slots s site.results values) entry []) target
      (agree_back inner_column (columns_of (with_slots s site.results values) entry [])
      (λ x. w (renamed_column (argument_columns 0 site.arguments) (exit_column kind.Return site.results x))) target_agrees) f.target_names
      (hold-renaming w
      (λ x. renamed_column (argument_columns 0 site.arguments) (exit_column kind.Return site.results x)) target h)
  target_out (kind.Fail id) h = holds_agree inner_column (λ x. w (renamed_column (argument_columns 0 site.arguments) x))
      (columns_of s entry [])
      target (agree_back inner_column (columns_of s entry []) (λ x. w (renamed_column (argument_columns 0 site.arguments) x)) source_agrees)
      f.target_names (hold-renaming w (renamed_column (argument_columns 0 site.arguments)) target h)

-- each place of a slot has the value of its first place
module _ (w : Valuation) (columns : List (ℕ × ℕ)) where
  places_in : (i : ℕ) (some : List ℕ) → ((j a : ℕ) → slice_get some j ≡ Some a → w (first_argument + (i + j))
      ≡ w (renamed_column columns a)) →
      HoldsAll w (rows_of_sums (place_sums columns i some))
  places_in i [] k = tt
  places_in i (a ∷ some) k =
      sums-append w (if renamed_column columns a == first_argument + i then [] else equal_sums (column_sum (first_argument + i))
      (column_sum (renamed_column columns a))) (place_sums columns (i + 1) some) (by_test (renamed_column columns a == first_argument + i))
      (places_in (i + 1) some (λ j b f. moved j b (k (suc j) b f)))
    where
      moved : (j b : ℕ) → w (first_argument + (i + suc j)) ≡ w (renamed_column columns b) → w (first_argument + ((i + 1) + j))
          ≡ w (renamed_column columns b)
      moved j b m = let n : i + suc j ≡ (i + 1) + j = omega arith in subst (λ o. w (first_argument + o) ≡ w (renamed_column columns b)) n m

      here : w (first_argument + i) ≡ w (renamed_column columns a)
      here = let n : i + 0 ≡ i = omega arith in subst (λ o. w (first_argument + o) ≡ w (renamed_column columns a)) n (k 0 a refl)

      by_test : (t : Bool) →
          HoldsAll w (rows_of_sums (if t then [] else equal_sums (column_sum (first_argument + i)) (column_sum (renamed_column columns a))))
      by_test true = tt
      by_test false = equal-hold w (column_sum (first_argument + i)) (column_sum (renamed_column columns a))
          (value-column w (first_argument + i) ∙ here ∙ sym (value-column w (renamed_column columns a)))

  places_apart : (i b : ℕ) (some : List ℕ) → HoldsAll w (rows_of_sums (place_sums columns i (b ∷ some))) →
      (w (first_argument + i) ≡ w (renamed_column columns b)) × HoldsAll w (rows_of_sums (place_sums columns (i + 1) some))
  places_apart i b some h = (by_test (renamed_column columns b == first_argument + i) refl apart.0, apart.1) where
    apart : HoldsAll w
        (rows_of_sums (if renamed_column columns b == first_argument + i then [] else equal_sums (column_sum (first_argument + i))
        (column_sum (renamed_column columns b)))) × HoldsAll w (rows_of_sums (place_sums columns (i + 1) some))
    apart = sums-split w (if renamed_column columns b == first_argument + i then [] else equal_sums (column_sum (first_argument + i))
        (column_sum (renamed_column columns b))) (place_sums columns (i + 1) some) h

    by_test : (t : Bool) → (renamed_column columns b == first_argument + i) ≡ t →
        HoldsAll w (rows_of_sums (if t then [] else equal_sums (column_sum (first_argument + i)) (column_sum (renamed_column columns b)))) →
        w (first_argument + i) ≡ w (renamed_column columns b)
    by_test true f k = ap w (sym (eqb-true (renamed_column columns b) (first_argument + i) f))
    by_test false f k = sym (value-column w (first_argument + i)) ∙ hold-equal w (column_sum (first_argument + i))
        (column_sum (renamed_column columns b)) k ∙ value-column w (renamed_column columns b)

  places_out : (i : ℕ) (some : List ℕ) → HoldsAll w (rows_of_sums (place_sums columns i some)) → (j a : ℕ) → slice_get some j ≡ Some a →
      w (first_argument + (i + j)) ≡ w (renamed_column columns a)
  places_out i [] h j a e = absurd (none-some a e)
  places_out i (b ∷ some) h zero a e =
      let n : i ≡ i + 0 = omega arith in
      subst (λ o. w (first_argument + o) ≡ w (renamed_column columns a)) n
      (subst (λ c. w (first_argument + i) ≡ w (renamed_column columns c))
      (same_Some b a e) (places_apart i b some h).0)
  places_out i (b ∷ some) h (suc j) a e =
      let n : (i + 1) + j ≡ i + suc j = omega arith in
      subst (λ o. w (first_argument + o) ≡ w (renamed_column columns a)) n (places_out (i + 1) some (places_apart i b some h).1 j a e)

-- values by their places
abbrev listed : ℕ → (ℕ → ℤ) → List ℤ
listed zero f = []
listed (suc n) f = f 0 ∷ listed n (λ i. f (suc i))

listed_at : (n : ℕ) (f : ℕ → ℤ) (i : ℕ) → i < n → value_at (listed n f) i ≡ f i
listed_at zero f i h = absurd (omega (arith, h))
listed_at (suc n) f zero h = refl
listed_at (suc n) f (suc i) h = listed_at n (λ j. f (suc j)) i (omega (arith, h))

listed_values : (n : ℕ) (f : ℕ → ℤ) → ((i : ℕ) → IsTrue (is_value (f i))) → AreAllValues (listed n f)
listed_values zero f h i = refl
listed_values (suc n) f h zero = h 0
listed_values (suc n) f h (suc i) = listed_values n (λ j. f (suc j)) (λ j. h (suc j)) i

same_map : (s : State) (args : List ℕ) (called : List ℤ) → length called ≡ length args →
    ((j a : ℕ) → slice_get args j ≡ Some a → s a ≡ value_at called j) → map s args ≡ called
same_map s [] [] e k = refl
same_map s [] (z ∷ called) e k = absurd (omega (arith, e))
same_map s (a ∷ args) [] e k = absurd (omega (arith, e))
same_map s (a ∷ args) (z ∷ called) e k = ap (λ y. y ∷ map s args) (k 0 a refl) ∙ ap (λ zs. z ∷ zs)
    (same_map s args called (omega (arith, e)) (λ j b f. k (suc j) b f))

module _ (exit : ExitKind) (site : CallSite) (source target : List Atom) (f : FitsCall site source target)
    (rows : List Atom)
    (pair : Pair) (is : asked exit site source target ≡ gives rows pair) where
  answer : IsAnswer exit site source target rows pair
  answer = answer_is exit site source target rows pair is

  fits : FitsProjection (caller_columns (call_rows exit site source target)) (call_rows exit site source target)
  fits = kind_fits (λ x. nat_lt x first_exit) (call_rows exit site source target) (call_rows_terms exit site source target f
      answer.decided)

  -- every call from the source into the target meets the rows
  pub asked_holds : HoldsCalls exit site source target rows
  asked_holds s entry values vs ve vx h l =
      let v : Valuation = asked_at s entry values site.arguments in
      let kept : HoldsAll v answer.left = projections-keep (caller_columns (call_rows exit site source target))
      (call_rows exit site source target) answer.left pair answer.was v bits all_hold in
      let read : HoldsAll (λ x. valuation_of (map s site.arguments) values (as_entry x)) answer.left = holds_agree
      (λ x. nat_le first_exit x)
      v
      (λ x. valuation_of (map s site.arguments) values (as_entry x)) answer.left (λ x k. high_at s entry values site.arguments x
      (leb-true first_exit x k))
      above kept in
      subst (HoldsAll (valuation_of (map s site.arguments) values)) (sym answer.made)
      (renaming-hold (valuation_of (map s site.arguments) values) as_entry
      answer.left read)
    where
      above : IsTrue (rows_name_only (λ x. nat_le first_exit x) answer.left)
      above = rows_wider (λ x. is_call_column exit (length site.arguments) (length site.results) x && not (nat_lt x first_exit))
          (λ x. nat_le first_exit x)
          not_low
          answer.left
          (left_names (λ x. nat_lt x first_exit) (is_call_column exit (length site.arguments) (length site.results))
          (call_rows exit site source target) answer.left
          pair
          fits answer.was (call_rows_named exit site source target f)) where
            not_low : (x : ℕ) → IsTrue (is_call_column exit (length site.arguments) (length site.results) x && not (nat_lt x first_exit)) →
                IsTrue (nat_le first_exit x)
            not_low x k = by_test (nat_lt x first_exit) refl (both (is_call_column exit (length site.arguments) (length site.results) x)
                (not (nat_lt x first_exit))
                k).1 where
                  by_test : (b : Bool) → nat_lt x first_exit ≡ b → IsTrue (not b) → IsTrue (nat_le first_exit x)
                  by_test true e q = absurd cc
                  by_test false e q = le-leb first_exit x (ltb-false x first_exit e)

      known : (j a : ℕ) → slice_get site.arguments j ≡ Some a → (asked_at s entry values site.arguments (first_argument + (0 + j)) ≡ s a)
          × (a < first_entry)
      known j a e =
          let within = slice_get_within site.arguments j a e in
          let n : 0 + j ≡ j = omega arith in (
            subst (λ o. asked_at s entry values site.arguments (first_argument + o) ≡ s a) (sym n)
                (argument_at s entry values site.arguments j (omega (arith, within, f.few)) ∙ map_at s site.arguments j a e),
            f.are_slots j a e,
          )

      low : (x : ℕ) → x < first_exit → asked_at s entry values site.arguments (renamed_column (argument_columns 0 site.arguments) x)
          ≡ columns_of s entry [] x
      low x k = renamed_at s entry values site.arguments 0 site.arguments known x k

      out : (i : ℕ) → i < first_entry → asked_at s entry values site.arguments (first_exit + i) ≡ value_at values i
      out i k = high_at s entry values site.arguments (first_exit + i) (omega arith) ∙ exit_value (map s site.arguments) values i k

      first : (j a : ℕ) → slice_get site.arguments j ≡ Some a → asked_at s entry values site.arguments (first_argument + (0 + j))
          ≡ asked_at s entry values site.arguments
          (renamed_column (argument_columns 0 site.arguments) a)
      first j a e = let m = known j a e in m.0 ∙ sym (low a (omega (arith, m.1)) ∙ slot_at s entry [] a (lt-ltb a first_entry m.1))

      all_hold : HoldsAll (asked_at s entry values site.arguments) (call_rows exit site source target)
      all_hold =
          let v : Valuation = asked_at s entry values site.arguments in
          let by : ℕ → ℕ = renamed_column (argument_columns 0 site.arguments) in
          sums-append v (row_sums (renaming by) source) (row_sums (renaming (λ x. by (exit_column exit site.results x))) target
          ++ place_sums (argument_columns 0 site.arguments) 0 site.arguments) (source_in site source target f s entry values v low out h)
          (sums-append v
          (row_sums (renaming (λ x. by (exit_column exit site.results x))) target) (place_sums (argument_columns 0 site.arguments) 0
          site.arguments)
          (target_in site source target f s entry values v low out exit l) (places_in v (argument_columns 0 site.arguments) 0 site.arguments
          first))

      bits : Is64 (asked_at s entry values site.arguments)
      bits x = by_test (nat_lt x first_exit) where
        by_test : (t : Bool) →
            IsTrue (is64 (if t then columns_of s entry [] x else valuation_of (map s site.arguments) values (as_entry x)))
        by_test true = columns_64 s entry [] vs ve none_values x
        by_test false = values_64 (map s site.arguments) values (values_map s vs site.arguments) vx (as_entry x)

  -- where no pair is given, values that meet the rows are those of a call
  module _ (none : pair ≡ None) (called values : List ℤ) (vc : AreAllValues called) (vx : AreAllValues values)
      (many : length called ≡ length site.arguments) (h : HoldsAll (valuation_of called values) rows) where
    v_bits : Is64 (λ x. valuation_of called values (as_entry x))
    v_bits x = values_64 called values vc vx (as_entry x)

    v_meets : HoldsAll (λ x. valuation_of called values (as_entry x)) answer.left
    v_meets = hold-renaming (valuation_of called values) as_entry answer.left (subst (HoldsAll (valuation_of called values)) answer.made h)

    found : (w : Valuation) × Is64 w × ((x : ℕ) → (Contains (caller_columns (call_rows exit site source target)) x → ⊥) →
        w x ≡ valuation_of called values (as_entry x)) × HoldsAll w (call_rows exit site source target)
    found = projections-lose-none (caller_columns (call_rows exit site source target)) (call_rows exit site source target)
        answer.left fits (answer.was ∙ ap (gives answer.left) none) (λ x. valuation_of called values (as_entry x)) v_bits v_meets

    high : (x : ℕ) → first_exit ≤ x → found.0 x ≡ valuation_of called values (as_entry x)
    high x k = found.2 x (λ c. let m = filter-among (λ y. nat_lt y first_exit)
        (named_columns (rows_of (call_rows exit site source target)))
        x (contains-among (caller_columns (call_rows exit site source target)) x c) in omega (arith, k, ltb-true x first_exit m.1))

    out : (i : ℕ) → i < first_entry → found.0 (first_exit + i) ≡ value_at values i
    out i k = high (first_exit + i) (omega arith) ∙ exit_value called values i k

    abbrev state : State
    state x = found.0 (renamed_column (argument_columns 0 site.arguments) x)

    split : HoldsAll found.0 (rows_of_sums (row_sums (renaming (renamed_column (argument_columns 0 site.arguments))) source))
        × HoldsAll found.0
        (rows_of_sums (row_sums (renaming (λ x. renamed_column (argument_columns 0 site.arguments) (exit_column exit site.results x)))
        target
        ++ place_sums (argument_columns 0 site.arguments) 0 site.arguments))
    split = sums-split found.0 (row_sums (renaming (renamed_column (argument_columns 0 site.arguments))) source)
        (row_sums (renaming (λ x. renamed_column (argument_columns 0 site.arguments) (exit_column exit site.results x))) target
        ++ place_sums (argument_columns 0 site.arguments) 0 site.arguments) found.3

    behind : HoldsAll found.0
        (rows_of_sums (row_sums (renaming (λ x. renamed_column (argument_columns 0 site.arguments) (exit_column exit site.results x)))
        target))
        × HoldsAll found.0 (rows_of_sums (place_sums (argument_columns 0 site.arguments) 0 site.arguments))
    behind = sums-split found.0
        (row_sums (renaming (λ x. renamed_column (argument_columns 0 site.arguments) (exit_column exit site.results x)))
        target)
        (place_sums (argument_columns 0 site.arguments) 0 site.arguments) split.1

    passed : (j a : ℕ) → slice_get site.arguments j ≡ Some a → state a ≡ value_at called j
    passed j a e =
        let n : 0 + j ≡ j = omega arith in
        let within = slice_get_within site.arguments j a e in
        let small : j < first_entry = omega (arith, within, f.few) in
        sym (places_out found.0 (argument_columns 0 site.arguments) 0 site.arguments behind.1 j a e)
        ∙ ap (λ o. found.0 (first_argument + o))
        n
        ∙ high (first_argument + j) (omega arith) ∙ argument_value called values j small

    -- the entry values, listed to this number
    module _ (count : ℕ) (all : count ≡ first_entry) where
      abbrev entry : List ℤ
      entry = listed count (λ i. found.0 (first_entry + i))

      low : (x : ℕ) → x < first_exit → found.0 (renamed_column (argument_columns 0 site.arguments) x) ≡ columns_of state
          (listed count (λ i. found.0 (first_entry + i))) [] x
      low x k = by_test (nat_lt x first_entry) refl where
        by_test : (b : Bool) → nat_lt x first_entry ≡ b → found.0 (renamed_column (argument_columns 0 site.arguments) x) ≡ columns_of state
            (listed count (λ i. found.0 (first_entry + i))) [] x
        by_test true e = sym (slot_at state (listed count (λ i. found.0 (first_entry + i))) [] x e)
        by_test false e =
            let great : first_entry ≤ x = ltb-false x first_entry e in
            let n : x ≡ first_entry + (x - first_entry) = omega (arith, great) in
            ap found.0 (fixed_at 0 site.arguments f.are_slots x great ∙ n)
            ∙ sym (listed_at count (λ i. found.0 (first_entry + i)) (x - first_entry)
            (omega (arith, all, great, k))) ∙ sym (entry_column state (listed count (λ i. found.0 (first_entry + i))) [] x great k)

      is_called : IsCalled exit site source target called values
      is_called = record {
        state = state;
        entry = entry;
        are_values = λ x. value_of_64 (state x) (found.1 (renamed_column (argument_columns 0 site.arguments) x));
        entry_values = listed_values count (λ i. found.0 (first_entry + i)) (λ i. value_of_64 (found.0 (first_entry + i))
            (found.1 (first_entry + i)));
        passes = same_map state site.arguments called many passed;
        from = source_out site source target f state entry values found.0 low out split.0;
        into = target_out site source target f state entry values found.0 low out exit behind.0;
      }

  pub asked_exact : pair ≡ None → HoldsNoOtherCall exit site source target rows
  asked_exact none called values vc vx many h = is_called none called values vc vx many h first_entry refl

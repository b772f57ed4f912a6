-- A must leads into the target from the states that its preimage holds of, and from no others where it is exact.
use Rattle.std.proofs.Common.{◌≡◌, ℕ, zero, suc, ◌<◌, List, [], ◌∷◌, ◌++◌, length, drop, map, Option, None, Some, Bool, true, false, not, ◌||◌, ◌&&◌, ◌==◌, nat_lt, nat_le, ℤ, pos, negsuc, ◌+ℤ◌, arith, refl, sym, subst, ap, ◌∙◌}
use Rattle.std.specs.Prelude.{slice_get, IsTrue, Contains, if◌then◌else◌}
use Rattle.std.specs.List.{list_all}
use Rattle.std.proofs.lemmas.Int.{ints}
use borrow.Author.Tests.{eqb-true, eq-eqb, ne_eqb, lt-ltb, le-ltb, leb-true}
use Rattle.c_tree.specs.Meaning.{State, with_slot}
use Rattle.flow_graph.specs.Calls.{CallSite}
use Rattle.flow_graph.specs.Runs.{with_slots}
use Rattle.linear_formula.specs.LinearSum.{LinearSum, Valuation, Is64, is64, is_zero, value_of, value_of_parts}
use Rattle.linear_formula.specs.Results.{renamed_column}
use Rattle.linear_formula.specs.Replaced.{column_sum, replaced_valuation}
use Rattle.linear_formula.specs.Formula.{HoldsAll, is_renamed}
use Rattle.linear_formula.specs.declared.formula.Atom.{Atom}
use Rattle.linear_formula.proofs.Replacing.{value-column}
use Rattle.linear_formula.proofs.Order.{zero_is}
use Rattle.linear_formula.proofs.Limits.{both}
use Rattle.infeasible_cert.specs.Right.{columns_of as named_columns, rows_of}
use Rattle.shadow_elim.specs.Sums.{row_sums, rows_of_sums, equal_sums}
use Rattle.shadow_elim.specs.Projection.{gives}
use Rattle.shadow_elim.specs.ProjectionLaws.{FitsProjection, Pair}
use Rattle.shadow_elim.proofs.Projecting.{projections-keep, projections-lose-none, projections-terms}
use Rattle.shadow_elim.proofs.Summing.{holds-same, sums-hold, hold-sums, renaming-hold, hold-renaming, sums-append, sums-split, equal-hold, hold-equal}
use Rattle.shadow_elim.proofs.Members.{contains-among, filter-among}
use Rattle.flow_graph.specs.Columns.{columns_of, value_at, first_entry, first_exit, first_symbol, names_only, rows_name_only, AreValues, AreAllValues}
use Rattle.flow_graph.specs.Readings.{term_at, results_reading}
use Rattle.flow_graph.proofs.Numbers.{columns_64, none_values}
use Rattle.summary_form.specs.declared.path.Path.{Path}
use Rattle.summary_form.specs.declared.query.ExitKind.{ExitKind}
use Rattle.summary_form.specs.declared.query.ExitKind.TheVariants as kind
use Rattle.summary_form.specs.Musts.{values_of}
use Rattle.summary_form.specs.Symbols.{all_name_only, is_symbol_column}
use Rattle.call_bridge.specs.Calls.{LiesBehind, inner_column}
use Rattle.call_bridge.specs.Laws.{IsRegion}
use Rattle.call_bridge.specs.Musts.{is_one, single_of, single, is_new, with_symbol, replacing, other_sums, exit_reading, must_sums, plain_rows, must_rows, symbol_columns, must_preimage, FitsMust, Leads, HoldsMust, HoldsNoOtherMust}
use Rattle.call_bridge.proofs.Agreeing.{Agree, parts_agree, holds_agree, agree_back, holds_append, holds_split, slot_at}
use Rattle.call_bridge.proofs.Leaving.{kind_fits}
use Rattle.call_bridge.proofs.MustNames.{symbol_high, IsPreimageAnswer, must_answer, MustNames, must_rows_terms, preimage_names}
use Rattle.call_bridge.proofs.Queries.{inner_low, slot_inner}

-- Terms
terms_agree : (allowed : ℕ → Bool) (v w : Valuation) (ts : List LinearSum) → Agree allowed v w → IsTrue (all_name_only allowed ts) →
    values_of v ts ≡ values_of w ts
terms_agree allowed v w [] a n = refl
terms_agree allowed v w (t ∷ ts) a n =
    let ns = both (names_only allowed t) (all_name_only allowed ts) n in
    let here : value_of v t ≡ value_of w t = ap (λ z. z +ℤ t.constant) (parts_agree allowed v w t.parts a ns.0) in
    ap (λ z. z ∷ values_of v ts) here ∙ ap (λ zs. value_of w t ∷ zs) (terms_agree allowed v w ts a ns.1)

term_value : (v : Valuation) (ts : List LinearSum) (i : ℕ) → value_of v (term_at ts i) ≡ value_at (values_of v ts) i
term_value v [] i = refl
term_value v (t ∷ ts) zero = refl
term_value v (t ∷ ts) (suc i) = term_value v ts i

others_value : (v : Valuation) (ts : List LinearSum) → values_of v (drop 1 ts) ≡ drop 1 (values_of v ts)
others_value v [] = refl
others_value v (t ∷ ts) = refl

-- a column alone
one_is : (z : ℤ) → is_one z ≡ true → z ≡ pos 1
one_is (pos zero) e = absurd cc
one_is (pos (suc zero)) e = refl
one_is (pos (suc (suc n))) e = absurd cc
one_is (negsuc n) e = absurd cc

some_same : (x y : ℕ) → Some x ≡ Some y → x ≡ y
some_same x y e = cc

single_value : (v : Valuation) (y : ℕ) (ps : List (ℕ × ℤ)) (c : ℤ) → single_of ps c ≡ Some y → (value_of_parts v ps +ℤ c) ≡ v y
single_value v y [] c e = absurd cc
single_value v y (p ∷ []) c e = by_test (is_one p.1 && is_zero c) refl e where
  by_test : (b : Bool) → (is_one p.1 && is_zero c) ≡ b → (if b then Some p.0 else None) ≡ Some y → (value_of_parts v (p ∷ []) +ℤ c) ≡ v y
  by_test true f k =
      let hs = both (is_one p.1) (is_zero c) f in
      let a : p.1 ≡ pos 1 = one_is p.1 hs.0 in
      let b : c ≡ pos 0 = zero_is c hs.1 in
      let d : (value_of_parts v (p ∷ []) +ℤ c) ≡ v p.0 = rw (a, b) (omega (arith, ints)) in
      d ∙ ap v (some_same p.0 y k)
  by_test false f k = absurd cc
single_value v y (p ∷ q ∷ ps) c e = absurd cc

-- Symbols by slots

-- each pair's columns have the same value
abbrev Pairs : Valuation → List (ℕ × ℕ) → Type 0
Pairs v [] = Unit {0}
Pairs v (p ∷ ps) = (v p.1 ≡ v p.0) × Pairs v ps

pairs_append : (v : Valuation) (ps qs : List (ℕ × ℕ)) → Pairs v ps → Pairs v qs → Pairs v (ps ++ qs)
pairs_append v [] qs h k = k
pairs_append v (p ∷ ps) qs h k = (h.0, pairs_append v ps qs h.1 k)

pairs_same : (v : Valuation) (ps : List (ℕ × ℕ)) → Pairs v ps → (y : ℕ) → v (renamed_column ps y) ≡ v y
pairs_same v [] h y = refl
pairs_same v (p ∷ ps) h y = by_test (y == p.0) refl (pairs_same v ps h.1 y) where
  by_test : (b : Bool) → (y == p.0) ≡ b → v (renamed_column ps y) ≡ v y → v (if b then p.1 else renamed_column ps y) ≡ v y
  by_test true e k = h.0 ∙ ap v (sym (eqb-true y p.0 e))
  by_test false e k = k

-- each entry term has the value of its argument
abbrev Matches : Valuation → List ℕ → List LinearSum → Type 0
Matches v [] terms = Unit {0}
Matches v (x ∷ args) [] = Unit {0}
Matches v (x ∷ args) (t ∷ terms) = (value_of v t ≡ v x) × Matches v args terms

with_pairs : (v : Valuation) (done : List (ℕ × ℕ)) (o : Option ℕ) (x : ℕ) → ((y : ℕ) → o ≡ Some y → v x ≡ v y) → Pairs v done →
    Pairs v (with_symbol done o x)
with_pairs v done None x h k = k
with_pairs v done (Some y) x h k = by_test (is_renamed y done) where
  by_test : (b : Bool) → Pairs v (if b then done else (done ++ (y, x) ∷ []))
  by_test true = k
  by_test false = pairs_append v done ((y, x) ∷ []) k (h y refl, tt)

replacing_pairs : (v : Valuation) (done : List (ℕ × ℕ)) (args : List ℕ) (terms : List LinearSum) → Matches v args terms → Pairs v done →
    Pairs v (replacing done args terms)
replacing_pairs v done [] terms m k = k
replacing_pairs v done (x ∷ args) [] m k = k
replacing_pairs v done (x ∷ args) (t ∷ terms) m k =
    replacing_pairs v (with_symbol done (single t) x) args terms m.1
    (with_pairs v done (single t) x (λ y e. sym m.0 ∙ single_value v y t.parts t.constant e) k)

others_in : (v : Valuation) (done : List (ℕ × ℕ)) (args : List ℕ) (terms : List LinearSum) → Matches v args terms →
    HoldsAll v (rows_of_sums (other_sums done args terms))
others_in v done [] terms m = tt
others_in v done (x ∷ args) [] m = tt
others_in v done (x ∷ args) (t ∷ terms) m =
    sums-append v (if is_new done (single t) then [] else equal_sums (column_sum x) t) (other_sums (with_symbol done (single t) x) args
    terms)
    (by_test (is_new done (single t))) (others_in v (with_symbol done (single t) x) args terms m.1)
  where
    by_test : (b : Bool) → HoldsAll v (rows_of_sums (if b then [] else equal_sums (column_sum x) t))
    by_test true = tt
    by_test false = equal-hold v (column_sum x) t (value-column v x ∙ sym m.0)

-- What is renamed stays renamed

old_column : (y : ℕ) (ps qs : List (ℕ × ℕ)) → IsTrue (is_renamed y ps) → renamed_column (ps ++ qs) y ≡ renamed_column ps y
old_column y [] qs h = absurd cc
old_column y (p ∷ ps) qs h = by_test (y == p.0) h (λ k. old_column y ps qs k) where
  by_test : (b : Bool) → IsTrue (b || is_renamed y ps) → (IsTrue (is_renamed y ps) → renamed_column (ps ++ qs) y ≡ renamed_column ps y) →
      (if b then p.1 else renamed_column (ps ++ qs) y) ≡ (if b then p.1 else renamed_column ps y)
  by_test true k rest = refl
  by_test false k rest = rest k

old_renamed : (y : ℕ) (ps qs : List (ℕ × ℕ)) → IsTrue (is_renamed y ps) → IsTrue (is_renamed y (ps ++ qs))
old_renamed y [] qs h = absurd cc
old_renamed y (p ∷ ps) qs h = by_test (y == p.0) h (λ k. old_renamed y ps qs k) where
  by_test : (b : Bool) → IsTrue (b || is_renamed y ps) → (IsTrue (is_renamed y ps) → IsTrue (is_renamed y (ps ++ qs))) →
      IsTrue (b || is_renamed y (ps ++ qs))
  by_test true k rest = refl
  by_test false k rest = rest k

new_column : (y x : ℕ) (ps : List (ℕ × ℕ)) → is_renamed y ps ≡ false → (renamed_column (ps ++ (y, x) ∷ []) y ≡ x)
    × IsTrue (is_renamed y (ps ++ (y, x) ∷ []))
new_column y x [] h = let e : (y == y) ≡ true = eq-eqb y y refl in (rw e refl, rw e refl)
new_column y x (p ∷ ps) h = by_test (y == p.0) h (λ k. new_column y x ps k) where
  by_test : (b : Bool) → (b || is_renamed y ps) ≡ false → (is_renamed y ps ≡ false → (renamed_column (ps ++ (y, x) ∷ []) y ≡ x)
      × IsTrue (is_renamed y (ps ++ (y, x) ∷ []))) → ((if b then p.1 else renamed_column (ps ++ (y, x) ∷ []) y) ≡ x)
      × IsTrue (b || is_renamed y (ps ++ (y, x) ∷ []))
  by_test true k rest = absurd cc
  by_test false k rest = rest k

with_old : (y : ℕ) (done : List (ℕ × ℕ)) (o : Option ℕ) (x : ℕ) → IsTrue (is_renamed y done) →
    (renamed_column (with_symbol done o x) y ≡ renamed_column done y) × IsTrue (is_renamed y (with_symbol done o x))
with_old y done None x h = (refl, h)
with_old y done (Some z) x h = by_test (is_renamed z done) where
  by_test : (b : Bool) → (renamed_column (if b then done else (done ++ (z, x) ∷ [])) y ≡ renamed_column done y)
      × IsTrue (is_renamed y (if b then done else (done ++ (z, x) ∷ [])))
  by_test true = (refl, h)
  by_test false = (old_column y done ((z, x) ∷ []) h, old_renamed y done ((z, x) ∷ []) h)

replacing_old : (y : ℕ) (done : List (ℕ × ℕ)) (args : List ℕ) (terms : List LinearSum) → IsTrue (is_renamed y done) →
    renamed_column (replacing done args terms) y ≡ renamed_column done y
replacing_old y done [] terms h = refl
replacing_old y done (x ∷ args) [] h = refl
replacing_old y done (x ∷ args) (t ∷ terms) h =
    let w = with_old y done (single t) x h in
    replacing_old y (with_symbol done (single t) x) args terms w.1 ∙ w.0

with_new : (y x : ℕ) (done : List (ℕ × ℕ)) (o : Option ℕ) → o ≡ Some y → IsTrue (is_new done o) →
    (renamed_column (with_symbol done o x) y ≡ x)
    × IsTrue (is_renamed y (with_symbol done o x))
with_new y x done None e h = absurd cc
with_new y x done (Some z) e h =
    by_test (is_renamed z done) refl h
  where
    by_test : (b : Bool) → is_renamed z done ≡ b → IsTrue (not b) → (renamed_column (if b then done else (done ++ (z, x) ∷ [])) y ≡ x)
        × IsTrue (is_renamed y (if b then done else (done ++ (z, x) ∷ [])))
    by_test true f k = absurd cc
    by_test false f k = subst (λ u. (renamed_column (done ++ (z, x) ∷ []) u ≡ x) × IsTrue (is_renamed u (done ++ (z, x) ∷ [])))
        (some_same z y e) (new_column z x done f)

new_some : (done : List (ℕ × ℕ)) (o : Option ℕ) → IsTrue (is_new done o) → (y : ℕ) × (o ≡ Some y)
new_some done None h = absurd cc
new_some done (Some y) h = (y, refl)

-- The other way: the rows say that each entry term has the value of its argument

module _ (w : Valuation) (all : List (ℕ × ℕ)) where
  abbrev through : Valuation
  through y = w (renamed_column all y)

  matches_out : (done : List (ℕ × ℕ)) (args : List ℕ) (terms : List LinearSum) → all ≡ replacing done args terms →
      ((j a : ℕ) → slice_get args j ≡ Some a → w (renamed_column all a) ≡ w a) → HoldsAll (λ y. w (renamed_column all y))
      (rows_of_sums (other_sums done args terms)) → Matches (λ y. w (renamed_column all y)) args terms
  matches_out done [] terms e low h = tt
  matches_out done (x ∷ args) [] e low h = tt
  matches_out done (x ∷ args) (t ∷ terms) e low h = (
    by_test (is_new done (single t)) refl apart.0,
    matches_out (with_symbol done (single t) x) args terms e (λ j a f. low (suc j) a f)
        apart.1,
  )
    where
      apart : HoldsAll (λ y. w (renamed_column all y)) (rows_of_sums (if is_new done (single t) then [] else equal_sums (column_sum x) t))
          × HoldsAll (λ y. w (renamed_column all y)) (rows_of_sums (other_sums (with_symbol done (single t) x) args terms))
      apart = sums-split (λ y. w (renamed_column all y)) (if is_new done (single t) then [] else equal_sums (column_sum x) t)
          (other_sums (with_symbol done (single t) x) args terms) h

      by_test : (b : Bool) → is_new done (single t) ≡ b → HoldsAll (λ y. w (renamed_column all y))
          (rows_of_sums (if b then [] else equal_sums (column_sum x) t)) → value_of (λ y. w (renamed_column all y)) t
          ≡ w (renamed_column all x)
      by_test true f k =
          let n = new_some done (single t) f in
          let c = with_new n.0 x done (single t) n.1 f in
          let r : renamed_column all n.0 ≡ x = ap (λ ps. renamed_column ps n.0) e ∙ replacing_old n.0 (with_symbol done (single t) x) args
          terms c.1 ∙ c.0 in
          single_value (λ y. w (renamed_column all y)) n.0 t.parts t.constant n.1 ∙ ap w r ∙ sym (low 0 x refl)
      by_test false f k = sym (hold-equal (λ y. w (renamed_column all y)) (column_sum x) t k) ∙ value-column (λ y. w (renamed_column all y))
          x

-- what is matched, as lists
matches_in : (v u : Valuation) (s : State) (args : List ℕ) (terms : List LinearSum) → values_of u terms ≡ map s args → values_of v terms
    ≡ values_of u terms → ((j a : ℕ) → slice_get args j ≡ Some a → v a ≡ s a) → Matches v args terms
matches_in v u s [] terms e f low = tt
matches_in v u s (x ∷ args) [] e f low = tt
matches_in v u s (x ∷ args) (t ∷ terms) e f low =
    let a : value_of u t ≡ s x = cc in
    let b : values_of u terms ≡ map s args = cc in
    let c : value_of v t ≡ value_of u t = cc in
    let d : values_of v terms ≡ values_of u terms = cc in
    (c ∙ a ∙ sym (low 0 x refl), matches_in v u s args terms b d (λ j y g. low (suc j) y g))

matches_list : (v : Valuation) (s : State) (args : List ℕ) (terms : List LinearSum) → length terms ≡ length args →
    ((j a : ℕ) → slice_get args j ≡ Some a → v a ≡ s a) → Matches v args terms → values_of v terms ≡ map s args
matches_list v s [] [] e low m = refl
matches_list v s [] (t ∷ terms) e low m = absurd (omega (arith, e))
matches_list v s (x ∷ args) [] e low m = absurd (omega (arith, e))
matches_list v s (x ∷ args) (t ∷ terms) e low m =
    ap (λ z. z ∷ values_of v terms) (m.0 ∙ low 0 x refl) ∙ ap (λ zs. s x ∷ zs) (matches_list v s args terms (omega (arith, e))
    (λ j a f. low (suc j) a f) m.1)

-- no column below the symbols is renamed
fixed_column : (x : ℕ) (ps : List (ℕ × ℕ)) → is_renamed x ps ≡ false → renamed_column ps x ≡ x
fixed_column x [] h = refl
fixed_column x (p ∷ ps) h = by_test (x == p.0) h (λ k. fixed_column x ps k) where
  by_test : (b : Bool) → (b || is_renamed x ps) ≡ false → (is_renamed x ps ≡ false → renamed_column ps x ≡ x) →
      (if b then p.1 else renamed_column ps x) ≡ x
  by_test true k rest = absurd cc
  by_test false k rest = rest k

not_appended : (x y z : ℕ) (ps : List (ℕ × ℕ)) → (x == y) ≡ false → is_renamed x ps ≡ false → is_renamed x (ps ++ (y, z) ∷ []) ≡ false
not_appended x y z [] e h = rw e refl
not_appended x y z (p ∷ ps) e h = by_test (x == p.0) h (λ k. not_appended x y z ps e k) where
  by_test : (b : Bool) → (b || is_renamed x ps) ≡ false → (is_renamed x ps ≡ false → is_renamed x (ps ++ (y, z) ∷ []) ≡ false) →
      (b || is_renamed x (ps ++ (y, z) ∷ [])) ≡ false
  by_test true k rest = absurd cc
  by_test false k rest = rest k

-- the column of a single term is one that the term names
single_names : (allowed : ℕ → Bool) (y : ℕ) (ps : List (ℕ × ℤ)) (c : ℤ) → single_of ps c ≡ Some y →
    IsTrue (list_all (λ p. allowed p.0) ps) →
    IsTrue (allowed y)
single_names allowed y [] c e n = absurd cc
single_names allowed y (p ∷ []) c e n = by_test (is_one p.1 && is_zero c) e where
  by_test : (b : Bool) → (if b then Some p.0 else None) ≡ Some y → IsTrue (allowed y)
  by_test true k = subst (λ z. IsTrue (allowed z)) (some_same p.0 y k) (both (allowed p.0) true n).0
  by_test false k = absurd cc
single_names allowed y (p ∷ q ∷ ps) c e n = absurd cc

with_high : (x : ℕ) (done : List (ℕ × ℕ)) (o : Option ℕ) (z : ℕ) → ((y : ℕ) → o ≡ Some y → (x == y) ≡ false) → is_renamed x done ≡ false →
    is_renamed x (with_symbol done o z) ≡ false
with_high x done None z h k = k
with_high x done (Some y) z h k = by_test (is_renamed y done) where
  by_test : (b : Bool) → is_renamed x (if b then done else (done ++ (y, z) ∷ [])) ≡ false
  by_test true = k
  by_test false = not_appended x y z done (h y refl) k

replacing_high : (x : ℕ) → x < first_symbol → (symbols : ℕ) (done : List (ℕ × ℕ)) (args : List ℕ) (terms : List LinearSum) →
    IsTrue (all_name_only (is_symbol_column symbols) terms) → is_renamed x done ≡ false → is_renamed x (replacing done args terms) ≡ false
replacing_high x low symbols done [] terms n h = h
replacing_high x low symbols done (z ∷ args) [] n h = h
replacing_high x low symbols done (z ∷ args) (t ∷ terms) n h =
    let ns = both (names_only (is_symbol_column symbols) t) (all_name_only (is_symbol_column symbols) terms) n in
    replacing_high x low symbols (with_symbol done (single t) z) args terms ns.1
    (with_high x done (single t) z (λ y e. let k = symbol_high symbols y (single_names (is_symbol_column symbols) y t.parts t.constant e
    ns.0)
    in ne_eqb x y (λ q. omega (arith, q, low, k))) h)

-- The target after the call, at a valuation that reads the caller's columns as they are

module _ (results : List ℕ) (results_low : (j a : ℕ) → slice_get results j ≡ Some a → a < first_entry) (target : List Atom)
    (named : IsTrue (rows_name_only inner_column target))
    (outcome : List LinearSum) (values : List ℤ) (s : State) (entry : List ℤ) (v : Valuation) (low : (x : ℕ) → x < first_exit →
    v x ≡ columns_of s entry [] x) (out : values_of v outcome ≡ values) where
  -- each result's slot has the value of its term
  results_agree : (some : List ℕ) (terms : List LinearSum) → ((j a : ℕ) → slice_get some j ≡ Some a → a < first_entry) → (x : ℕ) →
      IsTrue (inner_column x) →
      value_of v (results_reading some terms x) ≡ columns_of (with_slots s some (values_of v terms)) entry [] x
  results_agree [] terms lows x k = value-column v x ∙ low x (inner_low x k)
  results_agree (y ∷ ys) terms lows x k =
      by_test (x == y) refl
      (results_agree ys (drop 1 terms) (λ j a e. lows (suc j) a e) x k
      ∙ ap (λ vs. columns_of (with_slots s ys vs) entry [] x) (others_value v terms))
    where
      by_test : (b : Bool) → (x == y) ≡ b → value_of v (results_reading ys (drop 1 terms) x)
          ≡ columns_of (with_slots s ys (drop 1 (values_of v terms))) entry [] x →
          value_of v (if b then term_at terms 0 else results_reading ys (drop 1 terms) x)
          ≡ columns_of (with_slot (with_slots s ys (drop 1 (values_of v terms))) y (value_at (values_of v terms) 0)) entry [] x
      by_test true e rest =
          let t = with_slots s ys (drop 1 (values_of v terms)) in
          let z = value_at (values_of v terms) 0 in
          let small : nat_lt x first_entry ≡ true = lt-ltb x first_entry
          (subst (λ o. o < first_entry) (sym (eqb-true x y e)) (lows 0 y refl)) in
          let here : with_slot t y z x ≡ z = rw e refl in
          term_value v terms 0 ∙ sym (slot_at (with_slot t y z) entry [] x small ∙ here)
      by_test false e rest = rest ∙ sym (changed (nat_lt x first_entry) refl) where
        changed : (b : Bool) → nat_lt x first_entry ≡ b →
            columns_of (with_slot (with_slots s ys (drop 1 (values_of v terms))) y (value_at (values_of v terms) 0)) entry [] x
            ≡ columns_of (with_slots s ys (drop 1 (values_of v terms))) entry [] x
        changed true g = slot_at (with_slot (with_slots s ys (drop 1 (values_of v terms))) y (value_at (values_of v terms) 0)) entry [] x g
            ∙ rw e refl ∙ sym (slot_at (with_slots s ys (drop 1 (values_of v terms))) entry [] x g)
        changed false g = rw g refl

  return_agrees : (x : ℕ) → IsTrue (inner_column x) → value_of v (results_reading results outcome x)
      ≡ columns_of (with_slots s results values) entry [] x
  return_agrees x k = results_agree results outcome results_low x k ∙ ap (λ vs. columns_of (with_slots s results vs) entry [] x) out

  fail_agrees : (x : ℕ) → IsTrue (inner_column x) → value_of v (column_sum x) ≡ columns_of s entry [] x
  fail_agrees x k = value-column v x ∙ low x (inner_low x k)

  target_in : (exit : ExitKind) → LiesBehind exit results s entry values target →
      HoldsAll v (rows_of_sums (row_sums (exit_reading exit results outcome) target))
  target_in kind.Return h = sums-hold v (results_reading results outcome) target
      (holds_agree inner_column (columns_of (with_slots s results values) entry [])
      (replaced_valuation (results_reading results outcome) v) target
      (agree_back inner_column (replaced_valuation (results_reading results outcome) v)
      (columns_of (with_slots s results values) entry []) return_agrees) named h)
  target_in (kind.Fail id) h = sums-hold v column_sum target (holds_agree inner_column (columns_of s entry [])
      (replaced_valuation column_sum v) target (agree_back inner_column (replaced_valuation column_sum v) (columns_of s entry [])
      fail_agrees)
      named h)

  target_out : (exit : ExitKind) → HoldsAll v (rows_of_sums (row_sums (exit_reading exit results outcome) target)) →
      LiesBehind exit results s entry values target
  target_out kind.Return h = holds_agree inner_column (replaced_valuation (results_reading results outcome) v)
      (columns_of (with_slots s results values) entry []) target return_agrees named
      (hold-sums v (results_reading results outcome) target h)
  target_out (kind.Fail id) h = holds_agree inner_column (replaced_valuation column_sum v) (columns_of s entry []) target fail_agrees named
      (hold-sums v column_sum target h)

-- The laws

module _ (must : Path) (site : CallSite) (target : List Atom) (f : FitsMust must site target) (rows : List Atom)
    (pair : Pair)
    (is : must_preimage must site target ≡ gives rows pair) where
  answer : IsPreimageAnswer must site target rows pair
  answer = must_answer must site target rows pair is

  named : MustNames inner_column must site.arguments target
  named = record {
    args_allowed = λ j a e. slot_inner a (f.behind.are_slots j a e);
    target_allowed = f.behind.names;
    numbers = f.numbers;
  }

  fits : FitsProjection (symbol_columns (must_rows must site target)) (must_rows must site target)
  fits = kind_fits (λ x. nat_le first_symbol x) (must_rows must site target)
      (must_rows_terms inner_column (λ x h. h) must site target named answer.decided)

  -- the rows are terms that name slots and entry values alone
  pub must_region : IsRegion rows
  must_region = record {
    names = preimage_names inner_column (λ x h. h) must site target rows pair named is;
    terms = projections-terms (symbol_columns (must_rows must site target)) (must_rows must site target) rows pair fits
        answer.was;
  }

  -- the caller's columns, and the must's symbols
  module _ (s : State) (entry : List ℤ) (vs : AreValues s) (ve : AreAllValues entry) (l : Leads must site target s entry) where
    abbrev v : Valuation
    v x = if nat_lt x first_symbol then columns_of s entry [] x else l.symbols x

    v_low : (x : ℕ) → x < first_symbol → v x ≡ columns_of s entry [] x
    v_low x h = rw (lt-ltb x first_symbol h) refl

    v_high : (x : ℕ) → IsTrue (is_symbol_column must.symbols x) → l.symbols x ≡ v x
    v_high x h = rw (le-ltb x first_symbol (symbol_high must.symbols x h)) refl

    v_slots : (j a : ℕ) → slice_get site.arguments j ≡ Some a → v a ≡ s a
    v_slots j a e =
        let small = f.behind.are_slots j a e in
        v_low a (omega (arith, small)) ∙ slot_at s entry [] a (lt-ltb a first_entry small)

    v_bits : Is64 v
    v_bits x = by_test (nat_lt x first_symbol) where
      by_test : (b : Bool) → IsTrue (is64 (if b then columns_of s entry [] x else l.symbols x))
      by_test true = columns_64 s entry [] vs ve none_values x
      by_test false = l.bits x

    matched : Matches v site.arguments must.entry
    matched = matches_in v l.symbols s site.arguments must.entry l.passes
        (sym (terms_agree (is_symbol_column must.symbols) l.symbols v must.entry v_high must.well_formed.entry_names)) v_slots

    plain : HoldsAll v (plain_rows must site target)
    plain =
        holds_append v must.guard.atoms (rows_of_sums (must_sums must site target))
        (holds_agree (is_symbol_column must.symbols) l.symbols v must.guard.atoms v_high must.well_formed.guard_names l.guard)
        (sums-append v (other_sums [] site.arguments must.entry) (row_sums (exit_reading must.exit site.results must.outcome) target)
        (others_in v [] site.arguments must.entry matched) (target_in site.results f.behind.results_low target f.behind.names must.outcome
        (values_of l.symbols must.outcome) s entry v (λ x h. v_low x (omega (arith, h)))
        (sym (terms_agree (is_symbol_column must.symbols) l.symbols v must.outcome v_high must.well_formed.outcome_names)) must.exit
        l.into))

    all_hold : HoldsAll v (must_rows must site target)
    all_hold =
        renaming-hold v (renamed_column (replacing [] site.arguments must.entry)) (plain_rows must site target)
        (holds-same v (λ x. v (renamed_column (replacing [] site.arguments must.entry) x)) (plain_rows must site target)
        (λ x. sym (pairs_same v (replacing [] site.arguments must.entry) (replacing_pairs v [] site.arguments must.entry matched tt) x))
        plain)

    held : HoldsAll (columns_of s entry []) rows
    held =
        holds_agree inner_column v (columns_of s entry []) rows (λ x h. let low = inner_low x h in v_low x (omega (arith, low)))
        must_region.names (projections-keep (symbol_columns (must_rows must site target)) (must_rows must site target) rows
        pair
        answer.was v v_bits all_hold)

  -- the preimage holds of every state from which the must leads into the target
  pub must_holds : HoldsMust must site target rows
  must_holds s entry vs ve l = held s entry vs ve l

  -- where no pair is given, the must leads into the target from every state of the preimage
  module _ (none : pair ≡ None) (s : State) (entry : List ℤ) (vs : AreValues s) (ve : AreAllValues entry)
      (h : HoldsAll (columns_of s entry []) rows) where
    found : (w : Valuation) × Is64 w × ((x : ℕ) → (Contains (symbol_columns (must_rows must site target)) x → ⊥) →
        w x ≡ columns_of s entry [] x) × HoldsAll w (must_rows must site target)
    found = projections-lose-none (symbol_columns (must_rows must site target)) (must_rows must site target) rows fits
        (answer.was ∙ ap (gives rows) none) (columns_of s entry []) (columns_64 s entry [] vs ve none_values) h

    low : (x : ℕ) → x < first_symbol → found.0 x ≡ columns_of s entry [] x
    low x k = found.2 x (λ c. let m = filter-among (λ y. nat_le first_symbol y)
        (named_columns (rows_of (must_rows must site target)))
        x (contains-among (symbol_columns (must_rows must site target)) x c) in omega (arith, k, leb-true first_symbol x m.1))

    abbrev u : Valuation
    u y = found.0 (renamed_column (replacing [] site.arguments must.entry) y)

    u_low : (x : ℕ) → x < first_symbol → found.0 (renamed_column (replacing [] site.arguments must.entry) x) ≡ found.0 x
    u_low x k = ap found.0 (fixed_column x (replacing [] site.arguments must.entry) (replacing_high x k must.symbols [] site.arguments
        must.entry
        must.well_formed.entry_names refl))

    split : HoldsAll u must.guard.atoms × HoldsAll u (rows_of_sums (must_sums must site target))
    split = holds_split u must.guard.atoms (rows_of_sums (must_sums must site target))
        (hold-renaming found.0 (renamed_column (replacing [] site.arguments must.entry)) (plain_rows must site target) found.3)

    behind : HoldsAll u (rows_of_sums (other_sums [] site.arguments must.entry))
        × HoldsAll u (rows_of_sums (row_sums (exit_reading must.exit site.results must.outcome) target))
    behind = sums-split u (other_sums [] site.arguments must.entry) (row_sums (exit_reading must.exit site.results must.outcome) target)
        split.1

    small_slot : (j a : ℕ) → slice_get site.arguments j ≡ Some a → a < first_symbol
    small_slot j a e = let k = f.behind.are_slots j a e in omega (arith, k)

    leads : Leads must site target s entry
    leads = record {
      symbols = u;
      bits = λ y. found.1 (renamed_column (replacing [] site.arguments must.entry) y);
      guard = split.0;
      passes = matches_list u s site.arguments must.entry f.behind.many (λ j a e. u_low a (small_slot j a e) ∙ low a (small_slot j a e)
          ∙ slot_at s entry []
          a (lt-ltb a first_entry (f.behind.are_slots j a e))) (matches_out found.0 (replacing [] site.arguments must.entry) []
          site.arguments must.entry refl
          (λ j a e. u_low a (small_slot j a e)) behind.0);
      into = target_out site.results f.behind.results_low target f.behind.names must.outcome (values_of u must.outcome) s entry u
          (λ x k. let n : x < first_symbol = omega (arith, k) in u_low x n ∙ low x n) refl must.exit behind.1;
    }

  pub must_exact : pair ≡ None → HoldsNoOtherMust must site target rows
  must_exact none s entry vs ve h = leads none s entry vs ve h

-- What a certificate of some rows refutes, the one of all rows does.
use Rattle.std.proofs.Common.{◌≡◌, ℕ, suc, zero, ◌<◌, ◌≤◌, ◌+◌, ◌-◌, Bool, true, false, List, [], ◌∷◌, ◌++◌, length, get_or, nat_lt, ℤ, pos, arith, refl, sym, ap, subst, ◌∙◌}
use Rattle.std.specs.Prelude.{◌+ℤ◌, ◌*ℤ◌, max}
use Rattle.std.proofs.lemmas.List.{length-append, length-map, get_or_append_left, get_or-append_right}
use Rattle.std.proofs.lemmas.Option.{slice_get_within, get_or_from_slice_get}
use borrow.Author.Tests.{ltb-true, ltb-false}
use Rattle.linear_formula.specs.LinearSum.{LinearSum, coefficient}
use Rattle.linear_formula.specs.Results.{constant_sum, combination}
use Rattle.linear_formula.specs.Extremes.{AreExtremes, HaveNumbers}
use Rattle.linear_formula.specs.declared.formula.Atom.{Atom}
use Rattle.linear_formula.proofs.Values.{chosen_of_two}
use Rattle.infeasible_cert.specs.declared.certificate.Derived.{Derived}
use Rattle.infeasible_cert.specs.Refutation.{Refutation, close, branch}
use Rattle.infeasible_cert.specs.Right.{range_rows, columns_of, rows_of, base_rows, at_most, at_least, row_at, summands, AreMultiples, FitsAlong, IsRoundedUp, column_products, constant_products, IsRightStep, AreRightSteps, rows_after, EndsInContradiction, IsRight, nesting, max_nesting, Refutes}
use Rattle.infeasible_cert.specs.Terms.{AreDerivedTerms, HasTerms}
use Rattle.infeasible_cert.specs.steps.Renumbering.{number_among, renumbered_parts, renumbered_row, renumbered_rows, renumbered}
use Rattle.infeasible_cert.proofs.Alike.{columns_of_extremes}

-- Each row is among the others, by its moved number; what is added to both lists keeps its place.
pub record AreAmong (numbers : List ℕ) (count : ℕ) (ts us : List LinearSum) : Type 0 where
  pub beyond : length numbers ≤ length ts
  pub apart : length us + length numbers ≡ length ts + count
  pub within : (n : ℕ) → n < length ts → number_among numbers count n < length us
  pub same : (n : ℕ) → n < length ts → row_at us (number_among numbers count n) ≡ row_at ts n

-- Numbers

number_before : (numbers : List ℕ) (count n : ℕ) → n < length numbers → number_among numbers count n ≡ get_or numbers n 0
number_before numbers count n h =
    chosen_of_two (λ m. m ≡ get_or numbers n 0) (nat_lt n (length numbers)) (get_or numbers n 0) (n - length numbers + count) (λ _. refl)
    (λ e. absurd (omega (arith, h, ltb-false n (length numbers) e)))

number_behind : (numbers : List ℕ) (count n : ℕ) → length numbers ≤ n → number_among numbers count n ≡ n - length numbers + count
number_behind numbers count n h =
    chosen_of_two (λ m. m ≡ n - length numbers + count) (nat_lt n (length numbers)) (get_or numbers n 0) (n - length numbers + count)
    (λ e. absurd (omega (arith, h, ltb-true n (length numbers) e))) (λ _. refl)

numbered_length : (numbers : List ℕ) (rows all : List Atom) → HaveNumbers numbers rows all → length rows ≡ length numbers
numbered_length [] [] all a = refl
numbered_length [] (r ∷ rows) all a = absurd a
numbered_length (n ∷ ns) [] all a = absurd a
numbered_length (n ∷ ns) (r ∷ rows) all a = omega (arith, numbered_length ns rows all a.1)

row_of_atom : (atoms : List Atom) (k : ℕ) (e : Atom) → k < length atoms → row_at (rows_of atoms) k ≡ (get_or atoms k e).term
row_of_atom [] k e h = absurd (omega (arith, h))
row_of_atom (a ∷ atoms) zero e h = refl
row_of_atom (a ∷ atoms) (suc k) e h = row_of_atom atoms k e (omega (arith, h))

numbered_row : (numbers : List ℕ) (rows all : List Atom) (n : ℕ) → HaveNumbers numbers rows all → n < length numbers →
    (get_or numbers n 0 < length all) × (row_at (rows_of all) (get_or numbers n 0) ≡ row_at (rows_of rows) n)
numbered_row [] rows all n a h = absurd (omega (arith, h))
numbered_row (m ∷ ns) [] all n a h = absurd a
numbered_row (m ∷ ns) (r ∷ rows) all zero a h =
    let w = slice_get_within all m r a.0 in
    (w, row_of_atom all m r w ∙ ap (λ (b : Atom). b.term) (get_or_from_slice_get all m r r a.0))
numbered_row (m ∷ ns) (r ∷ rows) all (suc n) a h = numbered_row ns rows all n a.1 (omega (arith, h))

-- The two lists

pub among_append : (numbers : List ℕ) (count : ℕ) (ts us ws : List LinearSum) → AreAmong numbers count ts us → AreAmong numbers count
    (ts ++ ws) (us ++ ws)
among_append numbers count ts us ws a =
    let lt = length-append ts ws in
    let lu = length-append us ws in
    record {
      beyond = omega (arith, a.beyond, lt);
      apart = omega (arith, a.apart, lt, lu);
      within = λ n h. (at n h (nat_lt n (length ts)) refl).0;
      same = λ n h. (at n h (nat_lt n (length ts)) refl).1;
    } where
      at : (n : ℕ) → n < length (ts ++ ws) → (b : Bool) → nat_lt n (length ts) ≡ b →
          (number_among numbers count n < length (us ++ ws)) × (row_at (us ++ ws) (number_among numbers count n) ≡ row_at (ts ++ ws) n)
      at n h true e =
          let l = ltb-true n (length ts) e in
          let w = a.within n l in (
            omega (arith, w, length-append us ws),
            get_or_append_left us ws (constant_sum (pos 0)) (number_among numbers count n) w ∙ a.same n l
                ∙ sym (get_or_append_left ts ws (constant_sum (pos 0)) n l),
          )
      at n h false e =
          let l = ltb-false n (length ts) e in
          let m = number_behind numbers count n (omega (arith, l, a.beyond)) in
          let behind : length us ≤ number_among numbers count n = omega (arith, m, l, a.beyond, a.apart) in
          let back : number_among numbers count n - length us ≡ n - length ts = omega (arith, m, l, a.beyond, a.apart) in (
            omega (arith, h, m, l, a.beyond, a.apart, length-append ts ws, length-append us ws),
            get_or-append_right us ws (length us) (number_among numbers count n) (constant_sum (pos 0)) refl behind ∙ ap (row_at ws) back
                ∙ sym (get_or-append_right ts ws (length ts) n (constant_sum (pos 0)) refl l),
          )

among_rows : (numbers : List ℕ) (rows all : List Atom) (count : ℕ) → HaveNumbers numbers rows all → count ≡ length all → AreAmong numbers
    count (rows_of rows) (rows_of all)
among_rows numbers rows all count a c =
    let lr = numbered_length numbers rows all a in
    let lt = length-map rows (λ atom. atom.term) in
    let lu = length-map all (λ atom. atom.term) in
    record {
      beyond = omega (arith, lr, lt);
      apart = omega (arith, lr, lt, lu, c);
      within = λ n h.
          let k : n < length numbers = omega (arith, h, lr, lt) in
          omega (arith, number_before numbers count n k, (numbered_row numbers rows all n a k).0, lu);
      same = λ n h.
          let k : n < length numbers = omega (arith, h, lr, lt) in
          ap (row_at (rows_of all)) (number_before numbers count n k) ∙ (numbered_row numbers rows all n a k).1;
    }

-- Steps

multiples_among : (numbers : List ℕ) (count : ℕ) (ts us : List LinearSum) (ps : List (ℕ × ℤ)) → AreAmong numbers count ts us →
    AreMultiples ts ps → AreMultiples us (renumbered_parts numbers count ps)
multiples_among numbers count ts us [] a m = tt
multiples_among numbers count ts us (p ∷ ps) a m = (a.within p.0 m.0, m.1, multiples_among numbers count ts us ps a m.2)

-- the same rows with the same multipliers
summands_among : (numbers : List ℕ) (count : ℕ) (ts us : List LinearSum) (ps : List (ℕ × ℤ)) → AreAmong numbers count ts us →
    AreMultiples ts ps → summands ts ps ≡ summands us (renumbered_parts numbers count ps)
summands_among numbers count ts us [] a m = refl
summands_among numbers count ts us (p ∷ ps) a m =
    ap (λ (t : LinearSum). (p.1, t) ∷ summands ts ps) (sym (a.same p.0 m.0))
    ∙ ap (λ (ss : List (ℤ × LinearSum)). (p.1, row_at us (number_among numbers count p.0)) ∷ ss)
    (summands_among numbers count ts us ps a m.2)

step_among : (numbers : List ℕ) (count : ℕ) (ts us : List LinearSum) (d : Derived) → AreAmong numbers count ts us → IsRightStep ts d →
    IsRightStep us (renumbered_row numbers count d)
step_among numbers count ts us d a r =
    let e = summands_among numbers count ts us d.parts a r.named in
    let row = d.row.term in
    record {
      named = multiples_among numbers count ts us d.parts a r.named;
      columns_fit = λ x. subst (λ (ss : List (ℤ × LinearSum)). FitsAlong (pos 0) (column_products x ss)) e (r.columns_fit x);
      constant_fits = subst (λ (ss : List (ℤ × LinearSum)). FitsAlong (pos 0) (constant_products ss)) e r.constant_fits;
      divisor = r.divisor;
      divided = λ x.
          subst (λ (ss : List (ℤ × LinearSum)). coefficient x (combination ss (pos 0)) ≡ d.divide *ℤ coefficient x row) e (r.divided x);
      rounded = subst (λ (ss : List (ℤ × LinearSum)). IsRoundedUp (combination ss (pos 0)).constant d.divide row.constant) e
          r.rounded;
    }

steps_among : (numbers : List ℕ) (count : ℕ) (ts us : List LinearSum) (ds : List Derived) → AreAmong numbers count ts us →
    AreRightSteps ts ds → AreRightSteps us (renumbered_rows numbers count ds)
steps_among numbers count ts us [] a r = tt
steps_among numbers count ts us (d ∷ ds) a r = (
  step_among numbers count ts us d a r.0,
  steps_among numbers count (ts ++ d.row.term ∷ []) (us ++ d.row.term ∷ []) ds (among_append numbers count ts us (d.row.term ∷ []) a) r.1,
)

after_among : (numbers : List ℕ) (count : ℕ) (ts us : List LinearSum) (ds : List Derived) → AreAmong numbers count ts us →
    AreAmong numbers count (rows_after ts ds) (rows_after us (renumbered_rows numbers count ds))
after_among numbers count ts us [] a = a
after_among numbers count ts us (d ∷ ds) a =
    after_among numbers count (ts ++ d.row.term ∷ []) (us ++ d.row.term ∷ []) ds (among_append numbers count ts us (d.row.term ∷ []) a)

ends_same : (numbers : List ℕ) (count : ℕ) (ds : List Derived) → EndsInContradiction ds → EndsInContradiction
    (renumbered_rows numbers count ds)
ends_same numbers count [] h = h
ends_same numbers count (d ∷ []) h = h
ends_same numbers count (d ∷ e ∷ ds) h = ends_same numbers count (e ∷ ds) h

-- Certificates

pub right_among : (numbers : List ℕ) (count : ℕ) (c : Refutation) (ts us : List LinearSum) → AreAmong numbers count ts us → IsRight ts c →
    IsRight us (renumbered numbers count c)
right_among numbers count (close ds) ts us a r = (steps_among numbers count ts us ds a r.0, ends_same numbers count ds r.1)
right_among numbers count (branch ds x k low high) ts us a r =
    let b = after_among numbers count ts us ds a in
    let side = λ (t : LinearSum). among_append numbers count (rows_after ts ds) (rows_after us (renumbered_rows numbers count ds)) (t ∷ [])
    b in (
      steps_among numbers count ts us ds a r.0,
      r.1,
      right_among numbers count low _ _ (side (at_most x k)) r.2,
      right_among numbers count high _ _ (side (at_least x (k +ℤ pos 1))) r.3,
    )

nesting_same : (numbers : List ℕ) (count : ℕ) (c : Refutation) → nesting (renumbered numbers count c) ≡ nesting c
nesting_same numbers count (close ds) = refl
nesting_same numbers count (branch ds x k low high) =
    ap (λ n. 1 + max n (nesting (renumbered numbers count high))) (nesting_same numbers count low)
    ∙ ap (λ n. 1 + max (nesting low) n) (nesting_same numbers count high)

-- a certificate of rows between which all rows lie is one of all rows
pub refutes_among : (numbers : List ℕ) (count : ℕ) (c : Refutation) (rows all : List Atom) → AreExtremes numbers rows all → count
    ≡ length all → Refutes rows c → Refutes all (renumbered numbers count c)
refutes_among numbers count c rows all e n r = record {
  shallow = subst (λ (k : ℕ). k ≤ max_nesting) (sym (nesting_same numbers count c)) r.shallow;
  right = subst (λ (xs : List ℕ). IsRight (rows_of all ++ range_rows xs) (renumbered numbers count c))
      (columns_of_extremes numbers rows all e) (right_among numbers count c (base_rows rows) (rows_of all
      ++ range_rows (columns_of (rows_of rows))) (among_append numbers count (rows_of rows) (rows_of all)
      (range_rows (columns_of (rows_of rows))) (among_rows numbers rows all count e.numbered n)) r.right);
}

-- Terms

derived_terms_same : (numbers : List ℕ) (count : ℕ) (ds : List Derived) → AreDerivedTerms ds → AreDerivedTerms
    (renumbered_rows numbers count ds)
derived_terms_same numbers count [] h = h
derived_terms_same numbers count (d ∷ ds) h = (h.0, derived_terms_same numbers count ds h.1)

pub terms_same : (numbers : List ℕ) (count : ℕ) (c : Refutation) → HasTerms c → HasTerms (renumbered numbers count c)
terms_same numbers count (close ds) h = derived_terms_same numbers count ds h
terms_same numbers count (branch ds x k low high) h =
    (derived_terms_same numbers count ds h.0, h.1, terms_same numbers count low h.2, terms_same numbers count high h.3)

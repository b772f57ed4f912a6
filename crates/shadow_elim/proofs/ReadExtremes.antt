-- Rows read in the places of columns: the extremes of all rows that are read are the extreme rows, read.
use Rattle.std.proofs.Common.{◌≡◌, inl, inr, ℕ, Bool, true, false, List, [], ◌∷◌, ◌++◌, length, None, Some, ℤ, pos, ◌+ℤ◌, ◌*ℤ◌, arith, refl, sym, ap, subst, ◌∙◌}
use Rattle.std.specs.Prelude.{IsTrue, Contains, ◌≤ℤ◌, slice_index_or, option_map, if◌then◌else◌}
use Rattle.std.proofs.lemmas.Int.{ints}
use Rattle.std.proofs.lemmas.List.Elements.{All-map, All-contains}
use Rattle.std.proofs.lemmas.Option.{slice_get-map}
use Rattle.linear_formula.specs.LinearSum.{LinearSum, is_within}
use Rattle.linear_formula.specs.Results.{combination, constant_sum, plus_parts}
use Rattle.linear_formula.specs.Replaced.{summands_of, summands_of_parts, replaced}
use Rattle.linear_formula.specs.Extremes.{IsAsStrong, IsBetween, HaveNumbers, AreExtremes}
use Rattle.linear_formula.specs.declared.formula.Atom.{Atom}
use Rattle.linear_formula.specs.steps.Order.{AllWithin}
use Rattle.linear_formula.proofs.Limits.{Within-from_test, test-from_Within}
use Rattle.shadow_elim.specs.Sums.{total, first_wide, rows_of_sums, row_sums}
use Rattle.shadow_elim.specs.declared.sum.Sum.{Sum}
use Rattle.shadow_elim.proofs.Members.{Among, among-map, map-among, contains-among, among-contains}

-- Sums of the same coefficients

-- what parts and a constant read
abbrev read_of : (ℕ → LinearSum) → List (ℕ × ℤ) → ℤ → LinearSum
read_of by ps c = combination (summands_of_parts by ps ++ (pos 1, constant_sum c) ∷ []) (pos 0)

parts_read : (by : ℕ → LinearSum) (ps : List (ℕ × ℤ)) (c d : ℤ) → (read_of by ps c).parts ≡ (read_of by ps d).parts
parts_read by [] c d = refl
parts_read by (p ∷ ps) c d = ap (plus_parts p.1 (by p.0).parts) (parts_read by ps c d)

shifted : (a c d : ℤ) → c ≤ℤ d → (a +ℤ c) ≤ℤ (a +ℤ d)
shifted a c d h = omega (arith, ints, h)

constant_read : (by : ℕ → LinearSum) (ps : List (ℕ × ℤ)) (c d : ℤ) → c ≤ℤ d → (read_of by ps c).constant ≤ℤ (read_of by ps d).constant
constant_read by [] c d h = omega (arith, ints, h)
constant_read by (p ∷ ps) c d h =
    shifted (p.1 *ℤ (by p.0).constant) (read_of by ps c).constant (read_of by ps d).constant (constant_read by ps c d h)

pub strong_read : (by : ℕ → LinearSum) (s t : LinearSum) → IsAsStrong s t → IsAsStrong (replaced by s) (replaced by t)
strong_read by s t h = record {
  parts = ap (λ (ps : List (ℕ × ℤ)). (read_of by ps s.constant).parts) h.parts ∙ parts_read by t.parts s.constant t.constant;
  constant = subst (λ (ps : List (ℕ × ℤ)). (read_of by t.parts t.constant).constant ≤ℤ (read_of by ps s.constant).constant) (sym h.parts)
      (constant_read by t.parts t.constant s.constant h.constant);
}

-- Limits

-- a sum between two that are within the limits
pub strong_within : (s t r : LinearSum) → IsAsStrong s t → IsAsStrong t r → IsTrue (is_within s) → IsTrue (is_within r) →
    IsTrue (is_within t)
strong_within s t r h k a b =
    let v = Within-from_test s a in
    let w = Within-from_test r b in
    test-from_Within t (record {
      count = omega (arith, ap (λ (ps : List (ℕ × ℤ)). length ps) h.parts, v.count);
      coefficients = subst (λ ps. AllWithin ps) h.parts v.coefficients;
      constant_limit = omega (arith, ints, k.constant, h.constant, w.constant_limit, v.constant_limit);
    })

none_wide : (sums : List Sum) → ((s : Sum) → Among s sums → IsTrue (is_within (total s))) → first_wide sums ≡ None
none_wide [] h = refl
none_wide (s ∷ sums) h =
    let here : is_within (total s) ≡ true = h s (inl refl) in
    rw here (none_wide sums (λ r a. h r (inr a)))

within_none : (sums : List Sum) (s : Sum) → first_wide sums ≡ None → Among s sums → IsTrue (is_within (total s))
within_none [] s e a = absurd a
within_none (r ∷ sums) s e a = by_test (is_within (total r)) refl e (within_none sums s) a where
  by_test : (b : Bool) → is_within (total r) ≡ b → (if b then first_wide sums else Some r) ≡ None →
      (first_wide sums ≡ None → Among s sums → IsTrue (is_within (total s))) → Among s (r ∷ sums) → IsTrue (is_within (total s))
  by_test true f k next (inl d) = subst (λ (t : Sum). is_within (total t) ≡ true) d f
  by_test true f k next (inr m) = next k m
  by_test false f k next m = absurd cc

-- Rows

module _ (by : ℕ → LinearSum) where
  abbrev sum_read : Atom → Sum
  sum_read a = record { summands = summands_of by a.term; constant = pos 0 }

  abbrev row_of : Sum → Atom
  row_of s = record { term = total s }

  there_read : (rows : List Atom) (a : Atom) → Contains rows a → Contains (rows_of_sums (row_sums by rows)) (row_of (sum_read a))
  there_read rows a h =
      among-contains (rows_of_sums (row_sums by rows)) (row_of (sum_read a)) (among-map row_of (row_sums by rows) (sum_read a)
      (among-map sum_read rows a (contains-among rows a h)))

  between_read : (rows : List Atom) (t : LinearSum) → IsBetween rows t → IsBetween (rows_of_sums (row_sums by rows)) (replaced by t)
  between_read rows t h = record {
    upper = row_of (sum_read h.upper);
    upper_there = there_read rows h.upper h.upper_there;
    above = strong_read by h.upper.term t h.above;
    lower = row_of (sum_read h.lower);
    lower_there = there_read rows h.lower h.lower_there;
    below = strong_read by t h.lower.term h.below;
  }

  numbered_read : (ns : List ℕ) (rows all : List Atom) → HaveNumbers ns rows all →
      HaveNumbers ns (rows_of_sums (row_sums by rows)) (rows_of_sums (row_sums by all))
  numbered_read [] [] all h = tt
  numbered_read [] (a ∷ rows) all h = absurd h
  numbered_read (n ∷ ns) [] all h = absurd h
  numbered_read (n ∷ ns) (a ∷ rows) all h = (
    slice_get-map row_of (row_sums by all) n
        ∙ ap (λ o. option_map row_of o) (slice_get-map sum_read all n ∙ ap (λ o. option_map sum_read o) h.0),
    numbered_read ns rows all h.1,
  )

  within_read : (rows : List Atom) (t : LinearSum) → first_wide (row_sums by rows) ≡ None → IsBetween rows t →
      IsTrue (is_within (replaced by t))
  within_read rows t e h =
      strong_within (replaced by h.upper.term) (replaced by t) (replaced by h.lower.term) (strong_read by h.upper.term t h.above)
      (strong_read by t h.lower.term h.below) (small h.upper h.upper_there) (small h.lower h.lower_there) where
        small : (a : Atom) → Contains rows a → IsTrue (is_within (replaced by a.term))
        small a m = within_none (row_sums by rows) (sum_read a) e (among-map sum_read rows a (contains-among rows a m))

  narrow_read : (ns : List ℕ) (rows all : List Atom) → AreExtremes ns rows all → first_wide (row_sums by rows) ≡ None →
      first_wide (row_sums by all) ≡ None
  narrow_read ns rows all x e = none_wide (row_sums by all) (λ s m. of_row s (map-among sum_read all s m)) where
    of_row : (s : Sum) → ((a : Atom) × Among a all × (sum_read a ≡ s)) → IsTrue (is_within (total s))
    of_row s r = subst (λ (u : Sum). IsTrue (is_within (total u))) r.2
        (within_read rows r.0.term e (All-contains (λ (a : Atom). IsBetween rows a.term) all r.0 x.between (among-contains all r.0 r.1)))

-- rows read in the places of columns: what is read of extreme rows are the extremes of what is read of all
pub read-extremes : (by : ℕ → LinearSum) (ns : List ℕ) (rows all : List Atom) → AreExtremes ns rows all →
    first_wide (row_sums by rows) ≡ None →
    (first_wide (row_sums by all) ≡ None) × AreExtremes ns (rows_of_sums (row_sums by rows)) (rows_of_sums (row_sums by all))
read-extremes by ns rows all x e = (
  narrow_read by ns rows all x e,
  record {
    numbered = numbered_read by ns rows all x.numbered;
    between = All-map (λ (a : Atom). IsBetween (rows_of_sums (row_sums by rows)) a.term) (row_of by) (row_sums by all)
        (All-map (λ (s : Sum). IsBetween (rows_of_sums (row_sums by rows)) (total s)) (sum_read by) all
        (λ i d h. between_read by rows (slice_index_or all i d).term (x.between i d h)));
  },
)

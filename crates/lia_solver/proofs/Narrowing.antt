-- Sums of rows with the least constants of their coefficients.
use Rattle.std.proofs.Common.{◌≡◌, ◌⊎◌, inl, inr, ℕ, ◌+◌, ◌^◌, ◌<◌, ◌≤◌, true, false, List, length, ℤ, arith, refl, sym, subst, ◌∙◌}
use Rattle.std.specs.Prelude.{IsTrue, ◌≤ℤ◌, unsigned_abs}
use Rattle.std.proofs.lemmas.Bool.{cases_lt}
use Rattle.linear_formula.specs.LinearSum.{LinearSum, is_within}
use Rattle.linear_formula.proofs.Limits.{Within-from_test, test-from_Within}
use Rattle.shadow_elim.specs.Elimination.{pair_sum}
use Rattle.shadow_elim.specs.Reduction.{is_as_strong, is_trivial}
use Rattle.shadow_elim.specs.Stages.{terms_of}
use Rattle.shadow_elim.specs.declared.row.Row.{Row}
use Rattle.shadow_elim.specs.steps.Marks.{IsSmall}
use Rattle.shadow_elim.proofs.Members.{contains-among}
use Rattle.shadow_elim.proofs.Strength.{test-from_AsStrong}
use Rattle.shadow_elim.proofs.Weaker.{within-weaker}
use Rattle.lia_solver.specs.steps.Entries.{Entry, entry_at, sum_at, least_at, bounds_above, bounds_below, ArePaired}
use Rattle.lia_solver.specs.steps.Gathered.{AreGathered, AreNarrowWith, AreNarrowBelow}
use Rattle.lia_solver.proofs.FirstColumns.{above-upper, below-lower}
use Rattle.lia_solver.proofs.Gathering.{between-from, upper-fails, lower-fails, gathered-spanned}

-- Two rows

-- the coefficients of both sums are the same
pub least-within : (x : ℕ) (entries : List Entry) (u l : ℕ) →
    unsigned_abs (pair_sum x (least_at entries u, least_at entries l)).constant ≤ 2 ^ 84 →
    IsTrue (is_within (pair_sum x (sum_at entries u, sum_at entries l))) →
    IsTrue (is_within (pair_sum x (least_at entries u, least_at entries l)))
least-within x entries u l h w =
    let v = Within-from_test (pair_sum x (sum_at entries u, sum_at entries l)) w in
    test-from_Within (pair_sum x (least_at entries u, least_at entries l)) (record {
      count = v.count;
      coefficients = v.coefficients;
      constant_limit = h;
    })

-- the rows of the column are so small that the sum of any two is within the limits
abbrev pub AreSmallTo : ℕ → List Entry → ℕ → Type 0
AreSmallTo x entries n = (i : ℕ) → i < n → IsTrue (bounds_above x (sum_at entries i).parts)
    ⊎ IsTrue (bounds_below x (sum_at entries i).parts) → IsSmall x (least_at entries i)

-- the least constant of a row that bounds the column is at most its greatest one
least-weaker : (rows : List Row) (entries : List Entry) (i : ℕ) → AreGathered rows entries → i < length entries →
    (is_trivial (least_at entries i) ≡ true → ⊥) → is_as_strong (least_at entries i) (sum_at entries i) ≡ true
least-weaker rows entries i g h n =
    let b = between-from (least_at entries i) entries n (gathered-spanned rows entries g (least_at entries i)
    (contains-among (terms_of rows) (least_at entries i) (g.least i h))) in
    let same = g.table.apart b.place i b.inside h b.above.parts in
    test-from_AsStrong (least_at entries i) (sum_at entries i) (record {
      parts = refl;
      constant = subst (λ (j : ℕ). (least_at entries i).constant ≤ℤ (sum_at entries j).constant) same b.above.constant;
    })

pub small-narrow : (x : ℕ) (rows : List Row) (entries : List Entry) → AreGathered rows entries → AreSmallTo x entries (length entries) →
    AreNarrowBelow x entries
small-narrow x rows entries g h u l p w =
    let iu = above-upper x (least_at entries u) p.above in
    let il = below-lower x (least_at entries l) p.below in
    within-weaker x (least_at entries u) (sum_at entries u) (least_at entries l) (sum_at entries l) iu il (h u p.upper_place (inl p.above))
    (h l p.lower_place (inr p.below)) (least-weaker rows entries u g p.upper_place (upper-fails x (least_at entries u) iu))
    (least-weaker rows entries l g p.lower_place (lower-fails x (least_at entries l) il)) w

-- Rows up to one

pub small-more : (x : ℕ) (entries : List Entry) (n : ℕ) → AreSmallTo x entries n → (IsTrue (bounds_above x (sum_at entries n).parts)
    ⊎ IsTrue (bounds_below x (sum_at entries n).parts) → IsSmall x (least_at entries n)) → AreSmallTo x entries (n + 1)
small-more x entries n h k i q b = by_place (cases_lt i n) where
  by_place : (i < n) ⊎ (n ≤ i) → IsSmall x (least_at entries i)
  by_place (inl lt) = h i lt b
  by_place (inr ge) =
      let same : n ≡ i = omega (arith, q, ge) in
      subst (λ (j : ℕ). IsTrue (bounds_above x (sum_at entries j).parts) ⊎ IsTrue (bounds_below x (sum_at entries j).parts) →
      IsSmall x (least_at entries j)) same k b

-- the row at a place in the code's words
pub small-cast : (x : ℕ) (entries : List Entry) (n : ℕ) (ps : List (ℕ × ℤ)) (c : ℤ) → ps ≡ (sum_at entries n).parts →
    c ≡ (entry_at entries n).least → (IsTrue (bounds_above x ps) ⊎ IsTrue (bounds_below x ps) →
    IsSmall x (record { parts = ps; constant = c })) → IsTrue (bounds_above x (sum_at entries n).parts)
    ⊎ IsTrue (bounds_below x (sum_at entries n).parts) → IsSmall x (least_at entries n)
small-cast x entries n ps c e f h = of_row (λ i. record { parts = e i; constant = f i }) h where
  of_row : ◌≡◌ {A = LinearSum} (record { parts = ps; constant = c }) (least_at entries n) → (IsTrue (bounds_above x ps)
      ⊎ IsTrue (bounds_below x ps) → IsSmall x (record { parts = ps; constant = c })) → IsTrue (bounds_above x (sum_at entries n).parts)
      ⊎ IsTrue (bounds_below x (sum_at entries n).parts) → IsSmall x (least_at entries n)
  of_row g k = subst (λ (t : LinearSum). IsTrue (bounds_above x t.parts) ⊎ IsTrue (bounds_below x t.parts) → IsSmall x t) g k

abbrev pub IsNarrowPair : ℕ → List Entry → (upper lower : ℕ) → Type 0
IsNarrowPair x entries upper lower = ArePaired x entries upper lower →
    IsTrue (is_within (pair_sum x (sum_at entries upper, sum_at entries lower))) →
    IsTrue (is_within (pair_sum x (least_at entries upper, least_at entries lower)))

abbrev pub AreNarrowWithTo : ℕ → List Entry → (upper n : ℕ) → Type 0
AreNarrowWithTo x entries upper n = (lower : ℕ) → lower < n → IsNarrowPair x entries upper lower

pub with-more : (x : ℕ) (entries : List Entry) (u n : ℕ) → AreNarrowWithTo x entries u n → IsNarrowPair x entries u n →
    AreNarrowWithTo x entries u (n + 1)
with-more x entries u n h k l q = by_place (cases_lt l n) where
  by_place : (l < n) ⊎ (n ≤ l) → IsNarrowPair x entries u l
  by_place (inl lt) = h l lt
  by_place (inr ge) =
      let same : n ≡ l = omega (arith, q, ge) in
      subst (λ (j : ℕ). IsNarrowPair x entries u j) same k

abbrev pub AreNarrowBelowTo : ℕ → List Entry → ℕ → Type 0
AreNarrowBelowTo x entries n = (upper : ℕ) → upper < n → AreNarrowWith x entries upper

pub below-more : (x : ℕ) (entries : List Entry) (n : ℕ) → AreNarrowBelowTo x entries n → AreNarrowWith x entries n →
    AreNarrowBelowTo x entries (n + 1)
below-more x entries n h k u q = by_place (cases_lt u n) where
  by_place : (u < n) ⊎ (n ≤ u) → AreNarrowWith x entries u
  by_place (inl lt) = h u lt
  by_place (inr ge) =
      let same : n ≡ u = omega (arith, q, ge) in
      subst (λ (j : ℕ). AreNarrowWith x entries j) same k

no_way : true ≡ false → ⊥
no_way h = cc

-- a row that doesn't bound the column has no pairs
pub none-with : (x : ℕ) (entries : List Entry) (u : ℕ) → bounds_above x (sum_at entries u).parts ≡ false → AreNarrowWith x entries u
none-with x entries u h l p = absurd (no_way (sym p.above ∙ h))

pub none-pair : (x : ℕ) (entries : List Entry) (u l : ℕ) → bounds_below x (sum_at entries l).parts ≡ false → IsNarrowPair x entries u l
none-pair x entries u l h p = absurd (no_way (sym p.below ∙ h))

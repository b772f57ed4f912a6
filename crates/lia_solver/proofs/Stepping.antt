-- One column of the plan, by any rows that say what is left of it.
use Rattle.std.proofs.Common.{◌≡◌, ◌⊎◌, inl, inr, ℕ, ◌<◌, ◌≤◌, ◌+◌, nat_le, Bool, true, false, List, ◌∷◌, length, ℤ, arith, refl, sym, ap, subst, ◌∙◌}
use Rattle.std.specs.Prelude.{IsTrue, ◌<ℤ◌, if◌then◌else◌}
use Rattle.std.specs.List.{list_all}
use Rattle.std.proofs.lemmas.Bool.Decides.{nat_tests}
use Rattle.linear_formula.specs.LinearSum.{LinearSum, is_within}
use Rattle.infeasible_cert.proofs.Ascending.{Ascends}
use Rattle.shadow_elim.specs.Elimination.{pair_sum, pair_sums, pairs, remains, wide, too_many, counted}
use Rattle.shadow_elim.specs.Points.{chosen, too_wide, too_many_rows, upper_bound, lower_bound, lower_floor, greatest_value, with_value, outcome_after, outcome}
use Rattle.shadow_elim.specs.declared.limit.TheConstants.{MAX_ROWS}
use Rattle.shadow_elim.proofs.Exact.{HasRange}
use Rattle.shadow_elim.proofs.Keeping.{IsPairOf, IsFreeIn, IsMadeOf, IsAfter, among-pairs, pairs-among}
use Rattle.shadow_elim.proofs.Members.{Among, among-map, map-among, all-among}
use Rattle.shadow_elim.proofs.Naming.{AllTerms, after-terms}
use Rattle.shadow_elim.proofs.Staying.{IsCovered}
use Rattle.lia_solver.proofs.ChosenPoints.{ascends-from_lower, listed-below, NamesOnly, after-names_only, outcome-chosen}
use Rattle.lia_solver.proofs.Covered.{all-from-among, behind, behind-strongest, behind-is, count-same, first-strongest, outcome-same}
use Rattle.lia_solver.proofs.Covering.{Covers, covers-among, covers-behind}
use Rattle.lia_solver.proofs.Splitting.{split-inside}
use Rattle.lia_solver.proofs.Strongest.{AreStrongest, count-most}

no_way : true ≡ false → ⊥
no_way h = cc

-- Sums within the limits

abbrev pub AreWithin : ℕ → List LinearSum → Type 0
AreWithin x rows = (u l : LinearSum) → IsPairOf x rows u l → IsTrue (is_within (pair_sum x (u, l)))

pub within-all : (x : ℕ) (rows : List LinearSum) → AreWithin x rows → list_all is_within (pair_sums x rows) ≡ true
within-all x rows h = all-from-among is_within (pair_sums x rows) (λ t a. of_pair t (map-among (pair_sum x) (pairs x rows) t a)) where
  of_pair : (t : LinearSum) → ((p : LinearSum × LinearSum) × Among p (pairs x rows) × (pair_sum x p ≡ t)) → is_within t ≡ true
  of_pair t f =
      subst (λ (s : LinearSum). is_within s ≡ true) f.2 (h f.0.0 f.0.1 (pairs-among x rows f.0 f.1))

-- a sum that is too wide
pub wide-one : (x : ℕ) (rows : List LinearSum) (u l : LinearSum) → IsPairOf x rows u l → (¬ IsTrue (is_within (pair_sum x (u, l)))) →
    list_all is_within (pair_sums x rows) ≡ false
wide-one x rows u l p w = by_value (list_all is_within (pair_sums x rows)) refl where
  there : Among (pair_sum x (u, l)) (pair_sums x rows)
  there = among-map (pair_sum x) (pairs x rows) (u, l) (among-pairs x rows u l p.upper p.lower p.is_upper p.is_lower)

  by_value : (b : Bool) → list_all is_within (pair_sums x rows) ≡ b → b ≡ false
  by_value true e = absurd (w (all-among is_within (pair_sums x rows) (pair_sum x (u, l)) e there))
  by_value false e = refl

pub le_yes : (n m : ℕ) → n ≤ m → nat_le n m ≡ true
le_yes n m h = grind (arith, nat_tests)

le_no : (n m : ℕ) → m < n → nat_le n m ≡ false
le_no n m h = grind (arith, nat_tests)

-- The column

itself : (rows : List LinearSum) → Covers rows rows
itself rows = covers-among rows rows (λ t a. a)

-- after the column the outcome is that of any strongest rows that are left
pub column-done : (x : ℕ) (xs : List ℕ) (rows next : List LinearSum) → AreStrongest next → IsAfter x rows next → length next ≤ MAX_ROWS →
    outcome (x ∷ xs) rows ≡ with_value x rows (outcome xs next)
column-done x xs rows next s a n =
    ap (with_value x rows) (ap (λ b. outcome_after (outcome xs) (if b then counted (behind x rows) else wide)) width
    ∙ ap (λ b. outcome_after (outcome xs) (if b then remains (behind x rows) else too_many)) (le_yes (length (behind x rows)) MAX_ROWS few)
    ∙ outcome-same xs (behind x rows) next over under
    (first-strongest xs (behind x rows) next (behind-strongest x rows) s over under)) where
      width : list_all is_within (pair_sums x rows) ≡ true
      width = within-all x rows a.within

      over : Covers (behind x rows) next
      over = covers-behind x rows rows (behind x rows) next (itself rows) (behind-is x rows width) a

      under : Covers next (behind x rows)
      under = covers-behind x rows rows next (behind x rows) (itself rows) a (behind-is x rows width)

      few : length (behind x rows) ≤ MAX_ROWS
      few = omega (arith, n, count-same (behind x rows) next (behind-strongest x rows) s over under)

pub column-wide : (x : ℕ) (xs : List ℕ) (rows : List LinearSum) (u l : LinearSum) → IsPairOf x rows u l →
    (¬ IsTrue (is_within (pair_sum x (u, l)))) → outcome (x ∷ xs) rows ≡ too_wide
column-wide x xs rows u l p w =
    ap (λ b. with_value x rows (outcome_after (outcome xs) (if b then counted (behind x rows) else wide))) (wide-one x rows u l p w)

-- too many strongest rows follow
pub column-overfull : (x : ℕ) (xs : List ℕ) (rows next : List LinearSum) → AreStrongest next → AreWithin x rows →
    ((t : LinearSum) → Among t next → IsFreeIn x rows t ⊎ IsMadeOf x rows t) → MAX_ROWS < length next → outcome (x ∷ xs) rows
    ≡ too_many_rows
column-overfull x xs rows next s w from n =
    ap (λ b. with_value x rows (outcome_after (outcome xs) (if b then counted (behind x rows) else wide))) width
    ∙ ap (λ b. with_value x rows (outcome_after (outcome xs) (if b then remains (behind x rows) else too_many)))
    (le_no (length (behind x rows)) MAX_ROWS (omega (arith, n, count-most next (behind x rows) s over))) where
      width : list_all is_within (pair_sums x rows) ≡ true
      width = within-all x rows w

      left : IsAfter x rows (behind x rows)
      left = behind-is x rows width

      over : Covers (behind x rows) next
      over t a = by_origin (from t a) where
        by_origin : IsFreeIn x rows t ⊎ IsMadeOf x rows t → IsCovered t (behind x rows)
        by_origin (inl f) = left.free t f
        by_origin (inr m) = subst (λ (q : LinearSum). IsCovered q (behind x rows)) m.same (left.made m.first m.second m.pair)

-- both sides of a split exist
pub column-sides : (x : ℕ) (xs : List ℕ) (rows next : List LinearSum) (values : List (ℕ × ℤ)) → Ascends 0 (x ∷ xs) → IsAfter x rows next →
    AllTerms rows → NamesOnly (x ∷ xs) rows → HasRange x rows → outcome xs next ≡ chosen values →
    upper_bound x values rows <ℤ lower_bound x values rows → lower_floor x values rows <ℤ greatest_value
column-sides x xs rows next values s a k n r o h =
    let c = outcome-chosen xs next values (ascends-from_lower (x + 1) 0 xs (omega arith) s.1) (after-terms x rows next a k)
    (after-names_only x xs rows next a k n) o in
    let above = subst (Ascends (x + 1)) (sym c.columns) s.1 in
    split-inside x rows next values a k (listed-below x (x + 1) values (omega arith) above) c.met r.upper h

-- What the rows of a table say is what all rows that were added to it say.
use Rattle.std.proofs.Common.{◌≡◌, inl, inr, ℕ, ◌<◌, ◌≤◌, ◌^◌, true, false, List, [], ◌∷◌, length, ℤ, pos, negsuc, arith, refl, sym, ap, subst, ◌∙◌}
use Rattle.std.specs.Cmp.{both_ways}
use Rattle.std.specs.Prelude.{IsTrue, ◌≤ℤ◌, unsigned_abs}
use Rattle.std.specs.List.{list_all}
use Rattle.std.proofs.lemmas.Int.{ints}
use Rattle.linear_formula.specs.LinearSum.{LinearSum, is_within}
use Rattle.linear_formula.specs.steps.Order.{AllWithin}
use Rattle.linear_formula.proofs.Limits.{Within-from_test, test-from_Within, IsTerm-from_test}
use Rattle.infeasible_cert.specs.Right.{upper_range, lower_range}
use Rattle.infeasible_cert.proofs.Ascending.{Ascends}
use Rattle.shadow_elim.specs.Elimination.{is_upper, is_lower, pairs, pair_sum, pair_sums}
use Rattle.shadow_elim.specs.Points.{too_wide, outcome}
use Rattle.shadow_elim.specs.Reduction.{is_trivial}
use Rattle.shadow_elim.specs.Stages.{terms_of}
use Rattle.shadow_elim.specs.declared.row.Row.{Row}
use Rattle.shadow_elim.proofs.Exact.{HasRange as IsRanged}
use Rattle.shadow_elim.proofs.Keeping.{IsPairOf, among-pairs}
use Rattle.shadow_elim.proofs.Members.{Among, among-map, map-among, all-among, contains-among, among-contains}
use Rattle.shadow_elim.proofs.Staying.{IsAtLeast, HasAtLeast, IsCovered, trivial-parts}
use Rattle.shadow_elim.proofs.Tests.{at_most_yes}
use Rattle.lia_solver.specs.steps.Entries.{Entry, sum_at, least_at, bounds_above, bounds_below}
use Rattle.lia_solver.specs.steps.Gathered.{IsSpanned, AreGathered, AreNarrowBelow, IsNarrowFirst, IsWideFirst}
use Rattle.lia_solver.specs.steps.Tables.{starts_from, live, IsHeld}
use Rattle.lia_solver.proofs.Behind.{IsReady, live-among, live-place, held-covered, live-terms, first-starts, upper-above, lower-below}
use Rattle.lia_solver.proofs.ChosenPoints.{NamesOnly}
use Rattle.lia_solver.proofs.Covered.{SameFirst, SameWidth, width-among, outcome-same}
use Rattle.lia_solver.proofs.Covering.{Covers, covers-among, covered-weaker, covered-upper, covered-lower, upper-same, lower-same, sum-stronger}
use Rattle.lia_solver.proofs.FirstColumns.{above-upper, below-lower}
use Rattle.lia_solver.proofs.Stepping.{within-all, column-wide}

-- The rows of the table, and all rows

pub from_start : (ps : List (ℕ × ℤ)) → starts_from 0 ps ≡ true
from_start [] = refl
from_start (p ∷ ps) = at_most_yes 0 p.0 (omega arith)

pub gathered-inside : (rows : List Row) (entries : List Entry) → AreGathered rows entries → (t : LinearSum) → Among t (live 0 entries) →
    Among t (terms_of rows)
gathered-inside rows entries g t a =
    let p = live-place 0 entries t a in
    let n = g.given p.place p.inside in
    subst (λ (s : LinearSum). Among s (terms_of rows)) p.here (among-map (λ (r : Row). r.term) rows
    (record { term = sum_at entries p.place; number = n.number })
    (contains-among rows (record { term = sum_at entries p.place; number = n.number }) n.here))

spanned-held : (t : LinearSum) (entries : List Entry) → IsSpanned t entries → IsHeld t entries
spanned-held t entries (inl e) = inl e
spanned-held t entries (inr s) = inr (s.0, s.1, s.2, s.4)

pub gathered-spanned : (rows : List Row) (entries : List Entry) → AreGathered rows entries → (t : LinearSum) → Among t (terms_of rows) →
    IsSpanned t entries
gathered-spanned rows entries g t a =
    let m = map-among (λ (r : Row). r.term) rows t a in
    subst (λ (s : LinearSum). IsSpanned s entries) m.2 (g.spanned m.0 (among-contains rows m.0 m.1))

pub gathered-covers : (rows : List Row) (entries : List Entry) → AreGathered rows entries → Covers (live 0 entries) (terms_of rows)
gathered-covers rows entries g = λ t a.
    held-covered 0 entries t (from_start t.parts) (spanned-held t entries (gathered-spanned rows entries g t a))

-- Columns

no_way : true ≡ false → ⊥
no_way h = cc

-- the rows of a column's range, or stronger ones, are in the table
gathered-single : (rows : List Row) (entries : List Entry) → AreGathered rows entries → (x : ℕ) (c : ℤ) (t : LinearSum) →
    t.parts ≡ (x, c) ∷ [] → HasAtLeast t (terms_of rows) → HasAtLeast t (live 0 entries)
gathered-single rows entries g x c t e h =
    by_cover (covered-weaker (live 0 entries) h.0 t h.2 (gathered-covers rows entries g h.0 h.1)) where
      by_cover : IsCovered t (live 0 entries) → HasAtLeast t (live 0 entries)
      by_cover (inl k) =
          let none = sym (trivial-parts t k) ∙ e in
          absurd (cc)
      by_cover (inr k) = k

pub gathered-ready : (columns : List ℕ) (rows : List Row) (entries : List Entry) → AreGathered rows entries → Ascends 0 columns →
    NamesOnly columns (terms_of rows) → ((x : ℕ) → Among x columns → IsRanged x (terms_of rows)) → IsReady 0 columns entries
gathered-ready columns rows entries g s n r = record {
  rows = g.table;
  ascends = s;
  terms = live-terms 0 entries g.table;
  named = λ y m t a. n y m t (gathered-inside rows entries g t a);
  ranges = λ x a. record {
    upper = gathered-single rows entries g x (pos 1) (upper_range x) refl (r x a).upper;
    lower = gathered-single rows entries g x (negsuc 0) (lower_range x) refl (r x a).lower;
  };
}

-- The sums of the first column

-- a row that bounds a column lies between the two rows of its coefficients
pub record IsBetween (t : LinearSum) (entries : List Entry) : Type 0 where
  pub place : ℕ
  pub inside : place < length entries
  pub above : IsAtLeast (sum_at entries place) t
  pub below : IsAtLeast t (least_at entries place)

pub between-from : (t : LinearSum) (entries : List Entry) → (is_trivial t ≡ true → ⊥) → IsSpanned t entries → IsBetween t entries
between-from t entries n (inl e) = absurd (n e)
between-from t entries n (inr s) = record {
  place = s.0;
  inside = s.1;
  above = record { parts = s.2; constant = s.4 };
  below = record { parts = sym s.2; constant = s.3 };
}

pub upper-fails : (x : ℕ) (t : LinearSum) → IsTrue (is_upper x t) → is_trivial t ≡ true → ⊥
upper-fails x t u e = of_none (covered-upper x [] t u (inl e)) where
  of_none : HasAtLeast t [] → ⊥
  of_none h = h.1

pub lower-fails : (x : ℕ) (t : LinearSum) → IsTrue (is_lower x t) → is_trivial t ≡ true → ⊥
lower-fails x t l e = of_none (covered-lower x [] t l (inl e)) where
  of_none : HasAtLeast t [] → ⊥
  of_none h = h.1

between-abs : (a b c : ℤ) → a ≤ℤ b → b ≤ℤ c → unsigned_abs a ≤ 2 ^ 84 → unsigned_abs c ≤ 2 ^ 84 → unsigned_abs b ≤ 2 ^ 84
between-abs a b c h k p q = omega (arith, ints, h, k, p, q)

pub within-between : (s t r : LinearSum) → IsAtLeast s t → IsAtLeast t r → IsTrue (is_within s) → IsTrue (is_within r) →
    IsTrue (is_within t)
within-between s t r h k a b =
    let v = Within-from_test s a in
    let w = Within-from_test r b in
    test-from_Within t (record {
      count = omega (arith, ap (λ (ps : List (ℕ × ℤ)). length ps) h.parts, v.count);
      coefficients = subst (λ ps. AllWithin ps) h.parts v.coefficients;
      constant_limit = between-abs r.constant t.constant s.constant k.constant h.constant w.constant_limit v.constant_limit;
    })

pub gathered-width : (x : ℕ) (xs : List ℕ) (rows : List Row) (entries : List Entry) → AreGathered rows entries →
    IsReady 0 (x ∷ xs) entries → AreNarrowBelow x entries → SameWidth x (live 0 entries) (terms_of rows)
gathered-width x xs rows entries g r n = both_ways _ _ (λ w. within-all x (terms_of rows) (λ u l p. within w u l p))
    (width-among x (terms_of rows) (live 0 entries) (gathered-inside rows entries g)) where
      here : (i : ℕ) → i < length entries → Among (sum_at entries i) (live 0 entries)
      here i h = live-among 0 entries i h (from_start (sum_at entries i).parts)

      starting : (i : ℕ) → i < length entries → starts_from x (sum_at entries i).parts ≡ true
      starting i h = first-starts x xs 0 (live 0 entries) (sum_at entries i) r.ascends r.terms r.named (here i h)

      above : (i : ℕ) → i < length entries → IsTrue (is_upper x (sum_at entries i)) → IsTrue (bounds_above x (sum_at entries i).parts)
      above i h u = upper-above x (sum_at entries i).parts
          (IsTerm-from_test (sum_at entries i) (r.terms (sum_at entries i) (here i h))).order
          (starting i h) u

      below : (i : ℕ) → i < length entries → IsTrue (is_lower x (sum_at entries i)) → IsTrue (bounds_below x (sum_at entries i).parts)
      below i h l = lower-below x (sum_at entries i).parts
          (IsTerm-from_test (sum_at entries i) (r.terms (sum_at entries i) (here i h))).order
          (starting i h) l

      within : list_all is_within (pair_sums x (live 0 entries)) ≡ true → (u l : LinearSum) → IsPairOf x (terms_of rows) u l →
          IsTrue (is_within (pair_sum x (u, l)))
      within w u l p =
          let f = between-from u entries (upper-fails x u p.is_upper) (gathered-spanned rows entries g u p.upper) in
          let h = between-from l entries (lower-fails x l p.is_lower) (gathered-spanned rows entries g l p.lower) in
          let s = sum_at entries f.place in
          let t = sum_at entries h.place in
          let iu : IsTrue (is_upper x s) = upper-same x s u f.above ∙ p.is_upper in
          let il : IsTrue (is_lower x t) = lower-same x t l h.above ∙ p.is_lower in
          let there = among-map (pair_sum x) (pairs x (live 0 entries)) (s, t) (among-pairs x (live 0 entries) s t (here f.place f.inside)
          (here h.place h.inside) iu il) in
          let greatest = all-among is_within (pair_sums x (live 0 entries)) (pair_sum x (s, t)) w there in
          let least = n f.place h.place (record {
            terms = g.table.terms;
            upper_place = f.inside;
            lower_place = h.inside;
            above = above f.place f.inside iu;
            below = below h.place h.inside il;
          }) greatest in
          within-between (pair_sum x (s, t)) (pair_sum x (u, l))
          (pair_sum x (least_at entries f.place, least_at entries h.place)) (sum-stronger x s u t l f.above h.above)
          (sum-stronger x u (least_at entries f.place) l (least_at entries h.place) f.below h.below) greatest least

-- The whole outcome

first-narrow : (columns : List ℕ) (rows : List Row) (entries : List Entry) → AreGathered rows entries → IsReady 0 columns entries →
    IsNarrowFirst columns entries → SameFirst columns (live 0 entries) (terms_of rows)
first-narrow [] rows entries g r n = tt
first-narrow (x ∷ xs) rows entries g r n = gathered-width x xs rows entries g r n

pub gathered-outcome : (columns : List ℕ) (rows : List Row) (entries : List Entry) → AreGathered rows entries → IsReady 0 columns entries →
    IsNarrowFirst columns entries → outcome columns (live 0 entries) ≡ outcome columns (terms_of rows)
gathered-outcome columns rows entries g r n =
    outcome-same columns (live 0 entries) (terms_of rows) (gathered-covers rows entries g)
    (covers-among (terms_of rows) (live 0 entries) (gathered-inside rows entries g)) (first-narrow columns rows entries g r n)

pub gathered-wide : (columns : List ℕ) (rows : List Row) (entries : List Entry) → AreGathered rows entries → IsWideFirst columns entries →
    outcome columns (terms_of rows) ≡ too_wide
gathered-wide [] rows entries g w = absurd w
gathered-wide (x ∷ xs) rows entries g w =
    column-wide x xs (terms_of rows) (least_at entries w.upper) (least_at entries w.lower) (record {
      upper = contains-among (terms_of rows) (least_at entries w.upper) (g.least w.upper w.paired.upper_place);
      lower = contains-among (terms_of rows) (least_at entries w.lower) (g.least w.lower w.paired.lower_place);
      is_upper = above-upper x (least_at entries w.upper) w.paired.above;
      is_lower = below-lower x (least_at entries w.lower) w.paired.below;
    }) w.wide

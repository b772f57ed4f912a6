-- One more value, by the rows of a table.
use Rattle.std.proofs.Common.{◌≡◌, inl, ℕ, ◌+◌, Bool, true, false, List, ◌∷◌, map, ℤ, arith, refl, sym, ap, subst, ◌∙◌}
use Rattle.std.specs.Prelude.{IsTrue, ◌≤ℤ◌, ◌<ℤ◌, filter, int_le, int_lt, if◌then◌else◌}
use Rattle.std.proofs.lemmas.Int.{ints}
use Rattle.linear_formula.specs.LinearSum.{LinearSum}
use Rattle.linear_formula.proofs.Limits.{IsTerm-from_test}
use Rattle.shadow_elim.specs.Elimination.{is_upper, is_lower}
use Rattle.shadow_elim.specs.Points.{Outcome, chosen, split, least_value, greatest_value, greatest_of, least_of, nearest, upper_bound, lower_bound, lower_floor, with_value, outcome}
use Rattle.shadow_elim.proofs.Bests.{greatest-start, greatest-above, greatest-limit, least-start, least-below, least-limit}
use Rattle.shadow_elim.proofs.Members.{Among, among-filter, filter-among, map-among, among-contains, among-map}
use Rattle.lia_solver.specs.declared.columnwise.Chosen.{Chosen}
use Rattle.lia_solver.specs.declared.columnwise.Chosen.TheVariants as found
use Rattle.lia_solver.specs.steps.Entries.{Entry, sum_at, bounds_above, bounds_below}
use Rattle.lia_solver.specs.steps.Solved.{upper_of, lower_of, floor_of, uppers_in, lowers_in, high_in, low_in, floor_in, extended_in, outcome_by, AreReady, AreKept, IsChosenIn}
use Rattle.lia_solver.specs.steps.Tables.{starts_from, sums_of, live, AreSameBelow, IsBehind}
use Rattle.lia_solver.proofs.Behind.{IsReady, ready-is, among-place, place-among, live-among, live-place, first-starts, upper-above, lower-below, live-strongest, behind-after}
use Rattle.lia_solver.proofs.ChosenPoints.{ascends-from_lower}
use Rattle.lia_solver.proofs.FirstColumns.{above-upper, below-lower, above-from, below-from, above-starts, below-starts}
use Rattle.lia_solver.proofs.Growing.{same-then}
use Rattle.lia_solver.proofs.Stepping.{column-done, column-sides}

-- Bounds of the same rows

both-ways : (y z : ℤ) → y ≤ℤ z → z ≤ℤ y → y ≡ z
both-ways y z h k = omega (arith, ints, h, k)

least-most : (z : ℤ) (f : LinearSum → ℤ) (xs ys : List LinearSum) → ((t : LinearSum) → Among t ys → Among t xs) → least_of z (map f xs)
    ≤ℤ least_of z (map f ys)
least-most z f xs ys h =
    least-limit z (map f ys) (least_of z (map f xs)) (least-start z (map f xs)) (λ w a. below w (map-among f ys w a)) where
      below : (w : ℤ) → ((t : LinearSum) × Among t ys × (f t ≡ w)) → least_of z (map f xs) ≤ℤ w
      below w m =
          subst (λ (v : ℤ). least_of z (map f xs) ≤ℤ v) m.2 (least-below z (map f xs) (f m.0) (among-map f xs m.0 (h m.0 m.1)))

greatest-most : (z : ℤ) (f : LinearSum → ℤ) (xs ys : List LinearSum) → ((t : LinearSum) → Among t ys → Among t xs) →
    greatest_of z (map f ys)
    ≤ℤ greatest_of z (map f xs)
greatest-most z f xs ys h =
    greatest-limit z (map f ys) (greatest_of z (map f xs)) (greatest-start z (map f xs)) (λ w a. above w (map-among f ys w a)) where
      above : (w : ℤ) → ((t : LinearSum) × Among t ys × (f t ≡ w)) → w ≤ℤ greatest_of z (map f xs)
      above w m =
          subst (λ (v : ℤ). v ≤ℤ greatest_of z (map f xs)) m.2 (greatest-above z (map f xs) (f m.0) (among-map f xs m.0 (h m.0 m.1)))

-- the same rows bound the column
pub record SameSides (x : ℕ) (rows : List LinearSum) (entries : List Entry) : Type 0 where
  pub uppers : (t : LinearSum) → Among t (filter (is_upper x) rows) → Among t (uppers_in x entries)
  pub uppers_back : (t : LinearSum) → Among t (uppers_in x entries) → Among t (filter (is_upper x) rows)
  pub lowers : (t : LinearSum) → Among t (filter (is_lower x) rows) → Among t (lowers_in x entries)
  pub lowers_back : (t : LinearSum) → Among t (lowers_in x entries) → Among t (filter (is_lower x) rows)

pub record SameBoundsIn (x : ℕ) (values : List (ℕ × ℤ)) (rows : List LinearSum) (entries : List Entry) : Type 0 where
  pub high : upper_bound x values rows ≡ high_in x values entries
  pub low : lower_bound x values rows ≡ low_in x values entries
  pub floor : lower_floor x values rows ≡ floor_in x values entries

pub bounds-in : (x : ℕ) (values : List (ℕ × ℤ)) (rows : List LinearSum) (entries : List Entry) → SameSides x rows entries →
    SameBoundsIn x values rows entries
bounds-in x values rows entries s = record {
  high = both-ways _ _ (least-most greatest_value (upper_of x values) (filter (is_upper x) rows) (uppers_in x entries) s.uppers_back)
      (least-most greatest_value (upper_of x values) (uppers_in x entries) (filter (is_upper x) rows) s.uppers);
  low = both-ways _ _ (greatest-most least_value (lower_of x values) (lowers_in x entries) (filter (is_lower x) rows) s.lowers)
      (greatest-most least_value (lower_of x values) (filter (is_lower x) rows) (lowers_in x entries) s.lowers_back);
  floor = both-ways _ _ (greatest-most least_value (floor_of x values) (lowers_in x entries) (filter (is_lower x) rows) s.lowers)
      (greatest-most least_value (floor_of x values) (filter (is_lower x) rows) (lowers_in x entries) s.lowers_back);
}

abbrev valued : ℕ → (low high floor : ℤ) → List (ℕ × ℤ) → Outcome
valued x low high floor values =
    if int_le low high then chosen ((x, nearest low high) ∷ values) else split x floor

extended-same : (x : ℕ) (values : List (ℕ × ℤ)) (rows : List LinearSum) (entries : List Entry) → SameBoundsIn x values rows entries →
    with_value x rows (chosen values) ≡ extended_in x entries values
extended-same x values rows entries b = λ i. valued x (b.low i) (b.high i) (b.floor i) values

-- rows of a column stand until the columns after it are eliminated
pub sides-stay : (x : ℕ) (xs : List ℕ) (low : ℕ) (old new : List Entry) → IsReady low (x ∷ xs) old → AreSameBelow (x + 1) old new →
    SameSides x (live low old) new
sides-stay x xs low old new r s = record {
  uppers = λ t a.
      let f = filter-among (is_upper x) (live low old) t a in
      let p = live-place low old t f.0 in
      let start = first-starts x xs low (live low old) t r.ascends r.terms r.named f.0 in
      let above = upper-above x t.parts (IsTerm-from_test t (r.terms t f.0)).order start f.1 in
      let q = s.forth p.place p.inside (ap (λ (u : LinearSum). starts_from (x + 1) u.parts) p.here
      ∙ above-starts x (x + 1) t.parts (omega arith) above) in
      among-filter (λ u. bounds_above x u.parts) (sums_of new) t
      (subst (λ (u : LinearSum). Among u (sums_of new)) (ap (λ (e : Entry). e.sum) q.1 ∙ p.here) (place-among new p.place q.0)) above;
  uppers_back = λ t a.
      let f = filter-among (λ u. bounds_above x u.parts) (sums_of new) t a in
      let p = among-place new t f.0 in
      let q = s.back p.place p.inside (ap (λ (u : LinearSum). starts_from (x + 1) u.parts) p.here
      ∙ above-starts x (x + 1) t.parts (omega arith) f.1) in
      let same : sum_at old p.place ≡ t = sym (ap (λ (e : Entry). e.sum) q.1) ∙ p.here in
      among-filter (is_upper x) (live low old) t (subst (λ (u : LinearSum). Among u (live low old)) same (live-among low old p.place q.0
      (ap (λ (u : LinearSum). starts_from low u.parts) same ∙ above-from x low t.parts r.ascends.0 f.1))) (above-upper x t f.1);
  lowers = λ t a.
      let f = filter-among (is_lower x) (live low old) t a in
      let p = live-place low old t f.0 in
      let start = first-starts x xs low (live low old) t r.ascends r.terms r.named f.0 in
      let below = lower-below x t.parts (IsTerm-from_test t (r.terms t f.0)).order start f.1 in
      let q = s.forth p.place p.inside (ap (λ (u : LinearSum). starts_from (x + 1) u.parts) p.here
      ∙ below-starts x (x + 1) t.parts (omega arith) below) in
      among-filter (λ u. bounds_below x u.parts) (sums_of new) t
      (subst (λ (u : LinearSum). Among u (sums_of new)) (ap (λ (e : Entry). e.sum) q.1 ∙ p.here) (place-among new p.place q.0)) below;
  lowers_back = λ t a.
      let f = filter-among (λ u. bounds_below x u.parts) (sums_of new) t a in
      let p = among-place new t f.0 in
      let q = s.back p.place p.inside (ap (λ (u : LinearSum). starts_from (x + 1) u.parts) p.here
      ∙ below-starts x (x + 1) t.parts (omega arith) f.1) in
      let same : sum_at old p.place ≡ t = sym (ap (λ (e : Entry). e.sum) q.1) ∙ p.here in
      among-filter (is_lower x) (live low old) t (subst (λ (u : LinearSum). Among u (live low old)) same (live-among low old p.place q.0
      (ap (λ (u : LinearSum). starts_from low u.parts) same ∙ below-from x low t.parts r.ascends.0 f.1))) (below-lower x t f.1);
}

-- The plan

-- after the column, and with the values of the others
pub column-values : (x : ℕ) (xs : List ℕ) (low : ℕ) (old mid new : List Entry) (values : List (ℕ × ℤ)) → AreReady low (x ∷ xs) old →
    IsBehind x old mid → AreSameBelow (x + 1) mid new → outcome xs (live (x + 1) mid) ≡ chosen values → outcome (x ∷ xs) (live low old)
    ≡ extended_in x new values
column-values x xs low old mid new values ready b s o =
    let r = ready-is low (x ∷ xs) old ready in
    let same = same-then (x + 1) old mid new b.grown.same s in
    column-done x xs (live low old) (live (x + 1) mid) (live-strongest (x + 1) mid b.grown.rows) (behind-after x xs low old mid r b) b.count
    ∙ ap (with_value x (live low old)) o
    ∙ extended-same x values (live low old) new (bounds-in x values (live low old) new (sides-stay x xs low old new r same))

pub values-sides : (x : ℕ) (xs : List ℕ) (low : ℕ) (old mid new : List Entry) (values : List (ℕ × ℤ)) → AreReady low (x ∷ xs) old →
    IsBehind x old mid → AreSameBelow (x + 1) mid new → outcome xs (live (x + 1) mid) ≡ chosen values →
    IsTrue (int_lt (high_in x values new) (low_in x values new)) → floor_in x values new <ℤ greatest_value
values-sides x xs low old mid new values ready b s o h =
    let r = ready-is low (x ∷ xs) old ready in
    let same = same-then (x + 1) old mid new b.grown.same s in
    let bounds = bounds-in x values (live low old) new (sides-stay x xs low old new r same) in
    let crossed : high_in x values new <ℤ low_in x values new = lt_from (high_in x values new) (low_in x values new) h in
    let inside = column-sides x xs (live low old) (live (x + 1) mid) values (ascends-from_lower low 0 (x ∷ xs) (omega arith) r.ascends)
    (behind-after x xs low old mid r b) r.terms r.named (r.ranges x (inl refl)) o
    (omega (arith, ints, crossed, bounds.high, bounds.low)) in
    omega (arith, ints, inside, bounds.floor) where
      lt_from : (y z : ℤ) → IsTrue (int_lt y z) → y <ℤ z
      lt_from y z k = grind (arith, ints)

-- another outcome of the others is one of all
pub column-passed : (x : ℕ) (xs : List ℕ) (low : ℕ) (old mid : List Entry) (c : Chosen) → AreReady low (x ∷ xs) old → IsBehind x old mid →
    ((values : List (ℕ × ℤ)) → c ≡ found.Values values → ⊥) → outcome xs (live (x + 1) mid) ≡ outcome_by c → outcome (x ∷ xs) (live low old)
    ≡ outcome_by c
column-passed x xs low old mid c ready b n o =
    let r = ready-is low (x ∷ xs) old ready in
    column-done x xs (live low old) (live (x + 1) mid) (live-strongest (x + 1) mid b.grown.rows) (behind-after x xs low old mid r b) b.count
    ∙ ap (with_value x (live low old)) o ∙ by_choice c n where
      by_choice : (d : Chosen) → ((values : List (ℕ × ℤ)) → d ≡ found.Values values → ⊥) → with_value x (live low old) (outcome_by d)
          ≡ outcome_by d
      by_choice (found.Values values) m = absurd (m values refl)
      by_choice (found.Split y at) m = refl
      by_choice (found.Contradiction place) m = refl
      by_choice found.Wide m = refl
      by_choice found.Rows m = refl

-- Extended values

pub extended-crossed : (x : ℕ) (entries : List Entry) (values : List (ℕ × ℤ)) → IsTrue (int_lt (high_in x values entries)
    (low_in x values entries)) → extended_in x entries values ≡ split x (floor_in x values entries)
extended-crossed x entries values h =
    let apart : int_le (low_in x values entries) (high_in x values entries) ≡ false = crossed (low_in x values entries)
    (high_in x values entries) h in
    ap (λ b. if b then chosen ((x, nearest (low_in x values entries) (high_in x values entries)) ∷ values) else split x
    (floor_in x values entries)) apart where
      crossed : (y z : ℤ) → IsTrue (int_lt z y) → int_le y z ≡ false
      crossed y z k = grind (arith, ints)

pub low-between : (x : ℕ) (values : List (ℕ × ℤ)) (entries : List Entry) → least_value ≤ℤ low_in x values entries
low-between x values entries = greatest-start least_value (map (lower_of x values) (lowers_in x entries))

pub floor-between : (x : ℕ) (values : List (ℕ × ℤ)) (entries : List Entry) → least_value ≤ℤ floor_in x values entries
floor-between x values entries = greatest-start least_value (map (floor_of x values) (lowers_in x entries))

pub high-between : (x : ℕ) (values : List (ℕ × ℤ)) (entries : List Entry) → high_in x values entries ≤ℤ greatest_value
high-between x values entries = least-start greatest_value (map (upper_of x values) (uppers_in x entries))

-- the outcome of an extension
pub extended-found : (x : ℕ) (xs : List ℕ) (old new : List Entry) (values : List (ℕ × ℤ)) (c : Chosen) → outcome_by c
    ≡ extended_in x new values → AreKept (x ∷ xs) old new → (IsTrue (int_lt (high_in x values new) (low_in x values new)) →
    floor_in x values new <ℤ greatest_value) → IsChosenIn (x ∷ xs) old new c
extended-found x xs old new values c e k inside =
    by_choice c (int_le (low_in x values new) (high_in x values new)) refl e where
      below : int_le (low_in x values new) (high_in x values new) ≡ false → IsTrue (int_lt (high_in x values new) (low_in x values new))
      below h = crossed (low_in x values new) (high_in x values new) h where
        crossed : (y z : ℤ) → int_le y z ≡ false → IsTrue (int_lt z y)
        crossed y z q = grind (arith, ints)

      by_choice : (d : Chosen) (b : Bool) → int_le (low_in x values new) (high_in x values new) ≡ b → outcome_by d
          ≡ (if b then chosen ((x, nearest (low_in x values new) (high_in x values new)) ∷ values) else split x (floor_in x values new)) →
          IsChosenIn (x ∷ xs) old new d
      by_choice (found.Values vs) b h o = k
      by_choice (found.Split y at) true h o = absurd (cc)
      by_choice (found.Split y at) false h o =
          let same : y ≡ x = cc in
          let floor : at ≡ floor_in x values new = cc in
          (subst (λ z. z <ℤ greatest_value) (sym floor) (inside (below h)), among-contains (x ∷ xs) y (inl (sym same)))
      by_choice (found.Contradiction place) true h o = absurd (cc)
      by_choice (found.Contradiction place) false h o = absurd (cc)
      by_choice found.Wide true h o = absurd (cc)
      by_choice found.Wide false h o = absurd (cc)
      by_choice found.Rows true h o = absurd (cc)
      by_choice found.Rows false h o = absurd (cc)

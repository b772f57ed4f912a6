-- The rows of a table, as the plan's rows.
use Rattle.std.proofs.Common.{◌≡◌, ◌⊎◌, inl, inr, ℕ, zero, suc, ◌<◌, ◌≤◌, ◌+◌, ◌^◌, ◌==◌, ◌&&◌, Bool, true, false, List, [], ◌∷◌, length, ℤ, pos, arith, refl, sym, ap, subst, ◌∙◌}
use Rattle.std.specs.Prelude.{IsTrue, filter, int_lt, if◌then◌else◌}
use Rattle.std.proofs.lemmas.Bool.{cases_lt}
use Rattle.linear_formula.specs.LinearSum.{LinearSum, coefficient, listed_at, is_zero, is_term, is_within}
use Rattle.linear_formula.specs.steps.Order.{InOrder}
use Rattle.linear_formula.proofs.Limits.{IsTerm-from_test}
use Rattle.linear_formula.proofs.Order.{listed-absent}
use Rattle.infeasible_cert.proofs.Ascending.{Ascends}
use Rattle.shadow_elim.specs.Division.{tightened}
use Rattle.shadow_elim.specs.Elimination.{is_free, pair_sum}
use Rattle.shadow_elim.specs.Reduction.{is_trivial}
use Rattle.shadow_elim.proofs.Exact.{HasRange as IsRanged, range-kept}
use Rattle.shadow_elim.proofs.Keeping.{IsPairOf, IsFreeIn, IsMadeOf, IsAfter}
use Rattle.shadow_elim.proofs.Members.{Among, among-filter, filter-among, contains-among, among-contains}
use Rattle.shadow_elim.proofs.Naming.{AllTerms}
use Rattle.shadow_elim.proofs.PairSums.{free-is}
use Rattle.shadow_elim.proofs.Staying.{IsCovered}
use Rattle.lia_solver.specs.steps.Solved.{HasRange}
use Rattle.lia_solver.specs.steps.Entries.{Entry, entry_at, sum_at, bounds_above, bounds_below, ArePaired}
use Rattle.lia_solver.specs.steps.Solved.{AreReady}
use Rattle.lia_solver.specs.steps.Tables.{starts_from, sums_of, live, IsHeld, AreRows, IsOld, IsMadeIn, IsGrown, IsBehind}
use Rattle.lia_solver.proofs.ChosenPoints.{ascends-from_test, test-from_ascends, ascends-above, NamesOnly, after-names_only}
use Rattle.lia_solver.proofs.Ranges.{all-at, all-from, ranged-from, range-from}
use Rattle.lia_solver.proofs.FirstColumns.{starts, above-upper, below-lower, above-from, below-from, starts-absent, starts-lower, starts-order, absent-starts, sum-starts}
use Rattle.lia_solver.proofs.Growing.{upper-stays, lower-stays}
use Rattle.lia_solver.proofs.Strongest.{AreApart, AreStrongest}

no_way : true ≡ false → ⊥
no_way h = cc

-- Rows at their places

pub place-among : (entries : List Entry) (i : ℕ) → i < length entries → Among (sum_at entries i) (sums_of entries)
place-among [] i h = absurd (omega (arith, h))
place-among (e ∷ es) zero h = inl refl
place-among (e ∷ es) (suc i) h = inr (place-among es i (omega (arith, h)))

pub record IsPlace (entries : List Entry) (t : LinearSum) : Type 0 where
  pub place : ℕ
  pub inside : place < length entries
  pub here : sum_at entries place ≡ t

pub among-place : (entries : List Entry) (t : LinearSum) → Among t (sums_of entries) → IsPlace entries t
among-place [] t h = absurd h
among-place (e ∷ es) t (inl same) = record { place = 0; inside = omega arith; here = same }
among-place (e ∷ es) t (inr h) =
    let p = among-place es t h in
    record { place = suc p.place; inside = omega (arith, p.inside); here = p.here }

pub live-among : (x : ℕ) (entries : List Entry) (i : ℕ) → i < length entries → starts_from x (sum_at entries i).parts ≡ true →
    Among (sum_at entries i) (live x entries)
live-among x entries i h k =
    among-filter (starts x) (sums_of entries) (sum_at entries i) (place-among entries i h) k

pub record IsLivePlace (x : ℕ) (entries : List Entry) (t : LinearSum) : Type 0 where
  pub place : ℕ
  pub inside : place < length entries
  pub here : sum_at entries place ≡ t
  pub starting : starts_from x t.parts ≡ true

pub live-place : (x : ℕ) (entries : List Entry) (t : LinearSum) → Among t (live x entries) → IsLivePlace x entries t
live-place x entries t h =
    let f = filter-among (starts x) (sums_of entries) t h in
    let p = among-place entries t f.0 in
    record {
      place = p.place;
      inside = p.inside;
      here = p.here;
      starting = f.1;
    }

pub held-covered : (x : ℕ) (entries : List Entry) (t : LinearSum) → starts_from x t.parts ≡ true → IsHeld t entries →
    IsCovered t (live x entries)
held-covered x entries t k (inl e) = inl e
held-covered x entries t k (inr h) =
    inr (sum_at entries h.0, live-among x entries h.0 h.1 (ap (starts_from x) h.2 ∙ k), record { parts = h.2; constant = h.3 })

-- Strongest rows

apart-from : (entries : List Entry) → ((i j : ℕ) → i < length entries → j < length entries → (sum_at entries i).parts
    ≡ (sum_at entries j).parts → i ≡ j) → AreApart (sums_of entries)
apart-from [] h = tt
apart-from (e ∷ es) h = (
  λ s a k.
      let p = among-place es s a in
      let same : 0 ≡ suc p.place = h 0 (suc p.place) (omega arith) (omega (arith, p.inside))
      (sym (ap (λ (r : LinearSum). r.parts) p.here ∙ k)) in
      absurd (omega (arith, same)),
  apart-from es (λ i j a b k.
      let same : suc i ≡ suc j = h (suc i) (suc j) (omega (arith, a)) (omega (arith, b)) k in
      omega (arith, same)),
)

filter-apart : (p : LinearSum → Bool) (rows : List LinearSum) → AreApart rows → AreApart (filter p rows)
filter-apart p [] h = tt
filter-apart p (t ∷ ts) h = by_test (p t) (filter-apart p ts h.1) where
  by_test : (b : Bool) → AreApart (filter p ts) → AreApart (if b then (t ∷ filter p ts) else filter p ts)
  by_test true k = (λ s a e. h.0 s (filter-among p ts s a).0 e, k)
  by_test false k = k

pub live-strongest : (x : ℕ) (entries : List Entry) → AreRows entries → AreStrongest (live x entries)
live-strongest x entries r = record {
  apart = filter-apart (starts x) (sums_of entries) (apart-from entries r.apart);
  real = λ t a.
      let p = live-place x entries t a in
      ap is_trivial (sym p.here) ∙ r.real p.place p.inside;
}

-- What is ready for a column

pub record IsReady (low : ℕ) (columns : List ℕ) (entries : List Entry) : Type 0 where
  pub rows : AreRows entries
  pub ascends : Ascends low columns
  pub terms : AllTerms (live low entries)
  pub named : NamesOnly columns (live low entries)
  pub ranges : (x : ℕ) → Among x columns → IsRanged x (live low entries)

pub live-terms : (x : ℕ) (entries : List Entry) → AreRows entries → AllTerms (live x entries)
live-terms x entries r t a =
    let p = live-place x entries t a in
    subst (λ (s : LinearSum). IsTrue (is_term s)) p.here (r.terms.greatest p.place p.inside)

pub ready-is : (low : ℕ) (columns : List ℕ) (entries : List Entry) → AreReady low columns entries → IsReady low columns entries
ready-is low columns entries r = record {
  rows = r.rows;
  ascends = ascends-from_test low columns r.ascending;
  terms = live-terms low entries r.rows;
  named = λ y n t a. all-at (λ s. coefficient y s ≡ pos 0) (live low entries) (r.named y (λ m. n (contains-among columns y m))) t a;
  ranges = λ x a. ranged-from (live low entries) x (all-at (HasRange (live low entries)) columns r.ranges x a);
}

pub is-ready : (low : ℕ) (columns : List ℕ) (entries : List Entry) → low ≤ 2 ^ 32 → IsReady low columns entries →
    AreReady low columns entries
is-ready low columns entries b r = record {
  rows = r.rows;
  bound = b;
  ascending = test-from_ascends low columns r.ascends;
  named = λ y n. all-from (λ s. coefficient y s ≡ pos 0) (live low entries) (λ t a. r.named y (λ m. n (among-contains columns y m)) t a);
  ranges = all-from (HasRange (live low entries)) columns (λ x a. range-from (live low entries) x (r.ranges x a));
}

-- a row of these columns that names x names no column before x
pub first-starts : (x : ℕ) (xs : List ℕ) (low : ℕ) (rows : List LinearSum) (t : LinearSum) → Ascends low (x ∷ xs) → AllTerms rows →
    NamesOnly (x ∷ xs) rows → Among t rows → starts_from x t.parts ≡ true
first-starts x xs low rows t s k n a = absent-starts x t.parts (IsTerm-from_test t (k t a)).order (λ z h. n z (λ m. below z h m) t a) where
  below : (z : ℕ) → z < x → Among z (x ∷ xs) → ⊥
  below z h (inl e) = omega (arith, h, e)
  below z h (inr m) =
      let above : x + 1 ≤ z = ascends-above (x + 1) xs z s.1 m in
      omega (arith, h, above)

-- a row that names no column before x and has a coefficient of x begins with it
pub upper-above : (x : ℕ) (ps : List (ℕ × ℤ)) → InOrder 0 ps → starts_from x ps ≡ true → IsTrue (int_lt (pos 0) (listed_at x ps)) →
    IsTrue (bounds_above x ps)
upper-above x [] o k h = absurd (cc)
upper-above x (p ∷ ps) o k h = by_test (x == p.0) refl h where
  by_test : (b : Bool) → (x == p.0) ≡ b → IsTrue (int_lt (pos 0) (if b then p.1 else listed_at x ps)) → IsTrue (b && int_lt (pos 0) p.1)
  by_test true e q = q
  by_test false e q =
      let above = starts-order x (p ∷ ps) o k in
      let zero_at : listed_at x ps ≡ pos 0 = listed-absent x (p.0 + 1) ps (omega (arith, above.0)) above.3 in
      absurd (no_way (sym q ∙ ap (int_lt (pos 0)) zero_at))

pub lower-below : (x : ℕ) (ps : List (ℕ × ℤ)) → InOrder 0 ps → starts_from x ps ≡ true → IsTrue (int_lt (listed_at x ps) (pos 0)) →
    IsTrue (bounds_below x ps)
lower-below x [] o k h = absurd (cc)
lower-below x (p ∷ ps) o k h = by_test (x == p.0) refl h where
  by_test : (b : Bool) → (x == p.0) ≡ b → IsTrue (int_lt (if b then p.1 else listed_at x ps) (pos 0)) → IsTrue (b && int_lt p.1 (pos 0))
  by_test true e q = q
  by_test false e q =
      let above = starts-order x (p ∷ ps) o k in
      let zero_at : listed_at x ps ≡ pos 0 = listed-absent x (p.0 + 1) ps (omega (arith, above.0)) above.3 in
      absurd (no_way (sym q ∙ ap (λ z. int_lt z (pos 0)) zero_at))

-- one that has none begins with a later one
free-starts : (x : ℕ) (ps : List (ℕ × ℤ)) → InOrder 0 ps → starts_from x ps ≡ true → listed_at x ps ≡ pos 0 → starts_from (x + 1) ps ≡ true
free-starts x ps o k h = absent-starts (x + 1) ps o (λ z q. by_place z q (cases_lt z x)) where
  by_place : (z : ℕ) → z < x + 1 → (z < x) ⊎ (x ≤ z) → listed_at z ps ≡ pos 0
  by_place z q (inl lt) = starts-absent x z ps o k lt
  by_place z q (inr ge) =
      let same : x ≡ z = omega (arith, q, ge) in
      subst (λ (y : ℕ). listed_at y ps ≡ pos 0) same h

zero-free : (x : ℕ) (t : LinearSum) → coefficient x t ≡ pos 0 → is_free x t ≡ true
zero-free x t h = ap is_zero h

-- Pairs

pub pair-places : (x : ℕ) (xs : List ℕ) (low : ℕ) (entries : List Entry) (u l : LinearSum) → IsReady low (x ∷ xs) entries →
    IsPairOf x (live low entries) u l → (i : ℕ) × (j : ℕ) × ArePaired x entries i j × (sum_at entries i ≡ u) × (sum_at entries j ≡ l)
pair-places x xs low entries u l r p =
    let f = live-place low entries u p.upper in
    let g = live-place low entries l p.lower in
    let su = first-starts x xs low (live low entries) u r.ascends r.terms r.named p.upper in
    let sl = first-starts x xs low (live low entries) l r.ascends r.terms r.named p.lower in
    let bu = upper-above x u.parts (IsTerm-from_test u (r.terms u p.upper)).order su p.is_upper in
    let bl = lower-below x l.parts (IsTerm-from_test l (r.terms l p.lower)).order sl p.is_lower in (
      f.place,
      g.place,
      record {
        terms = r.rows.terms;
        upper_place = f.inside;
        lower_place = g.inside;
        above = subst (λ (t : LinearSum). IsTrue (bounds_above x t.parts)) (sym f.here) bu;
        below = subst (λ (t : LinearSum). IsTrue (bounds_below x t.parts)) (sym g.here) bl;
      },
      f.here,
      g.here,
    )

pub places-pair : (x low : ℕ) (entries : List Entry) (i j : ℕ) → low ≤ x → ArePaired x entries i j →
    IsPairOf x (live low entries) (sum_at entries i) (sum_at entries j)
places-pair x low entries i j h p = record {
  upper = live-among low entries i p.upper_place (above-from x low (sum_at entries i).parts h p.above);
  lower = live-among low entries j p.lower_place (below-from x low (sum_at entries j).parts h p.below);
  is_upper = above-upper x (sum_at entries i) p.above;
  is_lower = below-lower x (sum_at entries j) p.below;
}

-- What is left of the column

-- where each row comes from
pub grown-from : (x : ℕ) (xs : List ℕ) (low : ℕ) (old new : List Entry) → IsReady low (x ∷ xs) old → IsGrown x old new →
    (t : LinearSum) → Among t (live (x + 1) new) → IsFreeIn x (live low old) t ⊎ IsMadeOf x (live low old) t
grown-from x xs low old new r g t a =
    by_origin (g.from p.place p.inside) where
      p : IsLivePlace (x + 1) new t
      p = live-place (x + 1) new t a

      by_origin : IsOld old (entry_at new p.place) ⊎ IsMadeIn x old (entry_at new p.place) → IsFreeIn x (live low old) t
          ⊎ IsMadeOf x (live low old) t
      by_origin (inl o) =
          let same : sum_at old o.place ≡ t = sym o.sum ∙ p.here in
          let order = (IsTerm-from_test t (subst (λ (s : LinearSum). IsTrue (is_term s)) same
          (r.rows.terms.greatest o.place o.inside))).order
          in
          inl (record {
            here = subst (λ (s : LinearSum). Among s (live low old)) same (live-among low old o.place o.inside
                (ap (λ (s : LinearSum). starts_from low s.parts) same
                ∙ starts-lower low (x + 1) t.parts (omega (arith, r.ascends.0)) p.starting));
            free = zero-free x t (starts-absent (x + 1) x t.parts order p.starting (omega arith));
          })
      by_origin (inr m) = inr (record {
        first = sum_at old m.upper;
        second = sum_at old m.lower;
        pair = places-pair x low old m.upper m.lower r.ascends.0 m.paired;
        same = sym m.sum ∙ p.here;
      })

record IsSummedPair (x : ℕ) (entries : List Entry) (u l : LinearSum) : Type 0 where
  pub within : IsTrue (is_within (pair_sum x (u, l)))
  pub held : IsHeld (tightened (pair_sum x (u, l))) entries

pub behind-after : (x : ℕ) (xs : List ℕ) (low : ℕ) (old new : List Entry) → IsReady low (x ∷ xs) old → IsBehind x old new →
    IsAfter x (live low old) (live (x + 1) new)
behind-after x xs low old new r b = record {
  within = λ u l p. (summed u l p).within;
  made = λ u l p.
      let f = pair-places x xs low old u l r p in
      let s = summed u l p in
      held-covered (x + 1) new (tightened (pair_sum x (u, l)))
      (sum-starts x u l (r.terms u p.upper) (r.terms l p.lower)
      (subst (λ (t : LinearSum). IsTrue (bounds_above x t.parts)) f.3 f.2.above)
      (subst (λ (t : LinearSum). IsTrue (bounds_below x t.parts)) f.4 f.2.below) s.within).1 s.held;
  free = λ t f.
      let p = live-place low old t f.here in
      let order = (IsTerm-from_test t (r.terms t f.here)).order in
      let start = first-starts x xs low (live low old) t r.ascends r.terms r.named f.here in
      held-covered (x + 1) new t (free-starts x t.parts order start (free-is x t f.free))
      (subst (λ (s : LinearSum). IsHeld s new) p.here (b.grown.held p.place p.inside));
  from = grown-from x xs low old new r b.grown;
} where
  summed : (u l : LinearSum) → IsPairOf x (live low old) u l → IsSummedPair x new u l
  summed u l p =
      let f = pair-places x xs low old u l r p in
      let s = b.summed f.0 f.1 f.2 in
      let eu : sum_at new f.0 ≡ u = upper-stays x old new f.0 f.1 b.grown.same f.2 ∙ f.3 in
      let el : sum_at new f.1 ≡ l = lower-stays x old new f.0 f.1 b.grown.same f.2 ∙ f.4 in
      subst (λ (v : LinearSum). IsSummedPair x new v l) eu (subst (λ (v : LinearSum). IsSummedPair x new (sum_at new f.0) v) el
      (record { within = s.within; held = s.held }))

pub behind-ready : (x : ℕ) (xs : List ℕ) (low : ℕ) (old new : List Entry) → IsReady low (x ∷ xs) old → IsBehind x old new →
    IsReady (x + 1) xs new
behind-ready x xs low old new r b =
    let a = behind-after x xs low old new r b in
    record {
      rows = b.grown.rows;
      ascends = r.ascends.1;
      terms = live-terms (x + 1) new b.grown.rows;
      named = after-names_only x xs (live low old) (live (x + 1) new) a r.terms r.named;
      ranges = λ y m. range-kept x y (live low old) (live (x + 1) new) a (apart y m) (r.ranges y (inr m));
    } where
      apart : (y : ℕ) → Among y xs → x ≡ y → ⊥
      apart y m e =
          let above : x + 1 ≤ y = ascends-above (x + 1) xs y r.ascends.1 m in
          omega (arith, above, e)

-- What comes of rows that cover each other is the same.
use Rattle.std.proofs.Common.{◌≡◌, ◌⊎◌, inl, inr, ℕ, ◌<◌, ◌≤◌, Bool, true, false, List, [], ◌∷◌, ◌++◌, length, map, ℤ, pos, ◌+ℤ◌, ◌-ℤ◌, ◌*ℤ◌, neg_ℤ, arith, refl, sym, ap, subst, ◌∙◌}
use Rattle.std.specs.Cmp.{both_ways}
use Rattle.std.specs.Prelude.{◌≤ℤ◌, ◌<ℤ◌, filter, int_le, nat_le, if◌then◌else◌}
use Rattle.std.specs.List.{list_all, list_any}
use Rattle.std.proofs.lemmas.Int.{ints}
use Rattle.linear_formula.specs.LinearSum.{LinearSum, value_of_parts, valuation, is_within}
use Rattle.linear_formula.proofs.Ring.{mul-add}
use Rattle.infeasible_cert.proofs.Signs.{below_multiplier}
use Rattle.shadow_elim.specs.Division.{floor_quotient, ceiling_quotient, tightened}
use Rattle.shadow_elim.specs.Elimination.{is_upper, is_lower, is_free, size_of, pairs, pair_sum, pair_sums, remains, wide, too_many, counted, after_column}
use Rattle.shadow_elim.specs.declared.limit.TheConstants.{MAX_ROWS}
use Rattle.shadow_elim.specs.Points.{Outcome, chosen, refuted, split, too_wide, too_many_rows, least_value, greatest_value, greatest_of, least_of, rest_of, upper_bound, lower_bound, lower_floor, nearest, with_value, outcome_after, outcome}
use Rattle.shadow_elim.specs.Reduction.{reduced, is_contradiction, is_trivial, has_no_parts}
use Rattle.shadow_elim.proofs.Bests.{greatest-start, greatest-above, greatest-limit, least-start, least-below, least-limit}
use Rattle.shadow_elim.proofs.Filtering.{among-any}
use Rattle.shadow_elim.proofs.Keeping.{IsPairOf, among-pairs, pairs-among, IsFreeIn, IsMadeOf, IsAfter}
use Rattle.shadow_elim.proofs.Members.{Among, among-append_left, among-append_right, among-append_cases, among-filter, filter-among, among-map, map-among, any-among, all-among}
use Rattle.shadow_elim.proofs.PairSums.{upper-is, lower-is}
use Rattle.shadow_elim.proofs.Staying.{IsAtLeast, HasAtLeast, reduced-covers, reduced-among}
use Rattle.shadow_elim.proofs.Tests.{le_from, second_true}
use Rattle.shadow_elim.proofs.Tightening.{floor-bounds}
use Rattle.lia_solver.proofs.Closing.{is-contradiction, IsNever, contradiction-is}
use Rattle.lia_solver.proofs.Covering.{Covers, upper-same, lower-same, size-same, covered-upper, covered-lower, ceiling-grows, covers-behind}
use Rattle.lia_solver.proofs.Strongest.{AreStrongest, reduced-strongest, covered-real, strongest-among, count-most}

-- Bounds

floor-grows : (a b : ℤ) (d : ℕ) → 0 < d → a ≤ℤ b → floor_quotient a d ≤ℤ floor_quotient b d
floor-grows a b d h k =
    let c = floor_quotient a d in
    let e = floor_quotient b d in
    let p = floor-bounds a d h in
    let q = floor-bounds b d h in
    let f : c ≡ (c -ℤ e) +ℤ e = omega (arith, ints) in
    let g : (pos d *ℤ (c -ℤ e)) <ℤ pos d = omega (arith, ints, p.0, q.1, k, mul-add (pos d) (c -ℤ e) e, ap (λ z. pos d *ℤ z) f) in
    let i = below_multiplier (pos d) (c -ℤ e) (omega (arith, ints, h)) g in
    omega (arith, ints, i)

rest-grows : (values : List (ℕ × ℤ)) (s t : LinearSum) → IsAtLeast s t → rest_of values t ≤ℤ rest_of values s
rest-grows values s t h =
    omega (arith, ints, h.constant, ap (value_of_parts (valuation values)) h.parts)

-- a bound of the rows that pass a test, where a stronger row passes it too and bounds more
abbrev Grows : (LinearSum → Bool) → (LinearSum → LinearSum → Type 0) → Type 0
Grows p R = (s t : LinearSum) → IsAtLeast s t → p t ≡ true → (p s ≡ true) × R s t

abbrev Finds : (LinearSum → Bool) → List LinearSum → List LinearSum → Type 0
Finds p rows others = (t : LinearSum) → Among t others → p t ≡ true → HasAtLeast t rows

greatest-covers : (p : LinearSum → Bool) (f : LinearSum → ℤ) (z : ℤ) (rows others : List LinearSum) → Grows p (λ s t. f t ≤ℤ f s) →
    Finds p rows others → greatest_of z (map f (filter p others)) ≤ℤ greatest_of z (map f (filter p rows))
greatest-covers p f z rows others g h =
    greatest-limit z (map f (filter p others)) (greatest_of z (map f (filter p rows))) (greatest-start z (map f (filter p rows)))
    (λ w a. below w (map-among f (filter p others) w a)) where
      below : (w : ℤ) → ((t : LinearSum) × Among t (filter p others) × (f t ≡ w)) → w ≤ℤ greatest_of z (map f (filter p rows))
      below w a =
          let b = filter-among p others a.0 a.1 in
          let c = h a.0 b.0 b.1 in
          let d = g c.0 a.0 c.2 b.1 in
          let e = greatest-above z (map f (filter p rows)) (f c.0) (among-map f (filter p rows) c.0 (among-filter p rows c.0 c.1 d.0)) in
          omega (arith, ints, a.2, d.1, e)

least-covers : (p : LinearSum → Bool) (f : LinearSum → ℤ) (z : ℤ) (rows others : List LinearSum) → Grows p (λ s t. f s ≤ℤ f t) →
    Finds p rows others → least_of z (map f (filter p rows)) ≤ℤ least_of z (map f (filter p others))
least-covers p f z rows others g h =
    least-limit z (map f (filter p others)) (least_of z (map f (filter p rows))) (least-start z (map f (filter p rows)))
    (λ w a. above w (map-among f (filter p others) w a)) where
      above : (w : ℤ) → ((t : LinearSum) × Among t (filter p others) × (f t ≡ w)) → least_of z (map f (filter p rows)) ≤ℤ w
      above w a =
          let b = filter-among p others a.0 a.1 in
          let c = h a.0 b.0 b.1 in
          let d = g c.0 a.0 c.2 b.1 in
          let e = least-below z (map f (filter p rows)) (f c.0) (among-map f (filter p rows) c.0 (among-filter p rows c.0 c.1 d.0)) in
          omega (arith, ints, a.2, d.1, e)

finds-upper : (x : ℕ) (rows others : List LinearSum) → Covers rows others → Finds (is_upper x) rows others
finds-upper x rows others h = λ t a u. covered-upper x rows t u (h t a)

finds-lower : (x : ℕ) (rows others : List LinearSum) → Covers rows others → Finds (is_lower x) rows others
finds-lower x rows others h = λ t a l. covered-lower x rows t l (h t a)

upper-grows : (x : ℕ) (values : List (ℕ × ℤ)) → Grows (is_upper x) (λ s t. floor_quotient (neg_ℤ (rest_of values s)) (size_of x s) ≤ℤ
    floor_quotient (neg_ℤ (rest_of values t)) (size_of x t))
upper-grows x values = λ s t h u. (
  upper-same x s t h ∙ u,
  subst (λ (n : ℕ). floor_quotient (neg_ℤ (rest_of values s)) n ≤ℤ floor_quotient (neg_ℤ (rest_of values t)) (size_of x t))
      (sym (size-same x s t h)) (floor-grows (neg_ℤ (rest_of values s)) (neg_ℤ (rest_of values t)) (size_of x t) (upper-is x t u).positive
      (omega (arith, ints, rest-grows values s t h))),
)

low-grows : (x : ℕ) (values : List (ℕ × ℤ)) → Grows (is_lower x) (λ s t. ceiling_quotient (rest_of values t) (size_of x t) ≤ℤ
    ceiling_quotient (rest_of values s) (size_of x s))
low-grows x values = λ s t h l. (
  lower-same x s t h ∙ l,
  subst (λ (n : ℕ). ceiling_quotient (rest_of values t) (size_of x t) ≤ℤ ceiling_quotient (rest_of values s) n) (sym (size-same x s t h))
      (ceiling-grows (rest_of values t) (rest_of values s) (size_of x t) (lower-is x t l).positive (rest-grows values s t h)),
)

floor-of-grows : (x : ℕ) (values : List (ℕ × ℤ)) → Grows (is_lower x) (λ s t. floor_quotient (rest_of values t) (size_of x t) ≤ℤ
    floor_quotient (rest_of values s) (size_of x s))
floor-of-grows x values = λ s t h l. (
  lower-same x s t h ∙ l,
  subst (λ (n : ℕ). floor_quotient (rest_of values t) (size_of x t) ≤ℤ floor_quotient (rest_of values s) n) (sym (size-same x s t h))
      (floor-grows (rest_of values t) (rest_of values s) (size_of x t) (lower-is x t l).positive (rest-grows values s t h)),
)

both-ways : (y z : ℤ) → y ≤ℤ z → z ≤ℤ y → y ≡ z
both-ways y z h k = omega (arith, ints, h, k)

-- the rows say the same of a column at the values so far
pub record SameBounds (x : ℕ) (values : List (ℕ × ℤ)) (rows others : List LinearSum) : Type 0 where
  pub upper : upper_bound x values rows ≡ upper_bound x values others
  pub lower : lower_bound x values rows ≡ lower_bound x values others
  pub floor : lower_floor x values rows ≡ lower_floor x values others

pub bounds-same : (x : ℕ) (values : List (ℕ × ℤ)) (rows others : List LinearSum) → Covers rows others → Covers others rows →
    SameBounds x values rows others
bounds-same x values rows others h k = record {
  upper =
      let f = λ (t : LinearSum). floor_quotient (neg_ℤ (rest_of values t)) (size_of x t) in
      both-ways _ _ (least-covers (is_upper x) f greatest_value rows others (upper-grows x values) (finds-upper x rows others h))
      (least-covers (is_upper x) f greatest_value others rows (upper-grows x values) (finds-upper x others rows k));
  lower =
      let f = λ (t : LinearSum). ceiling_quotient (rest_of values t) (size_of x t) in
      both-ways _ _ (greatest-covers (is_lower x) f least_value others rows (low-grows x values) (finds-lower x others rows k))
      (greatest-covers (is_lower x) f least_value rows others (low-grows x values) (finds-lower x rows others h));
  floor =
      let f = λ (t : LinearSum). floor_quotient (rest_of values t) (size_of x t) in
      both-ways _ _ (greatest-covers (is_lower x) f least_value others rows (floor-of-grows x values) (finds-lower x others rows k))
      (greatest-covers (is_lower x) f least_value rows others (floor-of-grows x values) (finds-lower x rows others h));
}

-- a value, or the split, by the bounds of a column
abbrev valued : ℕ → (low high floor : ℤ) → List (ℕ × ℤ) → Outcome
valued x low high floor values = if int_le low high then chosen ((x, nearest low high) ∷ values) else split x floor

pub with_value-same : (x : ℕ) (rows others : List LinearSum) (o : Outcome) → Covers rows others → Covers others rows → with_value x rows o
    ≡ with_value x others o
with_value-same x rows others (chosen values) h k =
    let b = bounds-same x values rows others h k in
    ap (λ low. valued x low (upper_bound x values rows) (lower_floor x values rows) values) b.lower
    ∙ ap (λ high. valued x (lower_bound x values others) high (lower_floor x values rows) values) b.upper
    ∙ ap (λ floor. valued x (lower_bound x values others) (upper_bound x values others) floor values) b.floor
with_value-same x rows others refuted h k = refl
with_value-same x rows others (split y at) h k = refl
with_value-same x rows others too_wide h k = refl
with_value-same x rows others too_many_rows h k = refl

-- Limits

pub all-from-among : {X : Type 0} (p : X → Bool) (xs : List X) → ((t : X) → Among t xs → p t ≡ true) → list_all p xs ≡ true
all-from-among p [] h = refl
all-from-among p (x ∷ xs) h = rw (h x (inl refl)) (all-from-among p xs (λ t a. h t (inr a)))

-- the sums of a column's pairs are within the limits for the one rows exactly where for the others
abbrev pub SameWidth : ℕ → List LinearSum → List LinearSum → Type 0
SameWidth x rows others = list_all is_within (pair_sums x rows) ≡ list_all is_within (pair_sums x others)

pub width-among : (x : ℕ) (rows others : List LinearSum) → ((t : LinearSum) → Among t others → Among t rows) →
    list_all is_within (pair_sums x rows) ≡ true → list_all is_within (pair_sums x others) ≡ true
width-among x rows others h w = all-from-among is_within (pair_sums x others) (λ t a. of_pair t (map-among (pair_sum x) (pairs x others) t
    a)) where
      of_pair : (t : LinearSum) → ((p : LinearSum × LinearSum) × Among p (pairs x others) × (pair_sum x p ≡ t)) → is_within t ≡ true
      of_pair t f =
          let p = pairs-among x others f.0 f.1 in
          let there = among-map (pair_sum x) (pairs x rows) (f.0.0, f.0.1) (among-pairs x rows f.0.0 f.0.1 (h f.0.0 p.upper)
          (h f.0.1 p.lower) p.is_upper p.is_lower) in
          subst (λ (s : LinearSum). is_within s ≡ true) f.2
          (all-among is_within (pair_sums x rows) (pair_sum x (f.0.0, f.0.1)) w there)

pub width-strongest : (x : ℕ) (rows others : List LinearSum) → AreStrongest rows → AreStrongest others → Covers rows others →
    Covers others rows → SameWidth x rows others
width-strongest x rows others h k c d =
    both_ways _ _ (width-among x rows others (λ t. strongest-among others rows t k h d c))
    (width-among x others rows (λ t. strongest-among rows others t h k c d))

pub count-same : (rows others : List LinearSum) → AreStrongest rows → AreStrongest others → Covers rows others → Covers others rows →
    length rows ≡ length others
count-same rows others h k c d =
    equal (length rows) (length others) (count-most rows others h d) (count-most others rows k c) where
      equal : (m n : ℕ) → m ≤ n → n ≤ m → m ≡ n
      equal m n p q = omega (arith, p, q)

-- Contradictions

contradiction-covers : (rows others : List LinearSum) → Covers rows others → list_any is_contradiction others ≡ true →
    list_any is_contradiction rows ≡ true
contradiction-covers rows others h e = found (any-among is_contradiction others e) where
  real : (t : LinearSum) → IsNever t → (b : Bool) → is_trivial t ≡ b → b ≡ false
  real t n true f =
      let low = le_from t.constant (pos 0) (second_true (has_no_parts t) (int_le t.constant (pos 0)) f) in
      absurd (omega (arith, ints, low, n.constant))
  real t n false f = refl

  found : ((t : LinearSum) × Among t others × (is_contradiction t ≡ true)) → list_any is_contradiction rows ≡ true
  found f =
      let n = contradiction-is f.0 f.2 in
      let g = covered-real rows f.0 (real f.0 n (is_trivial f.0) refl) (h f.0 f.1) in
      among-any is_contradiction rows g.0 g.1 (is-contradiction g.0 (ap length (g.2.parts ∙ n.parts))
      (omega (arith, ints, g.2.constant, n.constant)))

pub contradiction-same : (rows others : List LinearSum) → Covers rows others → Covers others rows → list_any is_contradiction rows
    ≡ list_any is_contradiction others
contradiction-same rows others h k =
    both_ways _ _ (contradiction-covers others rows k) (contradiction-covers rows others h)

-- After a column

abbrev pub behind : ℕ → List LinearSum → List LinearSum
behind x rows = reduced (filter (is_free x) rows ++ map tightened (pair_sums x rows))

pub behind-strongest : (x : ℕ) (rows : List LinearSum) → AreStrongest (behind x rows)
behind-strongest x rows =
    reduced-strongest (filter (is_free x) rows ++ map tightened (pair_sums x rows))

pub behind-is : (x : ℕ) (rows : List LinearSum) → list_all is_within (pair_sums x rows) ≡ true → IsAfter x rows (behind x rows)
behind-is x rows w = record {
  within = λ u l p. all-among is_within (pair_sums x rows) (pair_sum x (u, l)) w (sum-there u l p);
  made = λ u l p. reduced-covers all (tightened (pair_sum x (u, l))) (among-append_right frees sums (tightened (pair_sum x (u, l)))
      (among-map tightened (pair_sums x rows) (pair_sum x (u, l)) (sum-there u l p)));
  free = λ t f. reduced-covers all t (among-append_left frees sums t (among-filter (is_free x) rows t f.here f.free));
  from = λ t h. by_side t (among-append_cases frees sums t (reduced-among all t h));
} where
  frees : List LinearSum
  frees = filter (is_free x) rows

  sums : List LinearSum
  sums = map tightened (pair_sums x rows)

  all : List LinearSum
  all = frees ++ sums

  sum-there : (u l : LinearSum) → IsPairOf x rows u l → Among (pair_sum x (u, l)) (pair_sums x rows)
  sum-there u l p = among-map (pair_sum x) (pairs x rows) (u, l) (among-pairs x rows u l p.upper p.lower p.is_upper p.is_lower)

  by_side : (t : LinearSum) → Among t frees ⊎ Among t sums → IsFreeIn x rows t ⊎ IsMadeOf x rows t
  by_side t (inl h) =
      let f = filter-among (is_free x) rows t h in
      inl (record { here = f.0; free = f.1 })
  by_side t (inr h) =
      let g = map-among tightened (pair_sums x rows) t h in
      let p = map-among (pair_sum x) (pairs x rows) g.0 g.1 in
      inr (record {
        first = p.0.0;
        second = p.0.1;
        pair = pairs-among x rows p.0 p.1;
        same = ap tightened p.2 ∙ g.2;
      })

-- after a column nothing but the strongest rows is left
pub record SameBehind (x : ℕ) (rows others : List LinearSum) : Type 0 where
  pub covers : Covers (behind x rows) (behind x others)
  pub covered : Covers (behind x others) (behind x rows)

pub behind-same : (x : ℕ) (rows others : List LinearSum) → Covers rows others → Covers others rows →
    list_all is_within (pair_sums x rows) ≡ true → list_all is_within (pair_sums x others) ≡ true → SameBehind x rows others
behind-same x rows others h k v w = record {
  covers = covers-behind x rows others (behind x rows) (behind x others) h (behind-is x rows v) (behind-is x others w);
  covered = covers-behind x others rows (behind x others) (behind x rows) k (behind-is x others w) (behind-is x rows v);
}

-- The whole outcome

-- the first column, of which the rows may be any
abbrev pub SameFirst : List ℕ → List LinearSum → List LinearSum → Type 0
SameFirst [] rows others = Unit {0}
SameFirst (x ∷ xs) rows others = SameWidth x rows others

pub first-strongest : (xs : List ℕ) (rows others : List LinearSum) → AreStrongest rows → AreStrongest others → Covers rows others →
    Covers others rows → SameFirst xs rows others
first-strongest [] rows others h k c d = tt
first-strongest (x ∷ xs) rows others h k c d = width-strongest x rows others h k c d

pub outcome-same : (columns : List ℕ) (rows others : List LinearSum) → Covers rows others → Covers others rows →
    SameFirst columns rows others → outcome columns rows ≡ outcome columns others
outcome-same [] rows others h k f =
    ap (λ b. if b then refuted else chosen []) (contradiction-same rows others h k)
outcome-same (x ∷ xs) rows others h k f =
    ap (with_value x rows) (by_width (outcome-same xs (behind x rows) (behind x others)) (list_all is_within (pair_sums x rows))
    (list_all is_within (pair_sums x others)) refl refl f)
    ∙ with_value-same x rows others (outcome_after (outcome xs) (after_column x others)) h k where
      Same : Type 0
      Same = Covers (behind x rows) (behind x others) → Covers (behind x others) (behind x rows) →
          SameFirst xs (behind x rows) (behind x others) → outcome xs (behind x rows) ≡ outcome xs (behind x others)

      by_count : Same → SameBehind x rows others → (b : Bool) →
          outcome_after (outcome xs) (if b then remains (behind x rows) else too_many)
          ≡ outcome_after (outcome xs) (if b then remains (behind x others) else too_many)
      by_count i s true = i s.covers s.covered
          (first-strongest xs (behind x rows) (behind x others) (behind-strongest x rows) (behind-strongest x others) s.covers s.covered)
      by_count i s false = refl

      by_width : Same → (a b : Bool) → list_all is_within (pair_sums x rows) ≡ a → list_all is_within (pair_sums x others) ≡ b → a ≡ b →
          outcome_after (outcome xs) (if a then counted (behind x rows) else wide)
          ≡ outcome_after (outcome xs) (if b then counted (behind x others) else wide)
      by_width i true true v w e =
          let s = behind-same x rows others h k v w in
          let n = count-same (behind x rows) (behind x others) (behind-strongest x rows) (behind-strongest x others) s.covers s.covered in
          ap (λ m. outcome_after (outcome xs) (if nat_le m MAX_ROWS then remains (behind x rows) else too_many)) n
          ∙ by_count i s (nat_le (length (behind x others)) MAX_ROWS)
      by_width i true false v w e = absurd (cc)
      by_width i false true v w e = absurd (cc)
      by_width i false false v w e = refl

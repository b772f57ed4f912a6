-- Rows of at most one column each: their elimination meets no limit, and it sees that two of them exclude each other.
use Rattle.std.proofs.Common.{◌≡◌, ◌⊎◌, inl, inr, ℕ, zero, suc, ◌+◌, ◌*◌, ◌<◌, ◌≤◌, ◌==◌, nat_lt, Bool, true, false, not, ◌&&◌, ◌||◌, cond, List, [], ◌∷◌, ◌++◌, length, map, ℤ, pos, negsuc, ◌+ℤ◌, ◌*ℤ◌, arith, refl, sym, ap, subst, ◌∙◌}
use Rattle.std.specs.Prelude.{IsTrue, ◌≤ℤ◌, int_lt, int_le, neg_ℤ, unsigned_abs, ◌/◌, filter, if◌then◌else◌}
use Rattle.std.specs.List.{list_any, list_all}
use Rattle.std.specs.Cmp.Lexicographic.{pointwise}
use Rattle.std.proofs.Math.Nat.{mul-le-mul}
use Rattle.std.proofs.lemmas.Int.{ints}
use Rattle.std.proofs.lemmas.List.Elements.{filter-append}
use Rattle.std.proofs.lemmas.List.{append-nil}
use Rattle.std.proofs.lemmas.List.Folds.{list_any-append}
use borrow.Author.Tests.{eqb-true, eq-eqb}
use Rattle.linear_formula.specs.LinearSum.{LinearSum, coefficient, listed_at, is_zero, is_within}
use Rattle.linear_formula.specs.Results.{with_part, put_part, plus_parts}
use Rattle.linear_formula.specs.steps.Order.{AllWithin}
use Rattle.linear_formula.proofs.Limits.{test-from_Within}
use Rattle.linear_formula.proofs.Order.{zero_is}
use Rattle.linear_formula.proofs.Ring.{mul-add}
use Rattle.shadow_elim.specs.Division.{common_divisor, parts_divisor, divided, tightened}
use Rattle.shadow_elim.specs.Elimination.{remains, wide, too_many, counted, is_free, size_of, upper_multiple, lower_multiple, pairs, pair_sum, pair_sums, after_column}
use Rattle.shadow_elim.specs.Points.{refuted, chosen, with_value, outcome_after, outcome}
use Rattle.shadow_elim.specs.Reduction.{is_same_part, same_parts, is_as_strong, is_stronger, has_no_parts, is_trivial, is_contradiction, stays, reduced_after, reduced}
use Rattle.shadow_elim.specs.steps.Marks.{IsSmall}
use Rattle.shadow_elim.specs.steps.Plain.{IsPlain}
use Rattle.shadow_elim.proofs.Filtering.{Respects, filter-reduced, among-any}
use Rattle.shadow_elim.proofs.Holding.{length-reduced_after}
use Rattle.shadow_elim.proofs.Keeping.{IsPairOf, IsFreeIn, IsMadeOf, IsAfter, pairs-among, after-is}
use Rattle.shadow_elim.proofs.Members.{Among, among-append_right, filter-among, map-among}
use Rattle.shadow_elim.proofs.PairSums.{upper-is, lower-is, balance, multiple-positive}
use Rattle.shadow_elim.proofs.Reducing.{stops}
use Rattle.shadow_elim.proofs.Splitting.{not_below_from}
use Rattle.shadow_elim.proofs.Staying.{IsAtLeast, IsCovered, same_parts-decides, trivial-parts}
use Rattle.shadow_elim.proofs.Strength.{test-from_AsStrong}
use Rattle.shadow_elim.proofs.Tests.{second_true, both_true, lt_yes, le_from, at_most_yes}
use Rattle.shadow_elim.proofs.Tightening.{mul-neg}
use Rattle.shadow_elim.proofs.Weaker.{small-constant}

abbrev pub ArePlain : List LinearSum → Type 0
ArePlain rows = (t : LinearSum) → Among t rows → IsPlain t

no_way : true ≡ false → ⊥
no_way h = cc

-- One column

one-part : (x : ℕ) (a : ℤ) (t : LinearSum) → t.parts ≡ (x, a) ∷ [] → coefficient x t ≡ a
one-part x a t e = ap (listed_at x) e ∙ ap (λ (b : Bool). if b then a else pos 0) (eq-eqb x x refl)

other-part : (x y : ℕ) (a : ℤ) (t : LinearSum) → (x == y) ≡ false → t.parts ≡ (y, a) ∷ [] → is_free x t ≡ true
other-part x y a t k e = ap (λ ps. is_zero (listed_at x ps)) e ∙ ap (λ (b : Bool). is_zero (if b then a else pos 0)) k

no-part : (x : ℕ) (t : LinearSum) → t.parts ≡ [] → is_free x t ≡ true
no-part x t e = ap (λ ps. is_zero (listed_at x ps)) e

-- a plain row that names the column
record Names (x : ℕ) (t : LinearSum) : Type 0 where
  number : ℤ
  parts : t.parts ≡ (x, number) ∷ []
  small : IsSmall x t

plain-named : (x : ℕ) (t : LinearSum) → IsPlain t → is_free x t ≡ false → Names x t
plain-named x t (inl e) f = absurd (no_way (sym (no-part x t e) ∙ f))
plain-named x t (inr h) f = by_test (x == h.0) refl where
  by_test : (b : Bool) → (x == h.0) ≡ b → Names x t
  by_test true k =
      let same : h.0 ≡ x = sym (eqb-true x h.0 k) in
      record {
        number = h.1;
        parts = h.2 ∙ ap (λ z. (z, h.1) ∷ []) same;
        small = subst (λ (z : ℕ). IsSmall z t) same h.3;
      }
  by_test false k = absurd (no_way (sym (other-part x h.0 h.1 t k h.2) ∙ f))

not_free : (x n : ℕ) (t : LinearSum) → 0 < n → (coefficient x t ≡ pos n) ⊎ (coefficient x t ≡ neg_ℤ (pos n)) → is_free x t ≡ false
not_free x zero t p h = absurd (omega (arith, p))
not_free x (suc n) t p (inl e) = ap is_zero e
not_free x (suc n) t p (inr e) = ap is_zero e

-- Sums of two rows

pub parts-cancel : (x : ℕ) (z w : ℤ) → (z +ℤ w) ≡ pos 0 → with_part x z (with_part x w []) ≡ []
parts-cancel x z w e = by_zero (is_zero w) refl where
  not_below : (x : ℕ) → nat_lt x x ≡ false
  not_below x = grind arith

  by_zero : (b : Bool) → is_zero w ≡ b → with_part x z (if b then [] else ((x, w) ∷ [])) ≡ []
  by_zero true k =
      let none : z ≡ pos 0 = omega (arith, ints, e, zero_is w k) in
      ap (λ y. put_part x y []) none
  by_zero false k =
      ap (λ (b : Bool). if b then put_part x z ((x, w) ∷ []) else (if x == x then put_part x (z +ℤ w) [] else ((x, w) ∷ put_part x z [])))
      (not_below x) ∙ ap (λ (b : Bool). if b then put_part x (z +ℤ w) [] else ((x, w) ∷ put_part x z [])) (eq-eqb x x refl)
      ∙ ap (λ y. put_part x y []) e

-- a pair of plain rows of a column
record IsPlainPair (x : ℕ) (u l : LinearSum) : Type 0 where
  bare : (pair_sum x (u, l)).parts ≡ []
  within : IsTrue (is_within (pair_sum x (u, l)))

plain-pair : (x : ℕ) (rows : List LinearSum) (u l : LinearSum) → ArePlain rows → IsPairOf x rows u l → IsPlainPair x u l
plain-pair x rows u l p pair =
    let hu = upper-is x u pair.is_upper in
    let hl = lower-is x l pair.is_lower in
    let nu = plain-named x u (p u pair.upper) (not_free x (size_of x u) u hu.positive (inl hu.same)) in
    let nl = plain-named x l (p l pair.lower) (not_free x (size_of x l) l hl.positive (inr hl.same)) in
    let bal = balance (size_of x u) (size_of x l) hu.positive hl.positive in
    let m = upper_multiple (size_of x u) (size_of x l) in
    let n = lower_multiple (size_of x u) (size_of x l) in
    let none : (pair_sum x (u, l)).parts ≡ [] = ap (λ ps. plus_parts (pos m) ps (plus_parts (pos n) l.parts [])) nu.parts
    ∙ ap (λ ps. plus_parts (pos m) ((x, nu.number) ∷ []) (plus_parts (pos n) ps [])) nl.parts
    ∙ parts-cancel x (pos m *ℤ nu.number) (pos n *ℤ nl.number)
    (falls_out (size_of x u) (size_of x l) m n nu.number nl.number bal.balanced (sym (one-part x nu.number u nu.parts) ∙ hu.same)
    (sym (one-part x nl.number l nl.parts) ∙ hl.same)) in
    record {
      bare = none;
      within = test-from_Within (pair_sum x (u, l)) (record {
        count = omega (arith, ap length none);
        coefficients = subst (λ ps. AllWithin ps) (sym none) tt;
        constant_limit = small-constant x u l pair.is_upper pair.is_lower nu.small nl.small;
      });
    } where
      falls_out : (a b m n : ℕ) (c d : ℤ) → m * a ≡ n * b → c ≡ pos a → d ≡ neg_ℤ (pos b) → (pos m *ℤ c) +ℤ (pos n *ℤ d) ≡ pos 0
      falls_out a b m n c d e f g =
          omega (arith, ints, e, ap (λ z. pos m *ℤ z) f, ap (λ z. pos n *ℤ z) g, mul-neg (pos n) (pos b))

-- a row without a column is divided by 1
bare-tight : (t : LinearSum) → t.parts ≡ [] → tightened t ≡ t
bare-tight t e = ap (λ n. if nat_lt 1 n then divided n t else t) (ap parts_divisor e)

-- How many rows are left

abbrev pub bearing : LinearSum → Bool
bearing t = not (has_no_parts t)

bare-respects : Respects has_no_parts
bare-respects s t e = ap (λ ps. pointwise is_same_part ps []) ((same_parts-decides s.parts t.parts).0 e)

bearing-respects : Respects bearing
bearing-respects s t e = ap not (bare-respects s t e)

is-bare : (t : LinearSum) → t.parts ≡ [] → has_no_parts t ≡ true
is-bare t e = (same_parts-decides t.parts []).1 e

length-parted : (p : LinearSum → Bool) (ts : List LinearSum) → length (filter (λ t. not (p t)) ts) + length (filter p ts) ≡ length ts
length-parted p [] = refl
length-parted p (t ∷ ts) = by_test (p t) (length-parted p ts) where
  by_test : (b : Bool) → length (filter (λ t. not (p t)) ts) + length (filter p ts) ≡ length ts →
      length (cond (not b) (t ∷ filter (λ t. not (p t)) ts) (filter (λ t. not (p t)) ts)) + length (cond b (t ∷ filter p ts) (filter p ts))
      ≡ suc (length ts)
  by_test true e = omega (arith, e)
  by_test false e = omega (arith, e)

length-both : (p q : LinearSum → Bool) (ts : List LinearSum) → length (filter p (filter q ts)) ≤ length (filter p ts)
length-both p q [] = omega arith
length-both p q (t ∷ ts) = by_tests (p t) (q t) refl (length-both p q ts) where
  by_tests : (a b : Bool) → p t ≡ a → length (filter p (filter q ts)) ≤ length (filter p ts) →
      length (filter p (cond b (t ∷ filter q ts) (filter q ts))) ≤ length (cond a (t ∷ filter p ts) (filter p ts))
  by_tests true true e h = omega (arith, h, ap (λ (c : Bool). length (cond c (t ∷ filter p (filter q ts)) (filter p (filter q ts)))) e)
  by_tests false true e h = omega (arith, h, ap (λ (c : Bool). length (cond c (t ∷ filter p (filter q ts)) (filter p (filter q ts)))) e)
  by_tests true false e h = omega (arith, h)
  by_tests false false e h = h

none-pass : (p : LinearSum → Bool) (ts : List LinearSum) → ((t : LinearSum) → Among t ts → p t ≡ false) → filter p ts ≡ []
none-pass p [] h = refl
none-pass p (t ∷ ts) h =
    ap (λ (b : Bool). cond b (t ∷ filter p ts) (filter p ts)) (h t (inl refl)) ∙ none-pass p ts (λ s k. h s (inr k))

length-filter : (p : LinearSum → Bool) (ts : List LinearSum) → length (filter p ts) ≤ length ts
length-filter p ts = omega (arith, length-parted p ts)

-- rows as strong as which one stood before don't stay
none-stay : (before ts : List LinearSum) → ((t : LinearSum) → Among t ts → list_any (is_as_strong t) before ≡ true) →
    reduced_after before ts ≡ []
none-stay before [] h = refl
none-stay before (t ∷ ts) h =
    ap (λ (b : Bool). if b then (t ∷ reduced_after (before ++ t ∷ []) ts) else reduced_after (before ++ t ∷ []) ts)
    (stops (not (is_trivial t)) (list_any (is_as_strong t) before) (not (list_any (is_stronger t) ts)) (h t (inl refl)))
    ∙ none-stay (before ++ t ∷ []) ts (λ s k. list_any-append (is_as_strong s) before (t ∷ [])
    ∙ ap (λ b. b || list_any (is_as_strong s) (t ∷ [])) (h s (inr k)))

-- of rows without a column one stays at most
bare-once : (before ts : List LinearSum) → ((t : LinearSum) → Among t ts → t.parts ≡ []) → length (reduced_after before ts) ≤ 1
bare-once before [] h = omega arith
bare-once before (t ∷ ts) h = by_test (stays before t ts) refl (bare-once (before ++ t ∷ []) ts (λ s k. h s (inr k))) where
  last : Bool → Bool → Bool → Bool
  last a b c = not a && (not b && not c)

  none_stronger : (a b c : Bool) → last a b c ≡ true → c ≡ false
  none_stronger true b c e = absurd (no_way (sym e))
  none_stronger false true c e = absurd (no_way (sym e))
  none_stronger false false true e = absurd (no_way (sym e))
  none_stronger false false false e = refl

  below : list_any (is_stronger t) ts ≡ false → (s : LinearSum) → Among s ts → s.constant ≤ℤ t.constant
  below e s k = by_order (int_lt t.constant s.constant) refl where
    by_order : (b : Bool) → int_lt t.constant s.constant ≡ b → s.constant ≤ℤ t.constant
    by_order true f = absurd (no_way (sym (among-any (is_stronger t) ts s k (both_true (same_parts s t) (int_lt t.constant s.constant)
        ((same_parts-decides s.parts t.parts).1 (h s (inr k) ∙ sym (h t (inl refl)))) f)) ∙ e))
    by_order false f = not_below_from t.constant s.constant f

  by_test : (b : Bool) → stays before t ts ≡ b → length (reduced_after (before ++ t ∷ []) ts) ≤ 1 →
      length (if b then (t ∷ reduced_after (before ++ t ∷ []) ts) else reduced_after (before ++ t ∷ []) ts) ≤ 1
  by_test true e k =
      let top = below (none_stronger (is_trivial t) (list_any (is_as_strong t) before) (list_any (is_stronger t) ts) e) in
      omega (
        arith,
        ap length (none-stay (before ++ t ∷ []) ts (λ s i. among-any (is_as_strong s) (before ++ t ∷ []) t
            (among-append_right before (t ∷ []) t (inl refl)) (test-from_AsStrong s t (record {
              parts = h t (inl refl) ∙ sym (h s (inr i));
              constant = top s i;
            })))),
      )
  by_test false e k = k

-- After a column

abbrev next-rows : ℕ → List LinearSum → List LinearSum
next-rows x rows = reduced (filter (is_free x) rows ++ map tightened (pair_sums x rows))

all-from : (p : LinearSum → Bool) (ts : List LinearSum) → ((t : LinearSum) → Among t ts → p t ≡ true) → list_all p ts ≡ true
all-from p [] h = refl
all-from p (t ∷ ts) h = both_true (p t) (list_all p ts) (h t (inl refl)) (all-from p ts (λ s k. h s (inr k)))

-- the sums of plain rows name no column, and are within the limits
sums-bare : (x : ℕ) (rows : List LinearSum) → ArePlain rows → (t : LinearSum) → Among t (pair_sums x rows) →
    (t.parts ≡ []) × IsTrue (is_within t)
sums-bare x rows p t k =
    let r = map-among (pair_sum x) (pairs x rows) t k in
    let pair = plain-pair x rows r.0.0 r.0.1 p (pairs-among x rows r.0 r.1) in
    subst (λ (s : LinearSum). (s.parts ≡ []) × IsTrue (is_within s)) r.2 (pair.bare, pair.within)

tight-bare : (x : ℕ) (rows : List LinearSum) → ArePlain rows → (t : LinearSum) → Among t (map tightened (pair_sums x rows)) → t.parts ≡ []
tight-bare x rows p t k =
    let r = map-among tightened (pair_sums x rows) t k in
    let bare = (sums-bare x rows p r.0 r.1).0 in
    sym (ap (λ (s : LinearSum). s.parts) (sym (bare-tight r.0 bare) ∙ r.2)) ∙ bare

bearing-left : (x : ℕ) (rows : List LinearSum) → ArePlain rows → length (filter bearing (next-rows x rows)) ≤ length (filter bearing rows)
bearing-left x rows p =
    let free = filter (is_free x) rows in
    let sums = map tightened (pair_sums x rows) in
    let none : filter bearing sums ≡ [] = none-pass bearing sums (λ t k. ap not (is-bare t (tight-bare x rows p t k))) in
    let split : filter bearing (free ++ sums) ≡ filter bearing free = filter-append bearing free sums
    ∙ ap (λ ts. filter bearing free ++ ts) none ∙ append-nil (filter bearing free) in
    omega (
      arith,
      ap length (filter-reduced bearing bearing-respects (free ++ sums)),
      length-reduced_after [] (filter bearing (free ++ sums)),
      ap length split,
      length-both bearing (is_free x) rows,
    )

bare-left : (x : ℕ) (rows : List LinearSum) → length (filter has_no_parts (next-rows x rows)) ≤ 1
bare-left x rows =
    let all = filter (is_free x) rows ++ map tightened (pair_sums x rows) in
    omega (
      arith,
      ap length (filter-reduced has_no_parts bare-respects all),
      bare-once [] (filter has_no_parts all)
          (λ t k. (same_parts-decides t.parts []).0 (filter-among has_no_parts all t k).1),
    )

after-plain : (x : ℕ) (rows : List LinearSum) → ArePlain rows → length (filter bearing rows) ≤ 4095 → after_column x rows
    ≡ remains (next-rows x rows)
after-plain x rows p l =
    ap (λ (b : Bool). if b then counted (next-rows x rows) else wide)
    (all-from is_within (pair_sums x rows) (λ t k. (sums-bare x rows p t k).1))
    ∙ ap (λ (b : Bool). if b then remains (next-rows x rows) else too_many) (at_most_yes (length (next-rows x rows)) 4096
    (omega (arith, l, bearing-left x rows p, bare-left x rows, length-parted has_no_parts (next-rows x rows))))

next-plain : (x : ℕ) (rows : List LinearSum) → ArePlain rows → IsAfter x rows (next-rows x rows) → ArePlain (next-rows x rows)
next-plain x rows p a t k = by_origin (a.from t k) where
  by_origin : IsFreeIn x rows t ⊎ IsMadeOf x rows t → IsPlain t
  by_origin (inl f) = p t f.here
  by_origin (inr m) =
      let bare = (plain-pair x rows m.first m.second p m.pair).bare in
      inl (ap (λ (s : LinearSum). s.parts) (sym m.same ∙ bare-tight (pair_sum x (m.first, m.second)) bare) ∙ bare)

-- Rows that never hold together

-- the row names no column, and never holds
abbrev IsBad : LinearSum → Type 0
IsBad t = (t.parts ≡ []) × (pos 1 ≤ℤ t.constant)

-- an upper and a lower row of one of the columns, whose sum never holds
pub record IsClash (columns : List ℕ) (rows : List LinearSum) : Type 0 where
  pub column : ℕ
  pub named : Among column columns
  pub less : ℕ
  pub upper : LinearSum
  pub lower : LinearSum
  pub has_upper : Among upper rows
  pub has_lower : Among lower rows
  pub upper_parts : upper.parts ≡ (column, pos (suc less)) ∷ []
  pub lower_parts : lower.parts ≡ (column, negsuc less) ∷ []
  pub above : pos 1 ≤ℤ (upper.constant +ℤ lower.constant)

abbrev pub IsDoomed : List ℕ → List LinearSum → Type 0
IsDoomed columns rows = ((t : LinearSum) × Among t rows × (t.parts ≡ []) × (pos 1 ≤ℤ t.constant)) ⊎ IsClash columns rows

abbrev HasBad : List LinearSum → Type 0
HasBad rows = (t : LinearSum) × Among t rows × (t.parts ≡ []) × (pos 1 ≤ℤ t.constant)

bad-covered : (t : LinearSum) (next : List LinearSum) → IsBad t → IsCovered t next → HasBad next
bad-covered t next b (inl e) =
    absurd (omega (arith, ints, b.1, le_from t.constant (pos 0) (second_true (has_no_parts t) (int_le t.constant (pos 0)) e)))
bad-covered t next b (inr s) = (s.0, s.1, s.2.parts ∙ b.0, omega (arith, ints, b.1, s.2.constant))

-- a row that names a column is covered by one with the same coefficients
named-covered : (t : LinearSum) (next : List LinearSum) (x : ℕ) (a : ℤ) → t.parts ≡ (x, a) ∷ [] → IsCovered t next →
    (s : LinearSum) × Among s next × IsAtLeast s t
named-covered t next x a e (inl h) = absurd (apart t.parts e (trivial-parts t h)) where
  apart : (ps : List (ℕ × ℤ)) → ps ≡ (x, a) ∷ [] → ps ≡ [] → ⊥
  apart ps f k = cc
named-covered t next x a e (inr s) = s

times-least : (m : ℕ) (z : ℤ) → 0 < m → pos 1 ≤ℤ z → pos 1 ≤ℤ (pos m *ℤ z)
times-least m (pos n) p h = let e : 1 * 1 ≤ m * n = mul-le-mul {n₁ = 1} {m₁ = 1} {n₂ = m} {m₂ = n} p (omega (arith, ints, h)) in
    omega (arith, ints, e)
times-least m (negsuc n) p h = absurd (omega (arith, ints, h))

-- the sum of a clash
clash-sum : (x k : ℕ) (u l : LinearSum) → u.parts ≡ (x, pos (suc k)) ∷ [] → l.parts ≡ (x, negsuc k) ∷ [] →
    pos 1 ≤ℤ (u.constant +ℤ l.constant) → pos 1 ≤ℤ (pair_sum x (u, l)).constant
clash-sum x k u l eu el h =
    let su : size_of x u ≡ suc k = ap unsigned_abs (one-part x (pos (suc k)) u eu) in
    let sl : size_of x l ≡ suc k = ap unsigned_abs (one-part x (negsuc k) l el) in
    let bal = balance (size_of x u) (size_of x l) (omega (arith, su)) (omega (arith, sl)) in
    let m = upper_multiple (size_of x u) (size_of x l) in
    let n = lower_multiple (size_of x u) (size_of x l) in
    let same : m ≡ n = ap (λ a. a / common_divisor (size_of x u) (size_of x l)) (sl ∙ sym su) in
    let some : 0 < m = multiple-positive (size_of x l) (common_divisor (size_of x u) (size_of x l)) m (omega (arith, sl)) bal.first in
    omega (
      arith,
      ints,
      times-least m (u.constant +ℤ l.constant) some h,
      mul-add (pos m) u.constant l.constant,
      ap (λ a. pos a *ℤ l.constant) same,
    )

doomed-after : (x : ℕ) (xs : List ℕ) (rows next : List LinearSum) → ArePlain rows → IsAfter x rows next → IsDoomed (x ∷ xs) rows →
    IsDoomed xs next
doomed-after x xs rows next p a (inl b) =
    inl (bad-covered b.0 next (b.2, b.3) (a.free b.0 (record { here = b.1; free = no-part x b.0 b.2 })))
doomed-after x xs rows next p a (inr w) = by_test (x == w.column) refl where
  met : x ≡ w.column → IsPairOf x rows w.upper w.lower
  met e = record {
    upper = w.has_upper;
    lower = w.has_lower;
    is_upper = ap (λ z. int_lt (pos 0) z) (one-part x (pos (suc w.less)) w.upper (w.upper_parts ∙ ap (λ y. (y, pos (suc w.less)) ∷ [])
        (sym e)))
        ∙ lt_yes (pos 0) (pos (suc w.less)) (omega (arith, ints));
    is_lower = ap (λ z. int_lt z (pos 0)) (one-part x (negsuc w.less) w.lower (w.lower_parts ∙ ap (λ y. (y, negsuc w.less) ∷ []) (sym e)))
        ∙ lt_yes (negsuc w.less) (pos 0) (omega (arith, ints));
  }

  rest : (x == w.column) ≡ false → Among w.column (x ∷ xs) → Among w.column xs
  rest f (inl e) = absurd (no_way (sym (eq-eqb x w.column e) ∙ f))
  rest f (inr k) = k

  by_test : (b : Bool) → (x == w.column) ≡ b → IsDoomed xs next
  by_test true f =
      let e = eqb-true x w.column f in
      let sum = pair_sum x (w.upper, w.lower) in
      let bare = (plain-pair x rows w.upper w.lower p (met e)).bare in
      let above = clash-sum x w.less w.upper w.lower (w.upper_parts ∙ ap (λ y. (y, pos (suc w.less)) ∷ []) (sym e))
      (w.lower_parts ∙ ap (λ y. (y, negsuc w.less) ∷ []) (sym e)) w.above in
      inl (bad-covered sum next (bare, above) (subst (λ (t : LinearSum). IsCovered t next) (bare-tight sum bare)
      (a.made w.upper w.lower (met e))))
  by_test false f =
      let u = named-covered w.upper next w.column (pos (suc w.less)) w.upper_parts (a.free w.upper (record {
        here = w.has_upper;
        free = other-part x w.column (pos (suc w.less)) w.upper f w.upper_parts;
      })) in
      let l = named-covered w.lower next w.column (negsuc w.less) w.lower_parts (a.free w.lower (record {
        here = w.has_lower;
        free = other-part x w.column (negsuc w.less) w.lower f w.lower_parts;
      })) in
      inr (record {
        column = w.column;
        named = rest f w.named;
        less = w.less;
        upper = u.0;
        lower = l.0;
        has_upper = u.1;
        has_lower = l.1;
        upper_parts = u.2.parts ∙ w.upper_parts;
        lower_parts = l.2.parts ∙ w.lower_parts;
        above = omega (arith, ints, w.above, u.2.constant, l.2.constant);
      })

-- all columns are eliminated, and the contradiction is seen
pub doomed-refuted : (xs : List ℕ) (rows : List LinearSum) → ArePlain rows → length (filter bearing rows) ≤ 4095 → IsDoomed xs rows →
    outcome xs rows ≡ refuted
doomed-refuted [] rows p l (inl b) =
    ap (λ (c : Bool). if c then refuted else chosen []) (among-any is_contradiction rows b.0 b.1 (both_true (has_no_parts b.0)
    (int_lt (pos 0) b.0.constant) (is-bare b.0 b.2) (lt_yes (pos 0) b.0.constant (omega (arith, ints, b.3)))))
doomed-refuted [] rows p l (inr w) = absurd w.named
doomed-refuted (x ∷ xs) rows p l d =
    let e = after-plain x rows p l in
    let a = after-is x rows (next-rows x rows) e in
    ap (λ r. with_value x rows (outcome_after (outcome xs) r)) e ∙ ap (with_value x rows) (doomed-refuted xs (next-rows x rows)
    (next-plain x rows p a) (omega (arith, l, bearing-left x rows p)) (doomed-after x xs rows (next-rows x rows) p a d))

pub few-bear : (rows : List LinearSum) → length rows ≤ 4095 → length (filter bearing rows) ≤ 4095
few-bear rows h = omega (arith, h, length-filter bearing rows)

-- Where each pair has a coefficient 1 or -1, no integer point is lost.
use Rattle.std.proofs.Common.{◌≡◌, ◌⊎◌, inl, inr, ℕ, suc, zero, ◌<◌, ◌^◌, ◌==◌, Bool, true, false, not, ◌&&◌, List, [], ◌∷◌, Option, None, Some, ℤ, pos, negsuc, ◌+ℤ◌, ◌-ℤ◌, ◌*ℤ◌, neg_ℤ, arith, refl, sym, ap, subst, ◌∙◌}
use Rattle.std.specs.Prelude.{IsTrue, ◌≤ℤ◌, Contains, find, option_map, int_lt, if◌then◌else◌}
use Rattle.std.specs.Option.{option_or}
use Rattle.std.proofs.lemmas.Int.{ints, by_lt_z}
use borrow.Author.Tests.{lt-ltb, eqb-true, eq-eqb, ne_eqb, eqb_apart}
use Rattle.linear_formula.specs.LinearSum.{LinearSum, Valuation, Is64, is64, listed_at, coefficient, is_zero}
use Rattle.linear_formula.specs.Results.{valuation_with}
use Rattle.linear_formula.specs.declared.formula.Atom.{Atom}
use Rattle.linear_formula.proofs.Ring.{one-mul, zero-mul, mul-add, mul-comm}
use Rattle.linear_formula.proofs.Order.{zero_test}
use Rattle.infeasible_cert.specs.Right.{rows_of, range_rows, upper_range, lower_range, IsRoundedUp}
use Rattle.infeasible_cert.proofs.Signs.{rounded_nonpos, mul_nonpos}
use Rattle.infeasible_cert.proofs.Meeting.{AllMet}
use Rattle.shadow_elim.specs.Division.{ceiling_quotient, tightened}
use Rattle.shadow_elim.specs.Elimination.{is_upper, is_lower, size_of, is_unit, is_inexact, pairs, pair_sum, remains, after_column, elimination, listed_rows, inexact_after, first_inexact}
use Rattle.shadow_elim.specs.Shadows.{AgreesBut, LosesNone}
use Rattle.shadow_elim.proofs.Tightening.{mul-neg, ceiling-bounds, tightened-meets}
use Rattle.shadow_elim.proofs.PairSums.{upper-is, lower-is, free-is, rest_at, value-with_column, value-split, rests-nonpos}
use Rattle.shadow_elim.proofs.Members.{Among, among-append_left, among-append_right, none-among, contains-among, among-contains}
use Rattle.shadow_elim.proofs.Staying.{IsAtLeast, at-least-itself, at-least-of, IsCovered, HasAtLeast, at-least-met, trivial-parts, met-among, met-from, covered-met}
use Rattle.shadow_elim.proofs.Keeping.{met-holds, holds-met, IsPairOf, among-pairs, IsAfter, after-is, elimination-first, remains-same}
use Rattle.shadow_elim.proofs.Naming.{AllTerms, term-order, after-terms, IsAbsent, after-absent, after-eliminated}

-- The rational bounds

-- where the rows after a column are met, each upper bound is at least each lower one
pub bounds-apart : (v : Valuation) (x : ℕ) (rows next : List LinearSum) → IsAfter x rows next → AllTerms rows → AllMet v next →
    (u l : LinearSum) → IsPairOf x rows u l → ((pos (size_of x l) *ℤ rest_at v x u) +ℤ (pos (size_of x u) *ℤ rest_at v x l)) ≤ℤ pos 0
bounds-apart v x rows next a h k u l p =
    rests-nonpos v x u l (term-order rows u h p.upper) (term-order rows l h p.lower) (upper-is x u p.is_upper) (lower-is x l p.is_lower)
    ((tightened-meets v (pair_sum x (u, l))).1 (covered-met v next (tightened (pair_sum x (u, l))) k (a.made u l p)))

-- The greatest of a list

record IsGreatest {X : Type 0} (p : X → Bool) (f : X → ℤ) (xs : List X) (t : X) : Type 0 where
  here : Among t xs
  passes : p t ≡ true
  above : (s : X) → Among s xs → p s ≡ true → f s ≤ℤ f t

greatest : {X : Type 0} (p : X → Bool) (f : X → ℤ) (xs : List X) → ((s : X) → Among s xs → p s ≡ false) ⊎ ((t : X) × IsGreatest p f xs t)
greatest p f [] = inl (λ s k. absurd k)
greatest p f (x ∷ xs) = by_test (p x) refl (greatest p f xs) where
  two : false ≡ true → ⊥
  two h = cc

  one_more : (t : _) → IsGreatest p f xs t → p x ≡ true → f x ≤ℤ f t → IsGreatest p f (x ∷ xs) t
  one_more t g e le = record {
    here = inr g.here;
    passes = g.passes;
    above = λ s k q. at s k q;
  } where
    at : (s : _) → Among s (x ∷ xs) → p s ≡ true → f s ≤ℤ f t
    at s (inl d) q = subst (λ y. f y ≤ℤ f t) d le
    at s (inr k) q = g.above s k q

  itself : (t : _) → IsGreatest p f xs t → p x ≡ true → f t ≤ℤ f x → IsGreatest p f (x ∷ xs) x
  itself t g e le = record { here = inl refl; passes = e; above = λ s k q. at s k q } where
    at : (s : _) → Among s (x ∷ xs) → p s ≡ true → f s ≤ℤ f x
    at s (inl d) q = subst (λ y. f y ≤ℤ f x) d (omega (arith, ints))
    at s (inr k) q = omega (arith, ints, g.above s k q, le)

  alone : ((s : _) → Among s xs → p s ≡ false) → p x ≡ true → IsGreatest p f (x ∷ xs) x
  alone n e = record { here = inl refl; passes = e; above = λ s k q. at s k q } where
    at : (s : _) → Among s (x ∷ xs) → p s ≡ true → f s ≤ℤ f x
    at s (inl d) q = subst (λ y. f y ≤ℤ f x) d (omega (arith, ints))
    at s (inr k) q = absurd (two (sym (n s k) ∙ q))

  without : (t : _) → IsGreatest p f xs t → p x ≡ false → IsGreatest p f (x ∷ xs) t
  without t g e = record { here = inr g.here; passes = g.passes; above = λ s k q. at s k q } where
    at : (s : _) → Among s (x ∷ xs) → p s ≡ true → f s ≤ℤ f t
    at s (inl d) q = absurd (two (sym e ∙ ap p d ∙ q))
    at s (inr k) q = g.above s k q

  none : ((s : _) → Among s xs → p s ≡ false) → p x ≡ false → (s : _) → Among s (x ∷ xs) → p s ≡ false
  none n e s (inl d) = ap p (sym d) ∙ e
  none n e s (inr k) = n s k

  by_test : (b : Bool) → p x ≡ b → ((s : _) → Among s xs → p s ≡ false) ⊎ ((t : _) × IsGreatest p f xs t) →
      ((s : _) → Among s (x ∷ xs) → p s ≡ false) ⊎ ((t : _) × IsGreatest p f (x ∷ xs) t)
  by_test true e (inl n) = inr (x, alone n e)
  by_test true e (inr g) =
      by_lt_z (f g.0) (f x) (λ lt. inr (x, itself g.0 g.1 e (omega (arith, ints, lt)))) (λ le. inr (g.0, one_more g.0 g.1 e le))
  by_test false e (inl n) = inl (none n e)
  by_test false e (inr g) = inr (g.0, without g.0 g.1 e)

-- The rows of a column's range

-- the range rows, or stronger ones, are among the rows
pub record HasRange (y : ℕ) (rows : List LinearSum) : Type 0 where
  pub upper : HasAtLeast (upper_range y) rows
  pub lower : HasAtLeast (lower_range y) rows

-- a row with another column alone keeps its bound
single-kept : (x y : ℕ) (c : ℤ) (t : LinearSum) (rows next : List LinearSum) → IsAfter x rows next → (x ≡ y → ⊥) → t.parts ≡ (y, c) ∷ [] →
    HasAtLeast t rows → HasAtLeast t next
single-kept x y c t rows next a n e h =
    by_cover (a.free h.0 (record { here = h.1; free = zero_test (coefficient x h.0) (absent_in h.0 h.2) })) where
      absent_in : (s : LinearSum) → IsAtLeast s t → coefficient x s ≡ pos 0
      absent_in s k =
          let other : (x == y) ≡ false = ne_eqb x y n in
          let there : listed_at x ((y, c) ∷ []) ≡ pos 0 = rw other refl in
          ap (listed_at x) (k.parts ∙ e) ∙ there

      by_cover : IsCovered h.0 next → HasAtLeast t next
      by_cover (inl k) =
          let none = sym (trivial-parts h.0 k) ∙ h.2.parts ∙ e in
          absurd (cc)
      by_cover (inr g) = (g.0, g.1, at-least-of g.0 h.0 t g.2 h.2)

pub range-kept : (x y : ℕ) (rows next : List LinearSum) → IsAfter x rows next → (x ≡ y → ⊥) → HasRange y rows → HasRange y next
range-kept x y rows next a n r = record {
  upper = single-kept x y (pos 1) (upper_range y) rows next a n refl r.upper;
  lower = single-kept x y (negsuc 0) (lower_range y) rows next a n refl r.lower;
}

pub ranges-listed : (y : ℕ) (columns : List ℕ) → Among y columns → HasRange y (range_rows columns)
ranges-listed y [] h = absurd h
ranges-listed y (x ∷ xs) (inl e) = record {
  upper = (upper_range y, inl (ap upper_range e), at-least-itself (upper_range y));
  lower = (lower_range y, inr (inl (ap lower_range e)), at-least-itself (lower_range y));
}
ranges-listed y (x ∷ xs) (inr h) =
    let r = ranges-listed y xs h in
    record {
      upper = (r.upper.0, inr (inr r.upper.1), r.upper.2);
      lower = (r.lower.0, inr (inr r.lower.1), r.lower.2);
    }

pub range-listed : (y : ℕ) (atoms : List Atom) (columns : List ℕ) → Among y columns → HasRange y (listed_rows atoms columns)
range-listed y atoms columns h =
    let r = ranges-listed y columns h in
    let behind : (t : LinearSum) → Among t (range_rows columns) → Among t (listed_rows atoms columns) = λ t k. among-append_right
    (rows_of atoms) (range_rows columns) t k in
    record {
      upper = (r.upper.0, behind r.upper.0 r.upper.1, r.upper.2);
      lower = (r.lower.0, behind r.lower.0 r.lower.1, r.lower.2);
    }

-- One column

pub neg-mul : (a b : ℤ) → neg_ℤ a *ℤ b ≡ neg_ℤ (a *ℤ b)
neg-mul a b = mul-comm (neg_ℤ a) b ∙ mul-neg b a ∙ ap neg_ℤ (mul-comm b a)

pub sign-cases : (c : ℤ) → (int_lt (pos 0) c ≡ true) ⊎ ((int_lt c (pos 0) ≡ true) ⊎ (is_zero c ≡ true))
sign-cases (pos zero) = inr (inr refl)
sign-cases (pos (suc n)) = inl (lt-ltb 0 (suc n) (omega arith))
sign-cases (negsuc n) = inr (inl refl)

pub valuation-here : (v : Valuation) (x : ℕ) (z : ℤ) → valuation_with v x z x ≡ z
valuation-here v x z =
    let here : (x == x) ≡ true = eq-eqb x x refl in
    rw here refl

pub valuation-there : (v : Valuation) (x y : ℕ) (z : ℤ) → (x ≡ y → ⊥) → valuation_with v x z y ≡ v y
valuation-there v x y z n =
    let other : (x == y) ≡ false = ne_eqb x y n in
    rw other refl

pub is64-from_bounds : (z : ℤ) → z ≤ℤ pos 9223372036854775807 → negsuc 9223372036854775807 ≤ℤ z → IsTrue (is64 z)
is64-from_bounds (pos n) h k = lt-ltb n (2 ^ 63) (omega (arith, ints, h))
is64-from_bounds (negsuc n) h k = lt-ltb n (2 ^ 63) (omega (arith, ints, k))

-- a value that is at least the bound of a lower row
lower-holds : (b : ℕ) (r k z c : ℤ) → r ≤ℤ (pos b *ℤ k) → k ≤ℤ z → c ≡ neg_ℤ (pos b) → ((c *ℤ z) +ℤ r) ≤ℤ pos 0
lower-holds b r k z c h le e =
    let below = mul_nonpos (pos b) (k -ℤ z) (omega (arith, ints)) (omega (arith, ints, le)) in
    let back : (k -ℤ z) +ℤ z ≡ k = apart k z in
    omega (arith, ints, h, below, mul-add (pos b) (k -ℤ z) z, ap (λ y. pos b *ℤ y) back, ap (λ y. y *ℤ z) e, neg-mul (pos b) z) where
      apart : (s t : ℤ) → (s -ℤ t) +ℤ t ≡ s
      apart s t = omega (arith, ints)

-- the least value that a lower row allows, at an upper row with the coefficient 1
upper-holds_one : (a b : ℕ) (ru rl z c : ℤ) → a ≡ 1 → 0 < b → ((pos b *ℤ ru) +ℤ (pos a *ℤ rl)) ≤ℤ pos 0 → IsRoundedUp rl (pos b) z →
    c ≡ pos a → ((c *ℤ z) +ℤ ru) ≤ℤ pos 0
upper-holds_one a b ru rl z c one h met r e =
    let unit : pos a ≡ pos 1 = ap pos one in
    let whole = rounded_nonpos (pos b) ru rl z (omega (arith, ints, h)) (omega (arith, ints, met, ap (λ y. y *ℤ rl) unit, one-mul rl)) r.1
    in
    omega (arith, ints, whole, ap (λ y. y *ℤ z) (e ∙ unit), one-mul z)

-- and where the lower row has the coefficient -1
upper-holds_other : (a b : ℕ) (ru rl z c : ℤ) → b ≡ 1 → ((pos b *ℤ ru) +ℤ (pos a *ℤ rl)) ≤ℤ pos 0 → IsRoundedUp rl (pos b) z → c ≡ pos a →
    ((c *ℤ z) +ℤ ru) ≤ℤ pos 0
upper-holds_other a b ru rl z c one met r e =
    let unit : pos b ≡ pos 1 = ap pos one in
    let same : z ≡ rl = omega (arith, ints, r.0, r.1, ap (λ y. y *ℤ z) unit, one-mul z) in
    omega (arith, ints, met, ap (λ y. y *ℤ ru) unit, one-mul ru, ap (λ y. y *ℤ z) e, ap (λ y. pos a *ℤ y) same)

-- each pair has a coefficient 1 or -1
abbrev pub IsExact : ℕ → List LinearSum → Type 0
IsExact x rows = (u l : LinearSum) → IsPairOf x rows u l → (size_of x u ≡ 1) ⊎ (size_of x l ≡ 1)

pub exact-from_none : (x : ℕ) (rows : List LinearSum) → find (is_inexact x) (pairs x rows) ≡ None → IsExact x rows
exact-from_none x rows h u l p =
    by_tests (is_unit x u) (is_unit x l) refl refl (none-among (is_inexact x) (pairs x rows) (u, l) h
    (among-pairs x rows u l p.upper p.lower p.is_upper p.is_lower)) where
      by_tests : (b c : Bool) → is_unit x u ≡ b → is_unit x l ≡ c → (not b && not c) ≡ false → (size_of x u ≡ 1) ⊎ (size_of x l ≡ 1)
      by_tests true c e f k = inl (eqb-true (size_of x u) 1 e)
      by_tests false true e f k = inr (eqb-true (size_of x l) 1 f)
      by_tests false false e f k = absurd (cc)

-- a value for the column with which all rows hold
pub record IsRestored (v : Valuation) (x : ℕ) (rows : List LinearSum) (z : ℤ) : Type 0 where
  pub bits : IsTrue (is64 z)
  pub met : AllMet (valuation_with v x z) rows

restored-at : (v : Valuation) (x : ℕ) (rows next : List LinearSum) → IsAfter x rows next → AllTerms rows → IsExact x rows → AllMet v next →
    (l : LinearSum) → Among l rows → IsTrue (is_lower x l) → ((k : LinearSum) → Among k rows → is_lower x k ≡ true →
    ceiling_quotient (rest_at v x k) (size_of x k) ≤ℤ ceiling_quotient (rest_at v x l) (size_of x l)) → AllMet (valuation_with v x
    (ceiling_quotient (rest_at v x l) (size_of x l))) rows
restored-at v x rows next a h exact met l hl il above = met-from w rows
    (λ t k. omega (arith, ints, value-with_column v x z t (term-order rows t h k), by_sign t k (sign-cases (coefficient x t)))) where
      z : ℤ
      z = ceiling_quotient (rest_at v x l) (size_of x l)

      w : Valuation
      w = valuation_with v x (ceiling_quotient (rest_at v x l) (size_of x l))

      bound : IsRoundedUp (rest_at v x l) (pos (size_of x l)) (ceiling_quotient (rest_at v x l) (size_of x l))
      bound = ceiling-bounds (rest_at v x l) (size_of x l) (lower-is x l il).positive

      at_upper : (t : LinearSum) → Among t rows → IsTrue (is_upper x t) → (size_of x t ≡ 1) ⊎ (size_of x l ≡ 1) →
          ((coefficient x t *ℤ ceiling_quotient (rest_at v x l) (size_of x l)) +ℤ rest_at v x t) ≤ℤ pos 0
      at_upper t k i (inl one) =
          upper-holds_one (size_of x t) (size_of x l) (rest_at v x t) (rest_at v x l) _ (coefficient x t) one (lower-is x l il).positive
          (bounds-apart v x rows next a h met t l (record {
            upper = k;
            lower = hl;
            is_upper = i;
            is_lower = il;
          })) bound (upper-is x t i).same
      at_upper t k i (inr one) =
          upper-holds_other (size_of x t) (size_of x l) (rest_at v x t) (rest_at v x l) _ (coefficient x t) one
          (bounds-apart v x rows next a h met t l (record {
            upper = k;
            lower = hl;
            is_upper = i;
            is_lower = il;
          })) bound (upper-is x t i).same

      by_sign : (t : LinearSum) → Among t rows → (int_lt (pos 0) (coefficient x t) ≡ true)
          ⊎ ((int_lt (coefficient x t) (pos 0) ≡ true) ⊎ (is_zero (coefficient x t) ≡ true)) →
          ((coefficient x t *ℤ ceiling_quotient (rest_at v x l) (size_of x l)) +ℤ rest_at v x t) ≤ℤ pos 0
      by_sign t k (inl i) =
          at_upper t k i (exact t l (record { upper = k; lower = hl; is_upper = i; is_lower = il }))
      by_sign t k (inr (inl i)) =
          let o = lower-is x t i in
          lower-holds (size_of x t) (rest_at v x t) (ceiling_quotient (rest_at v x t) (size_of x t)) _ (coefficient x t)
          (ceiling-bounds (rest_at v x t) (size_of x t) o.positive).0 (above t k i) o.same
      by_sign t k (inr (inr i)) =
          let none = free-is x t i in
          let here = covered-met v next t met (a.free t (record { here = k; free = i })) in
          omega (
            arith,
            ints,
            here,
            value-split v x t (term-order rows t h k),
            ap (λ y. y *ℤ v x) none,
            zero-mul (v x),
            ap (λ y. y *ℤ ceiling_quotient (rest_at v x l) (size_of x l)) none,
            zero-mul (ceiling_quotient (rest_at v x l) (size_of x l)),
          )

-- both bounds of the range
restored-bits : (v : Valuation) (x : ℕ) (rows : List LinearSum) (z : ℤ) → HasRange x rows → AllMet (valuation_with v x z) rows →
    IsTrue (is64 z)
restored-bits v x rows z r met =
    let w = valuation_with v x z in
    let here = valuation-here v x z in
    let high = at-least-met w r.upper.0 (upper_range x) r.upper.2 (met-among w rows r.upper.0 met r.upper.1) in
    let low = at-least-met w r.lower.0 (lower_range x) r.lower.2 (met-among w rows r.lower.0 met r.lower.1) in
    is64-from_bounds z (omega (arith, ints, high, here, one-mul (valuation_with v x z x))) (omega (arith, ints, low, here))

range-is_lower : (x : ℕ) (s : LinearSum) → IsAtLeast s (lower_range x) → is_lower x s ≡ true
range-is_lower x s h =
    let here : (x == x) ≡ true = eq-eqb x x refl in
    let there : listed_at x ((x, negsuc 0) ∷ []) ≡ negsuc 0 = rw here refl in
    ap (λ c. int_lt c (pos 0)) (ap (listed_at x) h.parts ∙ there)

-- where the rows after an exact column are met, the column has a value of 64 bits with which all rows are met
pub exact-column : (v : Valuation) (x : ℕ) (rows next : List LinearSum) → IsAfter x rows next → AllTerms rows → IsExact x rows →
    HasRange x rows → AllMet v next → (z : ℤ) × IsRestored v x rows z
exact-column v x rows next a h exact r met =
    by_side (greatest (is_lower x) (λ k. ceiling_quotient (rest_at v x k) (size_of x k)) rows) where
      two : false ≡ true → ⊥
      two h = cc

      by_side : ((s : LinearSum) → Among s rows → is_lower x s ≡ false)
          ⊎ ((t : LinearSum) × IsGreatest (is_lower x) (λ k. ceiling_quotient (rest_at v x k) (size_of x k)) rows t) →
          (z : ℤ) × IsRestored v x rows z
      by_side (inl n) =
          absurd (two (sym (n r.lower.0 r.lower.1) ∙ range-is_lower x r.lower.0 r.lower.2))
      by_side (inr g) =
          let z = ceiling_quotient (rest_at v x g.0) (size_of x g.0) in
          let m = restored-at v x rows next a h exact met g.0 g.1.here g.1.passes g.1.above in
          (z, record { bits = restored-bits v x rows z r m; met = m })

-- where no row names the column, nothing is to be changed
absent-column : (v : Valuation) (x : ℕ) (rows next : List LinearSum) → IsAfter x rows next → IsAbsent x rows → AllMet v next → AllMet v rows
absent-column v x rows next a n met = met-from v rows
    (λ t k. covered-met v next t met (a.free t (record { here = k; free = zero_test (coefficient x t) (n t k) })))

-- All columns

-- the column has its range, or no row names it
abbrev pub IsReady : ℕ → List LinearSum → Type 0
IsReady y rows = HasRange y rows ⊎ IsAbsent y rows

ready-after : (x y : ℕ) (rows next : List LinearSum) → IsAfter x rows next → AllTerms rows → IsReady y rows → IsReady y next
ready-after x y rows next a h r = by_test (x == y) refl r where
  by_test : (b : Bool) → (x == y) ≡ b → IsReady y rows → IsReady y next
  by_test true e r = inr (subst (λ (z : ℕ). IsAbsent z next) (eqb-true x y e) (after-eliminated x rows next a h))
  by_test false e (inl r) = inl (range-kept x y rows next a (eqb_apart x y e) r)
  by_test false e (inr n) = inr (after-absent y x rows next a h n)

none-of_both : (x : ℕ) (xs : List ℕ) (rows next : List LinearSum) → after_column x rows ≡ remains next → first_inexact (x ∷ xs) rows
    ≡ None →
    (find (is_inexact x) (pairs x rows) ≡ None) × (first_inexact xs next ≡ None)
none-of_both x xs rows next e h = by_found (find (is_inexact x) (pairs x rows)) refl h where
  by_found : (o : Option (LinearSum × LinearSum)) → find (is_inexact x) (pairs x rows) ≡ o → option_or (option_map (λ p. (x, p)) o)
      (inexact_after (first_inexact xs) (after_column x rows)) ≡ None → (find (is_inexact x) (pairs x rows) ≡ None)
      × (first_inexact xs next ≡ None)
  by_found None f k = (f, sym (ap (inexact_after (first_inexact xs)) e) ∙ k)
  by_found (Some p) f k = absurd (cc)

-- an assignment that meets the rows, and has the values of v but at the columns
pub record IsExtended (xs : List ℕ) (v : Valuation) (rows : List LinearSum) (w : Valuation) : Type 0 where
  pub bits : Is64 w
  pub agrees : AgreesBut xs v w
  pub met : AllMet w rows

with-bits : (w : Valuation) (x : ℕ) (z : ℤ) → Is64 w → IsTrue (is64 z) → Is64 (valuation_with w x z)
with-bits w x z h k y = by_test (x == y) where
  by_test : (b : Bool) → IsTrue (is64 (if b then z else w y))
  by_test true = k
  by_test false = h y

pub elimination-extends : (xs : List ℕ) (rows left : List LinearSum) (v : Valuation) → elimination xs rows ≡ remains left →
    first_inexact xs rows ≡ None → AllTerms rows → ((y : ℕ) → Among y xs → IsReady y rows) → Is64 v → AllMet v left → (w : Valuation)
    × IsExtended xs v rows w
elimination-extends [] rows left v h n k r b met = (
  v,
  record {
    bits = b;
    agrees = λ y _. refl;
    met = subst (AllMet v) (sym (remains-same rows left h)) met;
  },
)
elimination-extends (x ∷ xs) rows left v h n k r b met =
    let f = elimination-first x xs rows left h in
    let a = after-is x rows f.next f.column in
    let ns = none-of_both x xs rows f.next f.column n in
    let i = elimination-extends xs f.next left v f.others ns.1 (after-terms x rows f.next a k)
    (λ y m. ready-after x y rows f.next a k (r y (inr m))) b met in
    by_ready f.next a ns.0 i.0 i.1 (r x (inl refl)) where
      fewer : (w : Valuation) → AgreesBut xs v w → (y : ℕ) → (Contains (x ∷ xs) y → ⊥) → w y ≡ v y
      fewer w g y m = g y (λ c. m (among-contains (x ∷ xs) y (inr (contains-among xs y c))))

      by_ready : (next : List LinearSum) → IsAfter x rows next → find (is_inexact x) (pairs x rows) ≡ None → (w : Valuation) →
          IsExtended xs v next w → IsReady x rows → (u : Valuation) × IsExtended (x ∷ xs) v rows u
      by_ready next a e w i (inl range) =
          let z = exact-column w x rows next a k (exact-from_none x rows e) range i.met in (
            valuation_with w x z.0,
            record {
              bits = with-bits w x z.0 i.bits z.1.bits;
              agrees = λ y m. valuation-there w x y z.0 (λ s. m (among-contains (x ∷ xs) y (inl s))) ∙ fewer w i.agrees y m;
              met = z.1.met;
            },
          )
      by_ready next a e w i (inr absent) = (
        w,
        record {
          bits = i.bits;
          agrees = λ y m. fewer w i.agrees y m;
          met = absent-column w x rows next a absent i.met;
        },
      )

-- an exact elimination loses no assignment
pub loses-none : (columns : List ℕ) (atoms shadow : List Atom) → AllTerms (listed_rows atoms columns) →
    first_inexact columns (listed_rows atoms columns) ≡ None → elimination columns (listed_rows atoms columns) ≡ remains (rows_of shadow) →
    LosesNone columns atoms shadow
loses-none columns atoms shadow k n h = λ v b met.
    let i = elimination-extends columns (listed_rows atoms columns) (rows_of shadow) v h n k (λ y m. inl (range-listed y atoms columns m)) b
    (holds-met v shadow met) in (
      i.0,
      i.1.bits,
      i.1.agrees,
      met-holds i.0 atoms
          (met-from i.0 (rows_of atoms) (λ t m. met-among i.0 (listed_rows atoms columns) t i.1.met
          (among-append_left (rows_of atoms) (range_rows columns) t m))),
    )

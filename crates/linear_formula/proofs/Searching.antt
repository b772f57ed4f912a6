-- A search in ascending columns.
use Rattle.std.proofs.Common.{◌≡◌, ◌≢◌, ℕ, zero, suc, ◌<◌, ◌≤◌, ◌+◌, Bool, true, false, eqb, leb, List, [], ◌∷◌, length, ℤ, pos, ◌==◌, nat_le, arith, refl, sym, subst}
use Rattle.std.specs.Prelude.{IsTrue}
use borrow.Author.Tests.{eqb-true, eqb_apart, leb-true, leb-false, ne_eqb, eq-eqb}
use Rattle.linear_formula.specs.LinearSum.{listed_at, is_ascending, is_ascending_from}
use Rattle.linear_formula.proofs.Limits.{both, le_so}
use Rattle.linear_formula.proofs.Merging.{at}

-- a column at a place is not below the bound
at-above : (low k : ℕ) (ps : List (ℕ × ℤ)) → IsTrue (is_ascending_from low ps) → k < length ps → low ≤ (at ps k).0
at-above low k [] a h = absurd (omega (arith, h))
at-above low zero (p ∷ ps) a h =
    le_so low p.0 (both (nat_le low p.0) (is_ascending_from (p.0 + 1) ps) a).0
at-above low (suc k) (p ∷ ps) a h =
    let as_ = both (nat_le low p.0) (is_ascending_from (p.0 + 1) ps) a in
    omega (arith, le_so low p.0 as_.0, at-above (p.0 + 1) k ps as_.1 (omega (arith, h)))

pub at-ascends : (low i j : ℕ) (ps : List (ℕ × ℤ)) → IsTrue (is_ascending_from low ps) → i < j → j < length ps → (at ps i).0 < (at ps j).0
at-ascends low i j [] a h k = absurd (omega (arith, k))
at-ascends low i zero (p ∷ ps) a h k = absurd (omega (arith, h))
at-ascends low zero (suc j) (p ∷ ps) a h k =
    let as_ = both (nat_le low p.0) (is_ascending_from (p.0 + 1) ps) a in
    omega (arith, at-above (p.0 + 1) j ps as_.1 (omega (arith, k)))
at-ascends low (suc i) (suc j) (p ∷ ps) a h k =
    let as_ = both (nat_le low p.0) (is_ascending_from (p.0 + 1) ps) a in
    at-ascends (p.0 + 1) i j ps as_.1 (omega (arith, h)) (omega (arith, k))

pub listed-at_place : (low x k : ℕ) (ps : List (ℕ × ℤ)) → IsTrue (is_ascending_from low ps) → k < length ps → (at ps k).0 ≡ x →
    listed_at x ps ≡ (at ps k).1
listed-at_place low x k [] a h e = absurd (omega (arith, h))
listed-at_place low x zero (p ∷ ps) a h e =
    let here : (x == p.0) ≡ true = eq-eqb x p.0 (sym e) in
    rw here refl
listed-at_place low x (suc k) (p ∷ ps) a h e =
    let as_ = both (nat_le low p.0) (is_ascending_from (p.0 + 1) ps) a in
    let past : (x == p.0) ≡ false = ne_eqb x p.0 (λ d. omega (arith, at-above (p.0 + 1) k ps as_.1 (omega (arith, h)), d, e)) in
    rw past (listed-at_place (p.0 + 1) x k ps as_.1 (omega (arith, h)) e)

pub listed-nowhere : (x : ℕ) (ps : List (ℕ × ℤ)) → ((k : ℕ) → k < length ps → (at ps k).0 ≢ x) → listed_at x ps ≡ pos 0
listed-nowhere x [] n = refl
listed-nowhere x (p ∷ ps) n =
    let there : (x == p.0) ≡ false = ne_eqb x p.0 (λ d. n 0 (omega arith) (sym d)) in
    rw there (listed-nowhere x ps (λ k h. n (suc k) (omega (arith, h))))

-- the column can only be between two places
pub record Between (ps : List (ℕ × ℤ)) (x low high : ℕ) : Type 0 where
  pub ordered : low ≤ high
  pub bound : high ≤ length ps
  pub below : (k : ℕ) → k < low → (at ps k).0 < x
  pub above : (k : ℕ) → high ≤ k → k < length ps → x < (at ps k).0

pub between-begins : (ps : List (ℕ × ℤ)) (x : ℕ) → Between ps x 0 (length ps)
between-begins ps x = record {
  ordered = omega arith;
  bound = omega arith;
  below = λ k h. absurd (omega (arith, h));
  above = λ k h d. absurd (omega (arith, h, d));
}

pub between-up : (ps : List (ℕ × ℤ)) (x low high middle : ℕ) → IsTrue (is_ascending ps) → Between ps x low high → low ≤ middle →
    middle < high → (at ps middle).0 < x → Between ps x (middle + 1) high
between-up ps x low high middle a b h k lt = record {
  ordered = omega (arith, k);
  bound = b.bound;
  below = λ j d. at_most j (omega (arith, d)) (eqb j middle) refl;
  above = b.above;
} where
  at_most : (j : ℕ) → j ≤ middle → (s : Bool) → eqb j middle ≡ s → (at ps j).0 < x
  at_most j d true e = subst (λ (n : ℕ). (at ps n).0 < x) (sym (eqb-true j middle e)) lt
  at_most j d false e =
      let less : j < middle = omega (arith, d, eqb_apart j middle e) in
      omega (arith, at-ascends 0 j middle ps a less (omega (arith, k, b.bound)), lt)

pub between-down : (ps : List (ℕ × ℤ)) (x low high middle : ℕ) → IsTrue (is_ascending ps) → Between ps x low high → low ≤ middle →
    middle < high → x < (at ps middle).0 → Between ps x low middle
between-down ps x low high middle a b h k lt = record {
  ordered = h;
  bound = omega (arith, k, b.bound);
  below = b.below;
  above = λ j d m. at_least j d m (eqb j middle) refl;
} where
  at_least : (j : ℕ) → middle ≤ j → j < length ps → (s : Bool) → eqb j middle ≡ s → x < (at ps j).0
  at_least j d m true e = subst (λ (n : ℕ). x < (at ps n).0) (sym (eqb-true j middle e)) lt
  at_least j d m false e =
      let more : middle < j = omega (arith, d, eqb_apart j middle e) in
      omega (arith, at-ascends 0 middle j ps a more m, lt)

pub between-ends : (ps : List (ℕ × ℤ)) (x low high : ℕ) → Between ps x low high → high ≤ low → listed_at x ps ≡ pos 0
between-ends ps x low high b h =
    listed-nowhere x ps (λ k d e. by_side k d e (leb (suc k) low) refl) where
      by_side : (k : ℕ) → k < length ps → (at ps k).0 ≡ x → (s : Bool) → leb (suc k) low ≡ s → ⊥
      by_side k d e true f = omega (arith, b.below k (leb-true (suc k) low f), e)
      by_side k d e false f =
          let past : high ≤ k = omega (arith, h, leb-false (suc k) low f) in
          omega (arith, b.above k past d, e)

-- The limits and the order of a term, as facts.
use Rattle.std.proofs.Common.{◌≡◌, ℕ, ◌<◌, ◌≤◌, ◌+◌, ◌^◌, Bool, true, false, suc, zero, List, [], ◌∷◌, ◌++◌, length, ℤ, pos, negsuc, nat_eq, nat_lt, nat_le, not, ◌&&◌, arith, refl, sym}
use Rattle.std.specs.Prelude.{unsigned_abs, IsTrue}
use Rattle.std.proofs.lemmas.Int.{ints}
use borrow.Author.Tests.{ltb-true, leb-true, lt-ltb, le-leb}
use Rattle.linear_formula.specs.LinearSum.{LinearSum, is_zero, is_ascending_from, is_ascending, has_no_zero, has_columns, are_coefficients_within, is_within, is_term, listed_at}
use Rattle.linear_formula.specs.steps.Order.{InOrder, AllWithin}
use Rattle.linear_formula.specs.Results.{put_part}
use Rattle.linear_formula.proofs.Order.{apart_from_zero, nonzero_test}
use Rattle.linear_formula.proofs.Values.{chosen_of_two}

no_way_true : false ≡ true → ⊥
no_way_true h = cc

is_so : (b : Bool) → IsTrue b → b ≡ true
is_so b h = h

so_is : (b : Bool) → b ≡ true → IsTrue b
so_is b h = h

pub both : (a b : Bool) → IsTrue (a && b) → IsTrue a × IsTrue b
both true b h = (refl, h)
both false b h = (h, absurd (no_way_true h))

pub both_in : (a b : Bool) → IsTrue a → IsTrue b → IsTrue (a && b)
both_in true b h k = k
both_in false b h k = h

pub not_so : (b : Bool) → IsTrue (not b) → b ≡ false
not_so true h = absurd (no_way_true h)
not_so false h = refl

so_not : (b : Bool) → b ≡ false → IsTrue (not b)
so_not true h = absurd (no_way_true (sym h))
so_not false h = refl

pub le_so : (a b : ℕ) → IsTrue (nat_le a b) → a ≤ b
le_so a b h = leb-true a b (is_so (nat_le a b) h)

pub so_le : (a b : ℕ) → a ≤ b → IsTrue (nat_le a b)
so_le a b h = so_is (nat_le a b) (le-leb a b h)

lt_so : (a b : ℕ) → IsTrue (nat_lt a b) → a < b
lt_so a b h = ltb-true a b (is_so (nat_lt a b) h)

so_lt : (a b : ℕ) → a < b → IsTrue (nat_lt a b)
so_lt a b h = so_is (nat_lt a b) (lt-ltb a b h)

-- the tests say the order
pub InOrder-from_tests : (low : ℕ) (ps : List (ℕ × ℤ)) → IsTrue (is_ascending_from low ps) → IsTrue (has_no_zero ps) →
    IsTrue (has_columns ps) → InOrder low ps
InOrder-from_tests low [] a z c = tt
InOrder-from_tests low (p ∷ ps) a z c =
    let as_ = both (nat_le low p.0) (is_ascending_from (p.0 + 1) ps) a in
    let zs = both (not (is_zero p.1)) (has_no_zero ps) z in
    let cs = both (nat_lt p.0 (2 ^ 32)) (has_columns ps) c in (
      le_so low p.0 as_.0,
      lt_so p.0 (2 ^ 32) cs.0,
      apart_from_zero p.1 (not_so (is_zero p.1) zs.0),
      InOrder-from_tests (p.0 + 1) ps as_.1
          zs.1 cs.1,
    )

pub tests-from_InOrder : (low : ℕ) (ps : List (ℕ × ℤ)) → InOrder low ps → IsTrue (is_ascending_from low ps) × IsTrue (has_no_zero ps)
    × IsTrue (has_columns ps)
tests-from_InOrder low [] o = (refl, refl, refl)
tests-from_InOrder low (p ∷ ps) o =
    let rest = tests-from_InOrder (p.0 + 1) ps o.3 in (
      both_in (nat_le low p.0) (is_ascending_from (p.0 + 1) ps) (so_le low p.0 o.0) rest.0,
      both_in (not (is_zero p.1)) (has_no_zero ps)
          (so_not (is_zero p.1) (nonzero_test p.1 o.2)) rest.1,
      both_in (nat_lt p.0 (2 ^ 32)) (has_columns ps) (so_lt p.0 (2 ^ 32) o.1) rest.2,
    )

pub AllWithin-from_test : (ps : List (ℕ × ℤ)) → IsTrue (are_coefficients_within ps) → AllWithin ps
AllWithin-from_test [] h = tt
AllWithin-from_test (p ∷ ps) h =
    let hs = both (nat_le (unsigned_abs p.1) (2 ^ 40)) (are_coefficients_within ps) h in
    (le_so (unsigned_abs p.1) (2 ^ 40) hs.0, AllWithin-from_test ps hs.1)

pub test-from_AllWithin : (ps : List (ℕ × ℤ)) → AllWithin ps → IsTrue (are_coefficients_within ps)
test-from_AllWithin [] h = refl
test-from_AllWithin (p ∷ ps) h =
    both_in (nat_le (unsigned_abs p.1) (2 ^ 40)) (are_coefficients_within ps) (so_le (unsigned_abs p.1) (2 ^ 40) h.0)
    (test-from_AllWithin ps h.1)

-- the three limits
pub record Within (t : LinearSum) : Type 0 where
  pub count : length t.parts ≤ 1024
  pub coefficients : AllWithin t.parts
  pub constant_limit : unsigned_abs t.constant ≤ 2 ^ 84

pub Within-from_test : (t : LinearSum) → IsTrue (is_within t) → Within t
Within-from_test t h =
    let hs = both (nat_le (length t.parts) 1024 && are_coefficients_within t.parts) (nat_le (unsigned_abs t.constant) (2 ^ 84)) h in
    let gs = both (nat_le (length t.parts) 1024) (are_coefficients_within t.parts) hs.0 in
    record {
      count = le_so (length t.parts) 1024 gs.0;
      coefficients = AllWithin-from_test t.parts gs.1;
      constant_limit = le_so (unsigned_abs t.constant) (2 ^ 84) hs.1;
    }

pub test-from_Within : (t : LinearSum) → Within t → IsTrue (is_within t)
test-from_Within t w =
    both_in (nat_le (length t.parts) 1024 && are_coefficients_within t.parts) (nat_le (unsigned_abs t.constant) (2 ^ 84))
    (both_in (nat_le (length t.parts) 1024) (are_coefficients_within t.parts) (so_le (length t.parts) 1024 w.count)
    (test-from_AllWithin t.parts w.coefficients)) (so_le (unsigned_abs t.constant) (2 ^ 84) w.constant_limit)

-- what a term is
pub record IsTerm (t : LinearSum) : Type 0 where
  pub order : InOrder 0 t.parts
  pub within : Within t

pub IsTerm-from_test : (t : LinearSum) → IsTrue (is_term t) → IsTerm t
IsTerm-from_test t h =
    let hs = both (is_ascending t.parts && has_no_zero t.parts && has_columns t.parts) (is_within t) h in
    let gs = both (is_ascending t.parts && has_no_zero t.parts) (has_columns t.parts) hs.0 in
    let fs = both (is_ascending t.parts) (has_no_zero t.parts) gs.0 in
    record {
      order = InOrder-from_tests 0 t.parts fs.0 fs.1 gs.1;
      within = Within-from_test t hs.1;
    }

-- the columns of a term ascend
pub term-ascends : (t : LinearSum) → IsTrue (is_term t) → IsTrue (is_ascending t.parts)
term-ascends t h =
    (both (is_ascending t.parts) (has_no_zero t.parts) (both (is_ascending t.parts && has_no_zero t.parts) (has_columns t.parts)
    (both (is_ascending t.parts && has_no_zero t.parts && has_columns t.parts) (is_within t) h).0).0).0

pub test-from_IsTerm : (t : LinearSum) → IsTerm t → IsTrue (is_term t)
test-from_IsTerm t k =
    let ts = tests-from_InOrder 0 t.parts k.order in
    both_in (is_ascending t.parts && has_no_zero t.parts && has_columns t.parts) (is_within t)
    (both_in (is_ascending t.parts && has_no_zero t.parts) (has_columns t.parts) (both_in (is_ascending t.parts) (has_no_zero t.parts) ts.0
    ts.1)
    ts.2) (test-from_Within t k.within)

-- a coefficient is within the limit, and so is that of each column
pub AllWithin-listed : (y : ℕ) (ps : List (ℕ × ℤ)) → AllWithin ps → unsigned_abs (listed_at y ps) ≤ 2 ^ 40
AllWithin-listed y [] h = omega (arith, ints)
AllWithin-listed y (p ∷ ps) h =
    chosen_of_two (λ r. unsigned_abs r ≤ 2 ^ 40) (nat_eq y p.0) p.1 (listed_at y ps) (λ _. h.0) (λ _. AllWithin-listed y ps h.1)

pub AllWithin-append : (ps qs : List (ℕ × ℤ)) → AllWithin ps → AllWithin qs → AllWithin (ps ++ qs)
AllWithin-append [] qs h k = k
AllWithin-append (p ∷ ps) qs h k = (h.0, AllWithin-append ps qs h.1 k)

pub AllWithin-second : (ps qs : List (ℕ × ℤ)) → AllWithin (ps ++ qs) → AllWithin qs
AllWithin-second [] qs h = h
AllWithin-second (p ∷ ps) qs h = AllWithin-second ps qs h.1

pub AllWithin-put : (x : ℕ) (a : ℤ) (ps : List (ℕ × ℤ)) → AllWithin (put_part x a ps) → unsigned_abs a ≤ 2 ^ 40
AllWithin-put x (pos zero) ps h = omega arith
AllWithin-put x (pos (suc n)) ps h = h.0
AllWithin-put x (negsuc n) ps h = h.0

pub AllWithin-one : (x : ℕ) (a : ℤ) → unsigned_abs a ≤ 2 ^ 40 → AllWithin (put_part x a [])
AllWithin-one x (pos zero) h = tt
AllWithin-one x (pos (suc n)) h = (h, tt)
AllWithin-one x (negsuc n) h = (h, tt)

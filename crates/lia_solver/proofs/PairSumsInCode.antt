-- Sums of two rows as the code computes them.
use Rattle.std.proofs.Common.{◌≡◌, ℕ, ◌<◌, ◌≤◌, ◌^◌, Bool, Option, None, Some, List, [], ◌∷◌, length, ℤ, pos, ◌+ℤ◌, ◌*ℤ◌, to_z, of_z, to_z-of_z, FitsSigned, arith, sym, ap, subst, ◌∙◌}
use Rattle.std.specs.Int.{w64, w128}
use Rattle.std.specs.Prelude.{IsTrue, MatchOption, ◌↔◌, unsigned_abs}
use Rattle.std.specs.Option.{is_some}
use Rattle.std.proofs.lemmas.Int.{ints, fits_signed_from_abs}
use Rattle.linear_formula.specs.LinearSum.{LinearSum, is_term, is_within}
use Rattle.linear_formula.specs.steps.Order.{AllWithin}
use Rattle.linear_formula.specs.Results.{plus_parts, combination}
use Rattle.linear_formula.proofs.Finishing.{both_constants, both_cast, cast_wide}
use Rattle.linear_formula.proofs.Limits.{IsTerm-from_test, test-from_IsTerm, test-from_Within}
use Rattle.linear_formula.proofs.Order.{InOrder-plus_parts}
use Rattle.shadow_elim.specs.Division.{row_divisor}
use Rattle.shadow_elim.specs.Elimination.{size_of, upper_multiple, lower_multiple, pair_sum}
use Rattle.shadow_elim.proofs.Pairs.{row_divisor-small, cast_multiple}
use Rattle.lia_solver.specs.declared.table.Making.{Making}
use Rattle.lia_solver.specs.steps.Entries.{Entry, entry_at, sum_at, least_at, making_of, ArePaired}

-- the sum of multiples of constants, whose multipliers were cast
pub constants-sum : (m m' a n n' b : ℤ) → m' ≡ m → n' ≡ n → unsigned_abs m ≤ 2 ^ 40 → unsigned_abs a ≤ 2 ^ 84 → unsigned_abs n ≤ 2 ^ 40 →
    unsigned_abs b ≤ 2 ^ 84 → to_z w128 (of_z w128 (both_constants m' a n' b)) ≡ (m *ℤ a) +ℤ (n *ℤ b)
constants-sum m m' a n n' b e f hm ha hn hb =
    both_cast m' a n' b (subst (λ (z : ℤ). unsigned_abs z ≤ 2 ^ 40) (sym e) hm) ha (subst (λ (z : ℤ). unsigned_abs z ≤ 2 ^ 40) (sym f) hn)
    hb
    ∙ ap (λ y. (y *ℤ a) +ℤ (n' *ℤ b)) e ∙ ap (λ z. (m *ℤ a) +ℤ (z *ℤ b)) f

abbrev pub row_of : List (ℕ × ℤ) → ℤ → LinearSum
row_of ps c = record { parts = ps; constant = c }

abbrev pub sum_of_two : ℤ → LinearSum → ℤ → LinearSum → LinearSum
sum_of_two m t n u = combination ((m, t) ∷ (n, u) ∷ []) (pos 0)

pub row-same : (ps qs : List (ℕ × ℤ)) (c d : ℤ) → ps ≡ qs → c ≡ d → row_of ps c ≡ row_of qs d
row-same ps qs c d e f = λ i. record { parts = e i; constant = f i }

pub parts-cast : (m m' : ℤ) (ps : List (ℕ × ℤ)) (n n' : ℤ) (qs : List (ℕ × ℤ)) → m' ≡ m → n' ≡ n → plus_parts m' ps (plus_parts n' qs [])
    ≡ plus_parts m ps (plus_parts n qs [])
parts-cast m m' ps n n' qs e f = ap (λ y. plus_parts y ps (plus_parts n' qs [])) e ∙ ap (λ z. plus_parts m ps (plus_parts z qs [])) f

-- the row in the code's words is the sum
pub sum-row : (m : ℤ) (t : LinearSum) (n : ℤ) (u : LinearSum) (ps : List (ℕ × ℤ)) (c : ℤ) → ps
    ≡ plus_parts m t.parts (plus_parts n u.parts []) → c ≡ (m *ℤ t.constant) +ℤ (n *ℤ u.constant) → row_of ps c ≡ sum_of_two m t n u
sum-row m t n u ps c e f =
    row-same ps (plus_parts m t.parts (plus_parts n u.parts [])) c ((m *ℤ t.constant) +ℤ ((n *ℤ u.constant) +ℤ pos 0)) e
    (omega (arith, ints, f))

-- the sum is a term, where it is within the limits
pub sum-term : (m : ℤ) (t : LinearSum) (n : ℤ) (u : LinearSum) → IsTrue (is_term t) → IsTrue (is_term u) →
    AllWithin (sum_of_two m t n u).parts → length (sum_of_two m t n u).parts ≤ 1024 → unsigned_abs (sum_of_two m t n u).constant ≤ 2 ^ 84 →
    IsTrue (is_term (sum_of_two m t n u))
sum-term m t n u h k a b d = test-from_IsTerm (sum_of_two m t n u) (record {
  order = InOrder-plus_parts 0 m t.parts (plus_parts n u.parts []) (IsTerm-from_test t h).order
      (InOrder-plus_parts 0 n u.parts [] (IsTerm-from_test u k).order tt);
  within = record { count = b; coefficients = a; constant_limit = d };
})

-- a sum of multiples of constants, all of them cast
pub cast-sum : (m a n b : ℤ) → FitsSigned w64 m → FitsSigned w64 n → unsigned_abs a ≤ 2 ^ 84 → unsigned_abs b ≤ 2 ^ 84 →
    (to_z w64 (of_z w64 m) *ℤ to_z w128 (of_z w128 a)) +ℤ (to_z w64 (of_z w64 n) *ℤ to_z w128 (of_z w128 b)) ≡ (m *ℤ a) +ℤ (n *ℤ b)
cast-sum m a n b f g h k =
    let em : to_z w64 (of_z w64 m) ≡ m = to_z-of_z f in
    let en : to_z w64 (of_z w64 n) ≡ n = to_z-of_z g in
    let ea : to_z w128 (of_z w128 a) ≡ a = cast_wide a (omega (arith, h)) in
    let eb : to_z w128 (of_z w128 b) ≡ b = cast_wide b (omega (arith, k)) in
    ap (λ z. (z *ℤ to_z w128 (of_z w128 a)) +ℤ (to_z w64 (of_z w64 n) *ℤ to_z w128 (of_z w128 b))) em
    ∙ ap (λ z. (m *ℤ z) +ℤ (to_z w64 (of_z w64 n) *ℤ to_z w128 (of_z w128 b))) ea
    ∙ ap (λ z. (m *ℤ a) +ℤ (z *ℤ to_z w128 (of_z w128 b))) en ∙ ap (λ z. (m *ℤ a) +ℤ (n *ℤ z)) eb

-- what is known of the parts and of the constant
pub record IsSumInCode (m : ℤ) (t : LinearSum) (n : ℤ) (u : LinearSum) (ps : List (ℕ × ℤ)) (c : ℤ) : Type 0 where
  pub parts : ps ≡ plus_parts m t.parts (plus_parts n u.parts [])
  pub within : AllWithin ps
  pub count : length ps ≤ 1024
  pub constant : c ≡ (m *ℤ t.constant) +ℤ (n *ℤ u.constant)
  pub limit : unsigned_abs c ≤ 2 ^ 84

pub code-row : (m : ℤ) (t : LinearSum) (n : ℤ) (u : LinearSum) (ps : List (ℕ × ℤ)) (c : ℤ) → IsSumInCode m t n u ps c →
    row_of ps (to_z w128 (of_z w128 c)) ≡ sum_of_two m t n u
code-row m t n u ps c h = sum-row m t n u ps (to_z w128 (of_z w128 c)) h.parts (cast_wide c (omega (arith, h.limit)) ∙ h.constant)

pub code-term : (m : ℤ) (t : LinearSum) (n : ℤ) (u : LinearSum) (ps : List (ℕ × ℤ)) (c : ℤ) → IsTrue (is_term t) → IsTrue (is_term u) →
    IsSumInCode m t n u ps c → IsTrue (is_term (row_of ps (to_z w128 (of_z w128 c))))
code-term m t n u ps c ht hu h =
    subst (λ (s : LinearSum). IsTrue (is_term s)) (sym (code-row m t n u ps c h)) (sum-term m t n u ht hu
    (subst (λ (qs : List (ℕ × ℤ)). AllWithin qs) h.parts h.within) (omega (arith, h.count, ap (λ (qs : List (ℕ × ℤ)). length qs) h.parts))
    (omega (arith, ints, h.limit, h.constant)))

-- The sum of two least constants

-- whether it is within the limits, as the code decides it
pub least-narrow : (x : ℕ) (entries : List Entry) (upper lower : ℕ) (m n a b : ℤ) (o : Option ℤ) (r : Bool) →
    ArePaired x entries upper lower → m ≡ pos (upper_multiple (size_of x (sum_at entries upper)) (size_of x (sum_at entries lower))) →
    n ≡ pos (lower_multiple (size_of x (sum_at entries upper)) (size_of x (sum_at entries lower))) → unsigned_abs m ≤ 2 ^ 40 →
    unsigned_abs n ≤ 2 ^ 40 → a ≡ (entry_at entries upper).least → b ≡ (entry_at entries lower).least → MatchOption o
    (2 ^ 84 < unsigned_abs ((to_z w64 (of_z w64 m) *ℤ to_z w128 (of_z w128 a)) +ℤ (to_z w64 (of_z w64 n) *ℤ to_z w128 (of_z w128 b))))
    (λ c. (c ≡ (to_z w64 (of_z w64 m) *ℤ to_z w128 (of_z w128 a)) +ℤ (to_z w64 (of_z w64 n) *ℤ to_z w128 (of_z w128 b)))
    × (unsigned_abs c ≤ 2 ^ 84)) → r ≡ is_some o → IsTrue r ↔ (unsigned_abs
    (pair_sum x (least_at entries upper, least_at entries lower)).constant ≤ 2 ^ 84)
least-narrow x entries upper lower m n a b o r p em en hm hn ea eb s er =
    by_option o r s er where
      whole : ℤ
      whole = (pair_sum x (least_at entries upper, least_at entries lower)).constant

      limit : (i : ℕ) (c : ℤ) → i < length entries → c ≡ (entry_at entries i).least → unsigned_abs c ≤ 2 ^ 84
      limit i c h e =
          let l = (IsTerm-from_test (least_at entries i) (p.terms.least i h)).within.constant_limit in
          omega (arith, ints, l, e)

      same : (to_z w64 (of_z w64 m) *ℤ to_z w128 (of_z w128 a)) +ℤ (to_z w64 (of_z w64 n) *ℤ to_z w128 (of_z w128 b)) ≡ whole
      same =
          cast-sum m a n b (fits_signed_from_abs w64 m (omega (arith, hm))) (fits_signed_from_abs w64 n (omega (arith, hn)))
          (limit upper a p.upper_place ea) (limit lower b p.lower_place eb)
          ∙ ap (λ z. (z *ℤ a) +ℤ (n *ℤ b)) em ∙ ap (λ z. (M *ℤ a) +ℤ (z *ℤ b)) en ∙ ap (λ z. (M *ℤ z) +ℤ (N *ℤ b)) ea
          ∙ ap (λ z. (M *ℤ (entry_at entries upper).least) +ℤ (N *ℤ z)) eb ∙ omega (arith, ints) where
            M : ℤ
            M = pos (upper_multiple (size_of x (sum_at entries upper)) (size_of x (sum_at entries lower)))

            N : ℤ
            N = pos (lower_multiple (size_of x (sum_at entries upper)) (size_of x (sum_at entries lower)))

      by_option : (o : Option ℤ) (r : Bool) → MatchOption o
          (2 ^ 84 < unsigned_abs ((to_z w64 (of_z w64 m) *ℤ to_z w128 (of_z w128 a)) +ℤ (to_z w64 (of_z w64 n) *ℤ to_z w128 (of_z w128 b))))
          (λ c. (c ≡ (to_z w64 (of_z w64 m) *ℤ to_z w128 (of_z w128 a)) +ℤ (to_z w64 (of_z w64 n) *ℤ to_z w128 (of_z w128 b)))
          × (unsigned_abs c ≤ 2 ^ 84)) → r ≡ is_some o → IsTrue r ↔ (unsigned_abs whole ≤ 2 ^ 84)
      by_option None r k e = (λ t. absurd (cc), λ l. absurd (omega (arith, ints, l, k, ap unsigned_abs same)))
      by_option (Some c) r k e = (λ t. omega (arith, ints, k.1, ap unsigned_abs (k.0 ∙ same)), λ l. e)

-- The sum of two rows of a table

-- with its parts as the code reads them
pub paired-sum : (x : ℕ) (entries : List Entry) (upper lower : ℕ) (m n : ℤ) (ps qs : List (ℕ × ℤ)) (a b : ℤ) →
    ArePaired x entries upper lower → m ≡ pos (upper_multiple (size_of x (sum_at entries upper)) (size_of x (sum_at entries lower))) →
    n ≡ pos (lower_multiple (size_of x (sum_at entries upper)) (size_of x (sum_at entries lower))) → unsigned_abs m ≤ 2 ^ 40 →
    unsigned_abs n ≤ 2 ^ 40 → ps ≡ (sum_at entries upper).parts → a ≡ (sum_at entries upper).constant →
    qs ≡ (sum_at entries lower).parts → b ≡ (sum_at entries lower).constant →
    sum_of_two (to_z w64 (of_z w64 m)) (row_of ps (to_z w128 (of_z w128 a))) (to_z w64 (of_z w64 n))
    (row_of qs (to_z w128 (of_z w128 b))) ≡ pair_sum x (sum_at entries upper, sum_at entries lower)
paired-sum x entries upper lower m n ps qs a b p em en hm hn ep ea eq eb =
    λ i. sum_of_two (first i) (row_of (ep i) (left i)) (second i) (row_of (eq i) (right i)) where
      first : to_z w64 (of_z w64 m) ≡ pos (upper_multiple (size_of x (sum_at entries upper)) (size_of x (sum_at entries lower)))
      first = to_z-of_z (fits_signed_from_abs w64 m (omega (arith, hm))) ∙ em

      second : to_z w64 (of_z w64 n) ≡ pos (lower_multiple (size_of x (sum_at entries upper)) (size_of x (sum_at entries lower)))
      second = to_z-of_z (fits_signed_from_abs w64 n (omega (arith, hn))) ∙ en

      cast_constant : (i : ℕ) (c : ℤ) → i < length entries → c ≡ (sum_at entries i).constant → to_z w128 (of_z w128 c)
          ≡ (sum_at entries i).constant
      cast_constant i c h e =
          let l = (IsTerm-from_test (sum_at entries i) (p.terms.greatest i h)).within.constant_limit in
          cast_wide c (omega (arith, ints, l, e)) ∙ e

      left : to_z w128 (of_z w128 a) ≡ (sum_at entries upper).constant
      left = cast_constant upper a p.upper_place ea

      right : to_z w128 (of_z w128 b) ≡ (sum_at entries lower).constant
      right = cast_constant lower b p.lower_place eb

-- how it was made, as the code has it
pub making-cast : (x : ℕ) (entries : List Entry) (upper lower : ℕ) (m n d : ℤ) (s : LinearSum) → IsTrue (is_term s) →
    s ≡ pair_sum x (sum_at entries upper, sum_at entries lower) →
    m ≡ pos (upper_multiple (size_of x (sum_at entries upper)) (size_of x (sum_at entries lower))) →
    n ≡ pos (lower_multiple (size_of x (sum_at entries upper)) (size_of x (sum_at entries lower))) → unsigned_abs m ≤ 2 ^ 40 →
    unsigned_abs n ≤ 2 ^ 40 → d ≡ pos (row_divisor s) →
    let made : Making =
    record {
      upper = upper;
      upper_multiple = to_z w64 (of_z w64 m);
      lower = lower;
      lower_multiple = to_z w64 (of_z w64 n);
      divide = to_z w64 (of_z w64 d);
    } in made ≡ making_of x entries upper lower
making-cast x entries upper lower m n d s term e em en hm hn ed =
    λ i. record {
      upper = upper;
      upper_multiple = (to_z-of_z (fits_signed_from_abs w64 m (omega (arith, hm))) ∙ em) i;
      lower = lower;
      lower_multiple = (to_z-of_z (fits_signed_from_abs w64 n (omega (arith, hn))) ∙ en) i;
      divide = (cast_multiple d (omega (arith, ints, ed, row_divisor-small s term)) ∙ ed ∙ ap (λ (t : LinearSum). pos (row_divisor t)) e) i;
    }

pub term-within : (s t : LinearSum) → s ≡ t → IsTrue (is_term s) → IsTrue (is_within t)
term-within s t e h = subst (λ (r : LinearSum). IsTrue (is_within r)) e (test-from_Within s (IsTerm-from_test s h).within)

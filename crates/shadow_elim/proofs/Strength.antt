-- Rows with the same coefficients, and which of them is stronger.
use Rattle.std.proofs.Common.{◌≡◌, ℕ, Bool, true, List, [], ◌∷◌, ℤ, ◌==◌, arith, refl, ap, ◌∙◌, ⊎_elim}
use Rattle.std.specs.Prelude.{◌≤ℤ◌, ◌<ℤ◌, int_le, int_lt}
use Rattle.std.specs.Bool.{Decides}
use Rattle.std.specs.List.{list_any}
use Rattle.std.specs.Ordering.{int_eq}
use Rattle.std.specs.Cmp.Lexicographic.{pointwise}
use Rattle.std.proofs.lemmas.Bool.{eqb-true, eq-eqb, and_parts, and_from, or_cases, or_left, or_right}
use Rattle.std.proofs.lemmas.Bool.Decides.{Decides-int_eq}
use Rattle.std.proofs.lemmas.Int.{ints}
use Rattle.std.proofs.lemmas.Slice.Eq.{slice_eq-Decides}
use Rattle.linear_formula.specs.LinearSum.{LinearSum}
use Rattle.shadow_elim.specs.Reduction.{is_same_part, same_parts, is_as_strong, is_stronger}
use Rattle.shadow_elim.proofs.Tests.{lt_yes}

pair_same : (a b : ℕ) (x y : ℤ) → a ≡ b → x ≡ y → ◌≡◌ {A = ℕ × ℤ} (a, x) (b, y)
pair_same a b x y e f = cc

pub Decides-same_part : (p q : ℕ × ℤ) → Decides (is_same_part p q) (p ≡ q)
Decides-same_part p q = (there, back) where
  there : is_same_part p q ≡ true → p ≡ q
  there h =
      let hs = and_parts (p.0 == q.0) (int_eq p.1 q.1) h in
      pair_same p.0 q.0 p.1 q.1 (eqb-true p.0 q.0 hs.0) ((Decides-int_eq p.1 q.1).0 hs.1)

  back : p ≡ q → is_same_part p q ≡ true
  back e =
      and_from (p.0 == q.0) (int_eq p.1 q.1) (eq-eqb p.0 q.0 (ap (λ (x : ℕ × ℤ). x.0) e))
      ((Decides-int_eq p.1 q.1).1 (ap (λ (x : ℕ × ℤ). x.1) e))

pub Decides-same_list : (ps qs : List (ℕ × ℤ)) → Decides (pointwise is_same_part ps qs) (ps ≡ qs)
Decides-same_list ps qs =
    slice_eq-Decides Decides-same_part ps qs (pointwise is_same_part ps qs) refl

-- s is as strong as t
pub record AsStrong (t s : LinearSum) : Type 0 where
  pub parts : s.parts ≡ t.parts
  pub constant : t.constant ≤ℤ s.constant

pub AsStrong-from_test : (t s : LinearSum) → is_as_strong t s ≡ true → AsStrong t s
AsStrong-from_test t s h =
    let hs = and_parts (same_parts s t) (int_le t.constant s.constant) h in
    record {
      parts = (Decides-same_list s.parts t.parts).0 hs.0;
      constant = let e : int_le t.constant s.constant ≡ true = hs.1 in omega (arith, ints, e);
    }

pub int_le-from : (a b : ℤ) → a ≤ℤ b → int_le a b ≡ true
int_le-from a b h = grind (arith, ints)

pub test-from_AsStrong : (t s : LinearSum) → AsStrong t s → is_as_strong t s ≡ true
test-from_AsStrong t s h =
    and_from (same_parts s t) (int_le t.constant s.constant) ((Decides-same_list s.parts t.parts).1 h.parts)
    (int_le-from t.constant s.constant h.constant)

pub strong-itself : (t : LinearSum) → is_as_strong t t ≡ true
strong-itself t = test-from_AsStrong t t (record { parts = refl; constant = omega (arith, ints) })

-- s is stronger than t
pub record Stronger (t s : LinearSum) : Type 0 where
  pub parts : s.parts ≡ t.parts
  pub constant : t.constant <ℤ s.constant

pub Stronger-from_test : (t s : LinearSum) → is_stronger t s ≡ true → Stronger t s
Stronger-from_test t s h =
    let hs = and_parts (same_parts s t) (int_lt t.constant s.constant) h in
    record {
      parts = (Decides-same_list s.parts t.parts).0 hs.0;
      constant = let e : int_lt t.constant s.constant ≡ true = hs.1 in omega (arith, ints, e);
    }

pub test-from_Stronger : (t s : LinearSum) → Stronger t s → is_stronger t s ≡ true
test-from_Stronger t s h =
    and_from (same_parts s t) (int_lt t.constant s.constant) ((Decides-same_list s.parts t.parts).1 h.parts)
    (lt_yes t.constant s.constant h.constant)

-- what is as strong as one that is as strong or stronger
pub as_strong-trans : (t s r : LinearSum) → is_as_strong t s ≡ true → is_as_strong s r ≡ true → is_as_strong t r ≡ true
as_strong-trans t s r h k =
    let a = AsStrong-from_test t s h in
    let b = AsStrong-from_test s r k in
    test-from_AsStrong t r (record {
      parts = b.parts ∙ a.parts;
      constant = omega (arith, ints, a.constant, b.constant);
    })

pub stronger-trans : (t s r : LinearSum) → is_stronger t s ≡ true → is_as_strong s r ≡ true → is_stronger t r ≡ true
stronger-trans t s r h k =
    let a = Stronger-from_test t s h in
    let b = AsStrong-from_test s r k in
    test-from_Stronger t r (record {
      parts = b.parts ∙ a.parts;
      constant = omega (arith, ints, a.constant, b.constant);
    })

pub stronger-strong : (t s : LinearSum) → is_stronger t s ≡ true → is_as_strong t s ≡ true
stronger-strong t s h =
    let a = Stronger-from_test t s h in
    test-from_AsStrong t s (record {
      parts = a.parts;
      constant = omega (arith, ints, a.constant);
    })

pub not_both : (t s : LinearSum) → is_stronger t s ≡ true → is_as_strong s t ≡ true → ⊥
not_both t s h k =
    let a = Stronger-from_test t s h in
    let b = AsStrong-from_test s t k in
    omega (arith, ints, a.constant, b.constant)

pub any-weaker : (p q : LinearSum → Bool) (xs : List LinearSum) → ((x : LinearSum) → p x ≡ true → q x ≡ true) → list_any p xs ≡ true →
    list_any q xs ≡ true
any-weaker p q [] f h = h
any-weaker p q (x ∷ xs) f h =
    ⊎_elim (λ e. or_left (q x) (list_any q xs) (f x e)) (λ e. or_right (q x) (list_any q xs) (any-weaker p q xs f e))
    (or_cases (p x) (list_any p xs) h)

-- Numbers are what is read of their texts.
use Rattle.std.proofs.Common.{◌≡◌, ℕ, zero, suc, ◌-◌, ◌^◌, ◌<◌, ◌≤◌, Bool, true, false, ◌&&◌, nat_le, Some, List, [], ◌∷◌, ◌++◌, length, drop, ℤ, pos, negsuc, arith, refl, sym, subst, ap, ◌∙◌, if◌then◌else◌}
use Rattle.std.specs.Prelude.{IsTrue}
use Rattle.std.specs.Fmt.{decimal, signed_decimal}
use Rattle.std.proofs.lemmas.Bool.{eqb-true, leb-true, le-leb, lt-ltb, ltb-true}
use Rattle.std.proofs.lemmas.Bool.Decides.{nat_tests}
use Rattle.std.proofs.lemmas.Fmt.{decimal_is_IsNumeral_wide}
use Rattle.std.proofs.lemmas.List.{append_assoc}
use Rattle.linear_formula.specs.LinearSum.{is64}
use Rattle.linear_formula.proofs.Limits.{both, both_in}
use Rattle.proof_bundle.specs.Text.{Is32}
use Rattle.proof_bundle.specs.steps.Reading.{◌>>=◌, IsFrom, begins, behind_digits, below_zero_at, digits_of, is_digit, is_plain, max_count, max_thing, minus, number_at, plain_value, signed_at, tag_at, value_from}
use Rattle.proof_bundle.proofs.Digits.{Digits, decimal_digits, digits_front, digits_text, front_digits, parted, plain_decimal, value_decimal}
use Rattle.proof_bundle.proofs.Parsing.{Parses, alike, bind_again, bind_is, some_is, tag_again, tag_takes, test_is}

-- a number, with a byte after it
abbrev pub number_text : ℕ → ℕ → List ℕ
number_text end n = decimal n ++ end ∷ []

abbrev pub signed_text : ℕ → ℤ → List ℕ
signed_text end z = signed_decimal z ++ end ∷ []

plain_takes : (most : ℕ) → most < 10 ^ 64 → (ds : List ℕ) → Digits ds → (n : ℕ) → plain_value most ds ≡ Some n → (n ≤ most)
    × (ds ≡ decimal n)
unfolding plain_value
plain_takes most small ds d n e =
    let t = test_is (is_plain ds && nat_le (value_from 0 ds) most) (value_from 0 ds) n e in
    let u = both (is_plain ds) (nat_le (value_from 0 ds) most) t.0 in
    let le = leb-true (value_from 0 ds) most u.1 in
    (omega (arith, t.1, le), digits_text ds d u.0 (omega (arith, le, small)) ∙ ap decimal t.1)

plain_again : (most : ℕ) → most < 10 ^ 64 → (n : ℕ) → n ≤ most → plain_value most (decimal n) ≡ Some n
unfolding plain_value
plain_again most small n le =
    let fits : n < 10 ^ 64 = omega (arith, le, small) in
    let v = value_decimal n fits in
    let low : nat_le (value_from 0 (decimal n)) most ≡ true = le-leb (value_from 0 (decimal n)) most (omega (arith, v, le)) in
    rw (both_in (is_plain (decimal n)) (nat_le (value_from 0 (decimal n)) most) (plain_decimal n fits) low) (ap Some v)

module _ (end : ℕ) (low : end < 48) where
  number_takes : (most : ℕ) → most < 10 ^ 64 → (bytes : List ℕ) (x : ℕ × List ℕ) → number_at end most bytes ≡ Some x →
      (x.0 ≤ most) × (bytes ≡ number_text end x.0 ++ x.1)
  unfolding number_at
  number_takes most small bytes x e =
      let a = bind_is (plain_value most (digits_of bytes)) _ x e in
      let t = bind_is (tag_at (end ∷ []) (behind_digits bytes)) _ x a.2 in
      let p = plain_takes most small (digits_of bytes) (front_digits bytes) a.0 a.1 in
      let b = tag_takes (end ∷ []) (behind_digits bytes) t.0 t.1 in
      subst (λ (y : ℕ × List ℕ). (y.0 ≤ most) × (bytes ≡ number_text end y.0 ++ y.1)) (some_is (a.0, t.0) x t.2)
      (p.0, parted bytes ∙ (λ i. p.1 i ++ b i) ∙ sym (append_assoc (decimal a.0) (end ∷ []) t.0))

  number_again : (most : ℕ) → most < 10 ^ 64 → (n : ℕ) (rest : List ℕ) → n ≤ most →
      number_at end most (number_text end n ++ rest) ≡ Some (n, rest)
  unfolding number_at
  number_again most small n rest le =
      let bytes = number_text end n ++ rest in
      let whole : bytes ≡ decimal n ++ end ∷ rest = append_assoc (decimal n) (end ∷ []) rest in
      let d = digits_front (decimal n) end rest (decimal_digits n (omega (arith, le, small))) low in
      bind_again (plain_value most (digits_of bytes)) _ n (ap (plain_value most) (ap digits_of whole ∙ d.0) ∙ plain_again most small n le)
      ∙ bind_again (tag_at (end ∷ []) (behind_digits bytes)) _ rest
      (ap (tag_at (end ∷ [])) (ap behind_digits whole ∙ d.1) ∙ tag_again (end ∷ []) rest)

  pub numbers : (most : ℕ) → most < 10 ^ 64 → Parses (λ n. n ≤ most) (number_text end) (number_at end most)
  numbers most small = record { takes = number_takes most small; again = number_again most small }

  -- Signed numbers

  minus_is : (n : ℕ) (z : ℤ) → minus n ≡ Some z → (m : ℕ) × (n ≡ suc m) × (z ≡ negsuc m)
  minus_is zero z e = absurd cc
  minus_is (suc m) z e = (m, refl, sym (some_is (negsuc m) z e))

  first_byte : (bytes : List ℕ) → begins 45 bytes ≡ true → bytes ≡ 45 ∷ drop 1 bytes
  first_byte [] h = absurd cc
  first_byte (b ∷ bs) h = ap (λ c. c ∷ bs) (eqb-true b 45 h)

  no_minus : (ds rest : List ℕ) → 0 < length ds → Digits ds → begins 45 (ds ++ rest) ≡ false
  no_minus [] rest some d = absurd (omega arith)
  no_minus (d ∷ ds) rest some h = let k : is_digit d ≡ true = h.0 in grind (arith, nat_tests)

  below_takes : (low high : ℕ) → low < 10 ^ 64 → (bytes : List ℕ) → bytes ≡ 45 ∷ drop 1 bytes → (x : ℤ × List ℕ) →
      below_zero_at end low (drop 1 bytes) ≡ Some x → IsFrom low high x.0 × (bytes ≡ signed_text end x.0 ++ x.1)
  unfolding below_zero_at
  below_takes low high small bytes first x e =
      let a = bind_is (number_at end low (drop 1 bytes)) _ x e in
      let b = bind_is (minus a.0.0) _ x a.2 in
      let m = minus_is a.0.0 b.0 b.1 in
      let t = number_takes low small (drop 1 bytes) a.0 a.1 in
      let below : m.0 < low = omega (arith, t.0, m.1) in
      let text : bytes ≡ signed_text end (negsuc m.0) ++ a.0.1 =
      first ∙ ap (λ r. 45 ∷ r) (t.1 ∙ ap (λ n. number_text end n ++ a.0.1) m.1) in
      subst (λ (y : ℤ × List ℕ). IsFrom low high y.0 × (bytes ≡ signed_text end y.0 ++ y.1)) (some_is (b.0, a.0.1) x b.2)
      (subst (λ z. IsFrom low high z × (bytes ≡ signed_text end z ++ a.0.1)) (sym m.2) (below, text))

  above_takes : (low high : ℕ) → high < 10 ^ 64 → (bytes : List ℕ) (x : ℤ × List ℕ) →
      (number_at end high bytes >>= λ n. Some (pos n.0, n.1)) ≡ Some x → IsFrom low high x.0 × (bytes ≡ signed_text end x.0 ++ x.1)
  above_takes low high small bytes x e =
      let a = bind_is (number_at end high bytes) _ x e in
      let t = number_takes high small bytes a.0 a.1 in
      subst (λ (y : ℤ × List ℕ). IsFrom low high y.0 × (bytes ≡ signed_text end y.0 ++ y.1)) (some_is (pos a.0.0, a.0.1) x a.2) t

  signed_takes : (low high : ℕ) → low < 10 ^ 64 → high < 10 ^ 64 → (bytes : List ℕ) (x : ℤ × List ℕ) →
      signed_at end low high bytes ≡ Some x → IsFrom low high x.0 × (bytes ≡ signed_text end x.0 ++ x.1)
  unfolding signed_at
  signed_takes low high sl sh bytes x e = by_test (begins 45 bytes) refl e where
    by_test : (t : Bool) → begins 45 bytes ≡ t →
        (if t then below_zero_at end low (drop 1 bytes) else (number_at end high bytes >>= λ n. Some (pos n.0, n.1))) ≡ Some x →
        IsFrom low high x.0 × (bytes ≡ signed_text end x.0 ++ x.1)
    by_test true h k = below_takes low high sl bytes (first_byte bytes h) x k
    by_test false h k = above_takes low high sh bytes x k

  signed_again : (low high : ℕ) → low < 10 ^ 64 → high < 10 ^ 64 → (z : ℤ) (rest : List ℕ) → IsFrom low high z →
      signed_at end low high (signed_text end z ++ rest) ≡ Some (z, rest)
  unfolding signed_at below_zero_at
  signed_again low high sl sh (pos n) rest h =
      let whole = append_assoc (decimal n) (end ∷ []) rest in
      let fits : n < 10 ^ 64 = omega (arith, h, sh) in
      let plain : begins 45 (number_text end n ++ rest) ≡ false = ap (begins 45) whole
      ∙ no_minus (decimal n) (end ∷ rest) (decimal_is_IsNumeral_wide n fits).0.0 (decimal_digits n fits) in
      rw plain (bind_again (number_at end high (number_text end n ++ rest)) _ (n, rest) (number_again high sh n rest h))
  signed_again low high sl sh (negsuc n) rest h =
      bind_again (number_at end low (number_text end (suc n) ++ rest)) _ (suc n, rest) (number_again low sl (suc n) rest (omega (arith, h)))

  pub signeds : (low high : ℕ) → low < 10 ^ 64 → high < 10 ^ 64 → Parses (IsFrom low high) (signed_text end) (signed_at end low high)
  signeds low high sl sh = record { takes = signed_takes low high sl sh; again = signed_again low high sl sh }

  -- Ranges

  pub things : Parses Is32 (number_text end) (number_at end max_thing)
  things = alike (λ n. n ≤ max_thing) Is32 (λ n h. omega (arith, h)) (λ n h. omega (arith, h)) (numbers max_thing (omega arith))

  pub counts : Parses (λ n. n < 2 ^ 64) (number_text end) (number_at end max_count)
  counts = alike (λ n. n ≤ max_count) (λ n. n < 2 ^ 64) (λ n h. omega (arith, h)) (λ n h. omega (arith, h))
      (numbers max_count (omega arith))

  within64 : (z : ℤ) → IsFrom (2 ^ 63) (2 ^ 63 - 1) z → IsTrue (is64 z)
  within64 (pos n) h = lt-ltb n (2 ^ 63) (omega (arith, h))
  within64 (negsuc n) h = lt-ltb n (2 ^ 63) (omega (arith, h))

  from64 : (z : ℤ) → IsTrue (is64 z) → IsFrom (2 ^ 63) (2 ^ 63 - 1) z
  from64 (pos n) h = let l = ltb-true n (2 ^ 63) h in omega (arith, l)
  from64 (negsuc n) h = let l = ltb-true n (2 ^ 63) h in omega (arith, l)

  pub longs : Parses (λ z. IsTrue (is64 z)) (signed_text end) (signed_at end (2 ^ 63) (2 ^ 63 - 1))
  longs = alike (IsFrom (2 ^ 63) (2 ^ 63 - 1)) (λ z. IsTrue (is64 z)) within64 from64
      (signeds (2 ^ 63) (2 ^ 63 - 1) (omega arith) (omega arith))

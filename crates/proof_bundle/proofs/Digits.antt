-- Digits, their value, and the number that they are the text of.
use Rattle.std.proofs.Common.{◌≡◌, ℕ, zero, suc, ◌+◌, ◌-◌, ◌*◌, ◌/◌, ◌%◌, ◌^◌, ◌<◌, ◌≤◌, Bool, true, false, not, ◌==◌, List, [], ◌∷◌, ◌++◌, length, drop, get_or, arith, refl, sym, subst, ap, ◌∙◌}
use Rattle.std.specs.Char.{digit_value}
use Rattle.std.specs.Fmt.{decimal}
use Rattle.std.specs.Str.Parse.{AllDigits, digits_value, digits_value_after}
use Rattle.std.proofs.lemmas.Bool.{eqb-true, eq-eqb}
use Rattle.std.proofs.lemmas.Bool.Decides.{nat_tests}
use Rattle.std.proofs.lemmas.Fmt.{decimal_is_IsNumeral_wide, decimal_by_steps_wide, decimal_step_wide, decimal_digit}
use Rattle.std.proofs.lemmas.List.{append-nil, append_assoc}
use Rattle.std.proofs.lemmas.Str.{digit_value_digit}
use Rattle.std.proofs.lemmas.Str.Parse.{digit_from_value}
use Rattle.proof_bundle.proofs.Runs.{drop_first}
use Rattle.proof_bundle.specs.steps.Reading.{behind_digits, digits_of, is_digit, is_plain, value_from}

-- Values

value_from_le : (n : ℕ) (bs : List ℕ) → n ≤ value_from n bs
value_from_le n [] = omega arith
value_from_le n (b ∷ bs) = let k = value_from_le (10 * n + (b - 48)) bs in omega (arith, k)

pub too_big : (digits : List ℕ) (n i high : ℕ) → i < length digits → value_from n (drop i digits) ≡ value_from 0 digits →
    high < 10 * n + (get_or digits i 0 - 48) → high < value_from 0 digits
too_big digits n i high lt told big =
    let d = get_or digits i 0 in
    let v : value_from (10 * n + (d - 48)) (drop (i + 1) digits) ≡ value_from 0 digits = sym (ap (value_from n) (drop_first digits i lt))
    ∙ told in
    let l = value_from_le (10 * n + (d - 48)) (drop (i + 1) digits) in
    omega (arith, v, l, big)

pub told_more : (digits : List ℕ) (n m i : ℕ) → i < length digits → value_from n (drop i digits) ≡ value_from 0 digits →
    m ≡ 10 * n + (get_or digits i 0 - 48) → value_from m (drop (i + 1) digits) ≡ value_from 0 digits
told_more digits n m i lt told e = ap (λ k. value_from k (drop (i + 1) digits)) e ∙ sym (ap (value_from n) (drop_first digits i lt)) ∙ told

-- Digits by the test, and by their values

abbrev pub Digits : List ℕ → Type 0
Digits [] = Unit {0}
Digits (d ∷ ds) = (is_digit d ≡ true) × Digits ds

low_digit : (b : ℕ) → is_digit b ≡ true → (48 ≤ b) × (b ≤ 57)
low_digit b h = (grind (arith, nat_tests), grind (arith, nat_tests))

all_digits : (ds : List ℕ) → Digits ds → AllDigits 10 ds
all_digits [] e = tt
all_digits (d ∷ ds) e = let k = low_digit d e.0 in (omega (arith, digit_value_digit d k), all_digits ds e.1)

digit_test : (b : ℕ) → 48 ≤ b → b ≤ 57 → is_digit b ≡ true
digit_test b h k = grind (arith, nat_tests)

each_digit : (ds : List ℕ) → AllDigits 10 ds → Digits ds
each_digit [] e = tt
each_digit (d ∷ ds) e = let k = digit_from_value d e.0 in (digit_test d k.0 k.1, each_digit ds e.1)

value_same : (n : ℕ) (ds : List ℕ) → Digits ds → value_from n ds ≡ digits_value_after 10 n ds
value_same n [] e = refl
value_same n (d ∷ ds) e =
    let k = low_digit d e.0 in
    let s : 10 * n + (d - 48) ≡ n * 10 + digit_value d = omega (arith, digit_value_digit d k) in
    ap (λ m. value_from m ds) s ∙ value_same (n * 10 + digit_value d) ds e.1

-- Digits without a leading 0 are the text of their value

le_value_after : (n : ℕ) (ds : List ℕ) → n ≤ digits_value_after 10 n ds
le_value_after n [] = omega arith
le_value_after n (c ∷ cs) = omega (arith, le_value_after (n * 10 + digit_value c) cs)

decimal_value_after : (n : ℕ) (ds : List ℕ) → 0 < n → AllDigits 10 ds → digits_value_after 10 n ds < 10 ^ 64 →
    decimal (digits_value_after 10 n ds) ≡ decimal n ++ ds
decimal_value_after n [] some d small = sym (append-nil (decimal n))
decimal_value_after n (c ∷ cs) some d small =
    let m : ℕ = n * 10 + digit_value c in
    let k = digit_value_digit c (digit_from_value c d.0) in
    let front : m / 10 ≡ n = omega (arith, d.0) in
    let end : 48 + m % 10 ≡ c = omega (arith, d.0) in
    decimal_value_after m cs (omega arith) d.1 small
    ∙ ap (λ x. x ++ cs) (decimal_step_wide m (omega arith) (omega (arith, le_value_after m cs)) ∙ (λ i. decimal (front i) ++ (end i ∷ [])))
    ∙ append_assoc (decimal n) (c ∷ []) cs

digits_decimal : (ds : List ℕ) → AllDigits 10 ds → is_plain ds ≡ true → digits_value 10 ds < 10 ^ 64 → decimal (digits_value 10 ds) ≡ ds
digits_decimal [] d plain small = absurd cc
digits_decimal (c ∷ []) d plain small =
    let k = digit_value_digit c (digit_from_value c d.0) in
    decimal_digit (0 * 10 + digit_value c) (omega (arith, d.0)) ∙ ap (λ x. x ∷ []) (omega arith)
digits_decimal (c ∷ e ∷ cs) d plain small =
    let k = digit_value_digit c (digit_from_value c d.0) in
    let no : c ≡ 48 → ⊥ = λ z. clash (subst (λ t. not t ≡ true) (eq-eqb c 48 z) plain) in
    let is : 48 + (0 * 10 + digit_value c) ≡ c = omega arith in
    decimal_value_after (0 * 10 + digit_value c) (e ∷ cs) (omega (arith, no)) d.1 small
    ∙ ap (λ x. x ++ (e ∷ cs)) (decimal_digit (0 * 10 + digit_value c) (omega (arith, d.0)) ∙ ap (λ x. x ∷ []) is)
  where
    clash : false ≡ true → ⊥
    clash x = cc

pub digits_text : (ds : List ℕ) → Digits ds → is_plain ds ≡ true → value_from 0 ds < 10 ^ 64 → ds ≡ decimal (value_from 0 ds)
digits_text ds e p small =
    let same = value_same 0 ds e in
    sym (ap decimal same ∙ digits_decimal ds (all_digits ds e) p (omega (arith, same, small)))

-- The text of a number: digits without a leading 0

abbrev First : ℕ → List ℕ → Type 0
First n ds = 0 < n → 48 < get_or ds 0 0

first_decimal : (n : ℕ) → n < 10 ^ 64 → First n (decimal n)
first_decimal n h = decimal_by_steps_wide First one more n h where
  one : (m : ℕ) → m < 10 → First m ((48 + m) ∷ [])
  one m l some = omega (arith, some)

  more : (m : ℕ) (ds : List ℕ) → 10 ≤ m → First (m / 10) ds → First m (ds ++ ((48 + m % 10) ∷ []))
  more m [] l f some = absurd (omega (arith, f (omega arith)))
  more m (d ∷ ds) l f some = f (omega arith)

one_digit : (n : ℕ) → n < 10 ^ 64 → get_or (decimal n) 0 0 ≡ 48 → length (decimal n) ≡ 1
one_digit zero h e = ap length (decimal_digit 0 (omega arith))
one_digit (suc n) h e = absurd (omega (arith, first_decimal (suc n) h (omega arith), e))

plain_from : (ds : List ℕ) → 0 < length ds → (get_or ds 0 0 ≡ 48 → length ds ≡ 1) → is_plain ds ≡ true
plain_from [] h k = absurd (omega arith)
plain_from (b ∷ []) h k = refl
plain_from (b ∷ c ∷ bs) h k = by_test (b == 48) refl where
  by_test : (t : Bool) → (b == 48) ≡ t → not t ≡ true
  by_test true e = absurd (omega (arith, k (eqb-true b 48 e)))
  by_test false e = refl

pub plain_decimal : (n : ℕ) → n < 10 ^ 64 → is_plain (decimal n) ≡ true
plain_decimal n h = plain_from (decimal n) (decimal_is_IsNumeral_wide n h).0.0 (one_digit n h)

pub decimal_digits : (n : ℕ) → n < 10 ^ 64 → Digits (decimal n)
decimal_digits n h = each_digit (decimal n) (decimal_is_IsNumeral_wide n h).0.1

pub value_decimal : (n : ℕ) → n < 10 ^ 64 → value_from 0 (decimal n) ≡ n
value_decimal n h = value_same 0 (decimal n) (decimal_digits n h) ∙ (decimal_is_IsNumeral_wide n h).1

-- Digits at the front of a text

pub parted : (bytes : List ℕ) → bytes ≡ digits_of bytes ++ behind_digits bytes
parted [] = refl
parted (b ∷ bs) = by_test (is_digit b) refl (parted bs) where
  by_test : (t : Bool) → is_digit b ≡ t → bs ≡ digits_of bs ++ behind_digits bs → b ∷ bs ≡ digits_of (b ∷ bs) ++ behind_digits (b ∷ bs)
  by_test true e h = rw e (ap (λ t. b ∷ t) h)
  by_test false e h = rw e refl

pub front_digits : (bytes : List ℕ) → Digits (digits_of bytes)
front_digits [] = tt
front_digits (b ∷ bs) = by_test (is_digit b) refl (front_digits bs) where
  by_test : (t : Bool) → is_digit b ≡ t → Digits (digits_of bs) → Digits (digits_of (b ∷ bs))
  by_test true e h = rw e (e, h)
  by_test false e h = rw e tt

no_digit : (b : ℕ) → b < 48 → is_digit b ≡ false
no_digit b h = grind (arith, nat_tests)

pub digits_front : (ds : List ℕ) (b : ℕ) (rest : List ℕ) → Digits ds → b < 48 →
    (digits_of (ds ++ b ∷ rest) ≡ ds) × (behind_digits (ds ++ b ∷ rest) ≡ b ∷ rest)
digits_front [] b rest h low = (rw (no_digit b low) refl, rw (no_digit b low) refl)
digits_front (d ∷ ds) b rest h low =
    let u = digits_front ds b rest h.1 low in
    (rw h.0 (ap (λ t. d ∷ t) u.0), rw h.0 u.1)

-- Numerals and values.
use Rattle.std.specs.Prelude.{◌≡◌, ℕ, ◌+◌, ◌-◌, ◌*◌, ◌<◌, ◌≤◌, List, [], ◌∷◌, ◌++◌, length, Bool, true, false, refl, ◌==◌, ◌&&◌, nat_le, ℤ, pos, neg_ℤ, MatchBool}
use Rattle.std.specs.List.{list_all}
use Rattle.std.proofs.Common.{drop, get_or, sym, ◌∙◌, ap, arith}
use Rattle.std.proofs.lemmas.Bool.{eqb-true}
use Rattle.std.proofs.lemmas.Bool.Decides.{nat_tests}
use Rattle.c_lexer.proofs.Lists.{drop_first}
use Rattle.run_replay.proofs.Keeps.{and_left, and_right}
use Rattle.command_words.specs.Words.{is_digit, is_numeral, value_from, IsValue, IsNumber}
use Rattle.c_lexer.specs.Lexing.{Each, RunEnds}
use Rattle.command_words.proofs.WordsRuns.{each_all, each_as, is_of_word, is_of_piece, is_space}

-- values grow
pub value_from_le : (n : ℕ) (bs : List ℕ) → n ≤ value_from n bs
value_from_le n [] = omega arith
value_from_le n (b ∷ bs) = let k = value_from_le (10 * n + (b - 48)) bs in omega (arith, k)

pub too_big : (digits : List ℕ) (n i high : ℕ) → i < length digits → value_from n (drop i digits) ≡ value_from 0 digits → high < 10 * n
    + (get_or digits i 0 - 48) → high < value_from 0 digits
too_big digits n i high lt told big =
    let d = get_or digits i 0 in
    let v : value_from (10 * n + (d - 48)) (drop (i + 1) digits) ≡ value_from 0 digits = sym (ap (value_from n) (drop_first digits i lt))
    ∙ told in
    let l = value_from_le (10 * n + (d - 48)) (drop (i + 1) digits) in
    omega (arith, v, l, big)

pub told_more : (digits : List ℕ) (n m i : ℕ) → i < length digits → value_from n (drop i digits) ≡ value_from 0 digits → m ≡ 10 * n
    + (get_or digits i 0 - 48) → value_from m (drop (i + 1) digits) ≡ value_from 0 digits
told_more digits n m i lt told e = ap (λ k. value_from k (drop (i + 1) digits)) e ∙ sym (ap (value_from n) (drop_first digits i lt)) ∙ told

-- Digits

first_digit : (b : ℕ) → (nat_le 49 b && nat_le b 57) ≡ true → is_digit b ≡ true
first_digit b h = grind (arith, nat_tests)

pub numeral_each : (bs : List ℕ) → is_numeral bs ≡ true → Each is_digit bs
numeral_each [] h = tt
numeral_each (b ∷ []) h = (h, tt)
numeral_each (b ∷ c ∷ bs) h = (
  first_digit b (and_left (nat_le 49 b && nat_le b 57) (list_all is_digit (c ∷ bs)) h),
  each_all is_digit (c ∷ bs) (and_right (nat_le 49 b && nat_le b 57) (list_all is_digit (c ∷ bs)) h),
)

abbrev is_part : ℕ → Bool
is_part b = is_of_word b && is_of_piece b

digit_part : (b : ℕ) → is_digit b ≡ true → is_part b ≡ true
digit_part b h = grind (arith, nat_tests)

part_word : (b : ℕ) → is_part b ≡ true → is_of_word b ≡ true
part_word b h = and_left (is_of_word b) (is_of_piece b) h

part_piece : (b : ℕ) → is_part b ≡ true → is_of_piece b ≡ true
part_piece b h = and_right (is_of_word b) (is_of_piece b) h

pub by_test : (c : Bool) (A B C : Type 0) → (c ≡ true → A → C) → (c ≡ false → B → C) → MatchBool c A B → C
by_test true A B C f g h = f refl h
by_test false A B C f g h = g refl h

abbrev Negative : List ℕ → ℤ → Type 0
Negative bs z = (is_numeral bs ≡ true) × ((bs ≡ 48 ∷ []) → ⊥) × (z ≡ neg_ℤ (pos (value_from 0 bs)))
    × (value_from 0 bs ≤ 9223372036854775808)

abbrev Positive : List ℕ → ℤ → Type 0
Positive bs z = (is_numeral bs ≡ true) × (z ≡ pos (value_from 0 bs)) × (value_from 0 bs ≤ 9223372036854775807)

value_part : (text : List ℕ) (z : ℤ) → IsValue text z → Each is_part text
value_part [] z h = absurd h
value_part (b ∷ bs) z h =
    by_test (b == 45) (Negative bs z) (Positive (b ∷ bs) z) (Each is_part (b ∷ bs))
    (λ e w. (ap is_part (eqb-true b 45 e), each_as is_digit is_part digit_part bs (numeral_each bs w.0)))
    (λ e w. each_as is_digit is_part digit_part (b ∷ bs) (numeral_each (b ∷ bs) w.0)) h

pub value_word : (text : List ℕ) (z : ℤ) → IsValue text z → Each is_of_word text
value_word text z h = each_as is_part is_of_word part_word text (value_part text z h)

pub value_piece : (text : List ℕ) (z : ℤ) → IsValue text z → Each is_of_piece text
value_piece text z h = each_as is_part is_of_piece part_piece text (value_part text z h)

-- a value is no end of a word
pub value_first : (text rest : List ℕ) (z : ℤ) → IsValue text z → RunEnds is_space (text ++ rest)
value_first [] rest z h = absurd h
value_first (b ∷ bs) rest z h = let e = value_word (b ∷ bs) z h in word_no_space b e.0
  where
    word_no_space : (b : ℕ) → is_of_word b ≡ true → is_space b ≡ false
    word_no_space b h = grind (arith, nat_tests)

pub value_same : (text : List ℕ) (y z : ℤ) → IsValue text y → IsValue text z → y ≡ z
value_same [] y z g h = absurd h
value_same (b ∷ bs) y z g h = pick (b == 45) g h
  where
    pick : (c : Bool) → MatchBool c (Negative bs y) (Positive (b ∷ bs) y) → MatchBool c (Negative bs z) (Positive (b ∷ bs) z) → y ≡ z
    pick true g h = g.2 ∙ sym h.2
    pick false g h = g.1 ∙ sym h.1

pub number_same : (low high m n : ℕ) (text : List ℕ) → IsNumber low high text m → IsNumber low high text n → m ≡ n
number_same low high m n text g h = g.value ∙ sym h.value

-- What contracts see of the texts that words are.
use Rattle.std.specs.Prelude.{◌≡◌, ℕ, ◌≤◌, ◌==◌, Bool, true, not, List, [], ◌∷◌, ◌++◌, length, drop, ℤ, pos, neg_ℤ}
use Rattle.c_lexer.specs.Lexing.{Each, RunEnds}
use Rattle.command_words.specs.declared.words.Class.{Class}
use Rattle.command_words.specs.declared.words.Class.TheVariants as class
use Rattle.command_words.specs.Words.{is_numeral, value_from}

-- Stretches of bytes

abbrev pub test_of : Class → ℕ → Bool
test_of class.Space b = b == 32
test_of class.OfWord b = not (b == 32)
test_of class.OfPiece b = not (b == 44)

-- the first `len` bytes are all those at the beginning that pass the test
pub record IsRun (test : ℕ → Bool) (bytes : List ℕ) (len : ℕ) : Type 0 where
  pub within : len ≤ length bytes
  pub text : List ℕ
  pub size : length text ≡ len
  pub whole : bytes ≡ text ++ drop len bytes
  pub each : Each test text
  pub ends : RunEnds test (drop len bytes)

-- Values

-- a `-` stands before these digits of the value
abbrev pub IsNegative : List ℕ → ℤ → Type 0
IsNegative digits z = (is_numeral digits ≡ true) × ((digits ≡ 48 ∷ []) → ⊥)
    × (z ≡ neg_ℤ (pos (value_from 0 digits))) × (value_from 0 digits ≤ 9223372036854775808)

-- `[`, the inner text, and `]`
abbrev pub Encloses : List ℕ → List ℕ → Type 0
Encloses text inner = text ≡ 91 ∷ (inner ++ 93 ∷ [])

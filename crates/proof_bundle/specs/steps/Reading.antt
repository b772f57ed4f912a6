-- What stands at the start of a text, and the bytes after it; or that nothing of the kind stands
-- there.
use Rattle.std.specs.Prelude.{◌≡◌, ℕ, zero, suc, ◌+◌, ◌-◌, ◌*◌, ◌^◌, ◌<◌, ◌≤◌, nat_le, ◌==◌, Bool, true, false, not, ◌&&◌, Option, Some, None, Result, Ok, Err, List, [], ◌∷◌, length, ℤ, pos, negsuc, if◌then◌else◌}
use Rattle.std.proofs.Common.{take, drop}
use Rattle.std.specs.Str.{bytes_eq}
use Rattle.proof_bundle.specs.declared.error.BundleError.{BundleError}
use Rattle.proof_bundle.specs.declared.error.BundleError.TheVariants.{NotBundle, Memory}

infixl 10 ◌>>=◌
abbrev pub ◌>>=◌ : {A B : Type 0} → Option A → (A → Option B) → Option B
None >>= f = None
(Some x) >>= f = f x

-- a value of a text, and the bytes after it
abbrev pub Read : Type 0 → Type 0
Read A = Option (A × List ℕ)

-- unless memory ran out
abbrev pub IfNot : BundleError → Type 0 → Type 0
IfNot NotBundle T = T
IfNot Memory T = Unit {0}

-- what a call answers, seen by `view`, is what is read
abbrev pub Gives : {X Y : Type 0} → (X → Y) → Result X BundleError → Option Y → Type 0
Gives view (Ok x) read = read ≡ Some (view x)
Gives view (Err e) read = IfNot e (read ≡ None)

-- Bytes

-- what is after a tag
unfoldable pub tag_at : List ℕ → List ℕ → Option (List ℕ)
tag_at tag bytes =
    if bytes_eq (take (length tag) bytes) tag then Some (drop (length tag) bytes) else None

-- the first n bytes, and the rest
unfoldable pub bytes_at : ℕ → List ℕ → Read (List ℕ)
bytes_at n bytes = if nat_le n (length bytes) then Some (take n bytes, drop n bytes) else None

abbrev pub begins : ℕ → List ℕ → Bool
begins b [] = false
begins b (c ∷ cs) = c == b

-- Numbers

abbrev pub is_digit : ℕ → Bool
is_digit b = nat_le 48 b && nat_le b 57

-- the digits that a text begins with
abbrev pub digits_of : List ℕ → List ℕ
digits_of [] = []
digits_of (b ∷ bs) = if is_digit b then (b ∷ digits_of bs) else []

abbrev pub behind_digits : List ℕ → List ℕ
behind_digits [] = []
behind_digits (b ∷ bs) = if is_digit b then behind_digits bs else (b ∷ bs)

-- `0`, or digits without a leading 0
abbrev pub is_plain : List ℕ → Bool
is_plain [] = false
is_plain (b ∷ []) = true
is_plain (b ∷ c ∷ bs) = not (b == 48)

abbrev pub value_from : ℕ → List ℕ → ℕ
value_from n [] = n
value_from n (b ∷ bs) = value_from (10 * n + (b - 48)) bs

unfoldable pub plain_value : ℕ → List ℕ → Option ℕ
plain_value most digits =
    if is_plain digits && nat_le (value_from 0 digits) most then Some (value_from 0 digits) else
    None

-- a number of at most `most`, with the byte `end` after it
unfoldable pub number_at : ℕ → ℕ → List ℕ → Read ℕ
number_at end most bytes = do
  n ← plain_value most (digits_of bytes)
  rest ← tag_at (end ∷ []) (behind_digits bytes)
  Some (n, rest)

-- from `- low` to `high`
abbrev pub IsFrom : ℕ → ℕ → ℤ → Type 0
IsFrom low high (pos n) = n ≤ high
IsFrom low high (negsuc n) = n < low

-- the number below 0 of this size
abbrev pub minus : ℕ → Option ℤ
minus zero = None
minus (suc n) = Some (negsuc n)

unfoldable pub below_zero_at : ℕ → ℕ → List ℕ → Read ℤ
below_zero_at end most bytes = do
  n ← number_at end most bytes
  z ← minus n.0
  Some (z, n.1)

-- a number from `- low` to `high`
unfoldable pub signed_at : ℕ → ℕ → ℕ → List ℕ → Read ℤ
signed_at end low high bytes =
    if begins 45 bytes then below_zero_at end low (drop 1 bytes) else
    (number_at end high bytes >>= λ n. Some (pos n.0, n.1))

-- Lists

unfoldable pub list_at : {A : Type 0} → (List ℕ → Read A) → ℕ → List ℕ → Read (List A)
list_at one zero bytes = Some ([], bytes)
list_at one (suc n) bytes = one bytes >>= λ x. list_at one n x.1 >>= λ xs. Some (x.0 ∷ xs.0, xs.1)

abbrev pub max_thing : ℕ
max_thing = 2 ^ 32 - 1

abbrev pub max_count : ℕ
max_count = 2 ^ 64 - 1

-- their number, a line feed, and the lines
unfoldable pub lines_at : {A : Type 0} → (List ℕ → Read A) → List ℕ → Read (List A)
lines_at one bytes = do
  n ← number_at 10 max_count bytes
  list_at one n.0 n.1

-- a list of this kind of lines, after the words that name it
unfoldable pub tagged_at : {A : Type 0} → List ℕ → (List ℕ → Read A) → List ℕ → Read (List A)
tagged_at tag one bytes = do
  rest ← tag_at tag bytes
  lines_at one rest

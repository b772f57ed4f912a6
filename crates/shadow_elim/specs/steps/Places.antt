-- The last place of each list of coefficients among rows.
use Rattle.std.specs.Prelude.{◌≡◌, ◌≢◌, ℕ, ◌<◌, Bool, false, not, ◌&&◌, ◌==◌, Option, Some, None, List, length, slice_index_or, ℤ, ◌<ℤ◌, Vec, MatchOption}
use Rattle.std.specs.Cmp.Lexicographic.{pointwise}
use Rattle.std.specs.Map.{lookup}
use Rattle.std.specs.declared.alloc.Global.{Global}
use Rattle.shadow_elim.specs.declared.pairing.Candidate.{Candidate}
use Rattle.shadow_elim.specs.Reduction.{is_same_part, is_trivial}
use Rattle.linear_formula.specs.LinearSum.{LinearSum}

-- a row with these coefficients is at the place, and none after it
abbrev pub IsLastPlace : List Candidate → List (ℕ × ℤ) → ℕ → Type 0
IsLastPlace rows ps i =
    (i < length rows) × ((d : Candidate) → (slice_index_or rows i d).term.parts ≡ ps)
    × ((j : ℕ) (d : Candidate) → i < j → j < length rows → (slice_index_or rows j d).term.parts ≢
    ps)

-- the map has the last place of each list of coefficients, and of rows with the same ones a later
-- one is stronger
pub record AreLastPlaces (entries : List (Vec (ℕ × ℤ) Global × ℕ)) (rows : List Candidate) : Type
    0 where
  pub places : (ps : List (ℕ × ℤ)) →
      MatchOption (lookup (λ k. pointwise is_same_part ps k.items) entries)
      ((j : ℕ) (d : Candidate) → j < length rows → (slice_index_or rows j d).term.parts ≢ ps)
      (IsLastPlace rows ps)
  pub rising : (i j : ℕ) (d : Candidate) → i < j → j < length rows →
      (slice_index_or rows i d).term.parts ≡ (slice_index_or rows j d).term.parts →
      (slice_index_or rows i d).term.constant <ℤ (slice_index_or rows j d).term.constant

-- the look-up found this place
abbrev pub is_found : ℕ → Option ℕ → Bool
is_found i None = false
is_found i (Some n) = n == i

-- whether the row at the place is the last one with its coefficients, and doesn't always hold
abbrev pub is_kept : List (Vec (ℕ × ℤ) Global × ℕ) → ℕ → LinearSum → Bool
is_kept entries i t =
    not (is_trivial t) && is_found i (lookup (λ k. pointwise is_same_part t.parts k.items) entries)

-- Rows without those that others with the same coefficients make needless.
use Rattle.std.specs.Prelude.{◌≡◌, ℕ, Bool, not, ◌&&◌, ◌==◌, List, [], ◌∷◌, ◌++◌, ℤ, pos, int_lt, int_le, if◌then◌else◌}
use Rattle.std.specs.Ordering.{int_eq}
use Rattle.std.specs.List.{list_any}
use Rattle.std.specs.Cmp.Lexicographic.{pointwise}
use Rattle.linear_formula.specs.LinearSum.{LinearSum}

abbrev pub is_same_part : ℕ × ℤ → ℕ × ℤ → Bool
is_same_part p q = (p.0 == q.0) && int_eq p.1 q.1

-- the same coefficients
abbrev pub same_parts : LinearSum → LinearSum → Bool
same_parts s t = pointwise is_same_part s.parts t.parts

-- s has the coefficients of t, and a constant as great or greater
abbrev pub is_as_strong : LinearSum → LinearSum → Bool
is_as_strong t s = same_parts s t && int_le t.constant s.constant

abbrev pub is_stronger : LinearSum → LinearSum → Bool
is_stronger t s = same_parts s t && int_lt t.constant s.constant

abbrev pub has_no_parts : LinearSum → Bool
has_no_parts t = pointwise is_same_part t.parts []

-- the row has no column, and always holds
abbrev pub is_trivial : LinearSum → Bool
is_trivial t = has_no_parts t && int_le t.constant (pos 0)

-- the row has no column, and never holds
abbrev pub is_contradiction : LinearSum → Bool
is_contradiction t = has_no_parts t && int_lt (pos 0) t.constant

-- Whether a row stays between those before it and those after it: of rows with the same
-- coefficients the first one with the greatest constant, and none that always holds.
abbrev pub stays : List LinearSum → LinearSum → List LinearSum → Bool
stays before t after =
    not (is_trivial t) && (not (list_any (is_as_strong t) before) && not
    (list_any (is_stronger t) after))

-- the rows that stay, each in its own place
abbrev pub reduced_after : List LinearSum → List LinearSum → List LinearSum
reduced_after before [] = []
reduced_after before (t ∷ ts) =
    if stays before t ts then (t ∷ reduced_after (before ++ t ∷ []) ts) else reduced_after
    (before ++ t ∷ []) ts

abbrev pub reduced : List LinearSum → List LinearSum
reduced rows = reduced_after [] rows

-- the same rows stay, whatever comes after
abbrev pub SameReduced : List LinearSum → List LinearSum → Type 0
SameReduced rows others = (more : List LinearSum) → reduced (rows ++ more)
    ≡ reduced (others ++ more)

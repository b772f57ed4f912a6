-- A list that stands in one of two.
use Rattle.std.specs.Prelude.{ℕ, List, [], ◌∷◌, take}

-- the first ones of the few, or all of the many where there are some
abbrev pub places_of : (count : ℕ) (few many : List ℕ) → List ℕ
places_of count few [] = take count few
places_of count few (m ∷ ms) = m ∷ ms

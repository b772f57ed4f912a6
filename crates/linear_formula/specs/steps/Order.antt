-- Parts in order, as facts.
use Rattle.std.specs.Prelude.{◌≢◌, ℕ, ◌+◌, ◌^◌, ◌<◌, ◌≤◌, List, [], ◌∷◌, ℤ, pos, unsigned_abs}

-- the columns ascend from `low` on, and no coefficient is 0
abbrev pub InOrder : ℕ → List (ℕ × ℤ) → Type 0
InOrder low [] = Unit {0}
InOrder low (p ∷ ps) = (low ≤ p.0) × (p.0 < 2 ^ 32) × (p.1 ≢ pos 0) × InOrder (p.0 + 1) ps

-- each coefficient is within the limit
abbrev pub AllWithin : List (ℕ × ℤ) → Type 0
AllWithin [] = Unit {0}
AllWithin (p ∷ ps) = (unsigned_abs p.1 ≤ 2 ^ 40) × AllWithin ps

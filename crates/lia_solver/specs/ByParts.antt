-- Rows from which some columns are eliminated before others join them.
use Rattle.std.specs.Prelude.{◌≡◌, ℕ, ◌+◌, ◌-◌, ◌*◌, ◌≤◌, max, List, [], ◌∷◌, length}
use Rattle.linear_formula.specs.LinearSum.{LinearSum}
use Rattle.shadow_elim.specs.Elimination.{after_column, remains}
use Rattle.shadow_elim.specs.declared.elimination.Stage.{Stage}
use Rattle.shadow_elim.specs.declared.limit.TheConstants.{MAX_ROWS}

-- at each column of the elimination there is room for `more` further rows
abbrev pub KeepsRoom : (more : ℕ) → List ℕ → List LinearSum → Type 0
KeepsRoom more [] rows = Unit {0}
KeepsRoom more (x ∷ xs) rows =
    (next : List LinearSum) → after_column x rows ≡ remains next →
    (length next + more ≤ MAX_ROWS) × KeepsRoom more xs next

-- how many rows there are at most after a stage: each pair of an upper and a lower row makes one
abbrev pub rows_behind : ℕ → Stage → ℕ
rows_behind count s =
    (count - (length s.uppers.items + length s.lowers.items))
    + length s.uppers.items * length s.lowers.items

-- how many rows are left at most after some stage, where there are `count` before the first
abbrev pub most_rows : ℕ → List Stage → ℕ
most_rows count [] = 0
most_rows count (s ∷ ss) = max (rows_behind count s) (most_rows (rows_behind count s) ss)

-- What an elimination passes through, and the numbers of its rows.
use Rattle.std.specs.Prelude.{◌≡◌, ℕ, ◌<◌, List, [], ◌∷◌, length, map, filter}
use Rattle.linear_formula.specs.LinearSum.{LinearSum}
use Rattle.infeasible_cert.specs.Right.{row_at}
use Rattle.shadow_elim.specs.declared.row.Row.{Row}
use Rattle.shadow_elim.specs.declared.elimination.Stage.{Stage}
use Rattle.shadow_elim.specs.Elimination.{is_upper, is_lower, after_column, remains}

-- the rows without their numbers
abbrev pub terms_of : List Row → List LinearSum
terms_of = map (λ r. r.term)

-- the upper and the lower rows of a column
pub record IsStage (x : ℕ) (rows : List LinearSum) (s : Stage) : Type 0 where
  pub column : s.column ≡ x
  pub uppers : terms_of s.uppers.items ≡ filter (is_upper x) rows
  pub lowers : terms_of s.lowers.items ≡ filter (is_lower x) rows

-- the stages of the columns in order, from these rows on to those that are left
abbrev pub AreStages : List ℕ → List LinearSum → List Stage → List LinearSum → Type 0
AreStages [] rows [] left = left ≡ rows
AreStages [] rows (s ∷ ss) left = ⊥
AreStages (x ∷ xs) rows [] left = ⊥
AreStages (x ∷ xs) rows (s ∷ ss) left =
    IsStage x rows s × ((next : List LinearSum) × (after_column x rows ≡ remains next)
    × AreStages xs next ss left)

-- each row has its number among these
abbrev pub AreNumbered : List LinearSum → List Row → Type 0
AreNumbered base [] = Unit {0}
AreNumbered base (r ∷ rs) = (r.number < length base) × (row_at base r.number ≡ r.term)
    × AreNumbered base rs

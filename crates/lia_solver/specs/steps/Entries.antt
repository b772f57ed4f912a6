-- Entries of a table, and what becomes of them when a row is added.
use Rattle.std.specs.Prelude.{◌≡◌, ◌⊎◌, ℕ, ◌<◌, List, [], ◌∷◌, ◌++◌, length, slice_index_or, slice_set, Bool, false, ◌&&◌, ◌==◌, IsTrue, ℤ, pos, int_lt, if◌then◌else◌}
use Rattle.std.specs.Int.{int_min}
use Rattle.linear_formula.specs.LinearSum.{LinearSum, is_term}
use Rattle.shadow_elim.specs.Division.{row_divisor}
use Rattle.shadow_elim.specs.Elimination.{size_of, upper_multiple, lower_multiple, pair_sum}
use Rattle.lia_solver.specs.declared.table.Making.{Making}
use Rattle.lia_solver.specs.declared.table.Origin.{Origin}
use Rattle.lia_solver.specs.declared.table.Origin.TheVariants.{Given}

-- a row, how it follows, and the least constant of all that were added with its coefficients
pub record Entry : Type 0 where
  pub sum : LinearSum
  pub least : ℤ
  pub origin : Origin

abbrev pub entry_of : LinearSum → Origin → Entry
entry_of t o = record { sum = t; least = t.constant; origin = o }

-- the entry with one more row of its coefficients: the stronger one of both stands
abbrev pub joined : Entry → LinearSum → Origin → Entry
joined e t o =
    if int_lt e.sum.constant t.constant
    then record { sum = t; least = int_min e.least t.constant; origin = o }
    else record { sum = e.sum; least = int_min e.least t.constant; origin = e.origin }

-- some entry has the row's coefficients
pub record IsJoined (t : LinearSum) (o : Origin) (old new : List Entry) : Type 0 where
  pub place : ℕ
  pub entry : Entry
  pub inside : place < length old
  pub here : entry ≡ slice_index_or old place entry
  pub parts : entry.sum.parts ≡ t.parts
  pub set : new ≡ slice_set old place (joined entry t o)

-- no entry has them
pub record IsNew (t : LinearSum) (o : Origin) (old new : List Entry) : Type 0 where
  pub other : (i : ℕ) (e : Entry) → i < length old →
      (slice_index_or old i e).sum.parts ≡ t.parts → ⊥
  pub pushed : new ≡ old ++ entry_of t o ∷ []

abbrev pub IsAdded : LinearSum → Origin → List Entry → List Entry → Type 0
IsAdded t o old new = IsJoined t o old new ⊎ IsNew t o old new

-- what is read where there is no entry
abbrev pub no_entry : Entry
no_entry = record {
  sum = record { parts = []; constant = pos 0 };
  least = pos 0;
  origin = Given 0;
}

abbrev pub entry_at : List Entry → ℕ → Entry
entry_at entries i = slice_index_or entries i no_entry

abbrev pub sum_at : List Entry → ℕ → LinearSum
sum_at entries i = (entry_at entries i).sum

-- the row with the least constant that was added with its coefficients
abbrev pub least_at : List Entry → ℕ → LinearSum
least_at entries i = record {
  parts = (sum_at entries i).parts;
  constant = (entry_at entries i).least;
}

-- the column is the first one that the row names, and the row bounds it from above, or from below
abbrev pub bounds_above : ℕ → List (ℕ × ℤ) → Bool
bounds_above x [] = false
bounds_above x (p ∷ ps) = (x == p.0) && int_lt (pos 0) p.1

abbrev pub bounds_below : ℕ → List (ℕ × ℤ) → Bool
bounds_below x [] = false
bounds_below x (p ∷ ps) = (x == p.0) && int_lt p.1 (pos 0)

-- the first column that the row names, or one beyond all columns
abbrev pub first_of : List (ℕ × ℤ) → ℕ
first_of [] = 4294967296
first_of (p ∷ ps) = p.0

-- how the row of two rows of a column is made
abbrev pub making_by : ℕ → (upper lower : ℕ) → LinearSum → LinearSum → Making
making_by x upper lower u l =
    let a = size_of x u in
    let b = size_of x l in
    record {
      upper = upper;
      upper_multiple = pos (upper_multiple a b);
      lower = lower;
      lower_multiple = pos (lower_multiple a b);
      divide = pos (row_divisor (pair_sum x (u, l)));
    }

abbrev pub making_of : ℕ → List Entry → (upper lower : ℕ) → Making
making_of x entries upper lower = making_by x upper lower (sum_at entries upper)
    (sum_at entries lower)

-- each row is a term, with its greatest and with its least constant
pub record AreTermEntries (entries : List Entry) : Type 0 where
  pub greatest : (i : ℕ) → i < length entries → IsTrue (is_term (sum_at entries i))
  pub least : (i : ℕ) → i < length entries → IsTrue (is_term (least_at entries i))

-- an upper and a lower row of the column, which is the first one of both
pub record ArePaired (x : ℕ) (entries : List Entry) (upper lower : ℕ) : Type 0 where
  pub terms : AreTermEntries entries
  pub upper_place : upper < length entries
  pub lower_place : lower < length entries
  pub above : IsTrue (bounds_above x (sum_at entries upper).parts)
  pub below : IsTrue (bounds_below x (sum_at entries lower).parts)

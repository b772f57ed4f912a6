-- Tables from which one column after another is eliminated.
use Rattle.std.specs.Prelude.{◌≡◌, ◌⊎◌, ℕ, ◌+◌, ◌<◌, ◌≤◌, nat_le, Bool, true, false, not, List, [], ◌∷◌, length, map, filter, IsTrue, Contains, ℤ, ◌≤ℤ◌}
use Rattle.linear_formula.specs.LinearSum.{LinearSum, is_within}
use Rattle.shadow_elim.specs.Division.{tightened}
use Rattle.shadow_elim.specs.Elimination.{pair_sum}
use Rattle.shadow_elim.specs.Reduction.{is_trivial}
use Rattle.shadow_elim.specs.declared.limit.TheConstants.{MAX_ROWS}
use Rattle.lia_solver.specs.declared.eliminate.Eliminated.{Eliminated}
use Rattle.lia_solver.specs.declared.eliminate.Eliminated.TheVariants.{Done, Wide, Rows}
use Rattle.lia_solver.specs.declared.table.Origin.{Origin}
use Rattle.lia_solver.specs.declared.table.Origin.TheVariants.{Made}
use Rattle.lia_solver.specs.steps.Entries.{Entry, entry_at, sum_at, making_of, bounds_below, IsAdded, AreTermEntries, ArePaired}

-- the row names no column before x
abbrev pub starts_from : ℕ → List (ℕ × ℤ) → Bool
starts_from x [] = true
starts_from x (p ∷ ps) = nat_le x p.0

abbrev pub sums_of : List Entry → List LinearSum
sums_of = map (λ e. e.sum)

-- the rows that name no column before x
abbrev pub live : ℕ → List Entry → List LinearSum
live x entries = filter (λ t. starts_from x t.parts) (sums_of entries)

-- the row names a column before x
abbrev pub is_passed : ℕ → Entry → Bool
is_passed x e = not (starts_from x e.sum.parts)

-- how many rows do
abbrev pub passed : ℕ → List Entry → ℕ
passed x entries = length (filter (is_passed x) entries)

-- the row always holds, or one with its coefficients is as strong
abbrev pub IsHeld : LinearSum → List Entry → Type 0
IsHeld t entries = (is_trivial t ≡ true)
    ⊎ ((i : ℕ) × (i < length entries) × ((sum_at entries i).parts ≡ t.parts)
    × (t.constant ≤ℤ (sum_at entries i).constant))

-- the row is added, unless it always holds
abbrev pub IsPut : LinearSum → Origin → List Entry → List Entry → Type 0
IsPut t o old new = ((is_trivial t ≡ true) × (new ≡ old))
    ⊎ ((is_trivial t ≡ false) × IsAdded t o old new)

-- rows of which no two have the same coefficients, and each can fail
pub record AreRows (entries : List Entry) : Type 0 where
  pub terms : AreTermEntries entries
  pub apart : (i j : ℕ) → i < length entries → j < length entries →
      (sum_at entries i).parts ≡ (sum_at entries j).parts → i ≡ j
  pub real : (i : ℕ) → i < length entries → is_trivial (sum_at entries i) ≡ false

-- rows that name a column before x stand where they stood
pub record AreSameBelow (x : ℕ) (old new : List Entry) : Type 0 where
  pub forth : (i : ℕ) → i < length old → starts_from x (sum_at old i).parts ≡ false →
      (i < length new) × (entry_at new i ≡ entry_at old i)
  pub back : (i : ℕ) → i < length new → starts_from x (sum_at new i).parts ≡ false →
      (i < length old) × (entry_at new i ≡ entry_at old i)

-- the row was there
pub record IsOld (old : List Entry) (e : Entry) : Type 0 where
  pub place : ℕ
  pub inside : place < length old
  pub sum : e.sum ≡ sum_at old place
  pub origin : e.origin ≡ (entry_at old place).origin

-- the row is made of two rows of the column
pub record IsMadeIn (x : ℕ) (entries : List Entry) (e : Entry) : Type 0 where
  pub upper : ℕ
  pub lower : ℕ
  pub paired : ArePaired x entries upper lower
  pub within : IsTrue (is_within (pair_sum x (sum_at entries upper, sum_at entries lower)))
  pub sum : e.sum ≡ tightened (pair_sum x (sum_at entries upper, sum_at entries lower))
  pub origin : e.origin ≡ Made (making_of x entries upper lower)

-- what becomes of the rows while the column is eliminated
pub record IsGrown (x : ℕ) (old new : List Entry) : Type 0 where
  pub count : length old ≤ length new
  pub rows : AreRows new
  pub held : (i : ℕ) → i < length old → IsHeld (sum_at old i) new
  pub same : AreSameBelow (x + 1) old new
  pub passed : passed (x + 1) new ≡ passed (x + 1) old
  pub from : (i : ℕ) → i < length new → IsOld old (entry_at new i) ⊎ IsMadeIn x old (entry_at new i)

-- the sum of the pair is within the limits, and follows from the rows
pub record IsSummed (x : ℕ) (entries : List Entry) (upper lower : ℕ) : Type 0 where
  pub within : IsTrue (is_within (pair_sum x (sum_at entries upper, sum_at entries lower)))
  pub held : IsHeld (tightened (pair_sum x (sum_at entries upper, sum_at entries lower))) entries

-- the places of the rows that bound the column from below
pub record AreLowerPlaces (x : ℕ) (entries : List Entry) (places : List ℕ) : Type 0 where
  pub right : (i : ℕ) → Contains places i → (i < length entries)
      × IsTrue (bounds_below x (sum_at entries i).parts)
  pub all : (i : ℕ) → i < length entries → IsTrue (bounds_below x (sum_at entries i).parts) →
      Contains places i

-- nothing but what follows from the rows is left of the column
pub record IsBehind (x : ℕ) (old new : List Entry) : Type 0 where
  pub grown : IsGrown x old new
  pub summed : (upper lower : ℕ) → ArePaired x old upper lower → IsSummed x new upper lower
  pub count : length (live (x + 1) new) ≤ MAX_ROWS

pub record HasWide (x : ℕ) (entries : List Entry) : Type 0 where
  pub upper : ℕ
  pub lower : ℕ
  pub paired : ArePaired x entries upper lower
  pub wide : ¬ IsTrue (is_within (pair_sum x (sum_at entries upper, sum_at entries lower)))

abbrev pub AreNarrow : ℕ → List Entry → Type 0
AreNarrow x entries = (upper lower : ℕ) → ArePaired x entries upper lower →
    IsTrue (is_within (pair_sum x (sum_at entries upper, sum_at entries lower)))

-- no sum is too wide, but too many rows follow
pub record IsOverfull (x : ℕ) (old new : List Entry) : Type 0 where
  pub grown : IsGrown x old new
  pub narrow : AreNarrow x old
  pub count : MAX_ROWS < length (live (x + 1) new)

abbrev pub IsLeft : ℕ → List Entry → List Entry → Eliminated → Type 0
IsLeft x old new Done = IsBehind x old new
IsLeft x old new Wide = HasWide x old
IsLeft x old new Rows = IsOverfull x old new

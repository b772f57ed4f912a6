-- How far each region lies from the target, found layer by layer.
use Rattle.std.specs.Prelude.{◌≡◌, ◌≢◌, ℕ, zero, suc, ◌+◌, ◌≤◌, ◌<◌, ◌⊎◌, Bool, List, [], ◌∷◌, length, Contains, slice_index}
use Rattle.abstract_path.specs.Routes.{IsOpen}

-- `far` has 0 for a region that wasn't met, else one more than the edges from there to the target;
-- `way` its first edge
abbrev pub LeadsOn : (edges : List (ℕ × ℕ)) (shut : List Bool) (target : ℕ) (far way : List ℕ) → ℕ →
    Type 0
LeadsOn edges shut target far way r =
    (r ≡ target) ⊎ ((next : ℕ) × IsOpen edges shut (slice_index way r) r next
    × (slice_index far next ≢ 0) × (slice_index far r ≡ suc (slice_index far next)))

-- each open edge into the region is from one that was met and lies at most one further
abbrev pub IsSettled : (edges : List (ℕ × ℕ)) (shut : List Bool) (far : List ℕ) → ℕ → Type 0
IsSettled edges shut far r =
    (e a : ℕ) → IsOpen edges shut e a r → (slice_index far a ≢ 0)
    × (slice_index far a ≤ suc (slice_index far r))

-- what was met stays as it is
abbrev pub Extends : (old new : List ℕ) → Type 0
Extends old new = (r : ℕ) → slice_index old r ≢ 0 → slice_index new r ≡ slice_index old r

-- how many were not met
abbrev pub unmet : List ℕ → ℕ
unmet [] = 0
unmet (zero ∷ far) = suc (unmet far)
unmet (suc n ∷ far) = unmet far

-- while the regions of one layer are gone through: `met` is the next layer
pub record IsLayered (edges : List (ℕ × ℕ)) (shut : List Bool) (regions target depth : ℕ)
    (current far way met : List ℕ) : Type 0 where
  pub positive : 0 < depth
  pub fars : length far ≡ regions
  pub ways : length way ≡ regions
  pub at_target : slice_index far target ≡ 1
  pub leads : (r : ℕ) → slice_index far r ≢ 0 → LeadsOn edges shut target far way r
  pub within : (r : ℕ) → slice_index far r ≤ suc depth
  pub low : (r : ℕ) → slice_index far r ≤ regions
  pub current_far : (r : ℕ) → Contains current r → slice_index far r ≡ depth
  pub current_all : (r : ℕ) → slice_index far r ≡ depth → Contains current r
  pub met_far : (r : ℕ) → Contains met r → slice_index far r ≡ suc depth
  pub met_all : (r : ℕ) → slice_index far r ≡ suc depth → Contains met r
  pub before : (r : ℕ) → slice_index far r ≢ 0 → slice_index far r < depth →
      IsSettled edges shut far r
  pub few : depth + (unmet far + (length met + length current)) ≤ suc regions

-- at the end: each region that was met is settled
pub record IsMeasured (edges : List (ℕ × ℕ)) (shut : List Bool) (regions target : ℕ)
    (far way : List ℕ) : Type 0 where
  pub fars : length far ≡ regions
  pub ways : length way ≡ regions
  pub at_target : slice_index far target ≡ 1
  pub leads : (r : ℕ) → slice_index far r ≢ 0 → LeadsOn edges shut target far way r
  pub low : (r : ℕ) → slice_index far r ≤ regions
  pub settled : (r : ℕ) → slice_index far r ≢ 0 → IsSettled edges shut far r

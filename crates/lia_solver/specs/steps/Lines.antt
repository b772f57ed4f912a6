-- The lines of a table: where the coefficients of its rows lie, and the chains in which they are.
use Rattle.std.specs.Prelude.{◌≡◌, ℕ, suc, ◌<◌, ◌≤◌, List, [], ◌∷◌, length, map, slice_index, slice_index_or, ℤ, int_lt, if◌then◌else◌}
use Rattle.std.specs.Int.{int_min}
use Rattle.std.specs.List.{slice_range}
use Rattle.lia_solver.specs.declared.table.Line.{Line}
use Rattle.lia_solver.specs.declared.table.Origin.{Origin}
use Rattle.lia_solver.specs.steps.Buckets.{hash_of, bucket_of}
use Rattle.lia_solver.specs.steps.Entries.{Entry, first_of}

abbrev pub parts_of_line : List (ℕ × ℤ) → Line → List (ℕ × ℤ)
parts_of_line pool l = slice_range pool l.start l.end

abbrev pub entries_of : List (ℕ × ℤ) → List Line → List Entry
entries_of pool lines =
    map (λ l. record {
      sum = record { parts = parts_of_line pool l; constant = l.constant };
      least = l.least;
      origin = l.origin;
    }) lines

-- the coefficients of the line at a place
abbrev pub parts_at : List (ℕ × ℤ) → List Line → ℕ → List (ℕ × ℤ)
parts_at pool lines i = slice_index_or (map (parts_of_line pool) lines) i []

-- the chain of the line at a place, of `chains` chains
abbrev pub bucket_at : (chains : ℕ) → List (ℕ × ℤ) → List Line → ℕ → ℕ
bucket_at chains pool lines i = bucket_of chains (parts_at pool lines i)

-- one more than the last place below n of a line in the chain b, or 0
pub record IsPast (chains : ℕ) (pool : List (ℕ × ℤ)) (lines : List Line) (n b past : ℕ) : Type 0
  where
    pub limit : past ≤ n
    pub none : (j : ℕ) → past ≤ j → j < n → bucket_at chains pool lines j ≡ b → ⊥
    pub last : (j : ℕ) → past ≡ suc j → bucket_at chains pool lines j ≡ b

-- the lines lie within the pool
pub record AreInPool (pool : List (ℕ × ℤ)) (lines : List Line) : Type 0 where
  pub inside : (i : ℕ) (d : Line) → i < length lines → ((slice_index_or lines i d).start
      ≤ (slice_index_or lines i d).end)
      × ((slice_index_or lines i d).end ≤ length pool)
  pub hash : (i : ℕ) (d : Line) → i < length lines →
      (slice_index_or lines i d).hash ≡ hash_of (parts_at pool lines i)
  pub first : (i : ℕ) (d : Line) → i < length lines →
      (slice_index_or lines i d).first ≡ first_of (parts_at pool lines i)

-- each of them knows the one before it in its chain
pub record AreInChains (chains : ℕ) (pool : List (ℕ × ℤ)) (lines : List Line) : Type 0 where
  pub lying : AreInPool pool lines
  pub before : (i : ℕ) (d : Line) → i < length lines →
      IsPast chains pool lines i (bucket_at chains pool lines i) (slice_index_or lines i d).before

-- and each chain has its head
pub record AreHeaded (chains : ℕ) (pool : List (ℕ × ℤ)) (lines : List Line) (heads : List ℕ) :
    Type 0 where
  pub chained : AreInChains chains pool lines
  pub some : 0 < chains
  pub limit : chains ≤ 65536
  pub last : (b : ℕ) → b < chains →
      IsPast chains pool lines (length lines) b (slice_index heads b)

-- the heads in use: many of them, once there are some
abbrev pub heads_of : (few many : List ℕ) → List ℕ
heads_of few [] = few
heads_of few (h ∷ hs) = h ∷ hs

abbrev pub AreLines : List (ℕ × ℤ) → List Line → List ℕ → Type 0
AreLines pool lines heads = AreHeaded (length heads) pool lines heads

-- the lines are those that were there, in chains of their own
pub record IsChainedAnew (pool : List (ℕ × ℤ)) (old new : List Line) (heads : List ℕ) : Type 0
  where
    pub lines : AreLines pool new heads
    pub entries : entries_of pool new ≡ entries_of pool old

-- the head of the chain of these coefficients
pub record IsChained (chains : ℕ) (pool : List (ℕ × ℤ)) (lines : List Line) (past : ℕ)
    (parts : List (ℕ × ℤ)) : Type 0 where
  pub chained : AreInChains chains pool lines
  pub head : IsPast chains pool lines (length lines) (bucket_of chains parts) past

-- the line with one more row of its coefficients
abbrev pub joined_line : Line → ℤ → Origin → Line
joined_line l c o =
    if int_lt l.constant c
    then record l { constant = c; least = int_min l.least c; origin = o }
    else record l { least = int_min l.least c }

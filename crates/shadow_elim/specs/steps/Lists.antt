-- Rows in lists by the first of the columns that they name.
use Rattle.std.specs.Prelude.{◌≡◌, ℕ, suc, ◌+◌, ◌-◌, ◌^◌, min, Bool, true, nat_lt, List, [], ◌∷◌, ◌++◌, All, Contains, filter, not, length, slice_index_or, if◌then◌else◌}
use Rattle.std.specs.List.{sum_by}
use Rattle.linear_formula.specs.LinearSum.{LinearSum}
use Rattle.infeasible_cert.specs.declared.certificate.Derived.{Derived}
use Rattle.shadow_elim.specs.declared.row.Row.{Row}
use Rattle.shadow_elim.specs.declared.limit.TheConstants.{MAX_ROWS}
use Rattle.shadow_elim.specs.declared.pairing.Candidate.{Candidate}
use Rattle.shadow_elim.specs.Elimination.{is_free}
use Rattle.shadow_elim.specs.Reduction.{reduced, SameReduced}
use Rattle.shadow_elim.specs.steps.Making.{candidate_terms, steps_of, numbered, AllFounded}

abbrev pub list_at : List (List Candidate) → ℕ → List Candidate
list_at lists n = slice_index_or lists n []

abbrev pub names : ℕ → LinearSum → Bool
names x t = not (is_free x t)

-- how many columns there are from the first one on that the row names
abbrev pub rank : List ℕ → LinearSum → ℕ
rank [] t = 0
rank (x ∷ xs) t = if is_free x t then rank xs t else suc (length xs)

-- In the lists the same of these rows stay: the rows that name a column are in its list, those that
-- name none in list 0, and the first column has the last list.
abbrev pub Hold : List ℕ → List LinearSum → List (List Candidate) → Type 0
Hold [] rows lists = SameReduced rows (candidate_terms (list_at lists 0))
Hold (x ∷ xs) rows lists =
    SameReduced (filter (names x) rows) (candidate_terms (list_at lists (suc (length xs))))
    × Hold xs (filter (is_free x) rows) lists

-- how many rows of a list stay
abbrev pub staying : List Candidate → ℕ
staying cs = length (reduced (candidate_terms cs))

-- how many rows the lists have, as far as 64 bits count
abbrev pub listed : List (List Candidate) → ℕ
listed lists = min (2 ^ 64 - 1) (sum_by (λ l. length l) lists)

abbrev pub AreAllFounded : List LinearSum → List (List Candidate) → Type 0
AreAllFounded base lists = All (AllFounded base) lists

-- the candidates were added to the lists of these columns
pub record AreAdded (columns : List ℕ) (added : List Candidate) (old new : List (List Candidate)) :
    Type 0 where
  pub count : length new ≡ length old
  pub hold : (rows : List LinearSum) → Hold columns rows old →
      Hold columns (rows ++ candidate_terms added) new
  pub founded : (base : List LinearSum) → AreAllFounded base old → AllFounded base added →
      AreAllFounded base new

-- the rows of the last list that stay, with their numbers and steps
pub record AreTaken (first : ℕ) (old new : List (List Candidate)) (before after : List Derived)
    (left : List Row) : Type 0 where
  pub last : List Candidate
  pub kept : List Candidate
  pub lists : old ≡ new ++ last ∷ []
  pub terms : candidate_terms kept ≡ reduced (candidate_terms last)
  pub among : All (λ c. Contains last c) kept
  pub rows : left ≡ numbered (first + length before) kept
  pub steps : after ≡ before ++ steps_of kept

-- the first of the candidates were added, and more than `MAX_ROWS` rows stay already
pub record AreTooMany (columns : List ℕ) (all : List Candidate) (old new : List (List Candidate)) :
    Type 0 where
  pub first : List Candidate
  pub rest : List Candidate
  pub split : all ≡ first ++ rest
  pub added : AreAdded columns first old new
  pub beyond : nat_lt MAX_ROWS (sum_by staying new) ≡ true

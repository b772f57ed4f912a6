-- How rows are made of pairs, numbered and derived.
use Rattle.std.specs.Prelude.{◌≡◌, ℕ, ◌+◌, ◌<◌, IsTrue, All, List, length, [], ◌∷◌, ◌++◌, map, filter, flat_map, pos}
use Rattle.linear_formula.specs.LinearSum.{LinearSum, is_term}
use Rattle.infeasible_cert.specs.Right.{row_at, IsRightStep}
use Rattle.infeasible_cert.specs.declared.certificate.Derived.{Derived}
use Rattle.shadow_elim.specs.declared.row.Row.{Row}
use Rattle.shadow_elim.specs.declared.pairing.Candidate.{Candidate}
use Rattle.shadow_elim.specs.declared.pairing.Making.{Making}
use Rattle.shadow_elim.specs.declared.pairing.Origin.{Origin}
use Rattle.shadow_elim.specs.declared.pairing.Origin.TheVariants.{Known, Made}
use Rattle.shadow_elim.specs.Division.{tightened, row_divisor}
use Rattle.shadow_elim.specs.Elimination.{is_upper, is_lower, is_free, size_of, upper_multiple, lower_multiple, pair_sum}

abbrev pub candidate_terms : List Candidate → List LinearSum
candidate_terms = map (λ c. c.term)

-- the rows by their relation to a column
abbrev pub uppers : ℕ → List Row → List Row
uppers x = filter (λ r. is_upper x r.term)

abbrev pub lowers : ℕ → List Row → List Row
lowers x = filter (λ r. is_lower x r.term)

abbrev pub frees : ℕ → List Row → List Row
frees x = filter (λ r. is_free x r.term)

abbrev pub known : Row → Candidate
known r = record { term = r.term; origin = Known r.number }

abbrev pub making : ℕ → Row → Row → Making
making x u l =
    let a = size_of x u.term in
    let b = size_of x l.term in
    record {
      upper = u.number;
      upper_multiple = pos (upper_multiple a b);
      lower = l.number;
      lower_multiple = pos (lower_multiple a b);
      divide = pos (row_divisor (pair_sum x (u.term, l.term)));
    }

-- the row of a pair
abbrev pub made : ℕ → Row → Row → Candidate
made x u l = record { term = tightened (pair_sum x (u.term, l.term)); origin = Made (making x u l) }

abbrev pub made_of_all : ℕ → List Row → List Row → List Candidate
made_of_all x us ls = flat_map (λ u. map (made x u) ls) us

-- the rows that don't name the column, and those of the pairs
abbrev pub candidates : ℕ → List Row → List Candidate
candidates x rows = map known (frees x rows) ++ made_of_all x (uppers x rows) (lowers x rows)

abbrev pub step_of : LinearSum → Making → Derived
step_of t m = record {
  row = record { term = t };
  parts = (m.upper, m.upper_multiple) ∷ (m.lower, m.lower_multiple) ∷ [];
  divide = m.divide;
}

abbrev pub with_step : Origin → LinearSum → List Derived → List Derived
with_step (Known n) t ds = ds
with_step (Made m) t ds = step_of t m ∷ ds

-- the derived rows of those that were made
abbrev pub steps_of : List Candidate → List Derived
steps_of [] = []
steps_of (c ∷ cs) = with_step c.origin c.term (steps_of cs)

abbrev pub number_of : ℕ → Origin → ℕ
number_of next (Known n) = n
number_of next (Made m) = next

abbrev pub next_after : ℕ → Origin → ℕ
next_after next (Known n) = next
next_after next (Made m) = next + 1

-- the rows with their numbers, where the made ones are numbered in order
abbrev pub numbered : ℕ → List Candidate → List Row
numbered next [] = []
numbered next (c ∷ cs) = record { term = c.term; number = number_of next c.origin }
    ∷ numbered (next_after next c.origin) cs

-- a known row has its number, and a made one follows
abbrev pub IsFounded : List LinearSum → LinearSum → Origin → Type 0
IsFounded base t (Known n) = (n < length base) × (row_at base n ≡ t)
IsFounded base t (Made m) = IsRightStep base (step_of t m)

abbrev pub AllFounded : List LinearSum → List Candidate → Type 0
AllFounded base cs = All (λ c. IsFounded base c.term c.origin) cs

-- each row is a term
abbrev pub AreTerms : List Row → Type 0
AreTerms [] = Unit {0}
AreTerms (r ∷ rs) = IsTrue (is_term r.term) × AreTerms rs

-- the rows are numbered from here on
abbrev pub AreInPlace : ℕ → List Row → Type 0
AreInPlace next [] = Unit {0}
AreInPlace next (r ∷ rs) = (r.number ≡ next) × AreInPlace (next + 1) rs

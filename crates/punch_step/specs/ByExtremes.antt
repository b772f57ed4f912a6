-- What the extreme rows of cubes tell.
use Rattle.std.specs.Prelude.{◌≡◌, ℕ, suc, List, [], ◌∷◌, ◌++◌, length, ℤ}
use Rattle.linear_formula.specs.LinearSum.{Valuation, Is64, valuation}
use Rattle.linear_formula.specs.Formula.{HoldsAll}
use Rattle.linear_formula.specs.Extremes.{AreExtremes, IsOutline}
use Rattle.linear_formula.specs.declared.formula.Atom.{Atom}
use Rattle.linear_formula.specs.declared.extremes.Extremes.{Extremes}
use Rattle.summary_form.specs.declared.query.Query.{Query}
use Rattle.must_region.specs.Traces.{Trace, trace_of}
use Rattle.query_rules.specs.Crossings.{IsPreOf, IsRead}
use Rattle.query_rules.specs.Rows.{IsRefutedBy, seen_at}
use Rattle.punch_step.specs.Frontiers.{crossing_at}
use Rattle.punch_step.specs.declared.by_extremes.Arrival.{Arrival}
use Rattle.punch_step.specs.declared.by_extremes.Arrival.TheVariants as arrival
use Rattle.punch_step.specs.declared.by_extremes.Seen.{Seen}
use Rattle.punch_step.specs.declared.by_extremes.Told.{Told}
use Rattle.punch_step.specs.declared.by_extremes.Told.TheVariants as told
use Rattle.punch_step.specs.declared.plain.Frontier.{Frontier}

-- What is said of rows: a point meets them, or nothing meets what they are the extremes of.
abbrev pub IsTold : (numbers : List ℕ) (count : ℕ) (rows : List Atom) → Told → Type 0
IsTold numbers count rows (told.Met at) = Is64 (valuation at) × HoldsAll (valuation at) rows
IsTold numbers count rows (told.Never proof) =
    (all : List Atom) → AreExtremes numbers rows all → count ≡ length all → IsRefutedBy all proof
IsTold numbers count rows told.Nothing = Unit {0}

-- a point meets the rows, or nothing meets all
abbrev pub IsToldOf : (rows all : List Atom) → Told → Type 0
IsToldOf rows all (told.Met at) = Is64 (valuation at) × HoldsAll (valuation at) rows
IsToldOf rows all (told.Never proof) = IsRefutedBy all proof
IsToldOf rows all told.Nothing = Unit {0}

-- the extreme rows of what is seen of atoms at the end of a trail, where no sum is too wide
abbrev pub AreSeen : Query → Trace → List Atom → Extremes → Type 0
AreSeen q t all e = IsRead t all × IsOutline e (seen_at q t all)

abbrev pub IfComes : (List (ℕ × ℤ) → Type 0) → Arrival → Type 0
IfComes P (arrival.Comes at) = P at
IfComes P arrival.Never = Unit {0}
IfComes P arrival.Unknown = Unit {0}

-- the point is one of the trail that meets the query's start and the atoms at its end
abbrev pub ArrivesAt : Query → Trace → List Atom → List (ℕ × ℤ) → Type 0
ArrivesAt q t all at =
    IsRead t all × Is64 (valuation at) × HoldsAll (valuation at) (seen_at q t all)

-- the extreme rows of the target's preimage
abbrev pub IsPreOutline : Frontier → Extremes → Type 0
IsPreOutline f e = (pre : List Atom) × IsPreOf (crossing_at f) pre × IsOutline e pre

-- something meets the rows
pub record HasPoint (rows : List Atom) : Type 0 where
  pub point : Valuation
  pub values : Is64 point
  pub holds : HoldsAll point rows

-- the extreme rows of what is seen of a source at a trail's end, with the number that one more row
-- has after them
pub record Sees (q : Query) (t : Trace) (source : List Atom) (s : Seen) : Type 0 where
  pub trail : trace_of s.trail.now ≡ t
  pub count : s.count ≡ suc (length (seen_at q t source))
  pub extremes : (a : Atom) →
      AreExtremes s.numbers.items (s.rows.atoms ++ a ∷ []) (seen_at q t source ++ a ∷ [])

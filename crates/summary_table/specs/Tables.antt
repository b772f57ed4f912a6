-- Tables as lists of summaries, and where those of one procedure and exit kind stand.
use Rattle.std.specs.Prelude.{◌≡◌, ◌<◌, ◌≤◌, ℕ, ◌++◌, List, [], Option, Some, None, slice_get}
use Rattle.summary_form.specs.declared.query.ExitKind.{ExitKind}
use Rattle.summary_form.specs.declared.query.ExitKind.TheVariants.{Return, Fail}
use Rattle.summary_form.specs.declared.summary.Summary.{Summary}
use Rattle.summary_form.specs.declared.summary.Summary.TheVariants.{NotMay, Must}
use Rattle.summary_table.specs.declared.keys.TheConstants.{MAX_PROCEDURES, MAX_ASSERTIONS}

pub record Listed : Type 0 where
  pub room : ℕ
  pub summaries : List Summary

pub record IsBegun (wanted : ℕ) (t : Listed) : Type 0 where
  pub room : t.room ≡ wanted
  pub none : t.summaries ≡ []

-- the first list begins with the second
pub record StartsWith (all front : List Summary) : Type 0 where
  pub rest : List Summary
  pub is : all ≡ front ++ rest

-- Of which procedure and exit kind a summary is

abbrev pub proc_of : Summary → ℕ
proc_of (NotMay q) = q.proc
proc_of (Must p) = p.proc

abbrev pub exit_of : Summary → ExitKind
exit_of (NotMay q) = q.exit
exit_of (Must p) = p.exit

-- both numbers are below the limits
abbrev pub IsNumbered : (proc : ℕ) → ExitKind → Type 0
IsNumbered proc Return = proc < MAX_PROCEDURES
IsNumbered proc (Fail id) = (proc < MAX_PROCEDURES) × (id < MAX_ASSERTIONS)

abbrev pub AreAllNumbered : List Summary → Type 0
AreAllNumbered table =
    (i : ℕ) (s : Summary) → slice_get table i ≡ Some s → IsNumbered (proc_of s) (exit_of s)

abbrev pub IsAbout : (proc : ℕ) → ExitKind → Summary → Type 0
IsAbout proc exit s = (proc_of s ≡ proc) × (exit_of s ≡ exit)

-- Where they stand

-- from this place on there is none
abbrev pub NoneFrom : List Summary → (proc : ℕ) → ExitKind → (from : ℕ) → Type 0
NoneFrom table proc exit from =
    (i : ℕ) (s : Summary) → from ≤ i → slice_get table i ≡ Some s → ¬ IsAbout proc exit s

-- the least place from this one on
pub record IsPlaceFrom (table : List Summary) (proc : ℕ) (exit : ExitKind) (from place : ℕ) : Type
    0 where
  pub later : from ≤ place
  pub summary : Summary
  pub there : slice_get table place ≡ Some summary
  pub is_about : IsAbout proc exit summary
  pub none_before : (i : ℕ) (s : Summary) → from ≤ i → i < place → slice_get table i ≡ Some s →
      ¬ IsAbout proc exit s

-- the least place from this one on, or that there is none
abbrev pub IsNextFrom : List Summary → (proc : ℕ) → ExitKind → (from : ℕ) → Option ℕ → Type 0
IsNextFrom table proc exit from (Some place) = IsPlaceFrom table proc exit from place
IsNextFrom table proc exit from None = NoneFrom table proc exit from

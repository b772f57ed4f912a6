-- The chains of places that an index keeps, one for each procedure and exit kind.
use Rattle.std.specs.Prelude.{◌≡◌, ℕ, suc, ◌+◌, ◌*◌, List, length, Option, Some, None, slice_get}
use Rattle.summary_form.specs.declared.query.ExitKind.{ExitKind}
use Rattle.summary_form.specs.declared.query.ExitKind.TheVariants.{Return, Fail}
use Rattle.summary_form.specs.declared.summary.Summary.{Summary}
use Rattle.summary_table.specs.declared.keys.TheConstants.{KEYS, MAX_ASSERTIONS}
use Rattle.summary_table.specs.Tables.{AreAllNumbered, IsAbout, IsNextFrom, IsNumbered, NoneFrom, exit_of, proc_of}

abbrev pub number_of : ExitKind → ℕ
number_of Return = 0
number_of (Fail id) = id + 1

-- a number below KEYS for each procedure and exit kind below the limits
abbrev pub key_of : (proc : ℕ) → ExitKind → ℕ
key_of proc exit = (MAX_ASSERTIONS + 1) * proc + number_of exit

-- the greatest place, or that there is none
pub record IsPlaceLast (table : List Summary) (proc : ℕ) (exit : ExitKind) (place : ℕ) : Type
    0 where
  pub summary : Summary
  pub there : slice_get table place ≡ Some summary
  pub is_about : IsAbout proc exit summary
  pub none_behind : NoneFrom table proc exit (suc place)

abbrev pub IsLast : List Summary → (proc : ℕ) → ExitKind → Option ℕ → Type 0
IsLast table proc exit (Some place) = IsPlaceLast table proc exit place
IsLast table proc exit None = NoneFrom table proc exit 0

-- by key the first and the last place, and by place the next one
pub record AreChained (table : List Summary) (first last next : List (Option ℕ)) : Type 0 where
  pub numbered : AreAllNumbered table
  pub firsts : length first ≡ KEYS
  pub lasts : length last ≡ KEYS
  pub nexts : length next ≡ length table
  pub is_first : (proc : ℕ) (exit : ExitKind) → IsNumbered proc exit → (o : Option ℕ) →
      slice_get first (key_of proc exit) ≡ Some o → IsNextFrom table proc exit 0 o
  pub is_last : (proc : ℕ) (exit : ExitKind) → IsNumbered proc exit → (o : Option ℕ) →
      slice_get last (key_of proc exit) ≡ Some o → IsLast table proc exit o
  pub is_next : (i : ℕ) (s : Summary) → slice_get table i ≡ Some s → (o : Option ℕ) →
      slice_get next i ≡ Some o → IsNextFrom table (proc_of s) (exit_of s) (suc i) o

-- Which summaries are kept, with the numbers of the new program.
use Rattle.std.specs.Prelude.{◌≡◌, ◌↔◌, ℕ, ◌==◌, Bool, false, List, [], ◌∷◌, length, Option, None, Some, slice_get}
use Rattle.std.specs.Option.{option_map}
use Rattle.c_tree.specs.Syntax.{PureProgram}
use Rattle.summary_form.specs.declared.query.ExitKind.{ExitKind}
use Rattle.summary_form.specs.declared.query.ExitKind.TheVariants.{Return, Fail}
use Rattle.summary_form.specs.declared.summary.Summary.{Summary}
use Rattle.summary_form.specs.declared.summary.Summary.TheVariants.{NotMay, Must}
use Rattle.summary_form.specs.Answering.{SummaryHolds}
use Rattle.summary_form.specs.Instances.{program_runs, arity_of_program}
use Rattle.summary_keep.specs.Matching.{Related, IsGreatest, CorrespondIn}

-- the new number, if there is one
abbrev pub joined : Option (Option ℕ) → Option ℕ
joined None = None
joined (Some o) = o

abbrev pub number_in : List (Option ℕ) → ℕ → Option ℕ
number_in numbers i = joined (slice_get numbers i)

abbrev pub is_number : Option ℕ → ℕ → Bool
is_number None j = false
is_number (Some k) j = k == j

-- the relation that a list of new numbers says
abbrev pub related_by : List (Option ℕ) → Related
related_by numbers i j = is_number (number_in numbers i) j

-- the new numbers of the procedures and of the assertions of the old program
pub record IsMatchingOf (P Q : PureProgram) (procs asserts : List (Option ℕ)) : Type 0 where
  pub procs_each : length procs ≡ length P.procedures
  pub greatest : IsGreatest P Q (related_by procs)
  pub asserts_each : length asserts ≡ length P.asserts
  pub corresponding : (a b : ℕ) → (number_in asserts a ≡ Some b)
      ↔ CorrespondIn P Q (related_by procs) a b

abbrev pub both_of : {A B C : Type 0} → Option A → Option B → (A → B → C) → Option C
both_of None y f = None
both_of (Some a) None f = None
both_of (Some a) (Some b) f = Some (f a b)

abbrev pub new_exit : List (Option ℕ) → ExitKind → Option ExitKind
new_exit asserts Return = Some Return
new_exit asserts (Fail a) = option_map Fail (number_in asserts a)

abbrev pub put : Option Summary → List Summary → List Summary
put None ss = ss
put (Some s) ss = s ∷ ss

-- Where the procedures and the assertions have these new numbers
module _ (procs asserts : List (Option ℕ)) where
  -- the same of the new program; none where the procedure or the assertion isn't related
  abbrev pub renumbered : Summary → Option Summary
  renumbered (NotMay q) = both_of (number_in procs q.proc) (new_exit asserts q.exit)
      (λ p x. NotMay (record q { proc = p; exit = x }))
  renumbered (Must t) = both_of (number_in procs t.proc) (new_exit asserts t.exit)
      (λ p x. Must (record t { proc = p; exit = x }))

  -- in order
  abbrev pub kept : List Summary → List Summary
  kept [] = []
  kept (s ∷ ss) = put (renumbered s) (kept ss)

-- each of them holds of the program
abbrev pub SummariesHold : PureProgram → List Summary → Type 0
SummariesHold P [] = Unit {0}
SummariesHold P (s ∷ ss) = SummaryHolds (program_runs P) (arity_of_program P) s × SummariesHold P ss

-- Walks along the chain of a procedure and exit kind.
use Rattle.std.proofs.Common.{◌≡◌, inl, inr, ℕ, suc, ◌+◌, ◌-◌, ◌<◌, ◌≤◌, List, length, map, get_or, Option, None, Some, arith, subst, sym, ap, refl, add-one}
use Rattle.std.specs.Prelude.{slice_get}
use Rattle.std.proofs.lemmas.Bool.{cases_lt}
use Rattle.std.proofs.lemmas.List.{length-map}
use Rattle.std.proofs.lemmas.Option.{slice_get_cases, slice_get_within}
use Rattle.shadow_elim.specs.declared.limit.Kept.{Kept}
use Rattle.summary_form.specs.Answering.{Answers}
use Rattle.summary_form.specs.declared.query.ExitKind.{ExitKind}
use Rattle.summary_form.specs.declared.query.Query.{Query}
use Rattle.summary_form.specs.declared.summary.Summary.{Summary}
use Rattle.summary_form.specs.declared.summary.Summary.TheVariants.{NotMay, Must}
use Rattle.summary_table.specs.Asked.{IsShownNotToAnswer}
use Rattle.summary_table.specs.Tables.{AreAllNumbered, IsAbout, IsNextFrom, IsNumbered, IsPlaceFrom, NoneFrom, exit_of, proc_of}
use Rattle.summary_table.proofs.SoFar.{IsLimitOf, IsSoFar, summary_at}

-- what is read at a place of the table
pub summary_read : {A : Type 0} (f : A → Summary) (items : List A) (table : List Summary) (place : ℕ) (x : A) (s : Summary) →
    map f items ≡ table → place < length table → x ≡ get_or items place x → s ≡ f x → slice_get table place ≡ Some s
summary_read f items table place x s e low is at = summary_at f items items table place x s refl e
    (omega (arith, low, ap (λ (ts : List Summary). length ts) e, length-map items f)) is at

-- A place of the table, or none

abbrev pub IsWithin : List Summary → Option ℕ → Type 0
IsWithin table None = Unit {0}
IsWithin table (Some place) = place < length table

pub within_next : (table : List Summary) (proc : ℕ) (exit : ExitKind) (from : ℕ) (at : Option ℕ) → IsNextFrom table proc exit from at →
    IsWithin table at
within_next table proc exit from None h = tt
within_next table proc exit from (Some place) h = slice_get_within table place h.summary h.there

pub within_on : (table : List Summary) (place : ℕ) (next : Option ℕ) → place < length table →
    ((t : Summary) → slice_get table place ≡ Some t → IsNextFrom table (proc_of t) (exit_of t) (suc place) next) → IsWithin table next
within_on table place next low h = elim ((slice_get_cases table place).1) [
  | inl k ↦ within_next table (proc_of k.0) (exit_of k.0) (suc place) next (h k.0 k.2)
  | inr k ↦ absurd (omega (arith, low, k.0))
]

-- To the least place from some place on

-- how many places are left
abbrev pub places_left : (all : ℕ) → Option ℕ → ℕ
places_left all None = 0
places_left all (Some place) = suc (all - place)

-- after a place there are fewer
pub left_falls : (table : List Summary) (at : Option ℕ) (place : ℕ) (next : Option ℕ) → at ≡ Some place → place < length table →
    ((t : Summary) → slice_get table place ≡ Some t → IsNextFrom table (proc_of t) (exit_of t) (suc place) next) →
    places_left (length table) next < places_left (length table) at
left_falls table at place next is low h = subst (λ o. places_left (length table) next < places_left (length table) o) (sym is)
    (elim ((slice_get_cases table place).1) [
      | inl k ↦ less (proc_of k.0) (exit_of k.0) next (h k.0 k.2)
      | inr k ↦ absurd (omega (arith, low, k.0))
    ])
  where
    less : (p : ℕ) (d : ExitKind) (o : Option ℕ) → IsNextFrom table p d (suc place) o →
        places_left (length table) o < suc (length table - place)
    less p d None w = omega arith
    less p d (Some n) w = omega (arith, w.later, low)

-- a place of the chain, or its end, where those before are after `from`
pub record IsWalking (table : List Summary) (proc : ℕ) (exit : ExitKind) (from : ℕ) (at : Option ℕ) : Type 0 where
  pub begun : ℕ
  pub before : begun ≤ from
  pub next : IsNextFrom table proc exit begun at

pub walking_begun : (table : List Summary) (proc : ℕ) (exit : ExitKind) (from : ℕ) (at : Option ℕ) → IsNextFrom table proc exit 0 at →
    IsWalking table proc exit from at
walking_begun table proc exit from at h = record { begun = 0; before = omega arith; next = h }

-- the next place is of the same procedure and exit kind
pub next_same : (table : List Summary) (proc : ℕ) (exit : ExitKind) (place : ℕ) (s : Summary) (next : Option ℕ) →
    slice_get table place ≡ Some s → IsAbout proc exit s →
    ((t : Summary) → slice_get table place ≡ Some t → IsNextFrom table (proc_of t) (exit_of t) (suc place) next) →
    IsNextFrom table proc exit (suc place) next
next_same table proc exit place s next at about h =
    subst (λ d. IsNextFrom table proc d (suc place) next) about.1
    (subst (λ p. IsNextFrom table p (exit_of s) (suc place) next) about.0 (h s at))

pub walking_on : (table : List Summary) (proc : ℕ) (exit : ExitKind) (from place : ℕ) (next : Option ℕ) →
    IsWalking table proc exit from (Some place) → place < from →
    ((t : Summary) → slice_get table place ≡ Some t → IsNextFrom table (proc_of t) (exit_of t) (suc place) next) →
    IsWalking table proc exit from next
walking_on table proc exit from place next w l h = record {
  begun = suc place;
  before = omega (arith, l);
  next = next_same table proc exit place w.next.summary next w.next.there w.next.is_about h;
}

pub walking_within : (table : List Summary) (proc : ℕ) (exit : ExitKind) (from place : ℕ) →
    IsWalking table proc exit from (Some place) → place < length table
walking_within table proc exit from place w = slice_get_within table place w.next.summary w.next.there

-- the place that isn't after it is the least one, and at the end there is none
pub walked_to : (table : List Summary) (proc : ℕ) (exit : ExitKind) (from place : ℕ) → IsWalking table proc exit from (Some place) →
    from ≤ place → IsPlaceFrom table proc exit from place
walked_to table proc exit from place w l = record {
  later = l;
  summary = w.next.summary;
  there = w.next.there;
  is_about = w.next.is_about;
  none_before = λ i s k. w.next.none_before i s (omega (arith, k, w.before));
}

pub walked_off : (table : List Summary) (proc : ℕ) (exit : ExitKind) (from : ℕ) → IsWalking table proc exit from None →
    NoneFrom table proc exit from
walked_off table proc exit from w = λ i s k. w.next i s (omega (arith, k, w.before))

-- a table of numbered summaries has none beyond the limits
pub none_beyond : (table : List Summary) (proc : ℕ) (exit : ExitKind) (from : ℕ) → AreAllNumbered table → (¬ IsNumbered proc exit) →
    NoneFrom table proc exit from
none_beyond table proc exit from all beyond = λ i s k at about.
    beyond (subst (λ d. IsNumbered proc d) about.1 (subst (λ p. IsNumbered p (exit_of s)) about.0 (all i s at)))

-- Asking what the chain has

-- a summary of another procedure or exit kind isn't asked, and doesn't answer
shown_apart : (q : Query) (s : Summary) → (¬ IsAbout q.proc q.exit s) → IsShownNotToAnswer q s
shown_apart q (NotMay n) apart = λ same_proc same_exit. absurd (apart (same_proc, same_exit))
shown_apart q (Must p) apart = λ same_proc same_exit. absurd (apart (same_proc, same_exit))

no_answer_apart : (q : Query) (s : Summary) → (¬ IsAbout q.proc q.exit s) → ¬ Answers q s
no_answer_apart q (NotMay n) apart = λ a. apart (a.same_procedure, a.same_exit)
no_answer_apart q (Must p) apart = λ a. apart (a.same_procedure, a.same_exit)

-- what is known stays so after summaries that aren't asked
so_far_skipped : (q : Query) (table : List Summary) (from to : ℕ) (limit : Option Kept) → IsSoFar q table from limit →
    ((i : ℕ) (s : Summary) → from ≤ i → i < to → slice_get table i ≡ Some s → ¬ IsAbout q.proc q.exit s) → IsSoFar q table to limit
so_far_skipped q table from to limit h none = record {
  none_before = λ i s l at. elim (cases_lt i from) [
    | inl k ↦ h.none_before i s k at
    | inr k ↦ inl (shown_apart q s (none i s k l at))
  ];
  first = by_limit limit h.first;
}
  where
    by_limit : (o : Option Kept) → IsLimitOf q table from o → IsLimitOf q table to o
    by_limit None f = λ i s l at. elim (cases_lt i from) [
      | inl k ↦ f i s k at
      | inr k ↦ (shown_apart q s (none i s k l at), no_answer_apart q s (none i s k l at))
    ]
    by_limit (Some kept) f = f

-- a place of the query's chain, or its end, where those before are asked
pub record IsHere (q : Query) (table : List Summary) (place : ℕ) (limit : Option Kept) : Type 0 where
  pub summary : Summary
  pub there : slice_get table place ≡ Some summary
  pub is_about : IsAbout q.proc q.exit summary
  pub so_far : IsSoFar q table place limit

abbrev pub IsAsking : Query → List Summary → Option ℕ → Option Kept → Type 0
IsAsking q table (Some place) limit = IsHere q table place limit
IsAsking q table None limit = IsSoFar q table (length table) limit

pub asking_on : (q : Query) (table : List Summary) (from : ℕ) (at : Option ℕ) (limit : Option Kept) → IsSoFar q table from limit →
    IsNextFrom table q.proc q.exit from at → IsAsking q table at limit
asking_on q table from None limit h none = so_far_skipped q table from (length table) limit h (λ i s k l. none i s k)
asking_on q table from (Some place) limit h next = record {
  summary = next.summary;
  there = next.there;
  is_about = next.is_about;
  so_far = so_far_skipped q table from place limit h next.none_before;
}

-- after a place that was asked
pub asked_on : (q : Query) (table : List Summary) (place : ℕ) (next : Option ℕ) (limit before : Option Kept) →
    IsHere q table place before → IsSoFar q table (place + 1) limit →
    ((t : Summary) → slice_get table place ≡ Some t → IsNextFrom table (proc_of t) (exit_of t) (suc place) next) →
    IsAsking q table next limit
asked_on q table place next limit before here h on =
    asking_on q table (suc place) next limit (subst (λ n. IsSoFar q table n limit) (add-one place) h)
    (next_same table q.proc q.exit place here.summary next here.there here.is_about on)

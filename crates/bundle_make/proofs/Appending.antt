-- The moves of steps one after the other, and of one more step.
use Rattle.std.proofs.Common.{◌≡◌, ℕ, ◌+◌, ◌≤◌, List, [], ◌∷◌, ◌++◌, take, Some, Bool, arith, refl, sym, subst, ap, ◌∙◌}
use Rattle.std.specs.Prelude.{slice_get}
use Rattle.std.proofs.lemmas.List.{append-nil, append_assoc, take_more}
use Rattle.std.proofs.lemmas.Option.{get_or_from_slice_get, slice_get_within}
use Rattle.flow_graph.specs.declared.graph.Graph.{Graph}
use Rattle.summary_form.specs.declared.query.ExitKind.{ExitKind}
use Rattle.summary_form.specs.declared.query.Query.{Query}
use Rattle.summary_form.specs.declared.summary.Summary.{Summary}
use Rattle.may_partition.specs.Parted.{Parted}
use Rattle.query_rules.specs.declared.step.Step.{Step}
use Rattle.query_rules.specs.declared.step.Step.TheVariants as step
use Rattle.proof_bundle.specs.Claims.{PureMove}
use Rattle.bundle_check.specs.RightClaims.{moved_all}
use Rattle.bundle_check.specs.Walked.{Makes}
use Rattle.bundle_check.proofs.InOrder.{moved_append}
use Rattle.bundle_check.proofs.Walking.{entries_after}
use Rattle.bundle_make.specs.Bundling.{MakesAll, asked_after}

-- Moves one after the other

-- how many queries were asked after these steps
abbrev pub asked_all : List Step → ℕ → ℕ
asked_all [] entry = entry
asked_all (s ∷ steps) entry = asked_all steps (asked_after s entry)

pub asked_append : (steps : List Step) (s : Step) (entry : ℕ) → asked_all (steps ++ s ∷ []) entry ≡ asked_after s (asked_all steps entry)
asked_append [] s entry = refl
asked_append (t ∷ steps) s entry = asked_append steps s (asked_after t entry)

pub asked_few : (s : Step) (entry : ℕ) → asked_after s entry ≤ entry + 1
asked_few (step.Extend k trail point) entry = omega arith
asked_few (step.Split k atoms follows proofs) entry = omega arith
asked_few (step.Kill k by) entry = omega arith
asked_few (step.CallExtend k trail place point) entry = omega arith
asked_few (step.CallSplit k place atoms follows proofs) entry = omega arith
asked_few (step.CallPart k by atom atoms follows proofs) entry = omega arith
asked_few (step.Ask k q follows seen) entry = omega arith
asked_few (step.Feed i) entry = omega arith
asked_few (step.Stuck k why seen) entry = omega arith

pub same_entries : (s : Step) (entry : ℕ) → entries_after s entry ≡ asked_after s entry
same_entries (step.Extend k trail point) entry = refl
same_entries (step.Split k atoms follows proofs) entry = refl
same_entries (step.Kill k by) entry = refl
same_entries (step.CallExtend k trail place point) entry = refl
same_entries (step.CallSplit k place atoms follows proofs) entry = refl
same_entries (step.CallPart k by atom atoms follows proofs) entry = refl
same_entries (step.Ask k q follows seen) entry = refl
same_entries (step.Feed i) entry = refl
same_entries (step.Stuck k why seen) entry = refl

module _ (g : Graph) (exit : ExitKind) (table : List Summary) (levels claims : List Query) (killed : ℕ → Bool) where
  pub makes_append : (steps : List Step) (s : Step) (entry : ℕ) (p : Parted) (ms one : List PureMove) →
      MakesAll g exit table levels claims killed steps entry p ms →
      Makes g exit (moved_all ms p) table levels claims killed s (asked_all steps entry) one →
      MakesAll g exit table levels claims killed (steps ++ s ∷ []) entry p (ms ++ one)
  makes_append [] s entry p ms one is makes = (
    one,
    [],
    ap (λ xs. xs ++ one) is ∙ sym (append-nil one),
    subst (λ xs. Makes g exit (moved_all xs p) table levels claims killed s entry one) is makes,
    refl,
  )
  makes_append (t ∷ steps) s entry p ms one h makes =
      let first = h.0 in
      let more = h.1 in
      let there : moved_all ms p ≡ moved_all more (moved_all first p) = ap (λ xs. moved_all xs p) h.2 ∙ moved_append first more p in (
        first,
        more ++ one,
        ap (λ xs. xs ++ one) h.2 ∙ append_assoc first more one,
        h.3,
        makes_append steps s (asked_after t entry) (moved_all first p) more one h.4
            (subst (λ x. Makes g exit x table levels claims killed s (asked_all (t ∷ steps) entry) one) there makes),
      )

-- The first steps

pub take_next : (steps : List Step) (j : ℕ) (s : Step) → slice_get steps j ≡ Some s → take (j + 1) steps ≡ take j steps ++ s ∷ []
take_next steps j s at =
    take_more steps j s (slice_get_within steps j s at) ∙ ap (λ x. take j steps ++ x ∷ []) (get_or_from_slice_get steps j s s at)

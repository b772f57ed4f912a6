-- The split by one atom that extreme rows tell.
use Rattle.std.proofs.Common.{◌≡◌, ◌≢◌, ◌∙◌, ℕ, zero, suc, List, [], ◌∷◌, ◌++◌, refl, sym, ap, subst, Option, None, Some}
use Rattle.std.specs.Prelude.{IsTrue, slice_get}
use Rattle.std.specs.List.{list_all}
use Rattle.linear_formula.specs.Extremes.{AreExtremes, HaveNumbers, IsOutline}
use Rattle.linear_formula.specs.declared.extremes.Extremes.{Extremes}
use Rattle.linear_formula.specs.declared.formula.Atom.{Atom}
use Rattle.linear_formula.proofs.ExtremeRows.{append-extremes, extremes-hold, push_extremes}
use Rattle.infeasible_cert.specs.declared.certificate.Certificate.{Certificate}
use Rattle.shadow_elim.specs.Questions.{is_negatable}
use Rattle.shadow_elim.specs.declared.limit.Kept.{Kept}
use Rattle.summary_form.specs.declared.query.Query.{Query}
use Rattle.must_region.specs.Traces.{Trace, trace_of}
use Rattle.query_rules.specs.Rows.{IsRefutedBy, IsSome, seen_at}
use Rattle.query_rules.specs.declared.step.Step.TheVariants as step
use Rattle.punch_step.specs.ByExtremes.{AreSeen, HasPoint, IsPreOutline, Sees}
use Rattle.punch_step.specs.Cuts.{IsCut}
use Rattle.punch_step.specs.Frontiers.{IfUnnegatable, MadeAt, trail_at}
use Rattle.punch_step.specs.declared.by_extremes.Seen.{Seen}
use Rattle.punch_step.specs.declared.cut.Cut.{Cut}
use Rattle.punch_step.specs.declared.plain.Frontier.{Frontier}
use Rattle.punch_step.proofs.Choosing.{some_one}

-- the extreme rows of what is seen, with the number of one more row after all
pub sees_by : (q : Query) (t : Trace) (source : List Atom) (all : Extremes) (s : Seen) → AreSeen q t source all →
    trace_of s.trail.now ≡ t → s.count ≡ suc all.count → s.numbers.items ≡ all.numbers.items ++ all.count ∷ [] →
    s.rows.atoms ≡ all.cube.atoms → Sees q t source s
sees_by q t source all s h trail count numbers rows = record {
  trail = trail;
  count = count ∙ ap suc h.1.count;
  extremes = λ a.
      let pushed = push_extremes all.numbers.items all.cube.atoms (seen_at q t source) all.count a h.1.count h.1.extremes in
      subst (λ (ns : List ℕ). AreExtremes ns (s.rows.atoms ++ a ∷ []) (seen_at q t source ++ a ∷ [])) (sym numbers)
      (subst (λ (xs : List Atom). AreExtremes (all.numbers.items ++ all.count ∷ []) (xs ++ a ∷ []) (seen_at q t source ++ a ∷ []))
      (sym rows) pushed);
}

-- a numbered row is one of all
numbered_at : (ns : List ℕ) (rows all : List Atom) (i : ℕ) (a : Atom) → HaveNumbers ns rows all → slice_get rows i ≡ Some a →
    (n : ℕ) × (slice_get all n ≡ Some a)
numbered_at ns [] all i a h k = cc
numbered_at [] (b ∷ rows) all i a h k = absurd h
numbered_at (n ∷ ns) (b ∷ rows) all zero a h k = let e : b ≡ a = cc in (n, h.0 ∙ ap (λ (x : Atom). Some x) e)
numbered_at (n ∷ ns) (b ∷ rows) all (suc i) a h k = numbered_at ns rows all i a h.1 k

-- one atom of the extreme rows, as a cut by all rows
pub cut_by_numbered : (q : Query) (t : Trace) (source whole : List Atom) (e : Extremes) (i : ℕ) (a : Atom) (cut : Cut) →
    IsOutline e whole → slice_get e.cube.atoms i ≡ Some a → cut.atoms.atoms ≡ a ∷ [] →
    IsRefutedBy (seen_at q t (source ++ a ∷ [])) cut.proof → IsCut q t source whole cut
cut_by_numbered q t source whole e i a cut h at is refuted =
    let n = numbered_at e.numbers.items e.cube.atoms whole i a h.extremes.numbered at in
    record {
      some = subst (λ (xs : List Atom). IsSome xs whole) (sym is) (some_one whole n.0 a n.1);
      several = λ none. let no : a ∷ [] ≡ [] = sym is ∙ none in cc;
      refuted = subst (λ (xs : List Atom). IsRefutedBy (seen_at q t (source ++ xs)) cut.proof) (sym is) refuted;
    }

-- the split by a cut of the preimage
pub split_by : (f : Frontier) (source pre : Extremes) (cut : Cut) (follows proofs : List Certificate) (number : ℕ) → follows ≡ [] →
    IsOutline source f.source.now.atoms → (p : IsPreOutline f pre) → HasPoint (source.cube.atoms ++ pre.cube.atoms) → f.at.from ≢ 0 →
    IsTrue (list_all is_negatable cut.atoms.atoms) →
    ((whole : List Atom) → IsOutline pre whole → IsCut f.query.now (trail_at f) f.source.now.atoms whole cut) →
    proofs ≡ cut.proof ∷ [] → MadeAt f number (step.Split f.at cut.atoms.atoms follows proofs)
split_by f source pre cut follows proofs number none s p point inner negatable cuts e =
    let c = cuts p.0 p.2 in
    let both = append-extremes source.numbers.items pre.numbers.items source.cube.atoms pre.cube.atoms f.source.now.atoms p.0
    s.extremes p.2.extremes in (
      refl,
      inner,
      none,
      (
        cut.proof,
        e,
        record {
          pre = p.0;
          is_pre = p.1;
          part = c.some;
          several = c.several;
          negatable = negatable;
          some_state = point.point;
          values = point.values;
          possible = extremes-hold point.point _ (source.cube.atoms ++ pre.cube.atoms) (f.source.now.atoms ++ p.0) both point.holds;
          refuted = c.refuted;
        },
      ),
    )

-- where no atom is found that has no negation, each has one
pub unnegatable_none : (atoms : List Atom) (o : Option Kept) → ((kept : Kept) → ¬ (o ≡ Some kept)) → IfUnnegatable atoms o →
    IsTrue (list_all is_negatable atoms)
unnegatable_none atoms None h k = k
unnegatable_none atoms (Some kept) h k = absurd (h kept refl)

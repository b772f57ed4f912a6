-- What extreme rows of a query tell of an entailment holds of all of its rows.
use Rattle.std.proofs.Common.{◌≡◌, inl, inr, ℕ, ℤ, suc, ◌+◌, ◌<◌, ◌≤◌, List, [], ◌∷◌, ◌++◌, length, get_or, take, arith, refl, sym, ap, subst, ◌∙◌}
use Rattle.std.specs.Prelude.{IsTrue}
use Rattle.std.proofs.lemmas.List.{length-append, take_all}
use Rattle.std.proofs.Math.Seq.{take-suc}
use Rattle.linear_formula.specs.LinearSum.{Is64, is_term, valuation}
use Rattle.linear_formula.specs.Formula.{HoldsAll, are_terms}
use Rattle.linear_formula.specs.Extremes.{AreExtremes, IsOutline}
use Rattle.linear_formula.specs.Results.{negated}
use Rattle.linear_formula.specs.declared.extremes.Extremes.{Extremes}
use Rattle.linear_formula.specs.declared.formula.Atom.{Atom}
use Rattle.linear_formula.proofs.ExtremeRows.{extremes-hold, extremes-terms, push_extremes}
use Rattle.linear_formula.proofs.Limits.{both}
use Rattle.infeasible_cert.specs.declared.certificate.Certificate.{Certificate}
use Rattle.infeasible_cert.specs.Refutation.{refutation_of}
use Rattle.infeasible_cert.specs.Right.{Refutes}
use Rattle.infeasible_cert.specs.Terms.{HasTerms}
use Rattle.shadow_elim.specs.Entailment.{IsPointOf, StopsAt}
use Rattle.shadow_elim.specs.Questions.{IsShownNotToEntail, with_negation}
use Rattle.lia_solver.proofs.SameAnswers.{met-extremes, never-extremes}
use Rattle.summary_form.specs.declared.query.Query.{Query}
use Rattle.summary_table.proofs.Questions.{shown_not_to_entail}
use Rattle.query_rules.specs.Rows.{AreRefuted, rows_of_query}
use Rattle.punch_step.specs.Entailing.{IsApart}
use Rattle.punch_step.proofs.Entailed.{negation_terms}

-- One more row, the negation of an atom

pub negation_extremes : (ns : List ℕ) (n : ℕ) (rows all : List Atom) (a : Atom) → n ≡ length all → AreExtremes ns rows all →
    AreExtremes (ns ++ n ∷ []) (with_negation rows a) (with_negation all a)
negation_extremes ns n rows all a e h = push_extremes ns rows all n (record { term = negated a.term }) e h

-- No entailment

pub not_entailed_by_all : (ns : List ℕ) (rows all right : List Atom) → AreExtremes ns rows all → IsTrue (are_terms all) →
    IsTrue (are_terms right) → IsShownNotToEntail rows right → IsShownNotToEntail all right
not_entailed_by_all ns rows all [] e h k s = s
not_entailed_by_all ns rows all (a ∷ right) e h k (can, inl met) =
    let ks = both (is_term a.term) (are_terms right) k in (
      can,
      inl (met-extremes (ns ++ length all ∷ []) (with_negation rows a) (with_negation all a)
          (negation_extremes ns (length all) rows all a refl e) (negation_terms all a h ks.0 can) met),
    )
not_entailed_by_all ns rows all (a ∷ right) e h k (can, inr rest) =
    let ks = both (is_term a.term) (are_terms right) k in (
      can,
      inr (
        never-extremes (ns ++ length all ∷ []) (with_negation rows a) (with_negation all a)
            (negation_extremes ns (length all) rows all a refl e) (negation_terms all a h ks.0 can) rest.0,
        not_entailed_by_all ns rows all right e h ks.1 rest.1,
      ),
    )

-- the point at which the extreme rows of a query stop is one of all of them
pub apart_by_extremes : (q s : Query) (e : Extremes) (right : List Atom) (at : List (ℕ × ℤ)) → IsOutline e (rows_of_query q) →
    right ≡ rows_of_query s → IsTrue (are_terms e.cube.atoms) → IsTrue (are_terms right) →
    StopsAt e.cube.atoms right (IsPointOf e.cube.atoms at) → Is64 (valuation at) → HoldsAll (valuation at) e.cube.atoms →
    (¬ HoldsAll (valuation at) right) → IsApart q s
apart_by_extremes q s e right at o r h k p w holds n =
    let terms = extremes-terms e.numbers.items e.cube.atoms (rows_of_query q) o.extremes h in
    record {
      shown = λ same_procedure same_exit. subst (IsShownNotToEntail (rows_of_query q)) r
          (not_entailed_by_all e.numbers.items e.cube.atoms (rows_of_query q) right o.extremes terms k
          (shown_not_to_entail e.cube.atoms right at p));
      not_entailed = λ entailed. n (subst (HoldsAll (valuation at)) (sym r) (entailed.entails (valuation at) w
          (extremes-hold (valuation at) e.numbers.items e.cube.atoms (rows_of_query q) o.extremes holds)));
    }

-- Renumbered certificates

-- what refutes extreme rows, as a certificate of all
pub record IsRenumbered (ns : List ℕ) (count : ℕ) (c d : Certificate) : Type 0 where
  pub refutes : (rows all : List Atom) → AreExtremes ns rows all → count ≡ length all → Refutes rows (refutation_of c) →
      Refutes all (refutation_of d)
  pub terms : HasTerms (refutation_of c) → HasTerms (refutation_of d)

abbrev pub AreRenumbered : List ℕ → ℕ → List Certificate → List Certificate → Type 0
AreRenumbered ns count [] [] = Unit {0}
AreRenumbered ns count [] (d ∷ ds) = ⊥
AreRenumbered ns count (c ∷ cs) [] = ⊥
AreRenumbered ns count (c ∷ cs) (d ∷ ds) = IsRenumbered ns count c d × AreRenumbered ns count cs ds

pub renumbered_push : (ns : List ℕ) (count : ℕ) (cs ds : List Certificate) (c d : Certificate) → AreRenumbered ns count cs ds →
    IsRenumbered ns count c d → AreRenumbered ns count (cs ++ c ∷ []) (ds ++ d ∷ [])
renumbered_push ns count [] [] c d h k = (k, tt)
renumbered_push ns count [] (e ∷ ds) c d h k = absurd h
renumbered_push ns count (b ∷ cs) [] c d h k = absurd h
renumbered_push ns count (b ∷ cs) (e ∷ ds) c d h k = (h.0, renumbered_push ns count cs ds c d h.1 k)

-- those so far, and the one at this place
pub renumbered_next : (ns : List ℕ) (count : ℕ) (cs ds : List Certificate) (i : ℕ) (c d : Certificate) → i < length cs → c ≡ get_or cs i c →
    AreRenumbered ns count (take i cs) ds → IsRenumbered ns count c d → AreRenumbered ns count (take (i + 1) cs) (ds ++ d ∷ [])
renumbered_next ns count cs ds i c d l e h k =
    let one : i + 1 ≡ suc i = omega arith in
    let next : take (i + 1) cs ≡ take i cs ++ c ∷ [] =
    ap (λ n. take n cs) one ∙ take-suc cs i c l ∙ ap (λ x. take i cs ++ x ∷ []) (sym e) in
    subst (λ xs. AreRenumbered ns count xs (ds ++ d ∷ [])) (sym next) (renumbered_push ns count (take i cs) ds c d h k)

pub renumbered_all : (ns : List ℕ) (count : ℕ) (cs ds : List Certificate) (i : ℕ) → length cs ≤ i → AreRenumbered ns count (take i cs) ds →
    AreRenumbered ns count cs ds
renumbered_all ns count cs ds i l h = subst (λ xs. AreRenumbered ns count xs ds) (take_all i cs l) h

pub refuted_by_extremes : (ns : List ℕ) (n : ℕ) (rows all right : List Atom) (cs ds : List Certificate) → n ≡ length all →
    AreExtremes ns rows all → AreRenumbered (ns ++ n ∷ []) (n + 1) cs ds → AreRefuted (with_negation rows) right cs →
    AreRefuted (with_negation all) right ds
refuted_by_extremes ns n rows all [] [] [] l e h r = tt
refuted_by_extremes ns n rows all [] [] (d ∷ ds) l e h r = absurd h
refuted_by_extremes ns n rows all [] (c ∷ cs) ds l e h r = absurd r
refuted_by_extremes ns n rows all (a ∷ right) [] ds l e h r = absurd r
refuted_by_extremes ns n rows all (a ∷ right) (c ∷ cs) [] l e h r = absurd h
refuted_by_extremes ns n rows all (a ∷ right) (c ∷ cs) (d ∷ ds) l e h r =
    let x = negation_extremes ns n rows all a l e in
    let count : n + 1 ≡ length (with_negation all a) =
    omega (arith, l, length-append all ((record { term = negated a.term }) ∷ [])) in (
      record {
        right = h.0.refutes (with_negation rows a) (with_negation all a) x count r.0.right;
        atoms_terms = extremes-terms (ns ++ n ∷ []) (with_negation rows a) (with_negation all a) x r.0.atoms_terms;
        terms = h.0.terms r.0.terms;
      },
      refuted_by_extremes ns n rows all right cs ds l e h.1 r.1,
    )

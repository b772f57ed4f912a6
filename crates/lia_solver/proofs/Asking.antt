-- What the questions of atoms say, one after the other.
use Rattle.std.proofs.Common.{◌≡◌, ◌⊎◌, inl, inr, ℕ, suc, zero, ◌<◌, ◌+◌, Bool, false, List, [], ◌∷◌, ◌++◌, length, take, drop, get_or, Result, Ok, Err, ℤ, pos, negsuc, ◌↔◌, arith, sym, ap, subst, ◌∙◌}
use Rattle.std.specs.Prelude.{IsTrue, All, ◌≤ℤ◌, OnOk, if◌then◌else◌}
use Rattle.std.specs.Result.{is_err}
use Rattle.std.proofs.lemmas.Int.{ints}
use Rattle.std.proofs.lemmas.List.{take_more, drop_more, take-append-drop, map-append}
use Rattle.std.proofs.lemmas.List.Elements.{All-push}
use Rattle.linear_formula.specs.LinearSum.{LinearSum, Valuation, Is64, value_of, is_within, is_term}
use Rattle.linear_formula.specs.Results.{negated}
use Rattle.linear_formula.specs.Formula.{Holds, HoldsAll}
use Rattle.linear_formula.specs.declared.formula.Atom.{Atom}
use Rattle.linear_formula.specs.declared.question.Question.TheVariants as question
use Rattle.linear_formula.proofs.Limits.{IsTerm-from_test, test-from_Within}
use Rattle.infeasible_cert.specs.declared.certificate.Certificate.{Certificate}
use Rattle.linear_formula.proofs.JoinedRows.{holds_both, holds_parts}
use Rattle.infeasible_cert.specs.Refutation.{refutation_of}
use Rattle.infeasible_cert.specs.Right.{Refutes, with_columns, columns_of, rows_of}
use Rattle.infeasible_cert.specs.Terms.{HasTerms}
use Rattle.shadow_elim.specs.Plan.{cube_of}
use Rattle.shadow_elim.proofs.NamedColumns.{columns-last}
use Rattle.shadow_elim.specs.Questions.{with_negation, CanNegate, IsEntailed, IsShownToEntail}
use Rattle.shadow_elim.specs.Entailment.{question_of, StopsAt}
use Rattle.lia_solver.specs.Entailment.{RefuteEach}
use Rattle.lia_solver.specs.steps.Asked.{IsNegation}

-- The atoms that hold

pub holds-at : (v : Valuation) (atoms : List Atom) (k : ℕ) (d : Atom) → k < length atoms → HoldsAll v atoms → Holds v (get_or atoms k d)
holds-at v [] k d l h = absurd (omega (arith, l))
holds-at v (a ∷ atoms) zero d l h = h.0
holds-at v (a ∷ atoms) (suc k) d l h = holds-at v atoms k d (omega (arith, l)) h.1

holds_or_not : (v : Valuation) (atom : Atom) → Holds v atom ⊎ (¬ Holds v atom)
holds_or_not v atom = by_value (value_of v atom.term) where
  by_value : (z : ℤ) → (z ≤ℤ pos 0) ⊎ (¬ (z ≤ℤ pos 0))
  by_value (pos zero) = inl (omega (arith, ints))
  by_value (pos (suc n)) = inr (λ h. omega (arith, ints, h))
  by_value (negsuc n) = inl (omega (arith, ints))

-- The negation

on-ok : {T E : Type 0} (P : Type 0) (r : Result T E) (b : Bool) → b ≡ is_err r → b ≡ false → OnOk r P → P
on-ok P (Ok x) b e f h = h
on-ok P (Err x) b e f h = absurd (cc)

pub negation-is : {T E : Type 0} (atom copied other : Atom) (r : Result T E) (b : Bool) → copied ≡ atom → b ≡ is_err r → b ≡ false →
    OnOk r (other.term ≡ negated copied.term) → OnOk r (IsTrue (is_term other.term)) →
    OnOk r ((v : ℕ → ℤ) → (Holds v other ↔ (¬ Holds v copied))) → IsNegation atom other
negation-is atom copied other r b same e f value term law = record {
  value = on-ok (other.term ≡ negated copied.term) r b e f value ∙ ap (λ (a : Atom). negated a.term) same;
  term = on-ok (IsTrue (is_term other.term)) r b e f term;
  law = λ v. subst (λ (a : Atom). Holds v other ↔ (¬ Holds v a)) same
      (on-ok ((v : ℕ → ℤ) → (Holds v other ↔ (¬ Holds v copied))) r b e f law v);
}

pub can-negate : (atom : Atom) (t : LinearSum) → t ≡ negated atom.term → IsTrue (is_term t) → CanNegate atom
can-negate atom t e h =
    subst (λ u. IsTrue (is_within u)) e (test-from_Within t (IsTerm-from_test t h).within)

pub asked-is : (left asked : List Atom) (atom other : Atom) → asked ≡ left ++ other ∷ [] → other.term ≡ negated atom.term →
    asked ≡ with_negation left atom
asked-is left asked atom other e f = e ∙ ap (λ t. left ++ record { term = t } ∷ []) f

pub question-is : (left asked : List Atom) (atom : Atom) → CanNegate atom → asked ≡ with_negation left atom → question.Cube (cube_of asked)
    ≡ question_of left atom
question-is left asked atom h e =
    ap (λ as_. question.Cube (cube_of as_)) e ∙ ap (λ b. if b then question.Cube (cube_of (with_negation left atom)) else question.Combine
    ((negsuc 0, atom.term) ∷ []) (pos 1)) (sym h)

-- the columns of the left cube and of the negation
pub asked-columns : (left asked : List Atom) (other : Atom) (columns all : List ℕ) → asked ≡ left ++ other ∷ [] → columns
    ≡ columns_of (rows_of left) → all ≡ with_columns other.term.parts columns → all ≡ columns_of (rows_of asked)
asked-columns left asked other columns all e ec ea =
    ea ∙ ap (with_columns other.term.parts) ec ∙ sym (columns-last (rows_of left) other.term)
    ∙ ap columns_of (sym (ap rows_of e ∙ map-append (λ (a : Atom). a.term) left (other ∷ [])))

-- an atom follows where its negation never holds
pub follows : (left asked : List Atom) (atom other : Atom) → asked ≡ left ++ other ∷ [] →
    ((v : Valuation) → Holds v other ↔ (¬ Holds v atom)) →
    ((v : Valuation) → Is64 v → HoldsAll v asked → ⊥) → (v : Valuation) → Is64 v → HoldsAll v left → Holds v atom
follows left asked atom other e law never v w h = by_case (holds_or_not v atom) where
  by_case : Holds v atom ⊎ (¬ Holds v atom) → Holds v atom
  by_case (inl k) = k
  by_case (inr n) =
      absurd (never v w (subst (HoldsAll v) (sym e) (holds_both v left (other ∷ []) h ((law v).1 n, tt))))

pub fails : (left asked : List Atom) (atom other : Atom) (v : Valuation) → asked ≡ left ++ other ∷ [] → (Holds v other ↔ (¬ Holds v atom)) →
    HoldsAll v asked → HoldsAll v left × (¬ Holds v atom)
fails left asked atom other v e law h =
    let r = holds_parts v left (other ∷ []) (subst (HoldsAll v) e h) in
    (r.0, law.0 r.1.0)

-- One atom after the other

pub record SoFar (left items : List Atom) (k : ℕ) (cs : List Certificate) : Type 0 where
  pub entailed : IsShownToEntail left (take k items)
  pub refuted : RefuteEach left (take k items) cs
  pub met : (v : Valuation) → Is64 v → HoldsAll v left → HoldsAll v (take k items)
  pub terms : All (λ c. HasTerms (refutation_of c)) cs

entailed-more : (left xs : List Atom) (atom : Atom) → IsShownToEntail left xs → IsEntailed left atom →
    IsShownToEntail left (xs ++ atom ∷ [])
entailed-more left [] atom h k = (k, tt)
entailed-more left (x ∷ xs) atom h k = (h.0, entailed-more left xs atom h.1 k)

refuted-more : (left xs : List Atom) (cs : List Certificate) (atom : Atom) (c : Certificate) → RefuteEach left xs cs → CanNegate atom →
    Refutes (with_negation left atom) (refutation_of c) → RefuteEach left (xs ++ atom ∷ []) (cs ++ c ∷ [])
refuted-more left [] [] atom c h n r = (n, r, tt)
refuted-more left [] (d ∷ cs) atom c h n r = absurd h
refuted-more left (x ∷ xs) [] atom c h n r = absurd h
refuted-more left (x ∷ xs) (d ∷ cs) atom c h n r = (h.0, h.1, refuted-more left xs cs atom c h.2 n r)

pub so-far-more : (left items : List Atom) (k : ℕ) (cs more : List Certificate) (atom : Atom) (c : Certificate) → SoFar left items k cs →
    k < length items → atom ≡ get_or items k atom → more ≡ cs ++ c ∷ [] → IsEntailed left atom → Refutes (with_negation left atom)
    (refutation_of c) → HasTerms (refutation_of c) → ((v : Valuation) → Is64 v → HoldsAll v left → Holds v atom) →
    SoFar left items (k + 1) more
so-far-more left items k cs more atom c s l e em h r terms f =
    let front : take (k + 1) items ≡ take k items ++ atom ∷ [] = take_more items k atom l ∙ ap (λ a. take k items ++ a ∷ []) (sym e) in
    record {
      entailed = subst (IsShownToEntail left) (sym front) (entailed-more left (take k items) atom s.entailed h);
      refuted = subst (λ (as_ : List Atom). RefuteEach left as_ more) (sym front) (subst (RefuteEach left (take k items ++ atom ∷ []))
          (sym em) (refuted-more left (take k items) cs atom c s.refuted h.0 r));
      met = λ v w m. subst (HoldsAll v) (sym front) (holds_both v (take k items) (atom ∷ []) (s.met v w m) (f v w m, tt));
      terms = subst (All (λ d. HasTerms (refutation_of d))) (sym em) (All-push (λ d. HasTerms (refutation_of d)) cs c s.terms terms);
    }

pub stops : (left items right : List Atom) (k : ℕ) (cs : List Certificate) (atom : Atom) (P : Atom → Type 0) → items ≡ right →
    SoFar left items k cs → k < length items → atom ≡ get_or items k atom → P atom → StopsAt left right P
stops left items right k cs atom P e s l f p = (
  take k items,
  atom,
  drop (k + 1) items,
  sym e ∙ sym (take-append-drop k items) ∙ ap (λ as_. take k items ++ as_) (drop_more items k atom l)
      ∙ ap (λ a. take k items ++ a ∷ drop (k + 1) items) (sym f),
  s.entailed,
  p,
)

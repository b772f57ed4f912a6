-- What is left after a column, from what its pairs gave.
use Rattle.std.proofs.Common.{◌≡◌, ℕ, Bool, true, false, ◌&&◌, List, [], ◌∷◌, ◌++◌, map, Result, Err, refl, sym, ap, subst, ◌∙◌}
use Rattle.std.specs.Prelude.{IsTrue, All, filter, flat_map, if◌then◌else◌}
use Rattle.std.specs.List.{list_all}
use Rattle.std.proofs.lemmas.List.{map-append}
use Rattle.std.proofs.lemmas.List.Elements.{All-nil, All-cons, All-head, All-tail, filter_passes}
use Rattle.std.proofs.lemmas.List.Folds.{list_all-append}
use Rattle.linear_formula.specs.LinearSum.{LinearSum, is_within}
use Rattle.linear_formula.specs.declared.error.LinError.{LinError}
use Rattle.linear_formula.specs.declared.error.LinError.TheVariants as lin
use Rattle.shadow_elim.specs.declared.row.Row.{Row}
use Rattle.shadow_elim.specs.declared.pairing.Candidate.{Candidate}
use Rattle.shadow_elim.specs.declared.shadow.ShadowError.{ShadowError}
use Rattle.shadow_elim.specs.declared.shadow.ShadowError.TheVariants as shadow
use Rattle.shadow_elim.specs.Errors.{shadow_error_of}
use Rattle.shadow_elim.specs.Division.{tightened}
use Rattle.shadow_elim.specs.Elimination.{is_upper, is_lower, is_free, pair_sum, pairs, pair_sums}
use Rattle.shadow_elim.specs.steps.Making.{candidate_terms, uppers, lowers, frees, known, made, made_of_all, candidates, next_after, numbered}
use Rattle.shadow_elim.specs.Stages.{terms_of}
use Rattle.shadow_elim.specs.steps.Lists.{AreAdded}
use Rattle.shadow_elim.proofs.Holding.{added-then}
use Rattle.shadow_elim.proofs.Tests.{both_true, first_true, second_true}

-- The terms of the rows and of the candidates

pub terms-filter : (p : LinearSum → Bool) (rows : List Row) → terms_of (filter (λ r. p r.term) rows) ≡ filter p (terms_of rows)
terms-filter p [] = refl
terms-filter p (r ∷ rows) = by_test (p r.term) (terms-filter p rows) where
  by_test : (b : Bool) → terms_of (filter (λ q. p q.term) rows) ≡ filter p (terms_of rows) →
      terms_of (if b then (r ∷ filter (λ q. p q.term) rows) else filter (λ q. p q.term) rows)
      ≡ (if b then (r.term ∷ filter p (terms_of rows)) else filter p (terms_of rows))
  by_test true e = ap (λ (ts : List LinearSum). r.term ∷ ts) e
  by_test false e = e

terms-known : (rows : List Row) → candidate_terms (map known rows) ≡ terms_of rows
terms-known [] = refl
terms-known (r ∷ rows) = ap (λ (ts : List LinearSum). r.term ∷ ts) (terms-known rows)

abbrev pairs_of : List LinearSum → List LinearSum → List (LinearSum × LinearSum)
pairs_of us ls = flat_map (λ u. map (λ l. (u, l)) ls) us

terms-made_with : (x : ℕ) (u : Row) (ls : List Row) → candidate_terms (map (made x u) ls) ≡ map tightened
    (map (pair_sum x) (map (λ l. (u.term, l)) (terms_of ls)))
terms-made_with x u [] = refl
terms-made_with x u (l ∷ ls) =
    ap (λ (ts : List LinearSum). tightened (pair_sum x (u.term, l.term)) ∷ ts) (terms-made_with x u ls)

terms-made : (x : ℕ) (us ls : List Row) → candidate_terms (made_of_all x us ls) ≡ map tightened
    (map (pair_sum x) (pairs_of (terms_of us) (terms_of ls)))
terms-made x [] ls = refl
terms-made x (u ∷ us) ls =
    let ps = map (λ (l : LinearSum). (u.term, l)) (terms_of ls) in
    let qs = pairs_of (terms_of us) (terms_of ls) in
    map-append (λ (c : Candidate). c.term) (map (made x u) ls) (made_of_all x us ls)
    ∙ (ap (λ (ts : List LinearSum). ts ++ candidate_terms (made_of_all x us ls)) (terms-made_with x u ls)
    ∙ (ap (λ (ts : List LinearSum). map tightened (map (pair_sum x) ps) ++ ts) (terms-made x us ls)
    ∙ (sym (map-append tightened (map (pair_sum x) ps) (map (pair_sum x) qs)) ∙ ap (λ (ts : List LinearSum). map tightened ts)
    (sym (map-append (pair_sum x) ps qs)))))

pairs-of_rows : (x : ℕ) (rows : List Row) → pairs_of (terms_of (uppers x rows)) (terms_of (lowers x rows)) ≡ pairs x (terms_of rows)
pairs-of_rows x rows =
    ap (λ (us : List LinearSum). pairs_of us (terms_of (lowers x rows))) (terms-filter (is_upper x) rows)
    ∙ ap (λ (ls : List LinearSum). pairs_of (filter (is_upper x) (terms_of rows)) ls) (terms-filter (is_lower x) rows)

pub terms-candidates : (x : ℕ) (rows : List Row) → candidate_terms (candidates x rows) ≡ filter (is_free x) (terms_of rows) ++ map tightened
    (pair_sums x (terms_of rows))
terms-candidates x rows =
    map-append (λ (c : Candidate). c.term) (map known (frees x rows)) (made_of_all x (uppers x rows) (lowers x rows))
    ∙ (ap (λ (ts : List LinearSum). ts ++ candidate_terms (made_of_all x (uppers x rows) (lowers x rows)))
    (terms-known (frees x rows) ∙ terms-filter (is_free x) rows) ∙ ap (λ (ts : List LinearSum). filter (is_free x) (terms_of rows) ++ ts)
    (terms-made x (uppers x rows) (lowers x rows) ∙ ap (λ (ps : List (LinearSum × LinearSum)). map tightened (map (pair_sum x) ps))
    (pairs-of_rows x rows)))

pub terms-numbered : (next : ℕ) (cs : List Candidate) → terms_of (numbered next cs) ≡ candidate_terms cs
terms-numbered next [] = refl
terms-numbered next (c ∷ cs) =
    ap (λ (ts : List LinearSum). c.term ∷ ts) (terms-numbered (next_after next c.origin) cs)

-- The sums are within the limits of a term

abbrev pub AreWithin : ℕ → List Row → List Row → Type 0
AreWithin x us ls = All (λ u. All (λ l. IsTrue (is_within (pair_sum x (u.term, l.term)))) ls) us

within-with : (x : ℕ) (u : Row) (ls : List Row) → All (λ l. IsTrue (is_within (pair_sum x (u.term, l.term)))) ls →
    list_all is_within (map (pair_sum x) (map (λ l. (u.term, l)) (terms_of ls))) ≡ true
within-with x u [] h = refl
within-with x u (l ∷ ls) h =
    both_true (is_within (pair_sum x (u.term, l.term))) (list_all is_within (map (pair_sum x) (map (λ k. (u.term, k)) (terms_of ls))))
    (All-head (λ (k : Row). IsTrue (is_within (pair_sum x (u.term, k.term)))) l ls h)
    (within-with x u ls (All-tail (λ (k : Row). IsTrue (is_within (pair_sum x (u.term, k.term)))) l ls h))

with-within : (x : ℕ) (u : Row) (ls : List Row) → list_all is_within (map (pair_sum x) (map (λ l. (u.term, l)) (terms_of ls))) ≡ true →
    All (λ l. IsTrue (is_within (pair_sum x (u.term, l.term)))) ls
with-within x u [] h = All-nil (λ (k : Row). IsTrue (is_within (pair_sum x (u.term, k.term))))
with-within x u (l ∷ ls) h =
    All-cons (λ (k : Row). IsTrue (is_within (pair_sum x (u.term, k.term)))) l ls (first_true (is_within (pair_sum x (u.term, l.term)))
    (list_all is_within (map (pair_sum x) (map (λ k. (u.term, k)) (terms_of ls)))) h) (with-within x u ls
    (second_true (is_within (pair_sum x (u.term, l.term))) (list_all is_within (map (pair_sum x) (map (λ k. (u.term, k)) (terms_of ls))))
    h))

split-within : (x : ℕ) (u : Row) (us ls : List Row) → list_all is_within (map (pair_sum x) (pairs_of (terms_of (u ∷ us)) (terms_of ls)))
    ≡ (list_all is_within (map (pair_sum x) (map (λ l. (u.term, l)) (terms_of ls))) && list_all is_within
    (map (pair_sum x) (pairs_of (terms_of us) (terms_of ls))))
split-within x u us ls =
    let ps = map (λ (l : LinearSum). (u.term, l)) (terms_of ls) in
    let qs = pairs_of (terms_of us) (terms_of ls) in
    ap (λ (ts : List LinearSum). list_all is_within ts) (map-append (pair_sum x) ps qs) ∙ list_all-append is_within (map (pair_sum x) ps)
    (map (pair_sum x) qs)

within-all : (x : ℕ) (us ls : List Row) → AreWithin x us ls → list_all is_within (map (pair_sum x) (pairs_of (terms_of us) (terms_of ls)))
    ≡ true
within-all x [] ls h = refl
within-all x (u ∷ us) ls h =
    split-within x u us ls ∙ both_true (list_all is_within (map (pair_sum x) (map (λ l. (u.term, l)) (terms_of ls))))
    (list_all is_within (map (pair_sum x) (pairs_of (terms_of us) (terms_of ls))))
    (within-with x u ls (All-head (λ (v : Row). All (λ l. IsTrue (is_within (pair_sum x (v.term, l.term)))) ls) u us h))
    (within-all x us ls (All-tail (λ (v : Row). All (λ l. IsTrue (is_within (pair_sum x (v.term, l.term)))) ls) u us h))

all-within : (x : ℕ) (us ls : List Row) → list_all is_within (map (pair_sum x) (pairs_of (terms_of us) (terms_of ls))) ≡ true →
    AreWithin x us ls
all-within x [] ls h = All-nil (λ (v : Row). All (λ l. IsTrue (is_within (pair_sum x (v.term, l.term)))) ls)
all-within x (u ∷ us) ls h =
    let k = sym (split-within x u us ls) ∙ h in
    All-cons (λ (v : Row). All (λ l. IsTrue (is_within (pair_sum x (v.term, l.term)))) ls) u us
    (with-within x u ls (first_true (list_all is_within (map (pair_sum x) (map (λ l. (u.term, l)) (terms_of ls))))
    (list_all is_within (map (pair_sum x) (pairs_of (terms_of us) (terms_of ls)))) k)) (all-within x us ls (second_true
    (list_all is_within (map (pair_sum x) (map (λ l. (u.term, l)) (terms_of ls))))
    (list_all is_within (map (pair_sum x) (pairs_of (terms_of us) (terms_of ls)))) k))

sums-within : (x : ℕ) (rows us ls : List Row) → us ≡ uppers x rows → ls ≡ lowers x rows →
    list_all is_within (map (pair_sum x) (pairs_of (terms_of us) (terms_of ls))) ≡ list_all is_within (pair_sums x (terms_of rows))
sums-within x rows us ls e f =
    ap (λ (ps : List (LinearSum × LinearSum)). list_all is_within (map (pair_sum x) ps))
    (ap (λ (vs : List Row). pairs_of (terms_of vs) (terms_of ls)) e
    ∙ (ap (λ (ks : List Row). pairs_of (terms_of (uppers x rows)) (terms_of ks)) f ∙ pairs-of_rows x rows))

pub sums-all-within : (x : ℕ) (rows us ls : List Row) → us ≡ uppers x rows → ls ≡ lowers x rows → AreWithin x us ls →
    list_all is_within (pair_sums x (terms_of rows)) ≡ true
sums-all-within x rows us ls hu hl w = sym (sums-within x rows us ls hu hl) ∙ within-all x us ls w

pub sums-not-within : (x : ℕ) (rows us ls : List Row) → us ≡ uppers x rows → ls ≡ lowers x rows → (AreWithin x us ls → ⊥) →
    list_all is_within (pair_sums x (terms_of rows)) ≡ false
sums-not-within x rows us ls hu hl h =
    sym (sums-within x rows us ls hu hl) ∙ by_test (list_all is_within (map (pair_sum x) (pairs_of (terms_of us) (terms_of ls))))
    (λ e. h (all-within x us ls e)) where
      by_test : (b : Bool) → (b ≡ true → ⊥) → b ≡ false
      by_test true k = absurd (k refl)
      by_test false k = refl

-- All candidates of the column were added

pub added-all_candidates : (x : ℕ) (xs : List ℕ) (rows us ls fs : List Row) (old mid new : List (List Candidate)) → us ≡ uppers x rows →
    ls ≡ lowers x rows → fs ≡ frees x rows → AreAdded xs (map known fs) old mid → AreAdded xs (made_of_all x us ls) mid new →
    AreAdded xs (candidates x rows) old new
added-all_candidates x xs rows us ls fs old mid new hu hl hf g k =
    added-then xs (map known (frees x rows)) (made_of_all x (uppers x rows) (lowers x rows)) old mid new
    (subst (λ (rs : List Row). AreAdded xs (map known rs) old mid) hf g)
    (subst (λ (vs : List Row). AreAdded xs (made_of_all x vs (lowers x rows)) mid new) hu
    (subst (λ (ks : List Row). AreAdded xs (made_of_all x us ks) mid new) hl k))

-- The error that is passed on is `Wide` only where that of the terms was

pub was_wide : {Y : Type 0} (s : Result Y ShadowError) (e : ShadowError) (d : LinError) → s ≡ Err e → e ≡ shadow_error_of d →
    s ≡ Err shadow.Wide → d ≡ lin.Wide
was_wide s e lin.Wide p q w = refl
was_wide s e lin.Memory p q w = absurd (cc)

-- The rows on both sides of the column

pub passes-terms : (p : LinearSum → Bool) (rows kept : List Row) → kept ≡ filter (λ r. p r.term) rows → All (λ r. IsTrue (p r.term)) kept
passes-terms p rows kept e =
    subst (λ (rs : List Row). All (λ r. IsTrue (p r.term)) rs) (sym e) (filter_passes (λ r. p r.term) rows)

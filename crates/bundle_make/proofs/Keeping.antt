-- Which certificates are kept, from one atom on.
use Rattle.std.proofs.Common.{◌≡◌, ⊎_elim, ℕ, zero, suc, ◌+◌, ◌-◌, ◌<◌, ◌≤◌, List, [], ◌∷◌, ◌++◌, length, map, take, drop, get_or, min, Bool, true, false, arith, add-one, append_assoc, refl, sym, ap, ◌∙◌}
use Rattle.std.specs.Prelude.{if◌then◌else◌}
use Rattle.std.proofs.Math.Seq.{drop-cons}
use Rattle.std.proofs.lemmas.Bool.{cases_lt}
use Rattle.std.proofs.lemmas.List.{append-nil, length-drop, map-append, take_all}
use Rattle.linear_formula.specs.declared.formula.Atom.{Atom}
use Rattle.infeasible_cert.specs.Refutation.{Refutation, refutation_of}
use Rattle.infeasible_cert.specs.declared.certificate.Certificate.{Certificate}
use Rattle.bundle_check.specs.RightClaims.{is_among}
use Rattle.bundle_check.specs.Walked.{kept}
use Rattle.bundle_check.proofs.Answering.{drop_past}
use Rattle.bundle_check.proofs.Following.{none_kept}

-- some item
some_item : {A : Type 0} (xs : List A) → 0 < length xs → A
some_item [] h = absurd (omega (arith, h))
some_item (x ∷ xs) h = x

pub kept_append : (rows first rest : List Atom) (cs : List Certificate) →
    kept rows (first ++ rest) cs ≡ kept rows first cs ++ kept rows rest (drop (length first) cs)
kept_append rows [] rest cs = refl
kept_append rows (a ∷ first) rest [] = sym (none_kept rows rest)
kept_append rows (a ∷ first) rest (c ∷ cs) = by_test (is_among rows a) (kept_append rows first rest cs) where
  more : List Refutation
  more = kept rows rest (drop (length first) cs)

  by_test : (t : Bool) → kept rows (first ++ rest) cs ≡ kept rows first cs ++ more →
      (if t then kept rows (first ++ rest) cs else refutation_of c ∷ kept rows (first ++ rest) cs)
      ≡ (if t then kept rows first cs else refutation_of c ∷ kept rows first cs) ++ more
  by_test true e = e
  by_test false e = ap (λ ds. refutation_of c ∷ ds) e

-- no certificate is left after the last one
pub drop_least : (n : ℕ) (cs : List Certificate) → drop (min n (length cs)) cs ≡ drop n cs
drop_least n cs = ⊎_elim few many (cases_lt n (length cs)) where
  few : n < length cs → drop (min n (length cs)) cs ≡ drop n cs
  few h = ap (λ k. drop k cs) (omega (arith, h))

  many : length cs ≤ n → drop (min n (length cs)) cs ≡ drop n cs
  many h = drop_past cs (min n (length cs)) (omega (arith, h)) ∙ sym (drop_past cs n h)

-- all that is kept is what was kept so far and what is kept of the rest
pub record AreKept (rows atoms : List Atom) (cs : List Certificate) (old new : List Certificate) (i : ℕ) : Type 0 where
  pub all : map refutation_of new ++ kept rows (drop i atoms) (drop i cs) ≡ map refutation_of old ++ kept rows atoms cs

module _ (rows atoms : List Atom) (cs old : List Certificate) where
  pub kept_before : AreKept rows atoms cs old old 0
  kept_before = record { all = refl }

  past : (i : ℕ) (xs : List Atom) (ds : List Certificate) → min (length xs) (length ds) ≤ i → kept rows (drop i xs) (drop i ds) ≡ []
  past zero [] ds h = refl
  past zero (x ∷ xs) [] h = refl
  past zero (x ∷ xs) (d ∷ ds) h = absurd (omega (arith, h))
  past (suc i) [] ds h = refl
  past (suc i) (x ∷ xs) [] h = none_kept rows (drop i xs)
  past (suc i) (x ∷ xs) (d ∷ ds) h = past i xs ds (omega (arith, h))

  pub kept_behind : (new : List Certificate) (i : ℕ) → min (length atoms) (length cs) ≤ i → AreKept rows atoms cs old new i →
      map refutation_of new ≡ map refutation_of old ++ kept rows atoms cs
  kept_behind new i h k = sym (append-nil _) ∙ (ap (λ ds. map refutation_of new ++ ds) (sym (past i atoms cs h)) ∙ k.all)

  module _ (new : List Certificate) (i : ℕ) (a : Atom) (low : i < min (length atoms) (length cs))
      (k : AreKept rows atoms cs old new i) where
    here : (c : Certificate) → kept rows (drop i atoms) (drop i cs)
        ≡ kept rows (get_or atoms i a ∷ drop (i + 1) atoms) (get_or cs i c ∷ drop (i + 1) cs)
    here c = rw add-one (λ x. kept rows (drop-cons atoms i a (omega (arith, low)) x) (drop-cons cs i c (omega (arith, low)) x))

    abbrev chosen : Certificate → Bool → List Refutation
    chosen c b = if b then kept rows (drop (i + 1) atoms) (drop (i + 1) cs) else refutation_of (get_or cs i c)
        ∷ kept rows (drop (i + 1) atoms) (drop (i + 1) cs)

    pub passed_asked : is_among rows (get_or atoms i a) ≡ true → AreKept rows atoms cs old new (i + 1)
    passed_asked t =
        let c : Certificate = some_item cs (omega (arith, low)) in
        record { all = ap (λ ds. map refutation_of new ++ ds) (sym (here c ∙ ap (chosen c) t)) ∙ k.all }

    pub passed_other : is_among rows (get_or atoms i a) ≡ false → (c d : Certificate) → refutation_of d ≡ refutation_of (get_or cs i c) →
        AreKept rows atoms cs old (new ++ d ∷ []) (i + 1)
    passed_other t c d same =
        let left : List Refutation = kept rows (drop (i + 1) atoms) (drop (i + 1) cs) in
        let split : map refutation_of (new ++ d ∷ []) ≡ map refutation_of new ++ refutation_of d ∷ [] = map-append refutation_of new
        (d ∷ [])
        in
        record {
          all =
              ap (λ ds. ds ++ left) split ∙ (append_assoc (map refutation_of new) (refutation_of d ∷ []) left
              ∙ (ap (λ (x : Refutation). map refutation_of new ++ x ∷ left) same
              ∙ (ap (λ ds. map refutation_of new ++ ds) (sym (here c ∙ ap (chosen c) t)) ∙ k.all)));
        }

-- the certificates of the atoms of two lists
pub kept_both : (rows first rest : List Atom) (cs : List Certificate) (u : ℕ) (some all : List Refutation) →
    u ≡ min (length first) (length cs) →
    some ≡ kept rows first cs → all ≡ some ++ kept rows rest (take (length cs - u) (drop u cs)) → all ≡ kept rows (first ++ rest) cs
kept_both rows first rest cs u some all is e f =
    let whole : take (length cs - u) (drop u cs) ≡ drop u cs = take_all (length cs - u) (drop u cs) (omega (arith, length-drop u cs)) in
    let left : drop u cs ≡ drop (length first) cs = ap (λ k. drop k cs) is ∙ drop_least (length first) cs in
    f ∙ ((λ i. e i ++ kept rows rest ((whole ∙ left) i)) ∙ sym (kept_append rows first rest cs))

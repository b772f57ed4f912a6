-- Writes to single places are changes of the whole list.
use Rattle.std.proofs.Common.{◌≡◌, ℕ, ◌<◌, List, length, Bool, true, false, cond, Option, Some, refl, sym, ap, ◌∙◌, subst, arith}
use Rattle.std.specs.Prelude.{slice_get, slice_set, get_or, ◌==◌, ◌&&◌}
use Rattle.std.proofs.lemmas.Bool.{and_right, eq-eqb, ne_eqb, false_from_ne_true}
use Rattle.std.proofs.lemmas.Option.{get_or_from_slice_get}
use Rattle.query_tree.specs.declared.Status.{Status}
use Rattle.query_tree.specs.declared.Entry.{Entry}
use Rattle.query_tree.specs.Forest.{changed, is_starved, is_place, stir, given, rest_at}
use Rattle.query_tree.proofs.Lists.{set_changed, changed_changed, changed_same, length_changed, within}
use Rattle.query_tree.proofs.Tests.{cond_eq, place_is}

module _ {T : Type 0} where
  module _ (es : List (Entry T)) (own : Entry T) (i : ℕ) (at : slice_get es i ≡ Some own) (d : Entry T) (st : Status) (left s : ℕ)
      (p : T) where
    abbrev pub written : List (Entry T)
    written = slice_set es i (given st left s p (get_or es i d))

    written_is : written ≡ changed (λ k e. cond (k == i) (given st left s p e) e) es
    written_is = set_changed (given st left s p) es i d (within es i own at)

    pub rest_writes_no : is_starved st ≡ false → written ≡ changed (rest_at own i st left s p) es
    rest_writes_no no' = written_is ∙ changed_same _ _ es (λ k e a. cond_eq (λ (y : Entry T). y ≡ rest_at own i st left s p k e) k i _ e
        (λ d. rw (eq-eqb k i d) refl)
        (λ d. rw (ne_eqb k i d, and_right (is_place own.parent k) (is_starved st) no') refl))

    pub rest_writes : is_starved st ≡ true → ((q : ℕ) → own.parent ≡ Some q → q < i)
        → (o : Option ℕ) → o ≡ (get_or es i d).parent → changed (λ k e. cond (is_place o k) (stir e) e) written
        ≡ changed (rest_at own i st left s p) es
    rest_writes yes' above o is =
        let po : o ≡ own.parent = is ∙ ap (λ (x : Entry T). x.parent) (get_or_from_slice_get es i own d at) in
        subst (λ z. changed (λ k e. cond (is_place z k) (stir e) e) written ≡ changed (rest_at own i st left s p) es) (sym po)
        (ap (changed (λ k e. cond (is_place own.parent k) (stir e) e)) written_is
        ∙ (changed_changed (λ k e. cond (k == i) (given st left s p e) e) (λ k e. cond (is_place own.parent k) (stir e) e) 0 es
        ∙ changed_same _ (rest_at own i st left s p) es (λ k e a. cond_eq (λ (y : Entry T). cond (is_place own.parent k) (stir y) y
        ≡ rest_at own i st left s p k e) k i _ e
        (λ x. rw (
          x,
          eq-eqb i i refl,
          false_from_ne_true (is_place own.parent i) (λ b. let lt : i < i = above i (place_is own.parent i b) in
              omega arith),
        ) refl)
        (λ x. rw (ne_eqb k i x) (by_test (is_place own.parent k) (is_starved st) e yes')))))
      where
        by_test : (a b : Bool) (e : Entry T) → b ≡ true → cond a (stir e) e ≡ cond (a && b) (stir e) e
        by_test true true e h = refl
        by_test false true e h = refl
        by_test true false e h = absurd (cc)
        by_test false false e h = refl

  pub rest_here : (es : List (Entry T)) (i : ℕ) (d : Entry T) (st : Status) (left s : ℕ) (p : T) (q : ℕ) → i < length es → q < i →
      q < length (slice_set es i (given st left s p (get_or es i d)))
  rest_here es i d st left s p q lt up = omega (
    arith,
    ap length (set_changed (given st left s p) es i d lt),
    length_changed (λ k e. cond (k == i) (given st left s p e) e) 0 es,
  )

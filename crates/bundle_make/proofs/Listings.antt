-- Lists of queries with the place of each.
use Rattle.std.proofs.Common.{◌≡◌, ⊎_elim, ℕ, suc, ◌≤◌, List, [], ◌∷◌, ◌++◌, length, Bool, true, false, Option, Some, None, arith, refl, sym, subst, ap, ◌∙◌}
use Rattle.std.specs.Prelude.{slice_get, slice_set, ◌==◌}
use Rattle.std.specs.Option.{is_some}
use Rattle.std.specs.List.{AllByRecursion, IsDistinct, list_any}
use Rattle.std.proofs.lemmas.Bool.{eqb-true, or_cases}
use Rattle.std.proofs.lemmas.List.{length-set}
use Rattle.std.proofs.lemmas.Map.Keys.{IsDistinct-cons}
use Rattle.std.proofs.lemmas.Map.Steps.{length-le_from_distinct_below}
use Rattle.std.proofs.lemmas.Option.{none-some, same_Some, slice_get_within}
use Rattle.query_tree.proofs.Lists.{from_pushed, to_pushed}
use Rattle.may_partition.proofs.Pieces.{get_other, get_put, get_right, lookup_set}
use Rattle.bundle_make.specs.steps.Listing.{IsListing}

-- As many as there are at most

others : (x : ℕ) (xs : List ℕ) → ((n : ℕ) → slice_get xs n ≡ Some x → ⊥) → AllByRecursion (λ y. (x == y) ≡ false) xs
others x [] none = tt
others x (y ∷ xs) none = (by_test (x == y) refl, others x xs (λ n. none (suc n))) where
  by_test : (t : Bool) → (x == y) ≡ t → t ≡ false
  by_test true e = absurd (none 0 (ap Some (sym (eqb-true x y e))))
  by_test false e = refl

distinct : (xs : List ℕ) → ((m n i : ℕ) → slice_get xs m ≡ Some i → slice_get xs n ≡ Some i → m ≡ n) → IsDistinct (λ x y. x == y) xs
unfolding IsDistinct
distinct [] once = tt
distinct (x ∷ xs) once =
    IsDistinct-cons (λ x y. x == y) x xs (others x xs (λ n at. absurd (omega (arith, once 0 (suc n) x refl at))))
    (distinct xs (λ m n i a b. omega (arith, once (suc m) (suc n) i a b)))

has_place : (q : ℕ) (xs : List ℕ) → list_any (λ y. q == y) xs ≡ true → (n : ℕ) × (slice_get xs n ≡ Some q)
has_place q [] h = absurd cc
has_place q (x ∷ xs) h = ⊎_elim (λ e. (0, ap Some (sym (eqb-true q x e)))) (λ t. let r = has_place q xs t in (suc r.0, r.1))
    (or_cases (q == x) (list_any (λ y. q == y) xs) h)

module _ (count : ℕ) (ids : List ℕ) (numbers : List (Option ℕ)) (l : IsListing count ids numbers) where
  pub listed_once : (m n i : ℕ) → slice_get ids m ≡ Some i → slice_get ids n ≡ Some i → m ≡ n
  listed_once m n i a b = same_Some m n (same_Some (Some m) (Some n) (sym (l.back i m a) ∙ l.back i n b))

  pub listed_few : length ids ≤ count
  listed_few = length-le_from_distinct_below ids count (distinct ids listed_once) (λ q h.
      let w = has_place q ids h in
      omega (arith, slice_get_within numbers q (Some w.0) (l.back q w.0 w.1), l.size))

  -- one more, after the others
  pub listed_more : (i : ℕ) → slice_get numbers i ≡ Some None →
      IsListing count (ids ++ i ∷ []) (slice_set numbers i (Some (length ids)))
  listed_more i free = record {
    size = length-set numbers i (Some (length ids)) ∙ l.size;
    there = λ j n h. ⊎_elim (λ o. new j n o.0 (same_Some n (length ids) o.1)) (λ o. to_pushed ids i n j (l.there j n o))
        (lookup_set numbers i j (Some (length ids)) (Some n) h);
    back = λ j n h. ⊎_elim (λ o. old j n o) (λ o. at_end j n o.0 o.1) (from_pushed ids i n j h);
  } where
    new : (j n : ℕ) → j ≡ i → n ≡ length ids → slice_get (ids ++ i ∷ []) n ≡ Some j
    new j n e f = rw f (rw e (subst (λ k. slice_get (ids ++ i ∷ []) k ≡ Some i) (omega arith) (get_right ids 0 (i ∷ []) i refl)))

    old : (j n : ℕ) → slice_get ids n ≡ Some j → slice_get (slice_set numbers i (Some (length ids))) j ≡ Some (Some n)
    old j n h = ⊎_elim (λ e. absurd (taken j n e (l.back j n h))) (λ o. o) (get_other numbers i j (Some (length ids)) (Some n)
        (l.back j n h))
      where
        taken : (j n : ℕ) → j ≡ i → slice_get numbers j ≡ Some (Some n) → ⊥
        taken j n e h = none-some n (same_Some None (Some n) (sym free ∙ subst (λ k. slice_get numbers k ≡ Some (Some n)) e h))

    at_end : (j n : ℕ) → n ≡ length ids → j ≡ i → slice_get (slice_set numbers i (Some (length ids))) j ≡ Some (Some n)
    at_end j n e f = rw e (rw f (get_put numbers i (Some (length ids)) None free))

-- Options

pub none_from : (o : Option ℕ) → is_some o ≡ false → o ≡ None
none_from None e = refl
none_from (Some n) e = absurd cc

pub some_from : (o : Option ℕ) → is_some o ≡ true → (n : ℕ) × (o ≡ Some n)
some_from None e = absurd cc
some_from (Some n) e = (n, refl)

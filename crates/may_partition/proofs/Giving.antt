-- A loop over an iterator that shows the edges that it is yet to give: those that it gave are the first of them.
use Rattle.std.proofs.Common.{None, Some, ◌≡◌, ◌<◌, ℕ, nat_lt, Bool, true, false, ◌||◌, List, [], ◌∷◌, ◌++◌, refl, sym, subst, ap, ◌∙◌}
use Rattle.std.specs.Prelude.{IsTrue, Option}
use Rattle.std.specs.Iterator.{Yields, YieldsFirst}
use borrow.Author.Tests.{ltb-true}
use Rattle.std.proofs.lemmas.List.Folds.{list_all-append, list_any-append}
use Rattle.linear_formula.proofs.Limits.{both}
use Rattle.may_partition.specs.declared.region.RegionEdge.{RegionEdge}
use Rattle.may_partition.specs.Parted.{has_regions, same_edge}
use Rattle.may_partition.specs.Shown.{have_regions, is_live}
use Rattle.may_partition.proofs.ByRegion.{same_itself}
use Rattle.may_partition.proofs.Splitting.{or_left, or_right}

abbrev pub Gives : List RegionEdge → Option RegionEdge → List RegionEdge → Type 0
Gives = YieldsFirst (λ l. l)

pub given_front : (all xs rest : List RegionEdge) → Yields Gives all xs rest → all ≡ xs ++ rest
given_front all [] rest y = y
given_front all (x ∷ xs) rest y = y.1 ∙ ap (λ zs. x ∷ zs) (given_front y.0 xs rest y.2)

-- after the last one
pub given_all : (all xs rest left : List RegionEdge) (r : Option RegionEdge) → Yields Gives all xs rest → r ≡ None → Gives rest r left →
    all ≡ xs
given_all all xs rest left r y is step =
    given_front all xs rest y ∙ ap (λ zs. xs ++ zs) (subst (λ o. Gives rest o left) is step).0 ∙ none_behind xs
  where
    none_behind : (zs : List RegionEdge) → zs ++ [] ≡ zs
    none_behind [] = refl
    none_behind (z ∷ zs) = ap (λ ys. z ∷ ys) (none_behind zs)

-- with one more
pub given_next : (all xs rest left : List RegionEdge) (r : Option RegionEdge) (x : RegionEdge) → Yields Gives all xs rest → r ≡ Some x →
    Gives rest r left → all ≡ xs ++ x ∷ left
given_next all xs rest left r x y is step =
    given_front all xs rest y ∙ ap (λ zs. xs ++ zs) (subst (λ o. Gives rest o left) is step)

-- What is known of all

pub live_given : (xs : List RegionEdge) (x e : RegionEdge) → is_live (xs ++ x ∷ []) e ≡ (is_live xs e || same_edge x e)
live_given xs x e = list_any-append (λ y. same_edge y e) xs (x ∷ []) ∙ ap (λ b. is_live xs e || b) (or_false (same_edge x e)) where
  or_false : (b : Bool) → (b || false) ≡ b
  or_false true = refl
  or_false false = refl

pub given_live : (all xs left : List RegionEdge) (x : RegionEdge) → all ≡ xs ++ x ∷ left → IsTrue (is_live all x)
given_live all xs left x s =
    subst IsTrue (sym (ap (λ zs. is_live zs x) s ∙ list_any-append (λ y. same_edge y x) xs (x ∷ left)))
    (or_right (is_live xs x) (is_live (x ∷ left) x) (or_left (same_edge x x) (is_live left x) (same_itself x)))

pub given_within : (n : ℕ) (all xs left : List RegionEdge) (x : RegionEdge) → all ≡ xs ++ x ∷ left → IsTrue (have_regions n all) →
    (x.from < n) × (x.to < n)
given_within n all xs left x s h =
    let u = both (have_regions n xs) (have_regions n (x ∷ left))
    (subst IsTrue (ap (have_regions n) s ∙ list_all-append (has_regions n) xs (x ∷ left)) h) in
    let v = both (nat_lt x.from n) (nat_lt x.to n) (both (has_regions n x) (have_regions n left) u.1).0 in
    (ltb-true x.from n v.0, ltb-true x.to n v.1)

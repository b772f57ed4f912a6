-- The least of faults is one of them, and none is before it.
use Rattle.std.proofs.Common.{◌≡◌, ℕ, ◌<◌, Bool, true, false, List, [], ◌∷◌, ◌++◌, length, get_or, Option, Some, None, ◌⊎◌, inl, inr, refl, ap, sym, ◌∙◌, subst, arith, zero, Contains, suc, if◌then◌else◌}
use Rattle.std.proofs.lemmas.List.Elements.{Contains-append_left, Contains-append_right, Contains-append_cases}
use Rattle.c_typing.specs.Faults.{Fault, all_faults}
use Rattle.c_tree.specs.SourceTree.{FileItem}
use Rattle.c_typing.specs.Answer.{IsBefore, IsFirstOf}
use Rattle.c_typing.specs.steps.Least.{is_before, first_of_two, least_from}
use Rattle.c_typing.proofs.Order.{is_before-true, is_before-false, before-irrefl, before-between, before-trans, before-same}

pub least-append : (best : Option Fault) (xs ys : List Fault) → least_from best (xs ++ ys) ≡ least_from (least_from best xs) ys
least-append best [] ys = refl
least-append best (x ∷ xs) ys = least-append (Some (first_of_two best x)) xs ys

contains-here : (x : Fault) (xs : List Fault) → Contains (x ∷ xs) x
contains-here x xs = (0, omega arith, refl)

contains-there : (x y : Fault) (xs : List Fault) → Contains xs y → Contains (x ∷ xs) y
contains-there x y xs h = (suc h.0, (let w = h.1 in omega arith), h.2)

contains-cases : (x y : Fault) (xs : List Fault) → Contains (x ∷ xs) y → (x ≡ y) ⊎ Contains xs y
contains-cases x y xs (k, within, at) = go k within at
  where
    go : (k : ℕ) → k < length (x ∷ xs) → get_or (x ∷ xs) k y ≡ y → (x ≡ y) ⊎ Contains xs y
    go zero within at = inl at
    go (suc k) within at = inr (k, omega arith, at)

-- the least is the one before, or in the list
pub least-there : (best : Option Fault) (xs : List Fault) (f : Fault) → least_from best xs ≡ Some f → (best ≡ Some f) ⊎ Contains xs f
least-there best [] f e = inl e
least-there best (x ∷ xs) f e = go best (least-there (Some (first_of_two best x)) xs f e)
  where
    pick : (b : Bool) (g : Fault) → Some (if b then x else g) ≡ Some f → (Some g ≡ Some f) ⊎ Contains (x ∷ xs) f
    pick true g h = inr (let same : x ≡ f = cc in subst (λ y. Contains (x ∷ xs) y) same (contains-here x xs))
    pick false g h = inl h

    go : (best : Option Fault) → (Some (first_of_two best x) ≡ Some f) ⊎ Contains xs f → (best ≡ Some f) ⊎ Contains (x ∷ xs) f
    go best (inr h) = inr (contains-there x f xs h)
    go None (inl h) = inr (let same : x ≡ f = cc in subst (λ y. Contains (x ∷ xs) y) same (contains-here x xs))
    go (Some g) (inl h) = pick (is_before x g) g h

abbrev NotBefore : Option Fault → Fault → Type 0
NotBefore None f = Unit {0}
NotBefore (Some g) f = IsBefore g f → ⊥

-- neither of two is before what neither the first of them
not_before-two : (best : Option Fault) (x f : Fault) → (IsBefore (first_of_two best x) f → ⊥) → NotBefore best f × (IsBefore x f → ⊥)
not_before-two None x f h = (tt, h)
not_before-two (Some g) x f h = go (is_before x g) refl h
  where
    go : (b : Bool) → is_before x g ≡ b → (IsBefore (if b then x else g) f → ⊥) → (IsBefore g f → ⊥) × (IsBefore x f → ⊥)
    go true e h = (λ g_first. h (before-trans x g f (is_before-true x g e) g_first), h)
    go false e h = (h, λ x_first. before-between x f g x_first (is_before-false x g e) h)

-- and none of the others is before it
pub least-first : (best : Option Fault) (xs : List Fault) (f : Fault) → least_from best xs ≡ Some f → NotBefore best f
    × ((g : Fault) → Contains xs g → IsBefore g f → ⊥)
least-first None [] f e = absurd cc
least-first (Some b) [] f e = (
  let same : b ≡ f = cc in subst (λ y. IsBefore b y → ⊥) same (before-irrefl b),
  λ g h. absurd (let w = h.1 in omega arith),
)
least-first best (x ∷ xs) f e =
    let ih = least-first (Some (first_of_two best x)) xs f e in
    let two = not_before-two best x f ih.0 in
    (two.0, λ g h. go g two.1 ih.1 (contains-cases x g xs h))
  where
    go : (g : Fault) → (IsBefore x f → ⊥) → ((g : Fault) → Contains xs g → IsBefore g f → ⊥) → (x ≡ g) ⊎ Contains xs g → IsBefore g f → ⊥
    go g n all (inl same) = subst (λ y. IsBefore y f → ⊥) same n
    go g n all (inr h) = all g h

least-some : (b : Fault) (xs : List Fault) → least_from (Some b) xs ≡ None → ⊥
least-some b [] e = cc
least-some b (x ∷ xs) e = least-some (first_of_two (Some b) x) xs e

-- there is no least only of nothing
pub least-none : (xs : List Fault) → least_from None xs ≡ None → xs ≡ []
least-none [] e = refl
least-none (x ∷ xs) e = absurd (least-some x xs e)

-- the least fault of a tree is the first
pub least-is_first : (is : List FileItem) (f : Fault) → least_from None (all_faults is) ≡ Some f → IsFirstOf is f
least-is_first is f e = record {
  there = elim (least-there None (all_faults is) f e) [ inl h ↦ absurd cc | inr h ↦ h ];
  first = (least-first None (all_faults is) f e).1;
}

-- what is in a list and after none of it is the least
pub least-only : (xs : List Fault) (f : Fault) → Contains xs f → ((g : Fault) → Contains xs g → IsBefore g f → ⊥) → least_from None xs
    ≡ Some f
least-only xs f there first = go (least_from None xs) refl
  where
    go : (o : Option Fault) → least_from None xs ≡ o → least_from None xs ≡ Some f
    go None e = absurd (let none : length xs ≡ 0 = ap length (least-none xs e) in let within = there.1 in omega arith)
    go (Some g) e =
        let in_list : Contains xs g = elim (least-there None xs g e) [ inl h ↦ absurd cc | inr h ↦ h ] in
        e ∙ ap Some (before-same g f (first g in_list) ((least-first None xs g e).1 f there))

pub first-is_least : (is : List FileItem) (f : Fault) → IsFirstOf is f → least_from None (all_faults is) ≡ Some f
first-is_least is f h = least-only (all_faults is) f h.there h.first

-- the order in which two lists are read doesn't matter
pub least-same : (xs ys : List Fault) → ((f : Fault) → Contains xs f → Contains ys f) → ((f : Fault) → Contains ys f → Contains xs f) →
    least_from None xs ≡ least_from None ys
least-same xs ys there back = go (least_from None xs) refl
  where
    go : (o : Option Fault) → least_from None xs ≡ o → least_from None xs ≡ least_from None ys
    go None e = e ∙ sym
        (ap (least_from None) (elim ys as (λ zs. ((f : Fault) → Contains zs f → Contains xs f) → zs ≡ []) [
          | [] ↦ λ _. refl
          | z ∷ zs ↦
              λ b. absurd (let h = b z (contains-here z zs) in let none : length xs ≡ 0 = ap length (least-none xs e) in let within = h.1 in
              omega arith)
        ] back))
    go (Some f) e =
        let in_list : Contains xs f = elim (least-there None xs f e) [ inl h ↦ absurd cc | inr h ↦ h ] in
        e ∙ sym (least-only ys f (there f in_list) (λ g h. (least-first None xs f e).1 g (back g h)))

swap-contains : (xs ys : List Fault) (f : Fault) → Contains (xs ++ ys) f → Contains (ys ++ xs) f
swap-contains xs ys f h = elim (Contains-append_cases xs ys f h) [
  | inl l ↦ Contains-append_right ys xs f l
  | inr r ↦
      Contains-append_left ys xs f r
]

swap-behind : (g : Fault) (xs ys : List Fault) (f : Fault) → Contains (g ∷ (xs ++ ys)) f → Contains (g ∷ (ys ++ xs)) f
swap-behind g xs ys f h = elim (contains-cases g f (xs ++ ys) h) [
  | inl same ↦ subst (λ y. Contains (g ∷ (ys ++ xs)) y) same (contains-here g (ys ++ xs))
  | inr there ↦ contains-there g f (ys ++ xs) (swap-contains xs ys f there)
]

pub least-swap : (best : Option Fault) (xs ys : List Fault) → least_from best (xs ++ ys) ≡ least_from best (ys ++ xs)
least-swap None xs ys = least-same (xs ++ ys) (ys ++ xs) (swap-contains xs ys) (swap-contains ys xs)
least-swap (Some g) xs ys = least-same (g ∷ (xs ++ ys)) (g ∷ (ys ++ xs)) (swap-behind g xs ys) (swap-behind g ys xs)

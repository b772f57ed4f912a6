-- What holds of each item of a list, one after the other.
use Rattle.std.proofs.Common.{◌≡◌, ◌<◌, ◌≤◌, ◌+◌, ℕ, suc, Some, List, [], ◌∷◌, length, arith, get_or, below_more, refl, sym, subst, ◌∙◌}
use Rattle.std.specs.Prelude.{slice_get}
use Rattle.std.specs.List.{AllByRecursion}
use Rattle.std.proofs.lemmas.Option.{same_Some, slice_get_within, slice_get-get_or}

-- of each item before a place
abbrev pub HoldBelow : {A : Type 0} → (A → Type 0) → List A → ℕ → Type 0
HoldBelow P xs i = (k : ℕ) → k < i → (x : _) → slice_get xs k ≡ Some x → P x

pub below_next : {A : Type 0} (P : A → Type 0) (xs : List A) (i : ℕ) (d : A) → i < length xs → HoldBelow P xs i → P (get_or xs i d) →
    HoldBelow P xs (i + 1)
below_next P xs i d low h here =
    below_more (λ k. (x : _) → slice_get xs k ≡ Some x → P x) i h
    (λ x e. subst P (same_Some (get_or xs i d) x (sym (slice_get-get_or xs i d low) ∙ e)) here)

pub all_of : {A : Type 0} (P : A → Type 0) (xs : List A) → ((k : ℕ) (x : A) → slice_get xs k ≡ Some x → P x) → AllByRecursion P xs
all_of P [] h = tt
all_of P (x ∷ xs) h = (h 0 x refl, all_of P xs (λ k y e. h (suc k) y e))

pub all_below : {A : Type 0} (P : A → Type 0) (xs : List A) (i : ℕ) → length xs ≤ i → HoldBelow P xs i → AllByRecursion P xs
all_below P xs i past h = all_of P xs (λ k x e. h k (omega (arith, slice_get_within xs k x e, past)) x e)

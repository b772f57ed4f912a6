-- Look-ups and sums in lists that are changed place by place.
use Rattle.std.proofs.Common.{◌≡◌, ℕ, zero, suc, ◌+◌, ◌<◌, ◌≤◌, List, [], ◌∷◌, ◌++◌, length, Bool, true, cond, Some, refl, sym, ap, ◌∙◌, ◌⊎◌, inl, inr, ⊎_elim, arith}
use Rattle.std.specs.Prelude.{slice_get, slice_set, get_or, ◌==◌}
use Rattle.std.proofs.lemmas.Option.{slice_get-get_or}
use Rattle.std.proofs.lemmas.Bool.{eq-eqb, ne_eqb, or_cases}
use Rattle.query_tree.specs.Forest.{changed_from, changed, tally_from, tally, any}

-- what stands at a place of the changed list comes from that place
pub from_changed_from : {X : Type 0} (f : ℕ → X → X) (k : ℕ) (xs : List X) (j : ℕ) (y : X) → slice_get (changed_from k f xs) j ≡ Some y →
    (x : X) × (slice_get xs j ≡ Some x) × (y ≡ f (k + j) x)
from_changed_from f k [] j y h = absurd (cc)
from_changed_from f k (x ∷ xs) zero y h = let e : k + 0 ≡ k = omega arith in (x, refl, rw e (cc))
from_changed_from f k (x ∷ xs) (suc j) y h =
    let r = from_changed_from f (suc k) xs j y h in
    let e : k + suc j ≡ suc k + j = omega arith in
    (r.0, r.1, rw e r.2)

pub from_changed : {X : Type 0} (f : ℕ → X → X) (xs : List X) (j : ℕ) (y : X) → slice_get (changed f xs) j ≡ Some y →
    (x : X) × (slice_get xs j ≡ Some x) × (y ≡ f j x)
from_changed f xs j y h =
    let r = from_changed_from f 0 xs j y h in
    let e : 0 + j ≡ j = omega arith in
    (r.0, r.1, rw e at r.2)

pub to_changed_from : {X : Type 0} (f : ℕ → X → X) (k : ℕ) (xs : List X) (j : ℕ) (x : X) → slice_get xs j ≡ Some x →
    slice_get (changed_from k f xs) j ≡ Some (f (k + j) x)
to_changed_from f k [] j x h = absurd (cc)
to_changed_from f k (y ∷ xs) zero x h = let e : k + 0 ≡ k = omega arith in rw e (cc)
to_changed_from f k (y ∷ xs) (suc j) x h = let e : k + suc j ≡ suc k + j = omega arith in rw e (to_changed_from f (suc k) xs j x h)

pub to_changed : {X : Type 0} (f : ℕ → X → X) (xs : List X) (j : ℕ) (x : X) → slice_get xs j ≡ Some x → slice_get (changed f xs) j
    ≡ Some (f j x)
to_changed f xs j x h = let e : 0 + j ≡ j = omega arith in rw e at (to_changed_from f 0 xs j x h)

pub length_changed : {X : Type 0} (f : ℕ → X → X) (k : ℕ) (xs : List X) → length (changed_from k f xs) ≡ length xs
length_changed f k [] = refl
length_changed f k (x ∷ xs) = ap suc (length_changed f (suc k) xs)

-- a longer list has what stood, and then the new element
pub from_pushed : {X : Type 0} (xs : List X) (x : X) (j : ℕ) (y : X) → slice_get (xs ++ x ∷ []) j ≡ Some y → (slice_get xs j ≡ Some y)
    ⊎ ((j ≡ length xs) × (y ≡ x))
from_pushed [] x zero y h = inr (refl, cc)
from_pushed [] x (suc j) y h = absurd (cc)
from_pushed (z ∷ xs) x zero y h = inl h
from_pushed (z ∷ xs) x (suc j) y h = ⊎_elim (λ k. inl k) (λ k. inr (ap suc k.0, k.1)) (from_pushed xs x j y h)

pub to_pushed : {X : Type 0} (xs : List X) (x : X) (j : ℕ) (y : X) → slice_get xs j ≡ Some y → slice_get (xs ++ x ∷ []) j ≡ Some y
to_pushed [] x j y h = absurd (cc)
to_pushed (z ∷ xs) x zero y h = h
to_pushed (z ∷ xs) x (suc j) y h = to_pushed xs x j y h

pub within : {X : Type 0} (xs : List X) (j : ℕ) (y : X) → slice_get xs j ≡ Some y → j < length xs
within [] j y h = absurd (cc)
within (z ∷ xs) zero y h = omega arith
within (z ∷ xs) (suc j) y h = omega (arith, within xs j y h)

-- some element passes exactly where one stands at a place
pub any_at : {X : Type 0} (p : X → Bool) (xs : List X) → any p xs ≡ true → (j : ℕ) × (x : X) × (slice_get xs j ≡ Some x) × (p x ≡ true)
any_at p [] h = absurd (cc)
any_at p (x ∷ xs) h = ⊎_elim (λ k. (0, x, refl, k)) (λ k. let r = any_at p xs k in (suc r.0, r.1, r.2, r.3)) (or_cases (p x) (any p xs) h)

-- Sums

pub tally_changed : {X : Type 0} (g : ℕ → X → ℕ) (f : ℕ → X → X) (k : ℕ) (xs : List X) → tally_from k g (changed_from k f xs)
    ≡ tally_from k (λ j x. g j (f j x)) xs
tally_changed g f k [] = refl
tally_changed g f k (x ∷ xs) = ap (λ n. g k (f k x) + n) (tally_changed g f (suc k) xs)

pub tally_plus : {X : Type 0} (g h : ℕ → X → ℕ) (k : ℕ) (xs : List X) → tally_from k (λ j x. g j x + h j x) xs ≡ tally_from k g xs
    + tally_from k h xs
tally_plus g h k [] = refl
tally_plus g h k (x ∷ xs) = omega (arith, tally_plus g h (suc k) xs)

-- functions that agree at each element have one sum
pub tally_same_from : {X : Type 0} (g h : ℕ → X → ℕ) (k : ℕ) (xs : List X) → ((j : ℕ) (x : X) → slice_get xs j ≡ Some x → g (k + j) x
    ≡ h (k + j) x) → tally_from k g xs ≡ tally_from k h xs
tally_same_from g h k [] same = refl
tally_same_from g h k (x ∷ xs) same =
    let e : k + 0 ≡ k = omega arith in
    let here : g k x ≡ h k x = rw e at (same 0 x refl) in
    let rest : tally_from (suc k) g xs ≡ tally_from (suc k) h xs = tally_same_from g h (suc k) xs (λ j y a. let s : k + suc j ≡ suc k
    + j = omega arith in rw s at (same (suc j) y a)) in
    omega (arith, here, rest)

pub tally_same : {X : Type 0} (g h : ℕ → X → ℕ) (xs : List X) → ((j : ℕ) (x : X) → slice_get xs j ≡ Some x → g j x ≡ h j x) → tally g xs
    ≡ tally h xs
tally_same g h xs same = tally_same_from g h 0 xs (λ j x a. let e : 0 + j ≡ j = omega arith in rw e (same j x a))

pub tally_le_from : {X : Type 0} (g h : ℕ → X → ℕ) (k : ℕ) (xs : List X) →
    ((j : ℕ) (x : X) → slice_get xs j ≡ Some x → g (k + j) x ≤ h (k + j) x) →
    tally_from k g xs ≤ tally_from k h xs
tally_le_from g h k [] below = omega arith
tally_le_from g h k (x ∷ xs) below =
    let e : k + 0 ≡ k = omega arith in
    let here : g k x ≤ h k x = rw e at (below 0 x refl) in
    let rest : tally_from (suc k) g xs ≤ tally_from (suc k) h xs = tally_le_from g h (suc k) xs (λ j y a. let s : k + suc j ≡ suc k
    + j = omega arith in rw s at (below (suc j) y a)) in
    omega (arith, here, rest)

pub tally_le : {X : Type 0} (g h : ℕ → X → ℕ) (xs : List X) → ((j : ℕ) (x : X) → slice_get xs j ≡ Some x → g j x ≤ h j x) →
    tally g xs ≤ tally h xs
tally_le g h xs below = tally_le_from g h 0 xs (λ j x a. let e : 0 + j ≡ j = omega arith in rw e (below j x a))

pub tally_zero : {X : Type 0} (k : ℕ) (xs : List X) → tally_from k (λ j x. 0) xs ≡ 0
tally_zero k [] = refl
tally_zero k (x ∷ xs) = omega (arith, tally_zero (suc k) xs)

-- what is counted at one place alone
tally_past : {X : Type 0} (n : ℕ) (i k : ℕ) (xs : List X) → i < k → tally_from k (λ j x. cond (j == i) n 0) xs ≡ 0
tally_past n i k [] lt = refl
tally_past n i k (x ∷ xs) lt = rw (ne_eqb k i (λ e. omega (arith, e))) (omega (arith, tally_past n i (suc k) xs (omega arith)))

tally_one_from : {X : Type 0} (n : ℕ) (i k : ℕ) (xs : List X) (x : X) → slice_get xs i ≡ Some x →
    tally_from k (λ j x. cond (j == (k + i)) n 0) xs ≡ n
tally_one_from n i k [] x h = absurd (cc)
tally_one_from n zero k (y ∷ xs) x h =
    let e : k + 0 ≡ k = omega arith in
    rw (e, eq-eqb k k refl) (omega (arith, tally_past n k (suc k) xs (omega arith)))
tally_one_from n (suc i) k (y ∷ xs) x h =
    let e : k + suc i ≡ suc k + i = omega arith in
    rw (e, ne_eqb k (suc k + i) (λ d. omega (arith, d))) (omega (arith, tally_one_from n i (suc k) xs x h))

pub tally_one : {X : Type 0} (n : ℕ) (i : ℕ) (xs : List X) (x : X) → slice_get xs i ≡ Some x → tally (λ j x. cond (j == i) n 0) xs ≡ n
tally_one n i xs x h = let e : 0 + i ≡ i = omega arith in rw e at (tally_one_from n i 0 xs x h)

pub tally_pushed_from : {X : Type 0} (g : ℕ → X → ℕ) (k : ℕ) (xs : List X) (x : X) → tally_from k g (xs ++ x ∷ []) ≡ tally_from k g xs
    + g (k + length xs) x
tally_pushed_from g k [] x = let e : k + 0 ≡ k = omega arith in rw e (omega arith)
tally_pushed_from g k (y ∷ xs) x =
    let e : k + suc (length xs) ≡ suc k + length xs = omega arith in
    rw e (omega (arith, tally_pushed_from g (suc k) xs x))

pub tally_pushed : {X : Type 0} (g : ℕ → X → ℕ) (xs : List X) (x : X) → tally g (xs ++ x ∷ []) ≡ tally g xs + g (length xs) x
tally_pushed g xs x = let e : 0 + length xs ≡ length xs = omega arith in rw e at (tally_pushed_from g 0 xs x)

-- Changed lists

pub changed_same_from : {X : Type 0} (f g : ℕ → X → X) (k : ℕ) (xs : List X) → ((j : ℕ) (x : X) → slice_get xs j ≡ Some x → f (k + j) x
    ≡ g (k + j) x) → changed_from k f xs ≡ changed_from k g xs
changed_same_from f g k [] same = refl
changed_same_from f g k (x ∷ xs) same =
    let e : k + 0 ≡ k = omega arith in
    let here : f k x ≡ g k x = rw e at (same 0 x refl) in
    let rest : changed_from (suc k) f xs ≡ changed_from (suc k) g xs = changed_same_from f g (suc k) xs (λ j y a. let s : k + suc j ≡ suc k
    + j = omega arith in rw s at (same (suc j) y a)) in
    cc

pub changed_same : {X : Type 0} (f g : ℕ → X → X) (xs : List X) → ((j : ℕ) (x : X) → slice_get xs j ≡ Some x → f j x ≡ g j x) → changed f xs
    ≡ changed g xs
changed_same f g xs same = changed_same_from f g 0 xs (λ j x a. let e : 0 + j ≡ j = omega arith in rw e (same j x a))

unchanged_from : {X : Type 0} (k : ℕ) (xs : List X) → changed_from k (λ _ x. x) xs ≡ xs
unchanged_from k [] = refl
unchanged_from k (x ∷ xs) = ap (λ ys. x ∷ ys) (unchanged_from (suc k) xs)

pub unchanged : {X : Type 0} (f : ℕ → X → X) (xs : List X) → ((j : ℕ) (x : X) → slice_get xs j ≡ Some x → f j x ≡ x) → changed f xs ≡ xs
unchanged f xs same = changed_same f (λ _ x. x) xs same ∙ unchanged_from 0 xs

pub changed_changed : {X : Type 0} (f g : ℕ → X → X) (k : ℕ) (xs : List X) → changed_from k g (changed_from k f xs) ≡ changed_from k
    (λ j x. g j (f j x)) xs
changed_changed f g k [] = refl
changed_changed f g k (x ∷ xs) = ap (λ ys. g k (f k x) ∷ ys) (changed_changed f g (suc k) xs)

-- a write to one place
set_from : {X : Type 0} (f : X → X) (k : ℕ) (xs : List X) (p : ℕ) (d : X) → p < length xs → slice_set xs p (f (get_or xs p d))
    ≡ changed_from k (λ j x. cond (j == (k + p)) (f x) x) xs
set_from f k [] p d lt = absurd (omega arith)
set_from f k (x ∷ xs) zero d lt =
    let e : k + 0 ≡ k = omega arith in
    rw (e, eq-eqb k k refl)
    (ap (λ ys. f x ∷ ys) (sym (changed_same_from _ (λ _ y. y) (suc k) xs (λ j y a. rw (ne_eqb (suc k + j) k (λ d. omega (arith, d))) refl)
    ∙ unchanged_from (suc k) xs)))
set_from f k (x ∷ xs) (suc p) d lt =
    let e : k + suc p ≡ suc k + p = omega arith in
    rw (e, ne_eqb k (suc k + p) (λ d. omega (arith, d))) (ap (λ ys. x ∷ ys) (set_from f (suc k) xs p d (omega arith)))

pub set_changed : {X : Type 0} (f : X → X) (xs : List X) (p : ℕ) (d : X) → p < length xs → slice_set xs p (f (get_or xs p d))
    ≡ changed (λ j x. cond (j == p) (f x) x) xs
set_changed f xs p d lt = let e : 0 + p ≡ p = omega arith in rw e at (set_from f 0 xs p d lt)

pub at_place : {X : Type 0} (xs : List X) (p : ℕ) (d : X) → p < length xs → slice_get xs p ≡ Some (get_or xs p d)
at_place xs p d lt = slice_get-get_or xs p d lt

pub present : {X : Type 0} (xs : List X) (p : ℕ) → p < length xs → (x : X) × (slice_get xs p ≡ Some x)
present [] p lt = absurd (omega arith)
present (x ∷ xs) zero lt = (x, refl)
present (x ∷ xs) (suc p) lt = present xs p (omega arith)

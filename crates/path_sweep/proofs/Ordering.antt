-- The order of paths, and what lists in it count.
use Rattle.std.proofs.Common.{◌≡◌, ◌⊎◌, inl, inr, ℕ, zero, suc, ◌<◌, ◌≤◌, List, [], ◌∷◌, ◌++◌, length, Some, arith, refl, sym, subst, ap, ◌∙◌}
use Rattle.std.specs.Prelude.{slice_get}
use Rattle.std.proofs.lemmas.Option.{same_Some, none-some, slice_get_within}
use Rattle.path_sweep.specs.Order.{Before, AreThose}

-- Numbers

pub compared : (m n : ℕ) → (m < n) ⊎ ((m ≡ n) ⊎ (n < m))
compared zero zero = inr (inl refl)
compared zero (suc n) = inl (omega arith)
compared (suc m) zero = inr (inr (omega arith))
compared (suc m) (suc n) = up (compared m n) where
  up : (m < n) ⊎ ((m ≡ n) ⊎ (n < m)) → (suc m < suc n) ⊎ ((suc m ≡ suc n) ⊎ (suc n < suc m))
  up (inl h) = inl (omega (arith, h))
  up (inr (inl h)) = inr (inl (ap suc h))
  up (inr (inr h)) = inr (inr (omega (arith, h)))

-- Paths

pub never : (p : List ℕ) → Before p p → ⊥
never [] h = h
never (i ∷ p) (inl h) = omega (arith, h)
never (i ∷ p) (inr h) = never p h.1

pub through : (p q r : List ℕ) → Before p q → Before q r → Before p r
through p q [] h k = absurd k
through p [] (x ∷ r) h k = absurd h
through [] (j ∷ q) (x ∷ r) h k = tt
through (i ∷ p) (j ∷ q) (x ∷ r) (inl h) (inl k) = inl (omega (arith, h, k))
through (i ∷ p) (j ∷ q) (x ∷ r) (inl h) (inr k) = inl (let e = k.0 in omega (arith, h, e))
through (i ∷ p) (j ∷ q) (x ∷ r) (inr h) (inl k) = inl (let e = h.0 in omega (arith, k, e))
through (i ∷ p) (j ∷ q) (x ∷ r) (inr h) (inr k) = inr (h.0 ∙ k.0, through p q r h.1 k.1)

pub ordered : (p q : List ℕ) → Before p q ⊎ ((p ≡ q) ⊎ Before q p)
ordered [] [] = inr (inl refl)
ordered [] (j ∷ q) = inl tt
ordered (i ∷ p) [] = inr (inr tt)
ordered (i ∷ p) (j ∷ q) = by_first (compared i j) (ordered p q) where
  by_first : (i < j) ⊎ ((i ≡ j) ⊎ (j < i)) → Before p q ⊎ ((p ≡ q) ⊎ Before q p) →
      Before (i ∷ p) (j ∷ q) ⊎ ((i ∷ p ≡ j ∷ q) ⊎ Before (j ∷ q) (i ∷ p))
  by_first (inl h) k = inl (inl h)
  by_first (inr (inr h)) k = inr (inr (inl h))
  by_first (inr (inl h)) (inl k) = inl (inr (h, k))
  by_first (inr (inl h)) (inr (inl k)) = inr (inl (ap (λ n. n ∷ p) h ∙ ap (λ r. j ∷ r) k))
  by_first (inr (inl h)) (inr (inr k)) = inr (inr (inr (sym h, k)))

-- Lists in order

pub record Ascends (paths : List (List ℕ)) : Type 0 where
  pub in_order : (k l : ℕ) (p q : List ℕ) → k < l → slice_get paths k ≡ Some p → slice_get paths l ≡ Some q → Before p q

pub places_ascend : (paths : List (List ℕ)) → Ascends paths → (k l : ℕ) (p q : List ℕ) → slice_get paths k ≡ Some p →
    slice_get paths l ≡ Some q → Before p q → k < l
places_ascend paths a k l p q e f h = by_order (compared k l) where
  by_order : (k < l) ⊎ ((k ≡ l) ⊎ (l < k)) → k < l
  by_order (inl o) = o
  by_order (inr (inl o)) =
      absurd (never q (subst (λ x. Before x q) (same_Some p q (sym e ∙ (ap (slice_get paths) o ∙ f))) h))
  by_order (inr (inr o)) = absurd (never p (through p q p h (a.in_order l k q p o f e)))

there : {X : Type 0} (xs : List X) (k : ℕ) → k < length xs → (x : X) × (slice_get xs k ≡ Some x)
there [] k h = absurd (omega (arith, h))
there (x ∷ xs) zero h = (x, refl)
there (x ∷ xs) (suc k) h = there xs k (omega (arith, h))

-- an ascending list of members of another one isn't longer
module _ (xs ys : List (List ℕ)) (a : Ascends xs) (b : Ascends ys)
    (members : (k : ℕ) (p : List ℕ) → slice_get xs k ≡ Some p → (l : ℕ) × (slice_get ys l ≡ Some p)) where
  not_below : (k : ℕ) (p : List ℕ) (e : slice_get xs k ≡ Some p) → k ≤ (members k p e).0
  not_below zero p e = omega arith
  not_below (suc k) p e =
      let within = slice_get_within xs (suc k) p e in
      let q = there xs k (omega (arith, within)) in
      let before = not_below k q.0 q.1 in
      let up = places_ascend ys b (members k q.0 q.1).0 (members (suc k) p e).0 q.0 p (members k q.0 q.1).1 (members (suc k) p e).1
      (a.in_order k (suc k) q.0 p (omega arith) q.1 e) in
      omega (arith, before, up)

  pub not_longer : length xs ≤ length ys
  not_longer = by_length (length xs) refl where
    by_length : (n : ℕ) → length xs ≡ n → length xs ≤ length ys
    by_length zero e = omega (arith, e)
    by_length (suc n) e =
        let last = there xs n (omega (arith, e)) in
        let low = not_below n last.0 last.1 in
        let high = slice_get_within ys (members n last.0 last.1).0 last.0 (members n last.0 last.1).1 in
        omega (arith, e, low, high)

-- One more at the end

pub get_pushed : {X : Type 0} (xs : List X) (x : X) (k : ℕ) (p : X) → slice_get (xs ++ x ∷ []) k ≡ Some p →
    (slice_get xs k ≡ Some p) ⊎ ((k ≡ length xs) × (p ≡ x))
get_pushed [] x zero p e = inr (refl, sym (same_Some x p e))
get_pushed [] x (suc k) p e = absurd (none-some p e)
get_pushed (y ∷ ys) x zero p e = inl e
get_pushed (y ∷ ys) x (suc k) p e = up (get_pushed ys x k p e) where
  up : (slice_get ys k ≡ Some p) ⊎ ((k ≡ length ys) × (p ≡ x)) → (slice_get (y ∷ ys) (suc k) ≡ Some p)
      ⊎ ((suc k ≡ length (y ∷ ys)) × (p ≡ x))
  up (inl h) = inl h
  up (inr h) = inr (ap suc h.0, h.1)

pub last_pushed : {X : Type 0} (xs : List X) (x : X) → slice_get (xs ++ x ∷ []) (length xs) ≡ Some x
last_pushed [] x = refl
last_pushed (y ∷ ys) x = last_pushed ys x

pub old_pushed : {X : Type 0} (xs : List X) (x : X) (k : ℕ) (p : X) → slice_get xs k ≡ Some p → slice_get (xs ++ x ∷ []) k ≡ Some p
old_pushed [] x k p e = absurd (none-some p e)
old_pushed (y ∷ ys) x zero p e = e
old_pushed (y ∷ ys) x (suc k) p e = old_pushed ys x k p e

pub push_ascends : (xs : List (List ℕ)) (x : List ℕ) → Ascends xs → ((k : ℕ) (p : List ℕ) → slice_get xs k ≡ Some p → Before p x) →
    Ascends (xs ++ x ∷ [])
push_ascends xs x a below = record { in_order = λ k l p q o e f. by_kind k l p q o (get_pushed xs x k p e) (get_pushed xs x l q f) } where
  by_kind : (k l : ℕ) (p q : List ℕ) → k < l → (slice_get xs k ≡ Some p) ⊎ ((k ≡ length xs) × (p ≡ x)) →
      (slice_get xs l ≡ Some q) ⊎ ((l ≡ length xs) × (q ≡ x)) → Before p q
  by_kind k l p q o (inl e) (inl f) = a.in_order k l p q o e f
  by_kind k l p q o (inl e) (inr f) = subst (Before p) (sym f.1) (below k p e)
  by_kind k l p q o (inr e) (inl f) = absurd (let within = slice_get_within xs l q f in let z = e.0 in omega (arith, within, z, o))
  by_kind k l p q o (inr e) (inr f) = absurd (let y = e.0 in let z = f.0 in omega (arith, y, z, o))

pub push_those : (F G : List ℕ → Type 0) (xs : List (List ℕ)) (x : List ℕ) → AreThose F xs → G x → ((p : List ℕ) → F p → G p × Before p x) →
    ((p : List ℕ) → G p → F p ⊎ (p ≡ x)) → AreThose G (xs ++ x ∷ [])
push_those F G xs x h own up down = record {
  each = λ k p e. each (get_pushed xs x k p e);
  all = λ p g. all p (down p g);
  in_order = (push_ascends xs x (record { in_order = h.in_order }) (λ k p e. (up p (h.each k p e)).1)).in_order;
} where
  each : {k : ℕ} {p : List ℕ} → (slice_get xs k ≡ Some p) ⊎ ((k ≡ length xs) × (p ≡ x)) → G p
  each (inl e) = (up _ (h.each _ _ e)).0
  each (inr e) = subst G (sym e.1) own

  all : (p : List ℕ) → F p ⊎ (p ≡ x) → (k : ℕ) × (slice_get (xs ++ x ∷ []) k ≡ Some p)
  all p (inl f) = let k = h.all p f in (k.0, old_pushed xs x k.0 p k.1)
  all p (inr e) = (length xs, last_pushed xs x ∙ ap Some (sym e))

-- the same list for the same paths
pub those_same : (F G : List ℕ → Type 0) (xs : List (List ℕ)) → AreThose F xs → ((p : List ℕ) → F p → G p) → ((p : List ℕ) → G p → F p) →
    AreThose G xs
those_same F G xs h to from = record {
  each = λ k p e. to p (h.each k p e);
  all = λ p g. h.all p (from p g);
  in_order = h.in_order;
}

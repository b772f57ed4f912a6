-- What is among the elements of a list.
use Rattle.std.proofs.Common.{◌≡◌, ◌⊎◌, inl, inr, ℕ, suc, zero, ◌<◌, Bool, true, false, List, [], ◌∷◌, ◌++◌, length, map, get_or, Some, None, cond, arith, refl, sym, ap, subst, ◌∙◌}
use Rattle.std.specs.Prelude.{Contains, filter, flat_map, find, ◌||◌, ◌&&◌}
use Rattle.std.specs.List.{list_any, list_all}
use Rattle.linear_formula.proofs.Values.{chosen_of_two}

abbrev pub Among : {X : Type 0} → X → List X → Type 0
Among t [] = ⊥
Among t (s ∷ ss) = (s ≡ t) ⊎ Among t ss

pub among-append_left : {X : Type 0} (xs ys : List X) (t : X) → Among t xs → Among t (xs ++ ys)
among-append_left [] ys t h = absurd h
among-append_left (x ∷ xs) ys t (inl e) = inl e
among-append_left (x ∷ xs) ys t (inr h) = inr (among-append_left xs ys t h)

pub among-append_right : {X : Type 0} (xs ys : List X) (t : X) → Among t ys → Among t (xs ++ ys)
among-append_right [] ys t h = h
among-append_right (x ∷ xs) ys t h = inr (among-append_right xs ys t h)

pub among-append_cases : {X : Type 0} (xs ys : List X) (t : X) → Among t (xs ++ ys) → Among t xs ⊎ Among t ys
among-append_cases [] ys t h = inr h
among-append_cases (x ∷ xs) ys t (inl e) = inl (inl e)
among-append_cases (x ∷ xs) ys t (inr h) = pass (among-append_cases xs ys t h) where
  pass : Among t xs ⊎ Among t ys → Among t (x ∷ xs) ⊎ Among t ys
  pass (inl k) = inl (inr k)
  pass (inr k) = inr k

-- Filters

pub among-filter : {X : Type 0} (p : X → Bool) (xs : List X) (t : X) → Among t xs → p t ≡ true → Among t (filter p xs)
among-filter p [] t h k = absurd h
among-filter p (x ∷ xs) t (inl e) k =
    chosen_of_two (λ r. Among t r) (p x) (x ∷ filter p xs) (filter p xs) (λ _. inl e) (λ n. absurd (apart (sym n ∙ ap p e ∙ k))) where
      apart : false ≡ true → ⊥
      apart h = cc
among-filter p (x ∷ xs) t (inr h) k =
    chosen_of_two (λ r. Among t r) (p x) (x ∷ filter p xs) (filter p xs) (λ _. inr (among-filter p xs t h k)) (λ _. among-filter p xs t h k)

pub filter-among : {X : Type 0} (p : X → Bool) (xs : List X) (t : X) → Among t (filter p xs) → Among t xs × (p t ≡ true)
filter-among p [] t h = absurd h
filter-among p (x ∷ xs) t h = by_test (p x) refl (filter-among p xs t) h where
  by_test : (b : Bool) → p x ≡ b → (Among t (filter p xs) → Among t xs × (p t ≡ true)) → Among t (cond b (x ∷ filter p xs) (filter p xs)) →
      Among t (x ∷ xs) × (p t ≡ true)
  by_test true e f (inl s) = (inl s, ap p (sym s) ∙ e)
  by_test true e f (inr k) = (inr (f k).0, (f k).1)
  by_test false e f k = (inr (f k).0, (f k).1)

-- Maps

pub among-map : {X Y : Type 0} (f : X → Y) (xs : List X) (t : X) → Among t xs → Among (f t) (map f xs)
among-map f [] t h = absurd h
among-map f (x ∷ xs) t (inl e) = inl (ap f e)
among-map f (x ∷ xs) t (inr h) = inr (among-map f xs t h)

pub map-among : {X Y : Type 0} (f : X → Y) (xs : List X) (s : Y) → Among s (map f xs) → (t : X) × Among t xs × (f t ≡ s)
map-among f [] s h = absurd h
map-among f (x ∷ xs) s (inl e) = (x, inl refl, e)
map-among f (x ∷ xs) s (inr h) =
    let r = map-among f xs s h in
    (r.0, inr r.1, r.2)

pub among-flat_map : {X Y : Type 0} (f : X → List Y) (xs : List X) (t : X) (s : Y) → Among t xs → Among s (f t) → Among s (flat_map f xs)
among-flat_map f [] t s h k = absurd h
among-flat_map f (x ∷ xs) t s (inl e) k =
    among-append_left (f x) (flat_map f xs) s (subst (λ y. Among s (f y)) (sym e) k)
among-flat_map f (x ∷ xs) t s (inr h) k =
    among-append_right (f x) (flat_map f xs) s (among-flat_map f xs t s h k)

pub flat_map-among : {X Y : Type 0} (f : X → List Y) (xs : List X) (s : Y) → Among s (flat_map f xs) → (t : X) × Among t xs × Among s (f t)
flat_map-among f [] s h = absurd h
flat_map-among f (x ∷ xs) s h =
    by_side (flat_map-among f xs s) (among-append_cases (f x) (flat_map f xs) s h) where
      by_side : (Among s (flat_map f xs) → (t : _) × Among t xs × Among s (f t)) → Among s (f x) ⊎ Among s (flat_map f xs) →
          (t : _) × Among t (x ∷ xs) × Among s (f t)
      by_side r (inl k) = (x, inl refl, k)
      by_side r (inr k) = ((r k).0, inr (r k).1, (r k).2)

-- Tests

pub any-among : {X : Type 0} (p : X → Bool) (xs : List X) → list_any p xs ≡ true → (t : X) × Among t xs × (p t ≡ true)
any-among p [] h = absurd (cc)
any-among p (x ∷ xs) h = by_test (p x) refl (any-among p xs) h where
  by_test : (b : Bool) → p x ≡ b → (list_any p xs ≡ true → (t : _) × Among t xs × (p t ≡ true)) → (b || list_any p xs) ≡ true →
      (t : _) × Among t (x ∷ xs) × (p t ≡ true)
  by_test true e r k = (x, inl refl, e)
  by_test false e r k = ((r k).0, inr (r k).1, (r k).2)

pub all-among : {X : Type 0} (p : X → Bool) (xs : List X) (t : X) → list_all p xs ≡ true → Among t xs → p t ≡ true
all-among p [] t h k = absurd k
all-among p (x ∷ xs) t h (inl e) = ap p (sym e) ∙ front (p x) (list_all p xs) h where
  front : (b c : Bool) → (b && c) ≡ true → b ≡ true
  front true c h = refl
  front false c h = h
all-among p (x ∷ xs) t h (inr k) = all-among p xs t (back (p x) (list_all p xs) h) k where
  back : (b c : Bool) → (b && c) ≡ true → c ≡ true
  back true c h = h
  back false c h = absurd (cc)

pub none-among : {X : Type 0} (p : X → Bool) (xs : List X) (t : X) → find p xs ≡ None → Among t xs → p t ≡ false
none-among p [] t h k = absurd k
none-among p (x ∷ xs) t h k = by_test (p x) refl (none-among p xs t) h k where
  by_test : (b : Bool) → p x ≡ b → (find p xs ≡ None → Among t xs → p t ≡ false) → cond b (Some x) (find p xs) ≡ None → Among t (x ∷ xs) →
      p t ≡ false
  by_test true e r h k = absurd (cc)
  by_test false e r h (inl s) = ap p (sym s) ∙ e
  by_test false e r h (inr k) = r h k

-- Std's word

pub contains-among : {X : Type 0} (xs : List X) (t : X) → Contains xs t → Among t xs
contains-among xs t h = at xs h.0 h.1 h.2 where
  at : (ys : List _) (k : ℕ) → k < length ys → get_or ys k t ≡ t → Among t ys
  at [] k l e = absurd (omega (arith, l))
  at (y ∷ ys) zero l e = inl e
  at (y ∷ ys) (suc k) l e = inr (at ys k (omega (arith, l)) e)

pub among-contains : {X : Type 0} (xs : List X) (t : X) → Among t xs → Contains xs t
among-contains [] t h = absurd h
among-contains (x ∷ xs) t (inl e) = (0, omega arith, e)
among-contains (x ∷ xs) t (inr h) =
    let r = among-contains xs t h in
    (suc r.0, omega (arith, r.1), r.2)

-- The steps of the walk: how far the feasible paths are counted. The bound is the running path with the number of its next edge at the end.
use Rattle.std.proofs.Common.{◌≡◌, ◌⊎◌, inl, inr, ℕ, suc, ◌<◌, ◌≤◌, List, [], ◌∷◌, ◌++◌, arith, refl, sym, subst, ap, ◌∙◌, append-nil}
use Rattle.path_sweep.specs.Order.{Before, AreThose}
use Rattle.path_sweep.proofs.Ordering.{compared, push_those, those_same}

-- Which paths lie between two bounds

pub next_up : (p : List ℕ) (i : ℕ) (q : List ℕ) → Before q (p ++ i ∷ []) → Before q (p ++ suc i ∷ [])
next_up [] i [] h = tt
next_up [] i (x ∷ q) (inl h) = inl (omega (arith, h))
next_up [] i (x ∷ q) (inr h) = absurd h.1
next_up (j ∷ p) i [] h = tt
next_up (j ∷ p) i (x ∷ q) (inl h) = inl h
next_up (j ∷ p) i (x ∷ q) (inr h) = inr (h.0, next_up p i q h.1)

-- it begins with this path
pub record Begins (p q : List ℕ) : Type 0 where
  pub more : List ℕ
  pub is : q ≡ p ++ more

begins_longer : (j x : ℕ) (p q : List ℕ) → x ≡ j → Begins p q → Begins (j ∷ p) (x ∷ q)
begins_longer j x p q e b = record { more = b.more; is = ap (λ r. x ∷ r) b.is ∙ ap (λ n. n ∷ (p ++ b.more)) e }

pub next_down : (p : List ℕ) (i : ℕ) (q : List ℕ) → Before q (p ++ suc i ∷ []) → Before q (p ++ i ∷ []) ⊎ Begins (p ++ i ∷ []) q
next_down [] i [] h = inl tt
next_down [] i (x ∷ q) (inl h) = by_order (compared x i) where
  by_order : (x < i) ⊎ ((x ≡ i) ⊎ (i < x)) → Before (x ∷ q) (i ∷ []) ⊎ Begins (i ∷ []) (x ∷ q)
  by_order (inl o) = inl (inl o)
  by_order (inr (inl o)) = inr (record { more = q; is = ap (λ n. n ∷ q) o })
  by_order (inr (inr o)) = absurd (omega (arith, h, o))
next_down [] i (x ∷ q) (inr h) = absurd h.1
next_down (j ∷ p) i [] h = inl tt
next_down (j ∷ p) i (x ∷ q) (inl h) = inl (inl h)
next_down (j ∷ p) i (x ∷ q) (inr h) = on (next_down p i q h.1) where
  on : Before q (p ++ i ∷ []) ⊎ Begins (p ++ i ∷ []) q → Before (x ∷ q) ((j ∷ p) ++ i ∷ []) ⊎ Begins ((j ∷ p) ++ i ∷ []) (x ∷ q)
  on (inl k) = inl (inr (h.0, k))
  on (inr b) = inr (begins_longer j x (p ++ i ∷ []) q h.0 b)

-- a path and its front with no more edge
pub deeper_up : (p q : List ℕ) → Before q p → Before q (p ++ 0 ∷ [])
deeper_up [] q h = absurd h
deeper_up (j ∷ p) [] h = tt
deeper_up (j ∷ p) (x ∷ q) (inl h) = inl h
deeper_up (j ∷ p) (x ∷ q) (inr h) = inr (h.0, deeper_up p q h.1)

pub own_before : (p : List ℕ) (i : ℕ) → Before p (p ++ i ∷ [])
own_before [] i = tt
own_before (j ∷ p) i = inr (refl, own_before p i)

pub deeper_down : (p q : List ℕ) → Before q (p ++ 0 ∷ []) → Before q p ⊎ (q ≡ p)
deeper_down [] [] h = inr refl
deeper_down [] (x ∷ q) (inl h) = absurd (omega (arith, h))
deeper_down [] (x ∷ q) (inr h) = absurd h.1
deeper_down (j ∷ p) [] h = inl tt
deeper_down (j ∷ p) (x ∷ q) (inl h) = inl (inl h)
deeper_down (j ∷ p) (x ∷ q) (inr h) = on (deeper_down p q h.1) where
  on : Before q p ⊎ (q ≡ p) → Before (x ∷ q) (j ∷ p) ⊎ (x ∷ q ≡ j ∷ p)
  on (inl k) = inl (inr (h.0, k))
  on (inr e) = inr (ap (λ n. n ∷ q) h.0 ∙ ap (λ r. j ∷ r) e)

-- after all edges of a path
pub back_up : (p : List ℕ) (j i : ℕ) (q : List ℕ) → Before q ((p ++ j ∷ []) ++ i ∷ []) → Before q (p ++ suc j ∷ [])
back_up [] j i [] h = tt
back_up [] j i (x ∷ q) (inl h) = inl (omega (arith, h))
back_up [] j i (x ∷ q) (inr h) = inl (let e = h.0 in omega (arith, e))
back_up (y ∷ p) j i [] h = tt
back_up (y ∷ p) j i (x ∷ q) (inl h) = inl h
back_up (y ∷ p) j i (x ∷ q) (inr h) = inr (h.0, back_up p j i q h.1)

-- it goes on after this path with an edge from i on
pub record GoesOn (p : List ℕ) (i : ℕ) (q : List ℕ) : Type 0 where
  pub edge : ℕ
  pub from : i ≤ edge
  pub begins : Begins (p ++ edge ∷ []) q

longer_on : (y x : ℕ) (p : List ℕ) (i : ℕ) (q : List ℕ) → x ≡ y → GoesOn p i q → GoesOn (y ∷ p) i (x ∷ q)
longer_on y x p i q e g = record { edge = g.edge; from = g.from; begins = begins_longer y x (p ++ g.edge ∷ []) q e g.begins }

pub back_down : (p : List ℕ) (j i : ℕ) (q : List ℕ) → Before q (p ++ suc j ∷ []) →
    Before q ((p ++ j ∷ []) ++ i ∷ []) ⊎ GoesOn (p ++ j ∷ []) i q
back_down [] j i [] h = inl tt
back_down [] j i (x ∷ q) (inl h) = by_order (compared x j) where
  by_next : x ≡ j → (r : List ℕ) → Before (x ∷ r) ((j ∷ []) ++ i ∷ []) ⊎ GoesOn (j ∷ []) i (x ∷ r)
  by_next e [] = inl (inr (e, tt))
  by_next e (y ∷ r) = on (compared y i) where
    on : (y < i) ⊎ ((y ≡ i) ⊎ (i < y)) → Before (x ∷ y ∷ r) ((j ∷ []) ++ i ∷ []) ⊎ GoesOn (j ∷ []) i (x ∷ y ∷ r)
    on (inl o) = inl (inr (e, inl o))
    on (inr (inl o)) = inr (record { edge = y; from = omega (arith, o); begins = record { more = r; is = ap (λ n. n ∷ y ∷ r) e } })
    on (inr (inr o)) = inr (record { edge = y; from = omega (arith, o); begins = record { more = r; is = ap (λ n. n ∷ y ∷ r) e } })

  by_order : (x < j) ⊎ ((x ≡ j) ⊎ (j < x)) → Before (x ∷ q) ((j ∷ []) ++ i ∷ []) ⊎ GoesOn (j ∷ []) i (x ∷ q)
  by_order (inl o) = inl (inl o)
  by_order (inr (inl o)) = by_next o q
  by_order (inr (inr o)) = absurd (omega (arith, h, o))
back_down [] j i (x ∷ q) (inr h) = absurd h.1
back_down (y ∷ p) j i [] h = inl tt
back_down (y ∷ p) j i (x ∷ q) (inl h) = inl (inl h)
back_down (y ∷ p) j i (x ∷ q) (inr h) = on (back_down p j i q h.1) where
  on : Before q ((p ++ j ∷ []) ++ i ∷ []) ⊎ GoesOn (p ++ j ∷ []) i q →
      Before (x ∷ q) (((y ∷ p) ++ j ∷ []) ++ i ∷ []) ⊎ GoesOn ((y ∷ p) ++ j ∷ []) i (x ∷ q)
  on (inl k) = inl (inr (h.0, k))
  on (inr g) = inr (longer_on y x (p ++ j ∷ []) i q h.0 g)

-- The steps, for any paths of which each front is one

module _ (F : List ℕ → Type 0) (fronts : (p : List ℕ) (i : ℕ) (q : List ℕ) → Begins (p ++ i ∷ []) q → F q → F (p ++ i ∷ [])) where
  abbrev pub Upto : List ℕ → List ℕ → Type 0
  Upto bound p = F p × Before p bound

  -- the edge doesn't follow, or not feasibly
  pub passes : (p : List ℕ) (i : ℕ) (paths : List (List ℕ)) → (F (p ++ i ∷ []) → ⊥) → AreThose (Upto (p ++ i ∷ [])) paths →
      AreThose (Upto (p ++ suc i ∷ [])) paths
  passes p i paths other h = those_same (Upto (p ++ i ∷ [])) (Upto (p ++ suc i ∷ [])) paths h (λ q k. (k.0, next_up p i q k.1))
      (λ q k. on q k.0 (next_down p i q k.1)) where
        on : (q : List ℕ) → F q → Before q (p ++ i ∷ []) ⊎ Begins (p ++ i ∷ []) q → Upto (p ++ i ∷ []) q
        on q f (inl k) = (f, k)
        on q f (inr b) = absurd (other (fronts p i q b f))

  -- one more is counted
  pub counts : (p : List ℕ) (i : ℕ) (paths : List (List ℕ)) → F (p ++ i ∷ []) → AreThose (Upto (p ++ i ∷ [])) paths →
      AreThose (Upto ((p ++ i ∷ []) ++ 0 ∷ [])) (paths ++ (p ++ i ∷ []) ∷ [])
  counts p i paths own h = push_those (Upto (p ++ i ∷ [])) (Upto ((p ++ i ∷ []) ++ 0 ∷ [])) paths (p ++ i ∷ []) h
      (own, own_before (p ++ i ∷ []) 0) (λ q k. ((k.0, deeper_up (p ++ i ∷ []) q k.1), k.1))
      (λ q k. on q k.0 (deeper_down (p ++ i ∷ []) q k.1))
    where
      on : (q : List ℕ) → F q → Before q (p ++ i ∷ []) ⊎ (q ≡ p ++ i ∷ []) → Upto (p ++ i ∷ []) q ⊎ (q ≡ p ++ i ∷ [])
      on q f (inl k) = inl (f, k)
      on q f (inr e) = inr e

  -- no edge is left
  pub goes_back : (p : List ℕ) (j i : ℕ) (paths : List (List ℕ)) → ((k : ℕ) → i ≤ k → F ((p ++ j ∷ []) ++ k ∷ []) → ⊥) →
      AreThose (Upto ((p ++ j ∷ []) ++ i ∷ [])) paths → AreThose (Upto (p ++ suc j ∷ [])) paths
  goes_back p j i paths none h = those_same (Upto ((p ++ j ∷ []) ++ i ∷ [])) (Upto (p ++ suc j ∷ [])) paths h
      (λ q k. (k.0, back_up p j i q k.1)) (λ q k. on q k.0 (back_down p j i q k.1)) where
        on : (q : List ℕ) → F q → Before q ((p ++ j ∷ []) ++ i ∷ []) ⊎ GoesOn (p ++ j ∷ []) i q → Upto ((p ++ j ∷ []) ++ i ∷ []) q
        on q f (inl k) = (f, k)
        on q f (inr g) = absurd (none g.edge g.from (fronts (p ++ j ∷ []) g.edge q g.begins f))

  -- the tree is walked: each path begins with edge 0
  pub is_whole : (paths : List (List ℕ)) → ((p : List ℕ) → F p → Begins (0 ∷ []) p) → AreThose (Upto (1 ∷ [])) paths → AreThose F paths
  is_whole paths first h = those_same (Upto (1 ∷ [])) F paths h (λ q k. k.0) (λ q f. (f, on q (first q f))) where
    on : (q : List ℕ) → Begins (0 ∷ []) q → Before q (1 ∷ [])
    on q b = subst (λ r. Before r (1 ∷ [])) (sym b.is) (inl (omega arith))

-- Questions

empty_behind : (xs more : List ℕ) → xs ++ more ≡ [] → more ≡ []
empty_behind [] more e = e
empty_behind (x ∷ xs) more e = absurd (cc)

-- a list with one more after another one begins with it or is it
snoc_front : (xs more ys : List ℕ) (y : ℕ) → xs ++ more ≡ ys ++ y ∷ [] → (more ≡ []) ⊎ Begins xs ys
snoc_front [] [] ys y e = inl refl
snoc_front [] (z ∷ more) ys y e = inr (record { more = ys; is = refl })
snoc_front (x ∷ xs) more [] y e = inl (empty_behind xs more (let t : xs ++ more ≡ [] = cc in t))
snoc_front (x ∷ xs) more (w ∷ ys) y e =
    let heads : x ≡ w = cc in
    let tails : xs ++ more ≡ ys ++ y ∷ [] = cc in
    on heads (snoc_front xs more ys y tails) where
      on : x ≡ w → (more ≡ []) ⊎ Begins xs ys → (more ≡ []) ⊎ Begins (x ∷ xs) (w ∷ ys)
      on h (inl e) = inl e
      on h (inr c) = inr (begins_longer x w xs ys (sym h) c)

-- Each of L is a path of F with one more edge; none of L stands before the bound.
module _ (F : List ℕ → Type 0) (fronts : (p : List ℕ) (i : ℕ) (q : List ℕ) → Begins (p ++ i ∷ []) q → F q → F (p ++ i ∷ []))
    (L : List ℕ → Type 0) (asked : (q : List ℕ) → L q → (p : List ℕ) × (i : ℕ) × (q ≡ p ++ i ∷ []) × F p) where
  abbrev pub Clear : List ℕ → Type 0
  Clear bound = (q : List ℕ) → Before q bound → L q → ⊥

  -- what begins with a path that isn't feasible is it
  itself : (p : List ℕ) (i : ℕ) (q : List ℕ) → (F (p ++ i ∷ []) → ⊥) → Begins (p ++ i ∷ []) q → L q → L (p ++ i ∷ [])
  itself p i q other b l =
      let a = asked q l in
      by_kind a (snoc_front (p ++ i ∷ []) b.more a.0 a.1 (sym b.is ∙ a.2)) where
        by_kind : (a : (p : List ℕ) × (i : ℕ) × (q ≡ p ++ i ∷ []) × F p) → (b.more ≡ []) ⊎ Begins (p ++ i ∷ []) a.0 → L (p ++ i ∷ [])
        by_kind a (inl e) = subst L (b.is ∙ (ap (λ r. (p ++ i ∷ []) ++ r) e ∙ append-nil (p ++ i ∷ []))) l
        by_kind a (inr c) = absurd (other (fronts p i a.0 c a.3))

  pub clear_passes : (p : List ℕ) (i : ℕ) → (F (p ++ i ∷ []) → ⊥) → (L (p ++ i ∷ []) → ⊥) → Clear (p ++ i ∷ []) → Clear (p ++ suc i ∷ [])
  clear_passes p i other clear h q o l = on (next_down p i q o) where
    on : Before q (p ++ i ∷ []) ⊎ Begins (p ++ i ∷ []) q → ⊥
    on (inl k) = h q k l
    on (inr b) = clear (itself p i q other b l)

  pub clear_counts : (p : List ℕ) (i : ℕ) → (L (p ++ i ∷ []) → ⊥) → Clear (p ++ i ∷ []) → Clear ((p ++ i ∷ []) ++ 0 ∷ [])
  clear_counts p i clear h q o l = on (deeper_down (p ++ i ∷ []) q o) where
    on : Before q (p ++ i ∷ []) ⊎ (q ≡ p ++ i ∷ []) → ⊥
    on (inl k) = h q k l
    on (inr e) = clear (subst L e l)

  pub clear_back : (p : List ℕ) (j i : ℕ) → ((k : ℕ) → i ≤ k → (F ((p ++ j ∷ []) ++ k ∷ []) → ⊥) × (L ((p ++ j ∷ []) ++ k ∷ []) → ⊥)) →
      Clear ((p ++ j ∷ []) ++ i ∷ []) → Clear (p ++ suc j ∷ [])
  clear_back p j i other h q o l = on (back_down p j i q o) where
    on : Before q ((p ++ j ∷ []) ++ i ∷ []) ⊎ GoesOn (p ++ j ∷ []) i q → ⊥
    on (inl k) = h q k l
    on (inr g) = let n = other g.edge g.from in n.1 (itself (p ++ j ∷ []) g.edge q n.0 g.begins l)

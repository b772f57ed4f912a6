-- The walk along first edges.
use Rattle.std.proofs.Common.{◌≡◌, ◌≢◌, ℕ, zero, suc, ◌≤◌, ◌<◌, inl, inr, Bool, true, false, if◌then◌else◌, List, [], ◌∷◌, ◌++◌, length, refl, sym, ap, ◌∙◌, subst, arith, slice_get, slice_index, slice_index_or, Some, None, Option}
use Rattle.std.proofs.lemmas.List.{get_or_default}
use Rattle.abstract_path.specs.Routes.{IsRoute, last_crossing, later, leaves_marked}
use Rattle.abstract_path.specs.Routes.{IsOpen}
use Rattle.abstract_path.specs.steps.Layers.{IsMeasured}
use Rattle.abstract_path.proofs.Settling.{inside, end_is}

-- a path shows that its beginning was met, and bounds how far it lies
pub far_enough : (edges : List (ℕ × ℕ)) (shut : List Bool) (regions target : ℕ) (far way : List ℕ) → IsMeasured edges shut regions target
    far way → (from : ℕ) (path : List ℕ) → IsRoute edges shut from path target → (slice_index far from ≢ 0)
    × (slice_index far from ≤ suc (length path))
far_enough edges shut regions target far way m from [] r =
    let e : slice_index far from ≡ 1 = ap (slice_index far) (sym r) ∙ m.at_target in (λ z. omega (arith, e, z), omega (arith, e))
far_enough edges shut regions target far way m from (n ∷ path) r =
    let h = far_enough edges shut regions target far way m r.0 path r.2 in
    let s = m.settled r.0 h.0 n from r.1 in
    (s.0, omega (arith, s.1, h.1))

pub route_more : (edges : List (ℕ × ℕ)) (shut : List Bool) (from here next n : ℕ) (path : List ℕ) → IsRoute edges shut from path here →
    IsOpen edges shut n here next → IsRoute edges shut from (path ++ n ∷ []) next
route_more edges shut from here next n [] r o = (next, (subst (λ a. slice_get edges n ≡ Some (a, next)) r o.0, o.1), refl)
route_more edges shut from here next n (k ∷ path) r o = (r.0, r.1, route_more edges shut r.0 here next n path r.2 o)

pub crossing_more : (edges : List (ℕ × ℕ)) (marked : List Bool) (n : ℕ) (path : List ℕ) (b : Bool) →
    leaves_marked marked (slice_get edges n)
    ≡ b → (before : Option ℕ) → last_crossing edges marked path ≡ before → last_crossing edges marked (path ++ n ∷ [])
    ≡ (if b then Some (length path) else before)
crossing_more edges marked n [] b e before h = rw e (by b before h) where
  by : (b : Bool) (before : Option ℕ) → None ≡ before → later None b ≡ (if b then Some 0 else before)
  by true before h = refl
  by false before h = h
crossing_more edges marked n (k ∷ path) b e before h =
    ap (λ o. later o (leaves_marked marked (slice_get edges k))) (crossing_more edges marked n path b e (last_crossing edges marked path)
    refl)
    ∙ by b (last_crossing edges marked path) h
  where
    by : (c : Bool) (o : Option ℕ) → later o (leaves_marked marked (slice_get edges k)) ≡ before →
        later (if c then Some (length path) else o)
        (leaves_marked marked (slice_get edges k)) ≡ (if c then Some (suc (length path)) else before)
    by true o p = refl
    by false o p = p

-- the first edge from a region that was met
pub first_edge : (edges : List (ℕ × ℕ)) (shut : List Bool) (regions target : ℕ) (far way : List ℕ) (here number : ℕ) →
    IsMeasured edges shut regions target far way → slice_index far here ≢ 0 → here ≢ target → number ≡ slice_index_or way here number →
    IsOpen edges shut number here (slice_index_or edges number (0, 0)).1 × (slice_index far (slice_index_or edges number (0, 0)).1 ≢ 0)
    × (slice_index far here ≡ suc (slice_index far (slice_index_or edges number (0, 0)).1))
first_edge edges shut regions target far way here number m seen differs is = elim (m.leads here seen) [
  | inl e ↦ absurd (differs e)
  | inr w ↦
      let same = end_is edges number here w.0 (subst (λ n. slice_get edges n ≡ Some (here, w.0)) (sym number_is) w.1.0) in (
        subst (λ x. IsOpen edges shut number here x) (sym same) (subst (λ n. IsOpen edges shut n here w.0) (sym number_is) w.1),
        λ z. w.2 (ap (slice_index far) (sym same) ∙ z),
        w.3 ∙ ap (λ x. suc (slice_index far x)) (sym same),
      )
]
  where
    number_is : number ≡ slice_index way here
    number_is = is ∙ get_or_default way here number 0 (subst (λ n. here < n) (m.fars ∙ sym m.ways) (inside far here seen))

-- from each region that was met a path leads to the target
pub route_from : (edges : List (ℕ × ℕ)) (shut : List Bool) (regions target : ℕ) (far way : List ℕ) → IsMeasured edges shut regions target
    far way → (n from : ℕ) → slice_index far from ≡ n → n ≢ 0 → (path : List ℕ) × IsRoute edges shut from path target
route_from edges shut regions target far way m zero from e h = absurd (h refl)
route_from edges shut regions target far way m (suc n) from e h = elim (m.leads from (λ z. h (sym e ∙ z))) [
  | inl s ↦ ([], sym s)
  | inr w ↦
      let below : slice_index far w.0 ≡ n = omega (arith, e, w.3) in
      let rest = route_from edges shut regions target far way m n w.0 below (λ z. w.2 (below ∙ z)) in
      (slice_index way from ∷ rest.0, (w.0, w.1, rest.1))
]
